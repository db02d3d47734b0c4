use Rattle.std.proofs.Common.{◌≡◌}
use Rattle.std.proofs.lemmas.Option.{slice_get-map}
use Rattle.std.specs.List.{slice_get}
use Rattle.std.specs.Option.{option_map}
use Rattle.known_pairs.specs.Checked.{Holds}
use Rattle.known_pairs.specs.Pairs.{pair_of, pairs}
use Rattle.known_pairs.proofs.Held.{held}
use Rattle.known_pairs.proofs.Numbered.{nth_all}
use Rattle.known_pairs.proofs.known_pair.Goals as goal

pub returns : goal.returns
returns c =
    let listed : option_map pair_of c.at.result ≡ slice_get pairs c.args.number = simp (c.at.ensures, ← slice_get-map) in
    record { listed = listed; holds = rw listed (nth_all Holds pairs c.args.number held) }
