-- Each known pair holds: what the calls answer of it is computed.
use Rattle.std.proofs.Common.{refl}
use Rattle.std.specs.List.{AllByRecursion}
use Rattle.known_pairs.specs.Checked.{Holds}
use Rattle.known_pairs.specs.Pairs.{pairs}

pub held : AllByRecursion Holds pairs
held = (refl, (refl, (refl, (refl, (refl, (refl, (refl, (refl, (refl, (refl, (refl, (refl, (refl, (refl, (refl, (refl, tt))))))))))))))))
