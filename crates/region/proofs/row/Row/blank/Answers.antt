use Rattle.std.proofs.Common.{sym, ap, ◌∙◌, lit<}
use Rattle.std.proofs.lemmas.Option.{same_Some}
use Rattle.domain.specs.Ranges.{same_number}
use Rattle.region.specs.Numbers.{Register}
use Rattle.region.specs.declared.row.Action.TheVariants.{Literal}
use Rattle.region.specs.declared.row.Row.TheVariants.{Act}
use Rattle.region.proofs.row.Row.blank.Goals as goal

pub returns : goal.returns
returns c =
    let first : Register = record { index = 0; fits = lit< tt } in
    ap (λ r. Act (Literal r 0)) (same_number c.unwrap.result first (ap (λ r. r.index) (same_Some c.unwrap.result _ (sym c.unwrap.ensures ∙ c.new.ensures))))
