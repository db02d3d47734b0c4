-- Equal rows get one number: the row that was found, or the one that was put behind the others.
use Rattle.std.proofs.Common.{rules, arith}
use Rattle.std.proofs.lemmas.Grind.{common_steps}
use Rattle.numbering.specs.Used.{used, capacity}
use Rattle.numbering.proofs.Numbered.{one_number}
use Rattle.numbering.proofs.table.Table.number.Goals as goal

pub returns-in-Some-clause-one : goal.returns-in-Some-clause-one
returns-in-Some-clause-one g c =
    let now = c.args.self.now in
    one_number _ g.met.R.Kind.equivalence (capacity now) (used now) c.args.row _ _ (search rules) (search rules)

pub returns-clause-one : goal.returns-clause-one
returns-clause-one g c =
    let now = c.args.self.now in
    one_number _ g.met.R.Kind.equivalence (capacity now) (used now) c.args.row _ _ (grind (arith, common_steps)) (grind (arith, common_steps))
