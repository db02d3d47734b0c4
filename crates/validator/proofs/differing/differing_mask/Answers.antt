use Rattle.std.proofs.Common.{not, ap}
use Rattle.std.proofs.lemmas.Bool.{eq-eqb, ne_eqb}
use Rattle.validator.specs.Numbers.{unlike}
use Rattle.validator.proofs.Bits.{marked, unmarked}
use Rattle.validator.proofs.differing.differing_mask.Goals as goal
use Rattle.validator.proofs.differing.differing_mask.Goals.{then-n-y, else-n-y}

pub loop-i-preserved : goal.loop-i-preserved
loop-i-preserved c =
    elim c.if-n-y.branch [
      | then-n-y w ↦ marked (unlike c.args.x.now c.args.y.now) _ _ c.loop-i.invariant _ c.loop-i-test.true (ap not (ne_eqb _ _ w.if-n-y.true)) w.mask-is
      | else-n-y w ↦ unmarked (unlike c.args.x.now c.args.y.now) _ _ c.loop-i.invariant _ (ap not (eq-eqb _ _ w.if-n-y.false)) w.mask-is
    ]
