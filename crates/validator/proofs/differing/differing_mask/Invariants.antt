use Rattle.validator.specs.Numbers.{Marks, unlike}
use Rattle.validator.proofs.differing.differing_mask.Given as goal

abbrev pub invariant-loop-i : goal.invariant-loop-i
invariant-loop-i l = Marks (unlike l.x l.y) l.i l.mask
