use Rattle.std.proofs.Common.{◌≤◌, drop}
use Rattle.region.proofs.ToJoins.{Toward}
use Rattle.region.proofs.entering.below.Given as goal

abbrev pub invariant-loop-i : goal.invariant-loop-i
invariant-loop-i l = (l.exits ≤ l.i) × (l.above ≤ l.j) × Toward l.j l.main l.above l.exits (drop l.i l.main)
