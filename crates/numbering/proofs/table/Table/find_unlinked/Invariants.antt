-- No row so far equals the row.
use Rattle.std.proofs.Common.{◌≡◌, ℕ, ◌<◌, false, length, get_or}
use Rattle.numbering.specs.Used.{used}
use Rattle.numbering.proofs.table.Table.find_unlinked.Given as goal

abbrev pub invariant-loop-i : goal.invariant-loop-i
invariant-loop-i g l = (k : ℕ) → k < l.i → k < length (used l.self) → g.R.Kind.equals (get_or (used l.self) k l.row) l.row ≡ false
