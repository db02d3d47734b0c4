-- The link is what the search down the chain has come to.
use Rattle.std.proofs.Common.{take}
use Rattle.numbering.specs.Used.{used}
use Rattle.numbering.proofs.Searches.{Searched}
use Rattle.numbering.proofs.table.Table.find_linked.Given as goal

abbrev pub invariant-loop-link : goal.invariant-loop-link
invariant-loop-link g l = Searched g.R.Kind.equals g.R.Kind.hash_of (take 512 (used l.self)) l.row l.link

abbrev pub decreases-loop-link : goal.decreases-loop-link
decreases-loop-link g l = l.link
