use Rattle.std.proofs.Common.{sym}
use Rattle.numbering.specs.Used.{used}
use Rattle.numbering.proofs.Found.{found_taken}
use Rattle.numbering.proofs.table.Table.find_in.Goals as goal

-- what is found among the linked rows is found
pub returns-in-Some : goal.returns-in-Some
returns-in-Some g c = sym (found_taken g.R.Kind.equals c.args.row.now 512 (used c.args.self.now) c.in-Some.i (sym c.in-Some.ensures))
