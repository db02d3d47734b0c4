use Rattle.numbering.proofs.Linking.{chained_none}
use Rattle.numbering.proofs.table.Table.new.Goals as goal

pub invariant_of-result-clause-chained : goal.invariant_of-result-clause-chained
invariant_of-result-clause-chained g c = chained_none c.new.result c.new.ensures.heads c.new.ensures.links
