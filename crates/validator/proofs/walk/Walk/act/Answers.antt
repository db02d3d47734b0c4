use Rattle.validator.proofs.Steps.{acted}
use Rattle.validator.proofs.walk.Walk.act.Goals as goal

pub returns-clause-acts : goal.returns-clause-acts
returns-clause-acts g c = acted g.D.Domain.meaning c.args.action _ _ c.row.ensures c.put.ensures c.intern-n.ensures.interned
