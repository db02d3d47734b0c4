use Rattle.validator.proofs.Stops.{leaves}
use Rattle.validator.proofs.walk.Walk.leave.Goals as goal

pub returns-clause-leaves : goal.returns-clause-leaves
returns-clause-leaves g c = leaves g.D.Domain.meaning c.args.tested c.args.label c.args.piece.now _ c.get.ensures c.acts.ensures.acts
