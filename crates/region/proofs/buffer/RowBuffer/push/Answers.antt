use Rattle.std.proofs.Common.{arith}
use Rattle.region.specs.Rows.{blank}
use Rattle.region.proofs.Filling.{laid_more}
use Rattle.region.proofs.buffer.RowBuffer.push.Goals as goal

pub invariant_of-self : goal.invariant_of-self
invariant_of-self g c =
    let b = c.args.self.now in
    record { few = omega (arith, c.if-self.false); padded = laid_more g.row.N b.len blank b.rows b.few b.padded c.args.row (omega (arith, c.if-self.false)) }
