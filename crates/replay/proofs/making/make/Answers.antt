use Rattle.std.proofs.Common.{arith}
use Rattle.std.proofs.lemmas.Grind.{common_steps}
use Rattle.replay.proofs.making.make.Goals as goal

pub returns-in-Schedule-clause-answer : goal.returns-in-Schedule-clause-answer
returns-in-Schedule-clause-answer g c = rw c.in-Schedule.is (grind (arith, common_steps))
