use Rattle.moves.proofs.Soundness.{sound}
use Rattle.moves.proofs.passed_runs_alike.Goals as goal

pub returns : goal.returns
returns g c = sound _ g.met.D.Domain.lawful
