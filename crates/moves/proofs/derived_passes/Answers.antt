use Rattle.moves.proofs.Completeness.{complete}
use Rattle.moves.proofs.derived_passes.Goals as goal

pub returns : goal.returns
returns g c = complete g.D.Domain.meaning
