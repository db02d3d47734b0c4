use Rattle.moves.proofs.Same.{tested}
use Rattle.moves.proofs.terms_are_tested.Goals as goal

pub returns : goal.returns
returns c = tested
