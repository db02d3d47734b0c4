use Rattle.moves.proofs.Examples.{examples}
use Rattle.moves.proofs.examples_hold.Goals as goal

pub returns : goal.returns
returns c = examples
