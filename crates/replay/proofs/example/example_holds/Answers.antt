use Rattle.replay.proofs.Examples.{example}
use Rattle.replay.proofs.example.example_holds.Goals as goal

pub returns : goal.returns
returns c = example c.is_lawful.ensures
