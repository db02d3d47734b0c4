use Rattle.domain.specs.Ranges.{numbered_own}
use Rattle.domain.proofs.below.Below.new.Goals as goal

pub returns-then-index : goal.returns-then-index
returns-then-index g c = numbered_own g.row.N _
