use Rattle.std.proofs.Common.{◌+◌, ◌≤◌, length, take}
use Rattle.region.specs.Rows.{actions}
use Rattle.validator.specs.Walks.{follow_all}
use Rattle.validator.specs.Means.{Does}
use Rattle.validator.proofs.walk.Walk.acts.Given as goal

abbrev pub invariant-loop-row : goal.invariant-loop-row
invariant-loop-row g l =
    (length l.terms ≤ length l.initial.terms + l.row-index)
    × Does g.D.Domain.meaning l.initial.terms l.initial.self l.terms l.self (λ β. follow_all β (actions (take l.row-index l.piece)))
