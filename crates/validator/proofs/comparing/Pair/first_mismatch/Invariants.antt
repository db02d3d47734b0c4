use Rattle.std.proofs.Common.{◌≡◌, ℕ, ◌<◌, None}
use Rattle.validator.specs.Walkers.{line_of, entry_differs}
use Rattle.validator.proofs.comparing.Pair.first_mismatch.Given as goal

abbrev pub invariant-loop-entry : goal.invariant-loop-entry
invariant-loop-entry g l =
    (e : ℕ) → e < l.entry → entry_differs g.D.Domain.meaning l.self.labels.now (line_of l.self.source) (line_of l.self.schedule) e ≡ None
