use Rattle.std.proofs.Common.{◌≡◌, ℕ, ◌+◌, ◌≤◌, Bool, length}
use Rattle.domain.specs.declared.op.Op.{Op}
use Rattle.validator.specs.Terms.{Term}
use Rattle.validator.specs.Tidy.{Tidy}
use Rattle.validator.specs.Means.{EachSays, Named}
use Rattle.validator.proofs.terms.Terms.name.Given as goal

abbrev pub invariant-loop-i : goal.invariant-loop-i
invariant-loop-i g l = record {
  few : length l.self ≤ length l.initial.self + l.i;
  long : length l.number-items ≡ g.row.N;
  named :
      (commutes : Op → Bool) (f : ℕ → Term) → EachSays commutes (goal.F-post g l.row) f
      → Tidy commutes l.initial.self → Named commutes l.initial.self l.self l.number-items f l.i;
}
