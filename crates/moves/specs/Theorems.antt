-- What a pass promises, and what is sure to pass.
use Rattle.std.specs.Prelude.{◌≡◌, ℕ, ◌+◌, ◌*◌, ◌<◌, ◌≤◌, Bool, true, List, length, take, drop, Decides}
use Rattle.domain.specs.declared.op.Op.{Op}
use Rattle.domain.specs.Meaning.{Meaning}
use Rattle.region.specs.Numbers.{LabelNumber}
use Rattle.region.specs.Lines.{Line, joins}
use Rattle.region.specs.Machine.{Ended, word, trapped, reached, run}
use Rattle.validator.specs.declared.verdict.Verdict.TheVariants.{Passed}
use Rattle.validator.specs.Terms.{Term, Same, same}
use Rattle.validator.specs.Walks.{basis}
use Rattle.validator.specs.Comparison.{comparison}
use Rattle.moves.specs.Moves.{Derived}

-- the sixteen cells of bank k in a state
abbrev pub bank : {W : Type 0} → List W → ℕ → List W
bank σ k = take 16 (drop (16 + 16 * k) σ)

-- two states at a label: the registers that are live there are equal, and so are all banks
pub record Agree {W : Type 0} (m : Meaning W) (live : LabelNumber → ℕ → Bool) (l : LabelNumber) (σ τ : List W) : Type 0 where
  pub registers : (i : ℕ) → i < 16 → live l i ≡ true → word m σ i ≡ word m τ i
  pub banks : (k : ℕ) → k < 4 → bank σ k ≡ bank τ k

-- two runs: both trap, or both reach one label and agree there
pub data Alike {W : Type 0} (m : Meaning W) (live : LabelNumber → ℕ → Bool) : Ended W → Ended W → Type 0 where
  both_trap : (σ τ : List W) → Alike m live (trapped m σ) (trapped m τ)
  both_reach : (l : LabelNumber) (σ τ : List W) → Agree m live l σ τ → Alike m live (reached m l σ) (reached m l τ)

-- what passes runs alike: from every entry and on every state of 80 words
abbrev pub Sound : {W : Type 0} → Meaning W → Type 0
Sound {W} m = (live : LabelNumber → ℕ → Bool) (source schedule : Line) → comparison (basis m live) source schedule ≡ Passed
    → (e : ℕ) → e ≤ joins source.places → (σ : List W) → length σ ≡ 80
    → Alike m live (run m source e σ) (run m schedule e σ)

-- what is derived passes
abbrev pub Complete : {W : Type 0} → Meaning W → Type 0
Complete m = (live : LabelNumber → ℕ → Bool) (source schedule : Line) → Derived (basis m live) source schedule
    → comparison (basis m live) source schedule ≡ Passed

-- the test of terms decides the relation of terms
abbrev pub Tested : Type 0
Tested = (commutes : Op → Bool) (t u : Term) → Decides (same commutes t u) (Same commutes t u)
