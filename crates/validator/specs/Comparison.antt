-- The comparison of a source and a schedule.
use Rattle.std.specs.Prelude.{ℕ, zero, suc, Bool, true, false, cond, not, ◌&&◌, ◌||◌, List, [], ◌∷◌, Some, None, Option, ◌==◌}
use Rattle.validator.specs.declared.verdict.Reason.{Reason}
use Rattle.validator.specs.declared.verdict.Reason.TheVariants as reason
use Rattle.validator.specs.declared.verdict.Verdict.{Verdict}
use Rattle.validator.specs.declared.verdict.Verdict.TheVariants.{Passed, Failed}
use Rattle.validator.specs.declared.verdict.Mismatch.{Mismatch}
use Rattle.region.specs.Lines.{Line, joins}
use Rattle.validator.specs.Terms.{Term, same}
use Rattle.validator.specs.Walks.{Basis, Stop, walk}

infixr 25 ◌or_else◌
abbrev pub ◌or_else◌ : {A : Type 0} → Option A → Option A → Option A
◌or_else◌ (Some x) y = Some x
◌or_else◌ None y = y

-- the first thing found, going up from 0 and below n
abbrev pub first_below : {A : Type 0} → ℕ → (ℕ → Option A) → Option A
first_below zero f = None
first_below (suc n) f = first_below n f or_else f n

-- at the n-th stop of the walks from entry e
module _ (e n : ℕ) where
  abbrev pub found : Bool → Reason → ℕ → Option Mismatch
  found differs r i = cond differs (Some (record { entry = e; stop = n; reason = r; number = i })) None

  -- the lowest number below the bound at which something differs
  abbrev pub lowest : ℕ → (ℕ → Bool) → Reason → Option Mismatch
  lowest bound differs r = first_below bound (λ i. found (differs i) r i)

-- sets as lists, by a test of equality
abbrev pub member : {A : Type 0} → (A → A → Bool) → A → List A → Bool
member test x [] = false
member test x (y ∷ ys) = test x y || member test x ys

abbrev pub within : {A : Type 0} → (A → A → Bool) → List A → List A → Bool
within test [] ys = true
within test (x ∷ xs) ys = member test x ys && within test xs ys

abbrev pub verdict : Option Mismatch → Verdict
verdict None = Passed
verdict (Some x) = Failed x

module _ (β : Basis) where
  abbrev pub label_differs : Stop → Stop → Bool
  label_differs x y = not (x.label.index == y.label.index)

  abbrev pub register_differs : Stop → Stop → ℕ → Bool
  register_differs x y i = β.live x.label i && not (same β.commutes (x.symbols.register i) (y.symbols.register i))

  abbrev pub bank_differs : Stop → Stop → ℕ → Bool
  bank_differs x y k = not (same β.commutes (x.symbols.bank k) (y.symbols.bank k))

  abbrev pub traps_differ : Stop → Stop → Bool
  traps_differ x y =
      not (within (same β.commutes) x.symbols.traps y.symbols.traps && within (same β.commutes) y.symbols.traps x.symbols.traps)

  module _ (e n : ℕ) where
    -- one walk alone is at its last stop, or the conditions differ
    abbrev pub differ_condition : Option Term → Option Term → Option Mismatch
    differ_condition None None = None
    differ_condition None (Some c) = found e n true reason.End 0
    differ_condition (Some b) None = found e n true reason.End 0
    differ_condition (Some b) (Some c) = found e n (not (same β.commutes b c)) reason.Condition 0

    -- what differs first
    abbrev pub differ : Stop → Stop → Option Mismatch
    differ x y =
        differ_condition x.condition y.condition
        or_else found e n (label_differs x y) reason.Label 0
        or_else lowest e n 16 (register_differs x y) reason.Register
        or_else lowest e n 4 (bank_differs x y) reason.Bank
        or_else found e n (traps_differ x y) reason.Traps 0

  -- at the stops from the n-th on
  abbrev pub stops_differ : ℕ → ℕ → List Stop → List Stop → Option Mismatch
  stops_differ e n [] ys = None
  stops_differ e n (x ∷ xs) [] = None
  stops_differ e n (x ∷ xs) (y ∷ ys) = differ e n x y or_else stops_differ e (suc n) xs ys

  abbrev pub mismatch : Line → Line → Option Mismatch
  mismatch src sch =
      found 0 0 (not (joins src.places == joins sch.places)) reason.Joins 0
      or_else first_below (suc (joins src.places)) (λ e. stops_differ e 1 (walk β src e) (walk β sch e))

  abbrev pub comparison : Line → Line → Verdict
  comparison src sch = verdict (mismatch src sch)
