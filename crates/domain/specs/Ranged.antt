-- Numbers that a type can hold: those below a bound.
use Rattle.std.specs.Prelude.{◌≡◌, ℕ, ◌<◌, Bool, true, false, Some, None, Option, nat_lt, refl}
use Rattle.std.proofs.Common.{ltb-true}

module _ {X : Type 0} (bound : ℕ) (make : (n : ℕ) → n < bound → X) where
  abbrev pub made : (n : ℕ) (b : Bool) → nat_lt n bound ≡ b → Option X
  made n true e = Some (make n (ltb-true n bound e))
  made n false e = None

  -- what the number n makes, where n is below the bound
  abbrev pub below : ℕ → Option X
  below n = made n (nat_lt n bound) refl
