-- No number beyond a bound stands for anything.
use Rattle.std.specs.Prelude.{◌≡◌, ℕ, ◌<◌, Bool, true, false, None, nat_lt, refl}
use Rattle.std.proofs.Common.{ltb, ltb-true, arith, Fits, w8}
use Rattle.domain.specs.Ranged.{made}
use Rattle.domain.specs.Numbered.{numbered}

made_none : {X : Type 0} (bound : ℕ) (make : (n : ℕ) → n < bound → X) (n : ℕ) → Fits w8 bound → 65535 < n → (b : Bool) (e : ltb n bound ≡ b) → made bound make n b e ≡ None
made_none bound make n f h true e = absurd (omega (arith, ltb-true n bound e))
made_none bound make n f h false e = refl

pub none_beyond : (N : ℕ) (n : ℕ) → Fits w8 N → 65535 < n → numbered N n ≡ None
none_beyond N n f h = made_none N (λ k l. record { index = k; fits = l }) n f h (nat_lt n N) refl
