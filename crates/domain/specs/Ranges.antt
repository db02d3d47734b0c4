-- Values made of numbers below a bound.
use Rattle.std.specs.Prelude.{◌≡◌, ℕ, ◌<◌, Bool, true, false, ltb, ◌≢◌, Some, None, nat_lt, refl}
use Rattle.std.proofs.Common.{sym, ap, arith, ltb-true, lt-ltb}
use Rattle.std.proofs.Math.Bridge.{le_prop}
use mathlib.Core.HLevel.{is_prop→PathP}
use Rattle.std.proofs.lemmas.Bool.{both_ways}
use Rattle.domain.specs.declared.below.Below.{Below}
use Rattle.domain.specs.Ranged.{made, below}
use Rattle.domain.specs.Numbered.{numbered}

module _ {X : Type 0} (bound : ℕ) (make : (n : ℕ) → n < bound → X) (n : ℕ) where
  made_inside : (h : n < bound) (b : Bool) (e : ltb n bound ≡ b) → made bound make n b e ≡ Some (make n h)
  made_inside h true e = ap (λ p. Some (make n p)) (le_prop (ltb-true n bound e) h)
  made_inside h false e = absurd (both_ways _ e (lt-ltb n bound h))

  -- below the bound there is a value
  pub below_inside : (h : n < bound) → below bound make n ≡ Some (make n h)
  below_inside h = made_inside h (nat_lt n bound) refl

  -- and so a value that is made of a number below the bound is no trap
  pub below_some : n < bound → below bound make n ≢ None
  below_some h e = absurd (let z : ◌≡◌ {A = ℕ} 0 1 = cc (below_inside h) in omega arith)

-- a number below a bound is what its own number stands for
pub numbered_own : (N : ℕ) (x : Below N) → Some x ≡ numbered N x.index
numbered_own N x = sym (below_inside N (λ n h. record { index = n; fits = h }) x.index x.fits)

-- and numbers below a bound that are the same number are one
pub same_number : {N : ℕ} (x y : Below N) → x.index ≡ y.index → x ≡ y
same_number {N} x y p = λ i. record { index = p i; fits = is_prop→PathP (λ j. p j < N) (λ j. le_prop) x.fits y.fits i }
