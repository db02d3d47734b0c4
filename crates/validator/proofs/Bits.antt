-- Masks by the bits that are set in them.
use Rattle.std.proofs.Common.{◌≡◌, ℕ, ◌+◌, ◌*◌, ◌%◌, ◌^◌, ◌<◌, min, Bool, true, false, ◌&&◌, eqb, sym, refl, ap, ◌∙◌, subst, pow-suc, add-one, arith, below_more}
use Rattle.std.specs.Int.{w16}
use lib.Bits.{bit_and, bit_or, or_shifted_r}
use Rattle.std.proofs.lemmas.Nat.{one_shl}
use Rattle.std.proofs.lemmas.Nat.Bits.{bit_at-lt, bit_at-zero, bit_at_and, bit_at_above, bit_at_set_same, bit_at_set_other}
use Rattle.std.proofs.lemmas.Bool.{eq-eqb}
use Rattle.std.proofs.lemmas.Bool.Decides.{nat_tests}
use Rattle.validator.specs.Live.{bit}
use Rattle.validator.specs.Numbers.{Marks}

-- no bit of 0 is set
pub none_set : (k : ℕ) → eqb (bit k 0) 1 ≡ false
none_set k = ap (λ n. eqb n 1) (bit_at-zero k)

-- a bit is set in both
pub set_and : (k a b : ℕ) → eqb (bit k (bit_and a b)) 1 ≡ (eqb (bit k a) 1 && eqb (bit k b) 1)
set_and k a b = ap (λ n. eqb n 1) (bit_at_and a b k) ∙ go (bit k a) (bit k b) (bit_at-lt a k) (bit_at-lt b k)
  where
    go : (x y : ℕ) → x < 2 → y < 2 → eqb (min x y) 1 ≡ (eqb x 1 && eqb y 1)
    go x y p q = grind (arith, nat_tests)

module _ (test : ℕ → Bool) (i m : ℕ) (h : Marks test i m) where
  one_more : (n : ℕ) → n < 2 ^ i * 2 → ((k : ℕ) → k < i → bit k n ≡ bit k m) → eqb (bit i n) 1 ≡ test i → Marks test (i + 1) n
  one_more n l old new = (omega (arith, l, pow-suc 2 i, ap (λ (x : ℕ). 2 ^ x) (add-one i)), below_more (λ k. eqb (bit k n) 1 ≡ test k) i (λ k q. rw (old k q) (h.1 k q)) new)

  -- bit i is put in where the test of i is passed, and else the mask stays
  pub marked : (n : ℕ) → i < 16 → test i ≡ true → n ≡ bit_or m ((1 * 2 ^ i) % 2 ^ 16) → Marks test (i + 1) n
  marked n l t n_is =
      let e : n ≡ 1 * 2 ^ i + m = n_is ∙ ap (bit_or m) (one_shl i 16 l ∙ omega arith) ∙ or_shifted_r 1 i m h.0 in
      one_more n (omega (arith, e, h.0))
      (λ k q. ap (bit k) n_is ∙ bit_at_set_other w16 m i l k (omega arith))
      (eq-eqb _ 1 (ap (bit i) n_is ∙ bit_at_set_same w16 m i l) ∙ sym t)

  pub unmarked : (n : ℕ) → test i ≡ false → n ≡ m → Marks test (i + 1) n
  unmarked n t n_is =
      subst (Marks test (i + 1)) (sym n_is)
      (one_more m (omega (arith, h.0)) (λ k q. refl) (ap (λ n. eqb n 1) (bit_at_above m i i h.0 (omega arith)) ∙ sym t))
