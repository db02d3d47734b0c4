-- The first thing that is found, going up, and the lowest place at which two stops differ.
use Rattle.std.proofs.Common.{◌≡◌, ℕ, zero, suc, ◌^◌, ◌<◌, ◌≤◌, Bool, true, false, ◌&&◌, eqb, ◌⊎◌, Some, None, Option, sym, refl, ap, ◌∙◌, ap₂, inl, inr, not-suc-le-zero, arith}
use Rattle.std.proofs.lemmas.Bool.{cases_lt, eq-eqb, ne_eqb}
use lib.Bits.{bit_and, and_lt}
use lib.Count.{count_trailing_zeros}
use Rattle.std.specs.Int.{w16}
use Rattle.std.proofs.lemmas.Nat.Bits.{bit_at-trailing_zeros}
use Rattle.validator.specs.Live.{bit}
use Rattle.validator.specs.Numbers.{Marks}
use Rattle.validator.proofs.Bits.{none_set, set_and}
use Rattle.validator.specs.declared.verdict.Reason.{Reason}
use Rattle.validator.specs.Comparison.{◌or_else◌, first_below, found, lowest}

module _ {X : Type 0} where
  pub first_below_cong : (n : ℕ) (f g : ℕ → Option X) → ((i : ℕ) → i < n → f i ≡ g i) → first_below n f ≡ first_below n g
  first_below_cong zero f g h = refl
  first_below_cong (suc n) f g h = ap₂ ◌or_else◌ (first_below_cong n f g (λ i l. h i (omega arith))) (h n (omega arith))

  module _ (f : ℕ → Option X) where
    pub first_below_none : (n : ℕ) → ((i : ℕ) → i < n → f i ≡ None) → first_below n f ≡ None
    first_below_none zero h = refl
    first_below_none (suc n) h = rw (first_below_none n (λ i l. h i (omega arith)), h n (omega arith))

    pub first_below_at : (n i : ℕ) (x : X) → i < n → ((k : ℕ) → k < i → f k ≡ None) → f i ≡ Some x → first_below n f ≡ Some x
    first_below_at zero i x l p q = absurd (not-suc-le-zero l)
    first_below_at (suc n) i x l p q = go (cases_lt i n) (first_below_at n i x)
      where
        go : (i < n) ⊎ (n ≤ i) → (i < n → ((k : ℕ) → k < i → f k ≡ None) → f i ≡ Some x → first_below n f ≡ Some x) → first_below (suc n) f ≡ Some x
        go (inl k) ih = rw (ih k p q)
        go (inr k) ih =
            let e : i ≡ n = omega arith in
            ap₂ ◌or_else◌ (first_below_none n (λ j m. p j (omega arith))) (ap f (sym e) ∙ q)

module _ (e n : ℕ) (r : Reason) (bound : ℕ) where
  pub lowest_cong : (p q : ℕ → Bool) → ((i : ℕ) → i < bound → p i ≡ q i) → lowest e n bound p r ≡ lowest e n bound q r
  lowest_cong p q h =
      first_below_cong bound (λ i. found e n (p i) r i) (λ i. found e n (q i) r i) (λ i l. ap (λ b. found e n b r i) (h i l))

  -- a search from place 0 on comes to the lowest place that passes, or to none
  pub lowest_at : (test : ℕ → Bool) (i : ℕ) → i < bound → ((k : ℕ) → k < i → test k ≡ false) → test i ≡ true
      → Some (record { entry = e; stop = n; reason = r; number = i }) ≡ lowest e n bound test r
  lowest_at test i l below here =
      sym (first_below_at (λ k. found e n (test k) r k) bound i _ l (λ k m. ap (λ b. found e n b r k) (below k m)) (ap (λ b. found e n b r i) here))

  pub lowest_none : (test : ℕ → Bool) → ((k : ℕ) → k < bound → test k ≡ false) → None ≡ lowest e n bound test r
  lowest_none test h = sym (first_below_none (λ k. found e n (test k) r k) bound (λ k l. ap (λ b. found e n b r k) (h k l)))

-- the lowest live place that a mask marks
module _ (e n : ℕ) (r : Reason) (test : ℕ → Bool) (live m : ℕ) (marks : Marks test 16 m) where
  both : (k : ℕ) → k < 16 → eqb (bit k (bit_and live m)) 1 ≡ (eqb (bit k live) 1 && test k)
  both k l = set_and k live m ∙ ap (λ b. eqb (bit k live) 1 && b) (marks.1 k l)

  pub no_bit : bit_and live m ≡ 0 → None ≡ lowest e n 16 (λ i. eqb (bit i live) 1 && test i) r
  no_bit z = lowest_none e n r 16 (λ i. eqb (bit i live) 1 && test i) (λ i l. sym (both i l) ∙ ap (λ j. eqb (bit i j) 1) z ∙ none_set i)

  pub lowest_bit : live < 2 ^ 16 → m < 2 ^ 16 → 0 < bit_and live m
      → Some (record { entry = e; stop = n; reason = r; number = count_trailing_zeros 16 (bit_and live m) }) ≡ lowest e n 16 (λ i. eqb (bit i live) 1 && test i) r
  lowest_bit p q z =
      let low = bit_at-trailing_zeros w16 (bit_and live m) z (and_lt 16 live m p q) in
      lowest_at e n r 16 (λ i. eqb (bit i live) 1 && test i) (count_trailing_zeros 16 (bit_and live m)) low.0
      (λ i l. sym (both i (omega (arith, low.0))) ∙ ne_eqb _ 1 (λ o. omega (arith, o, low.2 i l)))
      (sym (both (count_trailing_zeros 16 (bit_and live m)) low.0) ∙ eq-eqb _ 1 low.1)
