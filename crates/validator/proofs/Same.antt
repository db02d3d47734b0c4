-- The same terms: an equivalence, and what the test of it tells.
use Rattle.std.specs.Prelude.{◌≡◌, ℕ, zero, suc, Bool, true, ◌&&◌, ◌||◌, ◌==◌, refl}
use Rattle.std.proofs.Common.{subst, ⊎_elim, arith}
use Rattle.std.proofs.lemmas.Bool.{and_parts, and_from, or_cases, or_left, or_right, eqb-true, eq-eqb, false≢true}
use Rattle.domain.specs.declared.op.Op.{Op}
use Rattle.domain.specs.declared.op.Op.TheVariants.{Add, Sub, Mul, Div, Lt, Eq, And, Or}
use Rattle.validator.specs.Terms.{Term, register_at_entry, bank_at_entry, literal, operate, load, store, number, same}
use Rattle.validator.specs.Terms.{Same, same_register, same_bank, same_literal, same_operate, same_turned, same_load, same_store}

-- the operation of a number
abbrev pub numbered : ℕ → Op
numbered zero = Add
numbered (suc zero) = Sub
numbered (suc (suc zero)) = Mul
numbered (suc (suc (suc zero))) = Div
numbered (suc (suc (suc (suc zero)))) = Lt
numbered (suc (suc (suc (suc (suc zero))))) = Eq
numbered (suc (suc (suc (suc (suc (suc zero)))))) = And
numbered (suc (suc (suc (suc (suc (suc (suc n))))))) = Or

pub numbered_back : (o : Op) → numbered (number o) ≡ o
numbered_back Add = refl
numbered_back Sub = refl
numbered_back Mul = refl
numbered_back Div = refl
numbered_back Lt = refl
numbered_back Eq = refl
numbered_back And = refl
numbered_back Or = refl

pub one_operation : (o p : Op) → number o ≡ number p → o ≡ p
one_operation o p e = grind arith

module _ (commutes : Op → Bool) where
  pub same_refl : (t : Term) → Same commutes t t
  same_refl (register_at_entry i) = same_register i
  same_refl (bank_at_entry k) = same_bank k
  same_refl (literal n) = same_literal n
  same_refl (operate o a b) = same_operate o (same_refl a) (same_refl b)
  same_refl (load k a) = same_load (same_refl k) (same_refl a)
  same_refl (store k a v) = same_store (same_refl k) (same_refl a) (same_refl v)

  pub same_sym : {x y : Term} → Same commutes x y → Same commutes y x
  same_sym (same_register i) = same_register i
  same_sym (same_bank k) = same_bank k
  same_sym (same_literal n) = same_literal n
  same_sym (same_operate o p q) = same_operate o (same_sym p) (same_sym q)
  same_sym (same_turned o e p q) = same_turned o e (same_sym q) (same_sym p)
  same_sym (same_load p q) = same_load (same_sym p) (same_sym q)
  same_sym (same_store p q r) = same_store (same_sym p) (same_sym q) (same_sym r)

  pub same_trans : {x y z : Term} → Same commutes x y → Same commutes y z → Same commutes x z
  same_trans (same_register i) (same_register j) = same_register i
  same_trans (same_bank k) (same_bank j) = same_bank k
  same_trans (same_literal n) (same_literal j) = same_literal n
  same_trans (same_operate o p q) (same_operate o' p' q') = same_operate o (same_trans p p') (same_trans q q')
  same_trans (same_operate o p q) (same_turned o' e p' q') = same_turned o e (same_trans p p') (same_trans q q')
  same_trans (same_turned o e p q) (same_operate o' p' q') = same_turned o e (same_trans p q') (same_trans q p')
  same_trans (same_turned o e p q) (same_turned o' e' p' q') = same_operate o (same_trans p q') (same_trans q p')
  same_trans (same_load p q) (same_load p' q') = same_load (same_trans p p') (same_trans q q')
  same_trans (same_store p q r) (same_store p' q' r') = same_store (same_trans p p') (same_trans q q') (same_trans r r')

  -- the test answers true exactly where they are the same
  pub test_so_same : (x y : Term) → same commutes x y ≡ true → Same commutes x y
  test_so_same (register_at_entry i) (register_at_entry i') h = subst (λ (j : ℕ). Same commutes (register_at_entry i) (register_at_entry j)) (eqb-true i i' h) (same_register i)
  test_so_same (register_at_entry i) (bank_at_entry k') h = absurd (false≢true h)
  test_so_same (register_at_entry i) (literal n') h = absurd (false≢true h)
  test_so_same (register_at_entry i) (operate o' a' b') h = absurd (false≢true h)
  test_so_same (register_at_entry i) (load k' a') h = absurd (false≢true h)
  test_so_same (register_at_entry i) (store k' a' v') h = absurd (false≢true h)
  test_so_same (bank_at_entry k) (register_at_entry i') h = absurd (false≢true h)
  test_so_same (bank_at_entry k) (bank_at_entry k') h = subst (λ (j : ℕ). Same commutes (bank_at_entry k) (bank_at_entry j)) (eqb-true k k' h) (same_bank k)
  test_so_same (bank_at_entry k) (literal n') h = absurd (false≢true h)
  test_so_same (bank_at_entry k) (operate o' a' b') h = absurd (false≢true h)
  test_so_same (bank_at_entry k) (load k' a') h = absurd (false≢true h)
  test_so_same (bank_at_entry k) (store k' a' v') h = absurd (false≢true h)
  test_so_same (literal n) (register_at_entry i') h = absurd (false≢true h)
  test_so_same (literal n) (bank_at_entry k') h = absurd (false≢true h)
  test_so_same (literal n) (literal n') h = subst (λ (j : ℕ). Same commutes (literal n) (literal j)) (eqb-true n n' h) (same_literal n)
  test_so_same (literal n) (operate o' a' b') h = absurd (false≢true h)
  test_so_same (literal n) (load k' a') h = absurd (false≢true h)
  test_so_same (literal n) (store k' a' v') h = absurd (false≢true h)
  test_so_same (operate o a b) (register_at_entry i') h = absurd (false≢true h)
  test_so_same (operate o a b) (bank_at_entry k') h = absurd (false≢true h)
  test_so_same (operate o a b) (literal n') h = absurd (false≢true h)
  test_so_same (operate o a b) (operate o' a' b') h =
      let w = and_parts (number o == number o') ((same commutes a a' && same commutes b b') || (commutes o && (same commutes a b' && same commutes b a'))) h in
      let e : o ≡ o' = one_operation o o' (eqb-true _ _ w.0) in
      subst (λ (x : Op). Same commutes (operate o a b) (operate x a' b')) e
      (⊎_elim
      (λ p. let q = and_parts _ _ p in same_operate o (test_so_same a a' q.0) (test_so_same b b' q.1))
      (λ p. let q = and_parts _ _ p in let s = and_parts _ _ q.1 in same_turned o q.0 (test_so_same a b' s.0) (test_so_same b a' s.1))
      (or_cases _ _ w.1))
  test_so_same (operate o a b) (load k' a') h = absurd (false≢true h)
  test_so_same (operate o a b) (store k' a' v') h = absurd (false≢true h)
  test_so_same (load k a) (register_at_entry i') h = absurd (false≢true h)
  test_so_same (load k a) (bank_at_entry k') h = absurd (false≢true h)
  test_so_same (load k a) (literal n') h = absurd (false≢true h)
  test_so_same (load k a) (operate o' a' b') h = absurd (false≢true h)
  test_so_same (load k a) (load k' a') h = let w = and_parts _ _ h in same_load (test_so_same k k' w.0) (test_so_same a a' w.1)
  test_so_same (load k a) (store k' a' v') h = absurd (false≢true h)
  test_so_same (store k a v) (register_at_entry i') h = absurd (false≢true h)
  test_so_same (store k a v) (bank_at_entry k') h = absurd (false≢true h)
  test_so_same (store k a v) (literal n') h = absurd (false≢true h)
  test_so_same (store k a v) (operate o' a' b') h = absurd (false≢true h)
  test_so_same (store k a v) (load k' a') h = absurd (false≢true h)
  test_so_same (store k a v) (store k' a' v') h = let w = and_parts _ _ h in let q = and_parts _ _ w.1 in same_store (test_so_same k k' w.0) (test_so_same a a' q.0) (test_so_same v v' q.1)

  pub same_so_test : {x y : Term} → Same commutes x y → same commutes x y ≡ true
  same_so_test (same_register i) = eq-eqb i i refl
  same_so_test (same_bank k) = eq-eqb k k refl
  same_so_test (same_literal n) = eq-eqb n n refl
  same_so_test (same_operate o p q) = and_from _ _ (eq-eqb (number o) (number o) refl) (or_left _ _ (and_from _ _ (same_so_test p) (same_so_test q)))
  same_so_test (same_turned o e p q) =
      and_from _ _ (eq-eqb (number o) (number o) refl) (or_right _ _ (and_from _ _ e (and_from _ _ (same_so_test p) (same_so_test q))))
  same_so_test (same_load p q) = and_from _ _ (same_so_test p) (same_so_test q)
  same_so_test (same_store p q r) = and_from _ _ (same_so_test p) (and_from _ _ (same_so_test q) (same_so_test r))
