-- In a table of distinct rows two numbers are one exactly where their terms are the same.
use Rattle.std.specs.Prelude.{◌≡◌, ℕ, zero, suc, ◌<◌, min, max, Bool, true, false, ◌⊎◌, List, length, slice_index_or, refl}
use Rattle.std.proofs.Common.{◌∙◌, ap, inl, inr, arith, not-suc-le-zero}
use Rattle.std.proofs.lemmas.Bool.{both_ways}
use Rattle.numbering.specs.Rows.{Distinct}
use Rattle.domain.specs.declared.op.Op.{Op}
use Rattle.validator.specs.declared.term_row.TermRow.{TermRow}
use Rattle.validator.specs.declared.term_row.TermRow.TheVariants.{RegisterAtEntry, BankAtEntry, Literal, Operate, Load, Store}
use Rattle.validator.specs.Terms.{Term, register_at_entry, bank_at_entry, literal, operate, load, store}
use Rattle.validator.specs.Terms.{Same, same_register, same_bank, same_literal, same_operate, same_turned, same_load, same_store}
use Rattle.validator.specs.TermRows.{ordered, row_equals, row_term, denote, NamesBelow, MarkedRight, WellFormed}
use Rattle.validator.specs.Equal.{equal_decides}
use Rattle.validator.specs.Tidy.{Names, OneTerm}
use Rattle.validator.proofs.Same.{same_sym, same_trans}

turned : (o : Op) (e : Bool) (a b : ℕ) → e ≡ true → ordered (Operate o e a b) ≡ ordered (Operate o e b a)
turned o true a b t = let p : min a b ≡ min b a = omega arith in let q : max a b ≡ max b a = omega arith in cc
turned o false a b t = absurd (both_ways false refl t)

module _ {c : Op → Bool} where
  inv_register : {i j : ℕ} → Same c (register_at_entry i) (register_at_entry j) → i ≡ j
  inv_register (same_register i) = refl

  inv_bank : {i j : ℕ} → Same c (bank_at_entry i) (bank_at_entry j) → i ≡ j
  inv_bank (same_bank i) = refl

  inv_literal : {i j : ℕ} → Same c (literal i) (literal j) → i ≡ j
  inv_literal (same_literal i) = refl

  inv_operate : {o o' : Op} {a b a' b' : Term} → Same c (operate o a b) (operate o' a' b')
      → (o ≡ o') × ((Same c a a' × Same c b b') ⊎ ((c o ≡ true) × Same c a b' × Same c b a'))
  inv_operate (same_operate o p q) = (refl, inl (p, q))
  inv_operate (same_turned o e p q) = (refl, inr (e, p, q))

  inv_load : {a b a' b' : Term} → Same c (load a b) (load a' b') → Same c a a' × Same c b b'
  inv_load (same_load p q) = (p, q)

  inv_store : {a b d a' b' d' : Term} → Same c (store a b d) (store a' b' d') → Same c a a' × Same c b b' × Same c d d'
  inv_store (same_store p q r) = (p, q, r)

module _ (c : Op → Bool) (D : ℕ → Term) (N M : ℕ) (one : (a b : ℕ) → a < N → b < M → Same c (D a) (D b) → a ≡ b) where
  agree : (r s : TermRow) → NamesBelow N r → NamesBelow M s → MarkedRight c r → MarkedRight c s → Same c (row_term D r) (row_term D s) → ordered r ≡ ordered s
  agree (RegisterAtEntry i) (RegisterAtEntry i') u v f g h = ap RegisterAtEntry (inv_register h)
  agree (RegisterAtEntry i) (BankAtEntry k') u v f g h = elim h [ ]
  agree (RegisterAtEntry i) (Literal n') u v f g h = elim h [ ]
  agree (RegisterAtEntry i) (Operate o' e' a' b') u v f g h = elim h [ ]
  agree (RegisterAtEntry i) (Load m' a') u v f g h = elim h [ ]
  agree (RegisterAtEntry i) (Store m' a' w') u v f g h = elim h [ ]
  agree (BankAtEntry k) (RegisterAtEntry i') u v f g h = elim h [ ]
  agree (BankAtEntry k) (BankAtEntry k') u v f g h = ap BankAtEntry (inv_bank h)
  agree (BankAtEntry k) (Literal n') u v f g h = elim h [ ]
  agree (BankAtEntry k) (Operate o' e' a' b') u v f g h = elim h [ ]
  agree (BankAtEntry k) (Load m' a') u v f g h = elim h [ ]
  agree (BankAtEntry k) (Store m' a' w') u v f g h = elim h [ ]
  agree (Literal n) (RegisterAtEntry i') u v f g h = elim h [ ]
  agree (Literal n) (BankAtEntry k') u v f g h = elim h [ ]
  agree (Literal n) (Literal n') u v f g h = ap Literal (inv_literal h)
  agree (Literal n) (Operate o' e' a' b') u v f g h = elim h [ ]
  agree (Literal n) (Load m' a') u v f g h = elim h [ ]
  agree (Literal n) (Store m' a' w') u v f g h = elim h [ ]
  agree (Operate o e a b) (RegisterAtEntry i') u v f g h = elim h [ ]
  agree (Operate o e a b) (BankAtEntry k') u v f g h = elim h [ ]
  agree (Operate o e a b) (Literal n') u v f g h = elim h [ ]
  agree (Operate o e a b) (Operate o' e' a' b') u v f g h =
      let o_is : o ≡ o' = (inv_operate h).0 in
      let e_is : e ≡ e' = cc in
      elim (inv_operate h).1 [
        | inl w ↦ let p = one a a' u.0 v.0 w.0 in let q = one b b' u.1 v.1 w.1 in cc
        | inr w ↦
            let p = one a b' u.0 v.1 w.1 in
            let q = one b a' u.1 v.0 w.2 in
            let t : e ≡ true = f ∙ w.0 in
            let s = turned o e a b t in
            cc
      ]
  agree (Operate o e a b) (Load m' a') u v f g h = elim h [ ]
  agree (Operate o e a b) (Store m' a' w') u v f g h = elim h [ ]
  agree (Load m a) (RegisterAtEntry i') u v f g h = elim h [ ]
  agree (Load m a) (BankAtEntry k') u v f g h = elim h [ ]
  agree (Load m a) (Literal n') u v f g h = elim h [ ]
  agree (Load m a) (Operate o' e' a' b') u v f g h = elim h [ ]
  agree (Load m a) (Load m' a') u v f g h = let w = inv_load h in let p = one m m' u.0 v.0 w.0 in let q = one a a' u.1 v.1 w.1 in cc
  agree (Load m a) (Store m' a' w') u v f g h = elim h [ ]
  agree (Store m a w) (RegisterAtEntry i') u v f g h = elim h [ ]
  agree (Store m a w) (BankAtEntry k') u v f g h = elim h [ ]
  agree (Store m a w) (Literal n') u v f g h = elim h [ ]
  agree (Store m a w) (Operate o' e' a' b') u v f g h = elim h [ ]
  agree (Store m a w) (Load m' a') u v f g h = elim h [ ]
  agree (Store m a w) (Store m' a' w') u v f g h = let x = inv_store h in let p = one m m' u.0 v.0 x.0 in let q = one a a' u.1 v.1 x.1 in let r = one w w' u.2 v.2 x.2 in cc

module _ (c : Op → Bool) (xs : List TermRow) (wf : WellFormed c xs) (ds : Distinct row_equals xs) where
  one_from : (f i j : ℕ) → i < f → j < f → i < length xs → j < length xs → Same c (denote f xs i) (denote f xs j) → i ≡ j
  one_from zero i j l m _ _ h = absurd (not-suc-le-zero l)
  one_from (suc f) i j l m li lj h =
      ds i j (Literal 0) li lj
      ((equal_decides (slice_index_or xs i (Literal 0)) (slice_index_or xs j (Literal 0))).1
      (agree c (denote f xs) i j (λ a b p q s. one_from f a b (omega arith) (omega arith) (omega arith) (omega arith) s)
      (slice_index_or xs i (Literal 0)) (slice_index_or xs j (Literal 0)) (wf.below i li) (wf.below j lj) (wf.marks i li) (wf.marks j lj) h))

  pub unique : (n m : ℕ) (t u : Term) → Names c xs n t → Names c xs m u → OneTerm c n m t u
  unique n m t u a b = record {
    one_so_same = λ e. same_trans c (same_sym c a.same) (let s = b.same in rw (← e) at s);
    same_so_one = λ s. one_from (length xs) n m a.inside b.inside a.inside b.inside (same_trans c a.same (same_trans c s (same_sym c b.same)));
  }
