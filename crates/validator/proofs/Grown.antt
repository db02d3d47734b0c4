-- A row that is put behind the others changes no term, and keeps the table well formed.
use Rattle.std.specs.Prelude.{◌≡◌, ℕ, zero, suc, ◌+◌, ◌<◌, ◌≤◌, Bool, ◌⊎◌, List, [], ◌∷◌, ◌++◌, length, slice_index_or, refl}
use Rattle.std.proofs.Common.{sym, ◌∙◌, ap, ap₂, subst, inl, inr, arith, not-suc-le-zero}
use Rattle.std.proofs.lemmas.Bool.{cases_lt}
use Rattle.std.proofs.lemmas.List.{get_or_append_left, get_or_push, length_push}
use Rattle.domain.specs.declared.op.Op.{Op}
use Rattle.validator.specs.declared.term_row.TermRow.{TermRow}
use Rattle.validator.specs.declared.term_row.TermRow.TheVariants.{RegisterAtEntry, BankAtEntry, Literal, Operate, Load, Store}
use Rattle.validator.specs.Terms.{Term, operate, load}
use Rattle.validator.specs.TermRows.{row_term, denote, denoted, NamesBelow, MarkedRight, WellFormed}

-- a row says one term over two tables that agree on its parts
row_cong : (D E : ℕ → Term) (n : ℕ) (r : TermRow) → NamesBelow n r → ((a : ℕ) → a < n → D a ≡ E a) → row_term D r ≡ row_term E r
row_cong D E n (RegisterAtEntry i) u h = refl
row_cong D E n (BankAtEntry k) u h = refl
row_cong D E n (Literal k) u h = refl
row_cong D E n (Operate o e a b) u h = ap₂ (operate o) (h a u.0) (h b u.1)
row_cong D E n (Load m a) u h = ap₂ load (h m u.0) (h a u.1)
row_cong D E n (Store m a v) u h = let p = h m u.0 in let q = h a u.1 in let s = h v u.2 in cc

module _ (c : Op → Bool) (xs ys : List TermRow) (wf : WellFormed c xs) (kept : (k : ℕ) → k < length xs → slice_index_or ys k (Literal 0) ≡ slice_index_or xs k (Literal 0)) where
  -- enough fuel is enough, and more rows change no term
  same_denote : (f g i : ℕ) → i < f → i < g → i < length xs → denote f xs i ≡ denote g ys i
  same_denote zero g i l m n = absurd (not-suc-le-zero l)
  same_denote (suc f) zero i l m n = absurd (not-suc-le-zero m)
  same_denote (suc f) (suc g) i l m n =
      row_cong (denote f xs) (denote g ys) i (slice_index_or xs i (Literal 0)) (wf.below i n) (λ a p. same_denote f g a (omega arith) (omega arith) (omega arith))
      ∙ ap (row_term (denote g ys)) (sym (kept i n))

-- numbers keep their terms
pub grown : (c : Op → Bool) (xs : List TermRow) (r : TermRow) → WellFormed c xs → (i : ℕ) → i < length xs → denoted xs i ≡ denoted (xs ++ r ∷ []) i
grown c xs r wf i l =
    let len = length_push xs r in
    same_denote c xs (xs ++ r ∷ []) wf (λ k m. get_or_append_left xs (r ∷ []) (Literal 0) k m) (length xs) (length (xs ++ r ∷ [])) i l (omega arith) l

-- a row of the table's own numbers, with the right flag, keeps the table well formed
pub stays : (c : Op → Bool) (xs : List TermRow) (r : TermRow) → WellFormed c xs → NamesBelow (length xs) r → MarkedRight c r → WellFormed c (xs ++ r ∷ [])
stays c xs r wf u f = record { below = λ i l. low i l (cases_lt i (length xs)); marks = λ i l. mark i l (cases_lt i (length xs)) }
  where
    len : length (xs ++ r ∷ []) ≡ length xs + 1
    len = length_push xs r

    low : (i : ℕ) → i < length (xs ++ r ∷ []) → (i < length xs) ⊎ (length xs ≤ i) → NamesBelow i (slice_index_or (xs ++ r ∷ []) i (Literal 0))
    low i l (inl m) = rw (get_or_append_left xs (r ∷ []) (Literal 0) i m) (wf.below i m)
    low i l (inr m) = let e : length xs ≡ i = omega (arith, len) in rw (get_or_push xs r (Literal 0) i e) (subst (λ (n : ℕ). NamesBelow n r) e u)

    mark : (i : ℕ) → i < length (xs ++ r ∷ []) → (i < length xs) ⊎ (length xs ≤ i) → MarkedRight c (slice_index_or (xs ++ r ∷ []) i (Literal 0))
    mark i l (inl m) = rw (get_or_append_left xs (r ∷ []) (Literal 0) i m) (wf.marks i m)
    mark i l (inr m) = let e : length xs ≡ i = omega (arith, len) in rw (get_or_push xs r (Literal 0) i e) f

-- a number's term is what its row says
pub at_row : (c : Op → Bool) (xs : List TermRow) → WellFormed c xs → (i : ℕ) → i < length xs → denoted xs i ≡ row_term (denoted xs) (slice_index_or xs i (Literal 0))
at_row c xs wf i l = go (length xs) refl
  where
    go : (n : ℕ) → length xs ≡ n → denoted xs i ≡ row_term (denoted xs) (slice_index_or xs i (Literal 0))
    go zero e = absurd (omega arith)
    go (suc f) e =
        ap (λ n. denote n xs i) e
        ∙ row_cong (denote f xs) (denoted xs) i (slice_index_or xs i (Literal 0)) (wf.below i l)
        (λ a p. same_denote c xs xs wf (λ k m. refl) f (length xs) a (omega arith) (omega arith) (omega arith))

-- what the row put in last means
pub newest : (c : Op → Bool) (xs : List TermRow) (r : TermRow) → WellFormed c xs → NamesBelow (length xs) r → MarkedRight c r
    → denoted (xs ++ r ∷ []) (length xs) ≡ row_term (denoted xs) r
newest c xs r wf u f =
    let len = length_push xs r in
    at_row c (xs ++ r ∷ []) (stays c xs r wf u f) (length xs) (omega arith)
    ∙ ap (row_term (denoted (xs ++ r ∷ []))) (get_or_push xs r (Literal 0) (length xs) refl)
    ∙ sym (row_cong (denoted xs) (denoted (xs ++ r ∷ [])) (length xs) r u (λ a p. grown c xs r wf a p))
