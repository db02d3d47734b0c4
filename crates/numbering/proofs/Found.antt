-- What a found number means, over plain lists.
use Rattle.std.proofs.Common.{◌≡◌, ℕ, ◌+◌, ◌<◌, ◌≤◌, Bool, true, false, ◌⊎◌, List, [], ◌∷◌, ◌++◌, length, get_or, take, drop, Some, None, Option, refl, subst, inl, inr, not-suc-le-zero, arith, length-append, length-take}
use Rattle.std.specs.List.{position_or_len}
use Rattle.std.proofs.lemmas.Bool.Decides.{nat_tests}
use Rattle.std.proofs.lemmas.Bool.{both_ways, cases_lt, lt-ltb}
use Rattle.std.proofs.lemmas.List.{get_or_append_left, get_or_push, length_push, get_or-take, take-append-drop}
use Rattle.std.proofs.lemmas.List.Quantifiers.{position-Some}
use Rattle.std.proofs.lemmas.List.Sums.{position_or_len_is, fails_before_first}
use Rattle.numbering.specs.Rows.{found, Distinct, Equivalence, Exactly}

-- no rows are distinct rows
pub distinct_none : {R : Type 0} (eq : R → R → Bool) → Distinct eq []
distinct_none eq i j d li lj t = absurd (not-suc-le-zero li)

-- the first of distinct rows are distinct
pub distinct_take : {R : Type 0} (eq : R → R → Bool) (n : ℕ) (xs : List R) → Distinct eq xs → Distinct eq (take n xs)
distinct_take eq n xs ds i j d li lj t =
    let a : (i < n) × (i < length xs) = (omega (arith, length-take n xs), omega (arith, length-take n xs)) in
    let b : (j < n) × (j < length xs) = (omega (arith, length-take n xs), omega (arith, length-take n xs)) in
    ds i j d a.1 b.1 (rw (get_or-take n xs i d a.0, get_or-take n xs j d b.0) at t)

module _ {R : Type 0} (eq : R → R → Bool) (row : R) where
  -- a found number is below the length, and its row equals the row
  pub found_is : (xs : List R) (k : ℕ) (d : R) → found eq xs row ≡ Some k → (k < length xs) × (eq (get_or xs k d) row ≡ true)
  found_is xs k d e = let h = position-Some (λ x. eq x row) xs k d e in (h.0, h.1)

  -- where no number is found, no row equals the row
  pub none_is : (xs : List R) (d : R) → found eq xs row ≡ None → (i : ℕ) → i < length xs → eq (get_or xs i d) row ≡ false
  none_is xs d e i l = fails_before_first (λ x. eq x row) xs i d (grind (arith, nat_tests))

  -- where no row equals the row, no number is found
  pub none_found : (xs : List R) → ((k : ℕ) → k < length xs → eq (get_or xs k row) row ≡ false) → None ≡ found eq xs row
  none_found xs h = go (found eq xs row) refl
    where
      go : (o : Option ℕ) → found eq xs row ≡ o → None ≡ o
      go None e = refl
      go (Some k) e = let f = found_is xs k row e in absurd (both_ways _ (h k f.0) f.1)

  -- the first row that equals the row is found
  pub first_found : (xs : List R) (k : ℕ) → k < length xs → ((j : ℕ) → j < k → eq (get_or xs j row) row ≡ false) → eq (get_or xs k row) row ≡ true → found eq xs row ≡ Some k
  first_found xs k l before here =
      let at : position_or_len (λ x. eq x row) xs ≡ k = position_or_len_is (λ x. eq x row) xs k row (omega arith) before (λ _. here) in
      rw (at, lt-ltb k (length xs) l)

  -- a number is found again where more rows stand behind
  pub found_kept : (xs ys : List R) (k : ℕ) → found eq xs row ≡ Some k → found eq (xs ++ ys) row ≡ Some k
  found_kept xs ys k e =
      let h = position-Some (λ x. eq x row) xs k row e in
      first_found (xs ++ ys) k (omega (arith, length-append xs ys, h.0))
      (λ j l. rw (get_or_append_left xs ys row j (omega (arith, h.0))) (h.2 j l))
      (rw (get_or_append_left xs ys row k h.0) h.1)

  pub found_taken : (n : ℕ) (xs : List R) (k : ℕ) → found eq (take n xs) row ≡ Some k → found eq xs row ≡ Some k
  found_taken n xs k e = subst (λ (ys : List R). found eq ys row ≡ Some k) (take-append-drop n xs) (found_kept (take n xs) (drop n xs) k e)

  -- a row that was not found, put behind, is found at the end
  pub found_push : eq row row ≡ true → (xs : List R) → found eq xs row ≡ None → found eq (xs ++ row ∷ []) row ≡ Some (length xs)
  found_push own xs e =
      first_found (xs ++ row ∷ []) (length xs) (omega (arith, length_push xs row))
      (λ j l. rw (get_or_append_left xs (row ∷ []) row j l) (none_is xs row e j l))
      (rw (get_or_push xs row row (length xs) refl) own)

module _ {R : Type 0} (eq : R → R → Bool) (laws : Equivalence eq) where
  -- a row that was not found can be put behind distinct rows
  pub distinct_push : (xs : List R) (row : R) → Distinct eq xs → found eq xs row ≡ None → Distinct eq (xs ++ row ∷ [])
  distinct_push xs row ds e i j d li lj t = go (cases_lt i (length xs)) (cases_lt j (length xs))
    where
      len : length (xs ++ row ∷ []) ≡ length xs + 1
      len = length_push xs row

      front : (k : ℕ) → k < length xs → get_or (xs ++ row ∷ []) k d ≡ get_or xs k d
      front k l = get_or_append_left xs (row ∷ []) d k l

      last : (k : ℕ) → length xs ≤ k → k < length (xs ++ row ∷ []) → length xs ≡ k
      last k l m = omega (arith, len)

      apart : (k : ℕ) → k < length xs → eq (get_or xs k d) row ≡ false
      apart k l = none_is eq row xs d e k l

      go : (i < length xs) ⊎ (length xs ≤ i) → (j < length xs) ⊎ (length xs ≤ j) → i ≡ j
      go (inl a) (inl b) = ds i j d a b (rw (front i a, front j b) at t)
      go (inl a) (inr b) = absurd (both_ways _ (apart i a) (rw (front i a, get_or_push xs row d j (last j b lj)) at t))
      go (inr a) (inl b) = absurd (both_ways _ (apart j b) (laws.symmetric _ _ (rw (front j b, get_or_push xs row d i (last i a li)) at t)))
      go (inr a) (inr b) = omega (arith, last i a li, last j b lj)

  -- in distinct rows two rows have one number exactly where they are equal
  pub found_one : (xs : List R) → Distinct eq xs → (r s : R) (i j : ℕ) → found eq xs r ≡ Some i → found eq xs s ≡ Some j → Exactly i j (eq r s)
  found_one xs ds r s i j e f =
      let hi = found_is eq r xs i r e in
      let hj = found_is eq s xs j r f in
      record {
        one_so_equal = λ p. laws.transitive _ _ _ (laws.symmetric _ _ hi.1) (let t = hj.1 in rw (← p) at t);
        equal_so_one = λ q. ds i j r hi.0 hj.0 (laws.transitive _ _ _ (laws.transitive _ _ _ hi.1 q) (laws.symmetric _ _ hj.1));
      }
