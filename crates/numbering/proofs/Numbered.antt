-- What numbering a row means, over plain lists.
use Rattle.std.proofs.Common.{◌≡◌, ℕ, ◌+◌, ◌<◌, ◌≤◌, Bool, true, false, cond, ltb, List, [], ◌∷◌, ◌++◌, length, Some, None, Option, sym, refl, ◌∙◌, arith}
use Rattle.std.proofs.lemmas.Bool.{ltb-true, ltb-false}
use Rattle.std.proofs.lemmas.List.{append-nil, length_push}
use Rattle.numbering.specs.Rows.{found, or_next, or_pushed, numbered, with_row, Distinct, Equivalence, KeptDistinct, OneNumber}
use Rattle.numbering.proofs.Found.{found_kept, found_push, distinct_push, found_one}

module _ {R : Type 0} (eq : R → R → Bool) (room : ℕ) (xs : List R) (row : R) where
  -- what holds of the answer and of the rows after it, in each of the three ways, holds
  pub by_ways : (P : Option ℕ → List R → Type 0)
      → ((i : ℕ) → found eq xs row ≡ Some i → P (Some i) xs)
      → (found eq xs row ≡ None → length xs < room → P (Some (length xs)) (xs ++ row ∷ []))
      → (found eq xs row ≡ None → room ≤ length xs → P None xs)
      → P (numbered eq room xs row) (with_row eq room xs row)
  by_ways P there pushed full = go (found eq xs row) refl
    where
      test : found eq xs row ≡ None → (b : Bool) → ltb (length xs) room ≡ b → P (cond b (Some (length xs)) None) (cond b (xs ++ row ∷ []) xs)
      test e true t = pushed e (ltb-true _ _ t)
      test e false t = full e (ltb-false _ _ t)

      go : (o : Option ℕ) → found eq xs row ≡ o → P (or_next o room (length xs)) (or_pushed o room xs row)
      go (Some i) e = there i e
      go None e = test e (ltb (length xs) room) refl

  -- the rows that were there stay in front
  pub extended : (ys : List R) × (with_row eq room xs row ≡ xs ++ ys)
  extended =
      by_ways (λ o after. (ys : List R) × (after ≡ xs ++ ys))
      (λ i e. ([], sym (append-nil xs))) (λ e l. (row ∷ [], refl)) (λ e l. ([], sym (append-nil xs)))

  -- a number once given stays
  pub number_kept : (s : R) (j : ℕ) → found eq xs s ≡ Some j → found eq (with_row eq room xs row) s ≡ Some j
  number_kept s j f = let e = extended in rw e.1 (found_kept eq s xs e.0 j f)

  -- there is one row more at most, and no more than there is room for
  pub length_grows : length (with_row eq room xs row) ≤ length xs + 1
  length_grows =
      by_ways (λ o after. length after ≤ length xs + 1)
      (λ i e. omega arith) (λ e l. omega (arith, length_push xs row)) (λ e l. omega arith)

  pub length_inside : length xs ≤ room → length (with_row eq room xs row) ≤ room
  length_inside h =
      by_ways (λ o after. length after ≤ room)
      (λ i e. h) (λ e l. omega (arith, length_push xs row)) (λ e l. h)

  -- where there is room, the row gets a number
  pub gets_number : length xs < room → (i : ℕ) × (numbered eq room xs row ≡ Some i)
  gets_number h =
      by_ways (λ o after. (i : ℕ) × (o ≡ Some i))
      (λ i e. (i, refl)) (λ e l. (length xs, refl)) (λ e l. absurd (omega arith))

  -- the number is that of the row in the rows after
  pub numbered_found : eq row row ≡ true → (i : ℕ) → numbered eq room xs row ≡ Some i → found eq (with_row eq room xs row) row ≡ Some i
  numbered_found own i =
      by_ways (λ o after. o ≡ Some i → found eq after row ≡ Some i)
      (λ k e p. e ∙ p) (λ e l p. found_push eq row own xs e ∙ p) (λ e l p. cc)

module _ {R : Type 0} (eq : R → R → Bool) (laws : Equivalence eq) (room : ℕ) (xs : List R) (row : R) where
  -- numbering keeps rows distinct
  pub distinct_with_row : (after : List R) → after ≡ with_row eq room xs row → KeptDistinct eq xs after
  distinct_with_row after a ds =
      rw a
      (by_ways eq room xs row (λ o ys. Distinct eq ys)
      (λ i e. ds) (λ e l. distinct_push eq laws xs row ds e) (λ e l. ds))

  -- equal rows get one number
  pub one_number : (after : List R) (answer : Option ℕ) → answer ≡ numbered eq room xs row → after ≡ with_row eq room xs row → OneNumber eq xs after row answer
  one_number after answer r a ds s i j ri sj =
      let there : found eq after row ≡ Some i = rw a (numbered_found eq room xs row (laws.reflexive row) i (sym r ∙ ri)) in
      found_one eq laws after (distinct_with_row after a ds) row s i j there sj
