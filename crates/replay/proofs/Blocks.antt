-- Parts of equal width, one behind the other.
use Rattle.std.proofs.Common.{◌≡◌, ℕ, zero, suc, ◌+◌, ◌*◌, ◌<◌, ◌≤◌, List, [], ◌∷◌, ◌++◌, length, get_or, take, drop, set, sym, refl, ap, ◌∙◌, subst, ap₂, ⊎_elim, append_assoc, eq-or-lt_of_le, mul-le-mul_left, one-mul, mul-zero, mul-suc, arith, length-append, length-drop, length-take-le, take_all, take_at, take-add, drop_at}
use lib.Seq.{take-append-le, drop-append-le}
use Rattle.std.proofs.lemmas.List.{append-nil, set_split, get_or_at, get_or_append_left, drop_all}
use Rattle.shelf.specs.Store.{part, written}
use Rattle.replay.specs.Stored.{in_order}

step : (w a b : ℕ) → a < b → w * a + w ≤ w * b
step w a b h = subst (λ n. n ≤ w * b) (mul-suc w a) (mul-le-mul_left w h)

module _ {X : Type 0} where
  -- what is written into the front of a list leaves the rest
  written_left : (at : ℕ) (new xs ys : List X) → at + length new ≤ length xs → written at new (xs ++ ys) ≡ written at new xs ++ ys
  written_left at new xs ys h =
      ap (λ u. u ++ (new ++ drop (at + length new) (xs ++ ys))) (take-append-le at xs ys (omega arith))
      ∙ ap (λ u. take at xs ++ (new ++ u)) (drop-append-le (at + length new) xs ys h)
      ∙ ap (λ u. take at xs ++ u) (sym (append_assoc new (drop (at + length new) xs) ys))
      ∙ sym (append_assoc (take at xs) (new ++ drop (at + length new) xs) ys)

  -- what is written over the end of a list is its end
  written_end : (at : ℕ) (new xs ys : List X) → length xs ≡ at → length new ≡ length ys → written at new (xs ++ ys) ≡ xs ++ new
  written_end at new xs ys p q =
      ap (λ u. u ++ (new ++ drop (at + length new) (xs ++ ys))) (take_at xs ys at p)
      ∙ ap (λ u. xs ++ (new ++ u)) (drop_all (at + length new) (xs ++ ys) (simp length-append (omega arith)))
      ∙ ap (λ u. xs ++ u) (append-nil new)

  -- regions with the same parts below n lie alike
  pub in_order_same : (f g : ℕ → List X) (n : ℕ) → ((q : ℕ) → q < n → f q ≡ g q) → in_order f n ≡ in_order g n
  in_order_same f g zero h = refl
  in_order_same f g (suc n) h = λ i. in_order_same f g n (λ q l. h q (omega arith)) i ++ h n (omega arith) i

  -- parts of width w
  module _ (w : ℕ) (f : ℕ → List X) (wide : (q : ℕ) → length (f q) ≡ w) where
    pub length_in_order : (n : ℕ) → length (in_order f n) ≡ w * n
    length_in_order zero = sym (mul-zero w)
    length_in_order (suc n) =
        length-append (in_order f n) (f n) ∙ (λ i. length_in_order n i + wide n i) ∙ sym (mul-suc w n)

    -- the part of region r
    pub part_in_order : (n r : ℕ) → r < n → part (w * r) w (in_order f n) ≡ f r
    part_in_order zero r h = absurd (omega arith)
    part_in_order (suc n) r h = ⊎_elim last (λ l. before l (part_in_order n r l)) (eq-or-lt_of_le {n = r} {m = n} (omega arith))
      where
        last : r ≡ n → part (w * r) w (in_order f (suc n)) ≡ f r
        last e =
            ap (take w) (drop_at (in_order f n) (f n) (w * r) (length_in_order n ∙ ap (λ k. w * k) (sym e)))
            ∙ take_all w (f n) (omega (arith, wide n)) ∙ ap f (sym e)

        before : r < n → part (w * r) w (in_order f n) ≡ f r → part (w * r) w (in_order f (suc n)) ≡ f r
        before l e =
            ap (take w) (drop-append-le (w * r) (in_order f n) (f n) (omega (arith, length_in_order n, step w r n l)))
            ∙ take-append-le w (drop (w * r) (in_order f n)) (f n) (simp length-drop (omega (arith, length_in_order n, step w r n l)))
            ∙ e

    -- where region r alone is written over
    pub written_in_order : (g : ℕ → List X) (n r : ℕ) (new : List X) → r < n → g r ≡ new → length new ≡ w → ((q : ℕ) → (q ≡ r → ⊥) → f q ≡ g q)
        → written (w * r) new (in_order f n) ≡ in_order g n
    written_in_order g zero r new h p s o = absurd (omega arith)
    written_in_order g (suc n) r new h p s o = ⊎_elim last (λ l. before l (written_in_order g n r new l p s o)) (eq-or-lt_of_le {n = r} {m = n} (omega arith))
      where
        last : r ≡ n → written (w * r) new (in_order f (suc n)) ≡ in_order g (suc n)
        last e =
            written_end (w * r) new (in_order f n) (f n) (length_in_order n ∙ ap (λ k. w * k) (sym e)) (s ∙ sym (wide n))
            ∙ (λ i. in_order_same f g n (λ q l. o q (λ t. let z : q ≡ n = t ∙ e in omega arith)) i ++ (sym p ∙ ap g e) i)

        before : r < n → written (w * r) new (in_order f n) ≡ in_order g n → written (w * r) new (in_order f (suc n)) ≡ in_order g (suc n)
        before l e =
            written_left (w * r) new (in_order f n) (f n) (omega (arith, length_in_order n, step w r n l))
            ∙ (λ i. e i ++ o n (λ t. omega arith) i)

  -- what lies before the places that are written over may be written again
  pub written_within : (at j : ℕ) (front new old : List X) → take j (drop at old) ≡ front → at + j ≤ length old → written (at + j) new old ≡ written at (front ++ new) old
  written_within at j front new old e h =
      let n : length front ≡ j = ap length (sym e) ∙ length-take-le j (drop at old) (simp length-drop (omega arith)) in
      let k : at + j + length new ≡ at + length (front ++ new) = simp length-append (omega arith) in
      ap (λ u. u ++ (new ++ drop (at + j + length new) old)) (take-add at j old ∙ ap (λ u. take at old ++ u) e)
      ∙ append_assoc (take at old) front (new ++ drop (at + j + length new) old)
      ∙ ap (λ u. take at old ++ (front ++ (new ++ drop u old))) k
      ∙ ap (λ u. take at old ++ u) (sym (append_assoc front new (drop (at + length (front ++ new)) old)))

  -- lists of one element for each region
  module _ (f : ℕ → X) where
    abbrev one : ℕ → List X
    one q = f q ∷ []

    count : (n : ℕ) → length (in_order one n) ≡ n
    count n = length_in_order 1 one (λ q. refl) n ∙ one-mul n

    pub getD_in_order : (n r : ℕ) (d : X) → r < n → get_or (in_order one n) r d ≡ f r
    getD_in_order zero r d h = absurd (omega arith)
    getD_in_order (suc n) r d h =
        ⊎_elim (λ e. get_or_at (in_order one n) (f n) [] d r (count n ∙ sym e) ∙ ap f (sym e))
        (λ l. get_or_append_left (in_order one n) (f n ∷ []) d r (omega (arith, count n)) ∙ getD_in_order n r d l)
        (eq-or-lt_of_le {n = r} {m = n} (omega arith))

    pub set_in_order : (g : ℕ → X) (n r : ℕ) → r < n → ((q : ℕ) → (q ≡ r → ⊥) → f q ≡ g q) → set (in_order one n) r (g r) ≡ in_order (λ q. g q ∷ []) n
    set_in_order g n r h o =
        set_split (in_order one n) r (g r) (omega (arith, count n))
        ∙ ap₂ (λ a b. take a (in_order one n) ++ g r ∷ drop b (in_order one n)) (sym (one-mul r)) (let e : suc r ≡ 1 * r + 1 = omega arith in e)
        ∙ written_in_order 1 one (λ q. refl) (λ q. g q ∷ []) n r (g r ∷ []) h refl refl (λ q ne. ap (λ x. x ∷ []) (o q ne))
