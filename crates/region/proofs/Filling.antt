-- Rows as they are put in.
use Rattle.std.proofs.Common.{◌≡◌, ℕ, suc, ◌+◌, ◌-◌, ◌<◌, ◌≤◌, false, ◌&&◌, nat_le, List, [], ◌∷◌, ◌++◌, length, take, set, replicate, sym, ap, ◌∙◌, ap₂, append_assoc, arith, length-append, length-take}
use lib.ListN.{length-replicate}
use Rattle.std.proofs.lemmas.List.{length-take-le, take_more_set, set_at, length_push}
use Rattle.std.proofs.lemmas.Bool.{lt-leb}
use Rattle.std.proofs.Math.Bool.{and-false}
use Rattle.std.proofs.lemmas.List.Sums.{sum_by_push}
use Rattle.region.specs.declared.main_rows.MainRows.{MainRows}
use Rattle.region.specs.declared.buffer.RowBuffer.{RowBuffer}
use Rattle.region.specs.declared.row.Row.{Row}
use Rattle.region.specs.Filled.{filled}
use Rattle.region.specs.Listing.{listed}
use Rattle.region.specs.Rows.{blank, laid, one_exit, one_join, exits_in, joins_in, main_fits}

module _ {X : Type 0} (size n : ℕ) (x : X) (xs : List X) (few : n ≤ size) (padded : xs ≡ laid size x (take n xs)) where
  -- the places are all there
  pub laid_size : length xs ≡ size
  laid_size =
      let h : length xs ≡ length (take n xs) + (size - length (take n xs)) = simp (length-append, length-replicate) at (ap length padded) in
      omega (arith, length-take n xs)

  front : length (take n xs) ≡ n
  front = length-take-le n xs (omega (arith, laid_size))

  -- one row more, and padded still
  pub laid_more : (r : X) → n < size → set xs n r ≡ laid size x (take (n + 1) (set xs n r))
  laid_more r h =
      let e : size - length (take n xs) ≡ suc (size - (n + 1)) = omega (arith, front) in
      let was : xs ≡ take n xs ++ (x ∷ replicate (size - (n + 1)) x) = padded ∙ ap (λ k. take n xs ++ replicate k x) e in
      let put : set xs n r ≡ take n xs ++ (r ∷ replicate (size - (n + 1)) x) =
      ap (λ ys. set ys n r) was ∙ set_at (take n xs) x (replicate (size - (n + 1)) x) r n front in
      let now_front : take (n + 1) (set xs n r) ≡ take n xs ++ r ∷ [] = take_more_set xs n r (omega (arith, laid_size)) in
      let long : length (take n xs ++ r ∷ []) ≡ n + 1 = length_push (take n xs) r ∙ ap (λ k. k + 1) front in
      put ∙ sym (append_assoc (take n xs) (r ∷ []) (replicate (size - (n + 1)) x))
      ∙ ap (λ k. (take n xs ++ r ∷ []) ++ replicate (size - k) x) (sym long)
      ∙ ap (λ ys. laid size x ys) (sym now_front)

-- a buffer has as many rows as its length says
module _ {N : ℕ} (b : RowBuffer N) where
  pub places : length b.rows ≡ N
  places = laid_size N b.len blank b.rows b.few b.padded

  pub filled_length : length (filled b) ≡ b.len
  filled_length = length-take-le b.len b.rows (omega (arith, b.few, places))

-- main rows with one row more
module _ (m : MainRows) (r : Row) (x j : ℕ) (exit_is : x ≡ one_exit r) (join_is : j ≡ one_join r) where
  pub exits_more : m.exits + x ≡ exits_in (listed m ++ r ∷ [])
  exits_more = ap₂ (λ p q. p + q) m.exits_counted exit_is ∙ sym (sum_by_push one_exit (listed m) r)

  pub joins_more : m.joins + j ≡ joins_in (listed m ++ r ∷ [])
  joins_more = ap₂ (λ p q. p + q) m.joins_counted join_is ∙ sym (sum_by_push one_join (listed m) r)

  pub too_many_exits : 8 < m.exits + x → false ≡ main_fits (listed m ++ r ∷ [])
  too_many_exits h = rw (← exits_more, lt-leb (m.exits + x) 8 h, and-false (nat_le (length (listed m ++ r ∷ [])) 96))

  pub too_many_joins : 4 < m.joins + j → false ≡ main_fits (listed m ++ r ∷ [])
  too_many_joins h = rw (← joins_more, lt-leb (m.joins + j) 4 h, and-false (nat_le (length (listed m ++ r ∷ [])) 96 && nat_le (exits_in (listed m ++ r ∷ [])) 8))
