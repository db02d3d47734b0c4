-- Beyond the eighth exit and the fourth join a piece is empty.
use Rattle.std.proofs.Common.{◌≡◌, ℕ, ◌≤◌, List, [], get_or, take, drop, sym, ap, arith, length-take, length-drop}
use Rattle.std.proofs.lemmas.List.{get_or_past}
use Rattle.region.specs.declared.row.Row.{Row}
use Rattle.region.specs.declared.shape.Shape.{Shape}
use Rattle.region.specs.Kept.{kept}
use Rattle.region.specs.Layout.{exit_rows, join_rows, exit_piece_at, join_piece_at}

module _ (sh : Shape) (k : ℕ) where
  pub no_exit : 8 ≤ k → 0 ≡ get_or (kept sh).exits k 0
  no_exit h = sym (get_or_past (take 8 sh.pieces) k 0 (omega (arith, length-take 8 sh.pieces)))

  pub no_join : 4 ≤ k → 0 ≡ get_or (kept sh).entries k 0
  no_join h = sym (get_or_past (drop 8 sh.pieces) k 0 (omega (arith, sh.twelve, length-drop 8 sh.pieces)))

  pub no_exit_rows : (part : List Row) → 8 ≤ k → [] ≡ exit_rows part (kept sh) k
  no_exit_rows part h = ap (λ n. take n (drop (exit_piece_at k) part)) (no_exit h)

  pub no_join_rows : (part : List Row) → 4 ≤ k → [] ≡ join_rows part (kept sh) k
  no_join_rows part h = ap (λ n. take n (drop (join_piece_at k) part)) (no_join h)
