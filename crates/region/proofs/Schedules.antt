-- Pieces as they are put in, and laid out behind a main line.
use Rattle.std.proofs.Common.{◌≡◌, ℕ, zero, suc, ◌+◌, ◌*◌, ◌<◌, ◌≤◌, List, [], ◌∷◌, ◌++◌, map, length, get_or, take, drop, set, replicate, sym, refl, ap, ◌∙◌, append_assoc, append-nil, zero-le, arith, length-append, length-drop}
use Rattle.std.specs.Prelude.{Bool, true, false, cond}
use Rattle.std.proofs.Math.Seq.{map-set_same}
use Rattle.std.proofs.lemmas.List.{length-take-le, take_at, take_more, map-append, map-set, get_or-map}
use Rattle.region.specs.declared.buffer.RowBuffer.{RowBuffer}
use Rattle.region.specs.declared.row.Row.{Row}
use Rattle.region.specs.Filled.{filled}
use Rattle.region.specs.Pieces.{laid_pieces, put_in}
use Rattle.region.specs.Rows.{blank, laid}
use Rattle.region.proofs.Filling.{places, filled_length}

-- a piece with one row more
pub put_piece : (ps : List (RowBuffer 16)) (p : ℕ) (r : Row) (d now : RowBuffer 16) → p < length ps → filled now ≡ filled (get_or ps p d) ++ r ∷ []
    → map filled (set ps p now) ≡ put_in (map filled ps) p r
put_piece ps p r d now h f =
    map-set filled ps p now ∙ ap (set (map filled ps) p) (f ∙ ap (λ xs. xs ++ r ∷ []) (sym (get_or-map filled ps p d [] h)))

-- the pieces after one of them was given a row, which it took or did not
pub pushed_piece : (taken : Bool) (ps : List (RowBuffer 16)) (p : ℕ) (r : Row) (d now : RowBuffer 16) → p < length ps
    → filled now ≡ cond taken (filled (get_or ps p d) ++ r ∷ []) (filled (get_or ps p d))
    → map filled (set ps p now) ≡ cond taken (put_in (map filled ps) p r) (map filled ps)
pushed_piece true ps p r d now h f = put_piece ps p r d now h f
pushed_piece false ps p r d now h f = map-set_same filled ps p now d f

pub none_put : RowBuffer 16
none_put = record { rows = replicate 16 blank; len = 0; few = zero-le; padded = refl }

-- no piece is longer than sixteen rows
pub short : (bs : List (RowBuffer 16)) (p : ℕ) → get_or (map length (map filled bs)) p 0 ≤ 16
short [] p = zero-le
short (b ∷ bs) zero = omega (arith, filled_length b, b.few)
short (b ∷ bs) (suc p) = short bs p

laid_one_more : (ps : List (List Row)) (p : List Row) → laid_pieces (ps ++ p ∷ []) ≡ laid_pieces ps ++ laid 16 blank p
laid_one_more [] p = append-nil (laid 16 blank p)
laid_one_more (q ∷ ps) p = ap (λ xs. laid 16 blank q ++ xs) (laid_one_more ps p) ∙ sym (append_assoc (laid 16 blank q) (laid_pieces ps) (laid 16 blank p))

-- rows with one piece more laid behind the first of them
module _ (bs : List (RowBuffer 16)) (rows main : List Row) (p : ℕ) (d : RowBuffer 16) (long : length rows ≡ 288) (few : p < 12) (all : length bs ≡ 12) where
  abbrev b : RowBuffer 16
  b = get_or bs p d

  abbrev at : ℕ
  at = 96 + 16 * p

  abbrev then : List Row
  then = take at rows ++ (laid 16 blank (filled b) ++ drop (at + 16) rows)

  sixteen : length (laid 16 blank (filled b)) ≡ 16
  sixteen = ap length (sym b.padded) ∙ places b

  pub laid_long : length then ≡ 288
  laid_long =
      let new = laid 16 blank (filled b) in
      let rest = drop (at + 16) rows in
      length-append (take at rows) (new ++ rest)
      ∙ omega (arith, length-take-le at rows (omega (arith, long)), length-append new rest, sixteen, length-drop (at + 16) rows, long)

  pub laid_on : take at rows ≡ main ++ laid_pieces (map filled (take p bs)) → take (96 + 16 * (p + 1)) then ≡ main ++ laid_pieces (map filled (take (p + 1) bs))
  laid_on e =
      let new = laid 16 blank (filled b) in
      let rest = drop (at + 16) rows in
      let past : 96 + 16 * (p + 1) ≡ at + 16 = omega arith in
      let front : length (take at rows ++ new) ≡ at + 16 = length-append (take at rows) new ∙ omega (arith, sixteen, length-take-le at rows (omega (arith, long))) in
      let more : take (p + 1) bs ≡ take p bs ++ b ∷ [] = take_more bs p d (omega (arith, all)) in
      ap (λ k. take k then) past
      ∙ ap (take (at + 16)) (sym (append_assoc (take at rows) new rest))
      ∙ take_at (take at rows ++ new) rest (at + 16) front
      ∙ ap (λ xs. xs ++ new) e
      ∙ append_assoc main (laid_pieces (map filled (take p bs))) new
      ∙ ap (λ xs. main ++ xs) (sym (laid_one_more (map filled (take p bs)) (filled b)) ∙ ap laid_pieces (sym (ap (map filled) more ∙ map-append filled (take p bs) (b ∷ []))))

-- pieces that stand side by side are laid out side by side
pub laid_apart : (n : ℕ) (ps : List (List Row)) → laid_pieces ps ≡ laid_pieces (take n ps) ++ laid_pieces (drop n ps)
laid_apart zero ps = refl
laid_apart (suc n) [] = refl
laid_apart (suc n) (p ∷ ps) =
    ap (λ xs. laid 16 blank p ++ xs) (laid_apart n ps) ∙ sym (append_assoc (laid 16 blank p) (laid_pieces (take n ps)) (laid_pieces (drop n ps)))
