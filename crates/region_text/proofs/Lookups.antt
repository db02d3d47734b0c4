-- Labels are found and numbered in the table as their rows are in a list.
use Rattle.std.proofs.Common.{◌≡◌, ℕ, ◌+◌, Bool, true, false, cond, not, ltb, List, [], ◌∷◌, ◌++◌, length, map, Some, None, Option, Ok, sym, refl, ap, ◌∙◌, arith, rules}
use Rattle.std.specs.Prelude.{Decides}
use Rattle.std.specs.Str.{bytes_eq}
use Rattle.std.proofs.lemmas.Slice.Eq.{bytes_eq-Decides}
use Rattle.std.proofs.lemmas.List.{length-map, map_push}
use Rattle.std.specs.List.{position_or_len}
use Rattle.numbering.specs.Rows.{found, numbered, or_next, or_pushed, with_row}
use Rattle.region.specs.declared.label.LabelRow.{LabelRow}
use Rattle.region_text.specs.declared.label.Declared.{Declared}
use Rattle.region_text.specs.Names.{same_label}
use Rattle.region_text.specs.Texts.{LineFields}
use Rattle.region_text.specs.Records.{label_row}

-- what decides the equality of bytes is their test
pub bytes_tested : (xs ys : List ℕ) (r : Bool) → Decides r (xs ≡ ys) → r ≡ bytes_eq xs ys
bytes_tested xs ys r h = search (rules, bytes_eq-Decides)

abbrev pub same_declared : Declared → Declared → Bool
same_declared x y = same_label x.row y.row

abbrev pub declared : LabelRow → Declared
declared x = record { row = x }

abbrev rows : List Declared → List LabelRow
rows = map (λ d. d.row)

module _ (d : Declared) where
  places : (ds : List Declared) → position_or_len (λ x. same_declared x d) ds ≡ position_or_len (λ x. same_label x d.row) (rows ds)
  places [] = refl
  places (x ∷ ds) = ap (λ n. cond (not (same_label x.row d.row)) (1 + n) 0) (places ds)

  pub found_rows : (ds : List Declared) → found same_declared ds d ≡ found same_label (rows ds) d.row
  found_rows ds = rw (places ds, ← length-map ds (λ d. d.row))

  pub numbered_rows : (room : ℕ) (ds : List Declared) → numbered same_declared room ds d ≡ numbered same_label room (rows ds) d.row
  numbered_rows room ds = ap (λ o. or_next o room (length ds)) (found_rows ds) ∙ ap (or_next (found same_label (rows ds) d.row) room) (sym (length-map ds (λ d. d.row)))

  pushed : (room : ℕ) (ds : List Declared) (o : Option ℕ) → rows (or_pushed o room ds d) ≡ or_pushed o room (rows ds) d.row
  pushed room ds (Some i) = refl
  pushed room ds None =
      rw (length-map ds (λ d. d.row))
      (elim (ltb (length ds) room) as (λ b. rows (cond b (ds ++ d ∷ []) ds) ≡ cond b (rows ds ++ d.row ∷ []) (rows ds)) [ true ↦ map_push (λ d. d.row) ds d | false ↦ refl ])

  pub rows_with : (room : ℕ) (ds : List Declared) → rows (with_row same_declared room ds d) ≡ with_row same_label room (rows ds) d.row
  rows_with room ds = pushed room ds (found same_declared ds d) ∙ ap (λ o. or_pushed o room (rows ds) d.row) (found_rows ds)

-- the label row of a line has a name that no label has yet
pub label_is_new : (x : LineFields) (labels : List LabelRow) (row : LabelRow) → label_row x labels ≡ Ok row → found same_label labels row ≡ None
label_is_new x labels row e = grind arith

-- a row that is not found gets the next number where there is room, and stands behind the others then
pub numbered_next : (room : ℕ) (xs : List LabelRow) (row : LabelRow) → found same_label xs row ≡ None → numbered same_label room xs row ≡ cond (ltb (length xs) room) (Some (length xs)) None
numbered_next room xs row e = ap (λ o. or_next o room (length xs)) e

pub row_behind : (room : ℕ) (xs : List LabelRow) (row : LabelRow) → found same_label xs row ≡ None → with_row same_label room xs row ≡ cond (ltb (length xs) room) (xs ++ row ∷ []) xs
row_behind room xs row e = ap (λ o. or_pushed o room xs row) e
