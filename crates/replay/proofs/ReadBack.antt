-- The lines that are read from a region's rows are those that the texts say.
use Rattle.std.proofs.Common.{◌≡◌, ℕ, zero, suc, ◌+◌, ◌*◌, eqb, List, [], ◌∷◌, ◌++◌, map, length, get_or, take, drop, replicate, sym, refl, ap, ◌∙◌, ap₂, append_assoc, add-one, one-add, arith, length-append, drop-drop, drop_at}
use mathlib.Core.Path.{fun_ext}
use Rattle.std.proofs.lemmas.List.{append-nil}
use Rattle.std.proofs.lemmas.List.Sums.{sum_by-cons}
use Rattle.region.specs.declared.label.LabelRow.{LabelRow}
use Rattle.region.specs.declared.row.Row.{Row}
use Rattle.region.specs.declared.row.Row.TheVariants.{Act, Exit, Join}
use Rattle.region.specs.declared.side.Side.TheVariants as side
use Rattle.region.specs.Kept.{Kept}
use Rattle.region.specs.Labels.{unused}
use Rattle.region.specs.Layout.{exit_rows, join_rows}
use Rattle.region.specs.Lines.{act, exit, join, joins, places_of, assembled}
use Rattle.region.specs.Listing.{source_kept, schedule_kept}
use Rattle.region.specs.Pieces.{laid_pieces, schedule_rows}
use Rattle.region.specs.Rows.{actions, blank, joins_in, one_join, laid}
use Rattle.region.proofs.Laid.{get_or_repeated, length_laid, take_laid, laid_else}
use Rattle.region_text.specs.Schedules.{Schedule}
use Rattle.region_text.specs.Sources.{Source}
use Rattle.validator.specs.Live.{bit, live_in}
use Rattle.replay.specs.Said.{placed, source_line, schedule_line}
use Rattle.region_text.proofs.Fits.{Short, ScheduleFits}

-- the places of rows whose exits and joins have these pieces
module _ (part : List Row) (sh : Kept) (exits entries : List (List Row))
    (exit_is : (k : ℕ) → exit_rows part sh k ≡ get_or exits k []) (join_is : (j : ℕ) → join_rows part sh j ≡ get_or entries j []) where
  places_said : (k j : ℕ) (rs : List Row) → places_of part sh k j (joins_in rs) rs ≡ placed exits entries k j rs
  places_said k j [] = refl
  places_said k j (Act a ∷ rs) = ap (λ ps. act a ∷ ps) (places_said k j rs)
  places_said k j (Exit t l ∷ rs) = ap₂ (λ p ps. exit t l (actions p) ∷ ps) (exit_is k) (places_said (k + 1) j rs)
  places_said k j (Join ∷ rs) =
      ap (λ n. places_of part sh k j n (Join ∷ rs)) (sum_by-cons one_join Join rs ∙ one-add (joins_in rs))
      ∙ ap₂ (λ p ps. join (actions p) ∷ ps) (join_is j)
      (ap (λ i. places_of part sh k i (joins_in rs) rs) (sym (add-one j)) ∙ places_said k (j + 1) rs)

-- a line's joins are its join rows
pub joins_said : (exits entries : List (List Row)) (k j : ℕ) (rs : List Row) → joins (placed exits entries k j rs) ≡ joins_in rs
joins_said exits entries k j [] = refl
joins_said exits entries k j (Act a ∷ rs) = joins_said exits entries k j rs
joins_said exits entries k j (Exit t l ∷ rs) = joins_said exits entries (k + 1) j rs
joins_said exits entries k j (Join ∷ rs) = ap suc (joins_said exits entries k (j + 1) rs) ∙ sym (sum_by-cons one_join Join rs ∙ one-add (joins_in rs))

-- a source, whatever lies behind it
pub source_back : (s : Source) (rest : List Row) → assembled side.Source (laid 96 blank s.rows ++ rest) (source_kept s.rows s.end) ≡ source_line s
source_back s rest = λ i. record { places = places i; end = s.end }
  where
    part : List Row
    part = laid 96 blank s.rows ++ rest

    sh : Kept
    sh = source_kept s.rows s.end

    none : (k n at : ℕ) → take (get_or (replicate n 0) k 0) (drop at (laid 96 blank s.rows ++ rest)) ≡ []
    none k n at = ap (λ i. take i (drop at (laid 96 blank s.rows ++ rest))) (get_or_repeated n k 0)

    places : places_of (laid 96 blank s.rows ++ rest) (source_kept s.rows s.end) 0 0 (joins_in s.rows) (take (length s.rows) (laid 96 blank s.rows ++ rest))
        ≡ placed [] [] 0 0 s.rows
    places =
        ap (places_of (laid 96 blank s.rows ++ rest) (source_kept s.rows s.end) 0 0 (joins_in s.rows)) (take_laid 96 blank s.rows rest)
        ∙ places_said (laid 96 blank s.rows ++ rest) (source_kept s.rows s.end) [] [] (λ k. none k 8 (192 + 16 * k)) (λ j. none j 4 (320 + 16 * j)) 0 0 s.rows

-- so many pieces lie in sixteen times as many places
pub length_pieces : (ps : List (List Row)) → Short ps → length (laid_pieces ps) ≡ 16 * length ps
length_pieces [] h = refl
length_pieces (p ∷ ps) h =
    length-append (laid 16 blank p) (laid_pieces ps) ∙ (λ i. length_laid 16 blank p h.0 i + length_pieces ps h.1 i) ∙ omega arith

-- each piece is found at its place
piece_back : (ps : List (List Row)) (rest : List Row) (k : ℕ) → Short ps → take (get_or (map length ps) k 0) (drop (16 * k) (laid_pieces ps ++ rest)) ≡ get_or ps k []
piece_back [] rest k h = refl
piece_back (p ∷ ps) rest zero h =
    ap (take (length p)) (append_assoc (laid 16 blank p) (laid_pieces ps) rest) ∙ take_laid 16 blank p (laid_pieces ps ++ rest)
piece_back (p ∷ ps) rest (suc k) h =
    ap (take (get_or (map length ps) k 0))
    (ap₂ drop (let e : 16 * suc k ≡ 16 + 16 * k = omega arith in e) (append_assoc (laid 16 blank p) (laid_pieces ps) rest)
    ∙ sym (drop-drop (16 * k) 16 (laid 16 blank p ++ (laid_pieces ps ++ rest)))
    ∙ ap (drop (16 * k)) (drop_at (laid 16 blank p) (laid_pieces ps ++ rest) 16 (length_laid 16 blank p h.0)))
    ∙ piece_back ps rest k h.1

-- a schedule, behind the 96 rows of a source
pub schedule_back : (front : List Row) (x : Schedule) → length front ≡ 96 → ScheduleFits x
    → assembled side.Schedule (front ++ schedule_rows x.rows x.exits x.entries) (schedule_kept x.rows x.exits x.entries x.end) ≡ schedule_line x
schedule_back front x e f = λ i. record { places = places i; end = x.end }
  where
    part : List Row
    part = front ++ schedule_rows x.rows x.exits x.entries

    sh : Kept
    sh = schedule_kept x.rows x.exits x.entries x.end

    at_main : drop 96 (front ++ schedule_rows x.rows x.exits x.entries) ≡ schedule_rows x.rows x.exits x.entries
    at_main = drop_at front (schedule_rows x.rows x.exits x.entries) 96 e

    at_exits : drop 192 (front ++ schedule_rows x.rows x.exits x.entries) ≡ laid_pieces x.exits ++ laid_pieces x.entries
    at_exits =
        sym (drop-drop 96 96 (front ++ schedule_rows x.rows x.exits x.entries)) ∙ ap (drop 96) at_main
        ∙ drop_at (laid 96 blank x.rows) (laid_pieces x.exits ++ laid_pieces x.entries) 96 (length_laid 96 blank x.rows f.rows)

    at_joins : drop 320 (front ++ schedule_rows x.rows x.exits x.entries) ≡ laid_pieces x.entries
    at_joins =
        sym (drop-drop 128 192 (front ++ schedule_rows x.rows x.exits x.entries)) ∙ ap (drop 128) at_exits
        ∙ drop_at (laid_pieces x.exits) (laid_pieces x.entries) 128 (length_pieces x.exits f.exits ∙ ap (λ n. 16 * n) f.eight)

    exit_is : (k : ℕ) → exit_rows part sh k ≡ get_or x.exits k []
    exit_is k =
        ap (take (get_or (map length x.exits) k 0)) (sym (drop-drop (16 * k) 192 part) ∙ ap (drop (16 * k)) at_exits)
        ∙ piece_back x.exits (laid_pieces x.entries) k f.exits

    join_is : (j : ℕ) → join_rows part sh j ≡ get_or x.entries j []
    join_is j =
        ap (take (get_or (map length x.entries) j 0))
        (sym (drop-drop (16 * j) 320 part) ∙ ap (drop (16 * j)) (at_joins ∙ sym (append-nil (laid_pieces x.entries))))
        ∙ piece_back x.entries [] j f.entries

    places : places_of part sh 0 0 (joins_in x.rows) (take (length x.rows) (drop 96 part)) ≡ placed x.exits x.entries 0 0 x.rows
    places =
        ap (places_of part sh 0 0 (joins_in x.rows))
        (ap (take (length x.rows)) at_main ∙ take_laid 96 blank x.rows (laid_pieces x.exits ++ laid_pieces x.entries))
        ∙ places_said part sh x.exits x.entries exit_is join_is 0 0 x.rows

-- unused label rows behind those of a source keep no register live
pub live_back : (labels : List LabelRow) → live_in (laid 9 unused labels) ≡ live_in labels
live_back labels = fun_ext (λ l. fun_ext (λ i. ap (λ row. eqb (bit i row.live) 1) (laid_else 9 unused labels l.index)))
