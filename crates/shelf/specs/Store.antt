-- The shelf, the rows and the labels together: what calls read and leave.
use Rattle.std.specs.Prelude.{ℕ, ◌+◌, ◌*◌, List, ◌++◌, map, length, take, drop, None, Option}
use Rattle.std.specs.Option.{option_map}
use Rattle.region.specs.declared.label.LabelRow.{LabelRow}
use Rattle.region.specs.declared.row.Row.{Row}
use Rattle.region.specs.Kept.{Kept, kept}
use Rattle.validator.specs.declared.verdict.Verdict.{Verdict}
use Rattle.shelf.specs.declared.keeping.Shelf.{Shelf}
use Rattle.shelf.specs.declared.record.Record.{Record}

-- what is kept of a region, in plain numbers
pub record KeptRegion : Type 0 where
  pub source : Option Kept
  pub schedule : Option Kept
  pub mark : Option Verdict

abbrev pub kept_region : Record → KeptRegion
kept_region k = record { source = option_map kept k.source; schedule = option_map kept k.schedule; mark = k.mark }

-- a region that holds nothing
abbrev pub empty_region : KeptRegion
empty_region = record { source = None; schedule = None; mark = None }

pub record Store : Type 0 where
  pub count : ℕ
  pub regions : List KeptRegion
  pub rows : List Row
  pub labels : List LabelRow

abbrev pub store : Shelf → List Row → List LabelRow → Store
store s rows labels = record { count = s.count; regions = map kept_region s.regions; rows = rows; labels = labels }

-- n elements from a place on
abbrev pub part : {X : Type 0} → ℕ → ℕ → List X → List X
part at n xs = take n (drop at xs)

-- old with new written over it, from a place on
abbrev pub written : {X : Type 0} → ℕ → List X → List X → List X
written at new old = take at old ++ (new ++ drop (at + length new) old)

-- Region r owns the 384 rows that begin at row 384 r, and the nine label rows that begin at 9 r.
abbrev pub rows_of_region : Store → ℕ → List Row
rows_of_region st r = part (384 * r) 384 st.rows

abbrev pub labels_of_region : Store → ℕ → List LabelRow
labels_of_region st r = part (9 * r) 9 st.labels
