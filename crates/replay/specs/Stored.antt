-- How what regions hold lies on a shelf, in its rows and in its labels.
use Rattle.std.specs.Prelude.{ℕ, zero, suc, List, [], ◌∷◌, ◌++◌, replicate, Some, None, Option}
use Rattle.std.specs.Option.{option_map}
use Rattle.region.specs.declared.label.LabelRow.{LabelRow}
use Rattle.region.specs.declared.row.Row.{Row}
use Rattle.region.specs.Labels.{unused}
use Rattle.region.specs.Listing.{source_kept, schedule_kept}
use Rattle.region.specs.Pieces.{schedule_rows}
use Rattle.region.specs.Rows.{blank, laid}
use Rattle.region_text.specs.Schedules.{Schedule}
use Rattle.region_text.specs.Sources.{Source}
use Rattle.shelf.specs.Store.{KeptRegion, Store}
use Rattle.replay.specs.Held.{Held}

-- the 96 rows of a source, the 288 of a schedule and the nine label rows, blank and unused where none is held
abbrev pub source_part : Option Source → List Row
source_part None = replicate 96 blank
source_part (Some s) = laid 96 blank s.rows

abbrev pub schedule_part : Option Schedule → List Row
schedule_part None = replicate 288 blank
schedule_part (Some x) = schedule_rows x.rows x.exits x.entries

abbrev pub label_part : Option Source → List LabelRow
label_part None = replicate 9 unused
label_part (Some s) = laid 9 unused s.labels

-- a region's 384 rows
abbrev pub rows_part : Held → List Row
rows_part h = source_part h.source ++ schedule_part h.schedule

-- what is kept of a region: the lengths, joins and end labels of its lines, and the mark
abbrev pub record_of : Held → KeptRegion
record_of h = record {
  source = option_map (λ s. source_kept s.rows s.end) h.source;
  schedule = option_map (λ x. schedule_kept x.rows x.exits x.entries x.end) h.schedule;
  mark = h.verdict;
}

-- the parts of regions 0, 1, .., n - 1, one behind the other
abbrev pub in_order : {X : Type 0} → (ℕ → List X) → ℕ → List X
in_order f zero = []
in_order f (suc n) = in_order f n ++ f n

-- the store of a shelf with n regions that hold this; sixteen records are kept, whatever n is
abbrev pub stored : ℕ → (ℕ → Held) → Store
stored n holds = record {
  count = n;
  regions = in_order (λ r. record_of (holds r) ∷ []) 16;
  rows = in_order (λ r. rows_part (holds r)) n;
  labels = in_order (λ r. label_part (holds r).source) n;
}
