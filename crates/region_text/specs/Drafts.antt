-- How a source and a schedule are laid out.
use Rattle.std.specs.Prelude.{List, Ok, Err, Result}
use Rattle.region.specs.declared.row.Row.{Row}
use Rattle.region.specs.declared.label.LabelRow.{LabelRow}
use Rattle.region.specs.Labels.{unused}
use Rattle.region.specs.Rows.{blank, laid}
use Rattle.region.specs.Kept.{Kept, kept}
use Rattle.region.specs.Listing.{source_kept, schedule_kept}
use Rattle.region.specs.Pieces.{schedule_rows}
use Rattle.region_text.specs.declared.draft.SourceDraft.{SourceDraft}
use Rattle.region_text.specs.declared.draft.ScheduleDraft.{ScheduleDraft}
use Rattle.region_text.specs.declared.fault.Refusal.{Refusal}
use Rattle.region_text.specs.Sources.{Source}
use Rattle.region_text.specs.Schedules.{Schedule}

-- nine label rows, 96 rows, and the numbers that are kept beside them
pub record Draft : Type 0 where
  pub labels : List LabelRow
  pub rows : List Row
  pub kept : Kept

-- what a draft holds
abbrev pub drafted : Result SourceDraft Refusal → Result Draft Refusal
drafted (Ok d) = Ok (record { labels = d.labels; rows = d.rows; kept = kept d.shape })
drafted (Err f) = Err f

-- a source laid out: unused label rows stand behind its labels, and blank rows behind its rows
abbrev pub laid_source : Result Source Refusal → Result Draft Refusal
laid_source (Ok s) = Ok (record { labels = laid 9 unused s.labels; rows = laid 96 blank s.rows; kept = source_kept s.rows s.end })
laid_source (Err f) = Err f

-- 288 rows, and the numbers that are kept beside them
pub record LaidSchedule : Type 0 where
  pub rows : List Row
  pub kept : Kept

-- what a draft holds
abbrev pub drafted_schedule : Result ScheduleDraft Refusal → Result LaidSchedule Refusal
drafted_schedule (Ok d) = Ok (record { rows = d.rows; kept = kept d.shape })
drafted_schedule (Err f) = Err f

-- a schedule laid out: blank rows stand behind its main rows, and behind those of each piece
abbrev pub laid_schedule : Result Schedule Refusal → Result LaidSchedule Refusal
laid_schedule (Ok s) = Ok (record { rows = schedule_rows s.rows s.exits s.entries; kept = schedule_kept s.rows s.exits s.entries s.end })
laid_schedule (Err f) = Err f
