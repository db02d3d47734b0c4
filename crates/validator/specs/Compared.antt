-- What a comparison answers of the lines that lie in a region's rows.
use Rattle.std.specs.Prelude.{ℕ, cond, List, length, Ok, Err, Result, ◌==◌, nat_le}
use Rattle.domain.specs.Meaning.{Meaning}
use Rattle.region.specs.declared.label.LabelRow.{LabelRow}
use Rattle.region.specs.declared.row.Row.{Row}
use Rattle.region.specs.Kept.{Kept}
use Rattle.region.specs.declared.side.Side.TheVariants.{Source, Schedule}
use Rattle.region.specs.Lines.{assembled}
use Rattle.validator.specs.declared.unfit.Unfit.{Unfit}
use Rattle.validator.specs.declared.unfit.Unfit.TheVariants as unfit
use Rattle.validator.specs.declared.verdict.Verdict.{Verdict}
use Rattle.validator.specs.Walks.{basis}
use Rattle.validator.specs.Comparison.{comparison}
use Rattle.validator.specs.Live.{live_in}

-- There is a verdict where the rows are a region's 384, the label rows a region's 9, and there is room for 512 terms:
-- that of the source and the schedule that lie in the rows.
abbrev pub compared : {W : Type 0} → Meaning W → List Row → List LabelRow → (source schedule : Kept) → (room : ℕ) → Result Verdict Unfit
compared m rows labels source schedule room =
    cond (length rows == 384)
    (cond (length labels == 9)
    (cond (nat_le 512 room)
    (Ok (comparison (basis m (live_in labels)) (assembled Source rows source) (assembled Schedule rows schedule)))
    (Err unfit.Terms))
    (Err unfit.Labels))
    (Err unfit.Rows)
