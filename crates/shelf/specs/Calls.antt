-- What each call answers, and the store that it leaves.
use Rattle.std.specs.Prelude.{ℕ, ◌+◌, ◌*◌, ◌/◌, Bool, true, false, cond, ◌&&◌, List, [], ◌++◌, length, replicate, Some, None, Ok, Err, Option, Result, ◌==◌, nat_le, nat_lt, slice_index_or, slice_set}
use Rattle.std.specs.Borrow.{Bor}
use Rattle.std.specs.Option.{ok_or}
use Rattle.std.specs.Result.{result_map_both}
use Rattle.domain.specs.Meaning.{Meaning}
use Rattle.region.specs.declared.outcome.Misfit.{Misfit}
use Rattle.region.specs.declared.outcome.Outcome.{Outcome}
use Rattle.region.specs.declared.side.Side.{Side}
use Rattle.region.specs.declared.side.Side.TheVariants.{Source, Schedule}
use Rattle.region.specs.declared.row.Row.{Row}
use Rattle.region.specs.declared.shape.Shape.{Shape}
use Rattle.region.specs.Kept.{Kept, kept}
use Rattle.region.specs.Labels.{unused}
use Rattle.region.specs.Machine.{Ended, run_in}
use Rattle.region.specs.Rows.{blank}
use Rattle.region_text.specs.declared.fault.Refusal.{Refusal as TextRefusal}
use Rattle.region_text.specs.Drafts.{Draft, laid_source, LaidSchedule, laid_schedule}
use Rattle.region_text.specs.Schedules.{read_schedule}
use Rattle.region_text.specs.Sources.{read_source}
use Rattle.validator.specs.declared.unfit.Unfit.{Unfit}
use Rattle.validator.specs.declared.verdict.Verdict.{Verdict}
use Rattle.validator.specs.declared.verdict.Verdict.TheVariants.{Passed, Failed}
use Rattle.validator.specs.Compared.{compared}
use Rattle.shelf.specs.declared.place.Place.{Place}
use Rattle.shelf.specs.declared.record.Record.{Record}
use Rattle.shelf.specs.declared.refusal.Number.{Number}
use Rattle.shelf.specs.declared.refusal.Number.TheVariants as number
use Rattle.shelf.specs.declared.refusal.Refusal.{Refusal}
use Rattle.shelf.specs.Refusals.{without_place, of_text, of_misfit}
use Rattle.shelf.specs.Store.{KeptRegion, kept_region, empty_region, Store, part, written, rows_of_region, labels_of_region}

-- the first refusal decides
abbrev pub bind : {X Y : Type 0} → Result X Refusal → (X → Result Y Refusal) → Result Y Refusal
bind (Ok x) f = f x
bind (Err e) f = Err e

-- what is there, or declined
abbrev pub needed : {X : Type 0} → Number → Option X → Result X Refusal
needed n o = ok_or o (without_place n)

-- what a granted call answers, seen as something else
abbrev pub on_granted : {X Y : Type 0} → (X → Y) → Result X Refusal → Result Y Refusal
on_granted f o = result_map_both f (λ e. e) o

-- what others decline, the shelf declines
abbrev pub on_declined : {X E : Type 0} → (E → Refusal) → Result X E → Result X Refusal
on_declined f o = result_map_both (λ x. x) f o

abbrev pub from_text : {X : Type 0} → Result X TextRefusal → Result X Refusal
from_text o = on_declined of_text o

abbrev pub from_run : {X : Type 0} → Result X Misfit → Result X Refusal
from_run o = on_declined of_misfit o

abbrev pub from_unfit : {X : Type 0} → Result X Unfit → Result X Refusal
from_unfit o = on_declined (λ _. without_place number.Sizes) o

-- a call that answers nothing but that it was granted
abbrev pub granted : {X : Type 0} → Result X Refusal → Result (Unit {0}) Refusal
granted o = on_granted (λ _. tt) o

-- the store after a call: a declined call alters nothing
abbrev pub settled : {X : Type 0} → Store → (X → Store) → Result X Refusal → Store
settled st put (Ok x) = put x
settled st put (Err e) = st

-- What is kept of region r. The rows must be 384 and the labels nine for each region (1), and r one of them (2).
abbrev pub placed : ℕ → List KeptRegion → (rows labels r : ℕ) → Result KeptRegion Refusal
placed n ks rows labels r =
    cond (rows == 384 * n && labels == 9 * n)
    (cond (nat_lt r n) (Ok (slice_index_or ks r empty_region)) (Err (without_place number.Region)))
    (Err (without_place number.Sizes))

abbrev pub region_of : Store → ℕ → Result KeptRegion Refusal
region_of st r = placed st.count st.regions (length st.rows) (length st.labels) r

-- a record as plain numbers
abbrev pub kept_answer : Result Record Refusal → Result KeptRegion Refusal
kept_answer o = on_granted kept_region o

-- the record of a region that a call found
abbrev pub found : Result Place Refusal → Result KeptRegion Refusal
found o = on_granted (λ p. kept_region p.record) o

-- Everything that the shelf keeps of a region can be read; only an unknown region declines that.
abbrev pub reading : Store → ℕ → Result KeptRegion Refusal
reading st r = cond (nat_lt r st.count) (Ok (slice_index_or st.regions r empty_region)) (Err (without_place number.Region))

-- OPEN: how many regions fit both the rows and the labels, 1 to 16
abbrev pub opening : (rows labels : ℕ) → Result ℕ Refusal
opening rows labels =
    cond (nat_le 1 (rows / 384) && nat_le (rows / 384) 16 && rows == 384 * (rows / 384) && labels == 9 * (rows / 384))
    (Ok (rows / 384))
    (Err (without_place number.Sizes))

abbrev pub open_answer : Store → Result ℕ Refusal
open_answer st = opening (length st.rows) (length st.labels)

-- the shelf is empty, and all rows and labels are blank
abbrev pub opened : Store → ℕ → Store
opened st n = record {
  count = n;
  regions = replicate 16 empty_region;
  rows = replicate (length st.rows) blank;
  labels = replicate (length st.labels) unused;
}

-- a shelf that was never opened: it has no regions, and keeps nothing
abbrev pub unopened : Store
unopened = record { count = 0; regions = replicate 16 empty_region; rows = []; labels = [] }

-- DROP: the region holds nothing, and its rows and labels are blank
abbrev pub drop_answer : Store → ℕ → Result KeptRegion Refusal
drop_answer st r = region_of st r

abbrev pub dropped : Store → ℕ → Store
dropped st r = record {
  count = st.count;
  regions = slice_set st.regions r empty_region;
  rows = written (384 * r) (replicate 384 blank) st.rows;
  labels = written (9 * r) (replicate 9 unused) st.labels;
}

-- SOURCE: what the text says, laid out
abbrev pub source_answer : Store → ℕ → List ℕ → Result Draft Refusal
source_answer st r t = bind (region_of st r) (λ _. from_text (laid_source (read_source t)))

-- the region holds that source, its schedule is blank, and its mark none
abbrev pub source_put : Store → ℕ → Draft → Store
source_put st r d = record {
  count = st.count;
  regions = slice_set st.regions r (record { source = Some d.kept; schedule = None; mark = None });
  rows = written (384 * r) (d.rows ++ replicate 288 blank) st.rows;
  labels = written (9 * r) d.labels st.labels;
}

-- what is kept of a line that is held
abbrev pub line_of : Side → KeptRegion → Result Kept Refusal
line_of Source k = needed number.Source k.source
line_of Schedule k = bind (needed number.Source k.source) (λ _. needed number.Schedule k.schedule)

-- SCHEDULE: what the text says, laid out, by the label rows as they are now
abbrev pub schedule_answer : Store → ℕ → List ℕ → Result LaidSchedule Refusal
schedule_answer st r t =
    bind (region_of st r) (λ k. bind (line_of Source k) (λ _. from_text (laid_schedule (read_schedule (labels_of_region st r) t))))

-- the region holds that schedule in place of any other, and its mark is none
abbrev pub scheduled : KeptRegion → Kept → KeptRegion
scheduled k l = record { source = k.source; schedule = Some l; mark = None }

abbrev pub schedule_put : Store → ℕ → LaidSchedule → Store
schedule_put st r d = record {
  count = st.count;
  regions = slice_set st.regions r (scheduled (slice_index_or st.regions r empty_region) d.kept);
  rows = written (384 * r + 96) d.rows st.rows;
  labels = st.labels;
}

abbrev pub kept_line : Result Shape Refusal → Result Kept Refusal
kept_line o = on_granted kept o

-- RUN: the machine on the line that the region's rows hold
module _ {W : Type 0} (m : Meaning W) where
  abbrev pub run_answer : Store → ℕ → Side → ℕ → List W → Result (Ended W) Refusal
  run_answer st r side e σ = bind (region_of st r) (λ k. bind (line_of side k) (λ l. from_run (run_in m side (rows_of_region st r) l e σ)))

abbrev pub outcome_of : {W : Type 0} → Result (Ended W) Refusal → Result Outcome Refusal
outcome_of o = on_granted (λ z. z.outcome) o

-- the state after RUN: a declined one leaves it as it was
abbrev pub state_of : {W : Type 0} → List W → Result (Ended W) Refusal → List W
state_of σ (Ok z) = z.state
state_of σ (Err e) = σ

-- CHECK, with room for so many terms: the comparison of the two lines that the region's rows hold
module _ {W : Type 0} (m : Meaning W) where
  abbrev pub check_answer : Store → (r room : ℕ) → Result Verdict Refusal
  check_answer st r room =
      cond (nat_lt room 512) (Err (without_place number.Sizes))
      (bind (region_of st r) (λ k. bind (line_of Source k) (λ a. bind (line_of Schedule k) (λ b.
      from_unfit (compared m (rows_of_region st r) (labels_of_region st r) a b room)))))

-- the mark is set to the verdict, and nothing else is altered
abbrev pub marked : KeptRegion → Verdict → KeptRegion
marked k v = record { source = k.source; schedule = k.schedule; mark = Some v }

abbrev pub check_put : Store → ℕ → Verdict → Store
check_put st r v = record {
  count = st.count;
  regions = slice_set st.regions r (marked (slice_index_or st.regions r empty_region) v);
  rows = st.rows;
  labels = st.labels;
}

-- whether a mark is passed
abbrev pub is_passed : Option Verdict → Bool
is_passed None = false
is_passed (Some Passed) = true
is_passed (Some (Failed x)) = false

-- declined unless the mark is passed
abbrev pub passing : Option Verdict → Result (Unit {0}) Refusal
passing mark = cond (is_passed mark) (Ok tt) (Err (without_place number.NotPassed))

-- HAND-OUT: rows 96 to 383 of the region, where it holds a schedule and its mark is passed
abbrev pub hand_out_answer : Store → ℕ → Result (List Row) Refusal
hand_out_answer st r =
    bind (region_of st r) (λ k. bind (line_of Schedule k) (λ _. bind (passing k.mark) (λ _. Ok (part (384 * r + 96) 288 st.rows))))

-- what lies in the part that is handed out
abbrev pub seen : Result (Bor (List Row)) Refusal → Result (List Row) Refusal
seen o = on_granted (λ rows. rows.now) o
