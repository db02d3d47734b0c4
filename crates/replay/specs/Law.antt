-- The law over calls: what every list of calls on an opened shelf answers and leaves.
use Rattle.std.specs.Prelude.{◌≡◌, ◌↔◌, ℕ, ◌<◌, ◌≤◌, min, Bool, true, false, List, [], ◌∷◌, ◌++◌, length, take, drop, Some, None, Ok, Err, Option, Result}
use Rattle.domain.specs.Meaning.{Meaning}
use Rattle.region.specs.declared.row.Row.{Row}
use Rattle.region.specs.declared.side.Side.TheVariants as side
use Rattle.region.specs.Lines.{joins}
use Rattle.region.specs.Machine.{run}
use Rattle.region.specs.Pieces.{schedule_rows}
use Rattle.region_text.specs.Schedules.{Schedule}
use Rattle.region_text.specs.Sources.{Source}
use Rattle.validator.specs.declared.verdict.Verdict.{Verdict}
use Rattle.validator.specs.declared.verdict.Verdict.TheVariants.{Passed}
use Rattle.validator.specs.Live.{live_in}
use Rattle.moves.specs.Moves.{Derived}
use Rattle.moves.specs.Theorems.{Alike}
use Rattle.shelf.specs.declared.refusal.Number.TheVariants as number
use Rattle.shelf.specs.declared.refusal.Refusal.{Refusal}
use Rattle.shelf.specs.Calls.{open_answer, reading, run_answer, hand_out_answer, is_passed}
use Rattle.shelf.specs.Refusals.{without_place}
use Rattle.shelf.specs.Store.{KeptRegion, Store}
use Rattle.replay.specs.declared.call.Granted.TheVariants.{Judged, HandedOut}
use Rattle.replay.specs.declared.call.Call.{Call}
use Rattle.replay.specs.Requests as call
use Rattle.replay.specs.Events.{Event, history}
use Rattle.replay.specs.Held.{Held, basis_of, verdict_of, held, passed, Untouched}
use Rattle.replay.specs.Said.{source_line, schedule_line}
use Rattle.replay.specs.Answers.{Answer, answer_to}
use Rattle.replay.specs.Stored.{record_of, stored}

-- What HAND-OUT answers of a region that holds these: the rows of the schedule, each at its place and blank rows
-- elsewhere, where the schedule is passed; and else why not.
abbrev pub handed : Option Source → Option Schedule → (is_passed : Bool) → Result (List Row) Refusal
handed None x p = Err (without_place number.Source)
handed (Some s) None p = Err (without_place number.Schedule)
handed (Some s) (Some x) true = Ok (schedule_rows x.rows x.exits x.entries)
handed (Some s) (Some x) false = Err (without_place number.NotPassed)

module _ {W : Type 0} (m : Meaning W) where
  -- A verdict of a check of a region that held h: it says how the two lines compare, and it is a pass wherever moves of
  -- the scheduler derive the schedule from the source.
  pub record Rightly (v : Verdict) (h : Held) : Type 0 where
    pub source : Source
    pub schedule : Schedule
    pub holds_source : h.source ≡ Some source
    pub holds_schedule : h.schedule ≡ Some schedule
    pub compares : v ≡ verdict_of m source schedule
    pub derived_passes : Derived (basis_of m source) (source_line source) (schedule_line schedule) → v ≡ Passed

  -- Region r holds h, a source and a schedule. From each entry and on each state of 80 words, RUN of the source and RUN of
  -- the schedule answer as the machine does of the two lines, and alike: both trap, or both reach one label with equal
  -- banks and equal registers that are live there.
  pub record RunsAlike (st : Store) (r : ℕ) (h : Held) : Type 0 where
    pub source : Source
    pub schedule : Schedule
    pub holds_source : h.source ≡ Some source
    pub holds_schedule : h.schedule ≡ Some schedule
    pub entries : joins (source_line source).places ≡ joins (schedule_line schedule).places
    pub source_runs : (e : ℕ) → e ≤ joins (source_line source).places → (σ : List W) → length σ ≡ 80
        → run_answer m st r side.Source e σ ≡ Ok (run m (source_line source) e σ)
    pub schedule_runs : (e : ℕ) → e ≤ joins (source_line source).places → (σ : List W) → length σ ≡ 80
        → run_answer m st r side.Schedule e σ ≡ Ok (run m (schedule_line schedule) e σ)
    pub alike : (e : ℕ) → e ≤ joins (source_line source).places → (σ : List W) → length σ ≡ 80
        → Alike m (live_in source.labels) (run m (source_line source) e σ) (run m (schedule_line schedule) e σ)

  -- region r after the events es, on the store st that they left
  pub record AtRegion (st : Store) (es : List Event) (r : ℕ) : Type 0 where
    -- a passed schedule runs like its source
    pub runs : passed m r es ≡ true → RunsAlike st r (held m r es)
    -- what is kept of the region can be read, and its mark reads passed exactly when the schedule is passed
    pub reads : reading st r ≡ Ok (record_of (held m r es))
    pub marks : (k : KeptRegion) → reading st r ≡ Ok k → is_passed k.mark ≡ passed m r es
    -- HAND-OUT answers rows exactly when the schedule is passed, and then those of the schedule
    pub hands_out : hand_out_answer st r ≡ handed (held m r es).source (held m r es).schedule (passed m r es)
    -- a passed schedule stays passed until a SOURCE, SCHEDULE or DROP is granted on the region
    pub stays : (later earlier : List Event) → es ≡ later ++ earlier → passed m r earlier ≡ true → Untouched r later → passed m r es ≡ true

  -- of n regions, with so many term rows to lend
  module _ (n terms : ℕ) where
    -- The law, of the events es, the latest first, and of the store st that they left.
    pub record Law (st : Store) (es : List Event) : Type 0 where
      -- shelf, rows and labels are those of what the regions hold
      pub holds : st ≡ stored n (λ r. held m r es)
      -- every call answered as it does on a shelf with what was held when it was made
      pub answers : (later earlier : List Event) (e : Event) → es ≡ later ++ (e ∷ earlier)
          → e.answer ≡ answer_to m terms (stored n (λ r. held m r earlier)) e.call
      -- every granted CHECK gave a right verdict of what its region held then
      pub checks : (later earlier : List Event) (r lent : ℕ) (v : Verdict) → es ≡ later ++ (record { call = call.Check r lent; answer = Ok (Judged v) } ∷ earlier)
          → Rightly v (held m r earlier)
      -- a HAND-OUT was granted exactly when its region held a passed schedule then
      pub hand_outs : (later earlier : List Event) (r : ℕ) (a : Answer) → es ≡ later ++ (record { call = call.HandOut r; answer = a } ∷ earlier)
          → (a ≡ Ok HandedOut) ↔ (passed m r earlier ≡ true)
      pub regions : (r : ℕ) → r < n → AtRegion st es r

  -- calls on a shelf with rows and labels, and the answers before and after them
  module _ (terms : ℕ) (calls : List Call) (st st' : Store) (before after : List Answer) where
    -- as many calls as there is room for answers
    abbrev pub made : ℕ
    made = min (length calls) (length before)

    -- OPEN made n regions: so many calls were made, in order; the law holds of them and of their answers, and no other
    -- answer was written
    pub record Played (n : ℕ) (r : Result ℕ Refusal) : Type 0 where
      pub answer : r ≡ Ok made
      pub law : Law n terms st' (history [] (take made calls) (take made after))
      pub beyond : drop made after ≡ drop made before

    -- OPEN was declined: no call was made, and nothing is altered
    pub record Unopened (e : Refusal) (r : Result ℕ Refusal) : Type 0 where
      pub answer : r ≡ Err e
      pub store : st' ≡ st
      pub answers : after ≡ before

    abbrev pub by_open : Result ℕ Refusal → Result ℕ Refusal → Type 0
    by_open (Ok n) r = Played n r
    by_open (Err e) r = Unopened e r

    -- what `replay` answers and leaves, by what OPEN answers
    abbrev pub Replayed : Result ℕ Refusal → Type 0
    Replayed r = by_open (open_answer st) r
