-- What a region holds after a list of calls, told by the calls' arguments and by which of them were granted.
use Rattle.std.specs.Prelude.{◌≡◌, ℕ, Bool, false, cond, ◌&&◌, List, [], ◌∷◌, Some, None, Ok, Err, Option, Result}
use Rattle.domain.specs.Meaning.{Meaning}
use Rattle.region.specs.Labels.{unused}
use Rattle.region.specs.Rows.{laid}
use Rattle.region_text.specs.Schedules.{Schedule, read_schedule}
use Rattle.region_text.specs.Sources.{Source, read_source}
use Rattle.validator.specs.declared.verdict.Verdict.{Verdict}
use Rattle.validator.specs.Comparison.{comparison}
use Rattle.validator.specs.Live.{live_in}
use Rattle.validator.specs.Walks.{Basis, basis}
use Rattle.shelf.specs.Calls.{is_passed}
use Rattle.replay.specs.Requests as call
use Rattle.replay.specs.Requests.{Request}
use Rattle.replay.specs.Events.{Event, counts, alters}
use Rattle.replay.specs.Said.{source_line, schedule_line}

-- The source and the schedule that a region holds, and how they compared at the last check of that schedule.
pub record Held : Type 0 where
  pub source : Option Source
  pub schedule : Option Schedule
  pub verdict : Option Verdict

abbrev pub nothing : Held
nothing = record { source = None; schedule = None; verdict = None }

-- what a text says, where it says something
abbrev pub said : {X E : Type 0} → Result X E → Option X
said (Ok x) = Some x
said (Err e) = None

-- a schedule's text names the labels of the source that is held, in their nine places
abbrev pub said_for : Option Source → List ℕ → Option Schedule
said_for None t = None
said_for (Some s) t = said (read_schedule (laid 9 unused s.labels) t)

module _ {W : Type 0} (m : Meaning W) where
  -- what a source and its schedules are compared by: the domain, and the live masks of the source's labels
  abbrev pub basis_of : Source → Basis
  basis_of s = basis m (live_in s.labels)

  abbrev pub verdict_of : Source → Schedule → Verdict
  verdict_of s x = comparison (basis_of s) (source_line s) (schedule_line x)

  abbrev pub compared : Option Source → Option Schedule → Option Verdict
  compared None x = None
  compared (Some s) None = None
  compared (Some s) (Some x) = Some (verdict_of s x)

  -- What a granted call does to what its region holds: SOURCE puts a source in, and no schedule is held then; SCHEDULE
  -- puts a schedule in the place of any other, unchecked; CHECK compares the two; DROP takes all out.
  abbrev pub held_after : Request → Held → Held
  held_after (call.Source r t) h = record { source = said (read_source t); schedule = None; verdict = None }
  held_after (call.Schedule r t) h = record { source = h.source; schedule = said_for h.source t; verdict = None }
  held_after (call.Check r lent) h = record { source = h.source; schedule = h.schedule; verdict = compared h.source h.schedule }
  held_after (call.HandOut r) h = h
  held_after (call.Drop r) h = nothing

  -- what region r holds after these events, the latest first
  abbrev pub held : ℕ → List Event → Held
  held r [] = nothing
  held r (e ∷ earlier) = cond (counts r e) (held_after e.call (held r earlier)) (held r earlier)

  -- The schedule that region r holds is passed: a check of it was granted, and at the last one it matched the source.
  abbrev pub passed : ℕ → List Event → Bool
  passed r es = is_passed (held r es).verdict

-- none of these events is a SOURCE, SCHEDULE or DROP that was granted on region r
abbrev pub Untouched : ℕ → List Event → Type 0
Untouched r [] = Unit {0}
Untouched r (e ∷ es) = ((counts r e && alters e.call) ≡ false) × Untouched r es
