-- What the calls on a desk answer, and the store that they leave, by the definitions of the calls on a shelf.
use Rattle.std.specs.Prelude.{ℕ, ◌*◌, List, replicate, Ok, Err, Result}
use Rattle.domain.specs.Tagged.{tagged}
use Rattle.domain.specs.Trapping.{trapping}
use Rattle.domain.specs.Wrapping.{wrapping}
use Rattle.region.specs.Labels.{unused}
use Rattle.region.specs.Rows.{blank}
use Rattle.shelf.specs.declared.refusal.Refusal.{Refusal}
use Rattle.shelf.specs.Calls.{check_answer, check_put, granted, schedule_answer, schedule_put, settled, source_answer, source_put, unopened as unopened_shelf}
use Rattle.shelf.specs.Store.{Store}
use Rattle.validator.specs.declared.verdict.Verdict.{Verdict}
use Rattle.desk.specs.declared.call.Call.{Call}
use Rattle.desk.specs.declared.call.Call.TheVariants as call
use Rattle.desk.specs.declared.call.Declined.{Declined}
use Rattle.desk.specs.declared.domain_name.DomainName.{DomainName}
use Rattle.desk.specs.declared.domain_name.DomainName.TheVariants as domain

-- a shelf that was not opened, with the rows and labels of n regions
abbrev pub unopened : ℕ → Store
unopened n = record {
  count = unopened_shelf.count;
  regions = unopened_shelf.regions;
  rows = replicate (n * 384) blank;
  labels = replicate (n * 9) unused;
}

-- the answer of a call, or that it was declined
abbrev pub by : {X : Type 0} → Call → Result X Refusal → Result X Declined
by c (Ok x) = Ok x
by c (Err e) = Err (record { call = c; refusal = e })

-- the first call that is declined decides
abbrev pub and_then : {X Y : Type 0} → Result X Declined → (X → Result Y Declined) → Result Y Declined
and_then (Ok x) f = f x
and_then (Err e) f = Err e

-- the store behind a call: that after it where it is declined, and else what later calls leave
abbrev pub behind : {X : Type 0} → Result X Declined → (after later : Store) → Store
behind (Ok x) after later = later
behind (Err e) after later = after

-- CHECK in the domain of that name, with room for so many terms
abbrev pub check_answer_in : DomainName → Store → (r room : ℕ) → Result Verdict Refusal
check_answer_in domain.Wrapping = check_answer wrapping
check_answer_in domain.Trapping = check_answer trapping
check_answer_in domain.TaggedWrapping = check_answer (tagged wrapping)
check_answer_in domain.TaggedTrapping = check_answer (tagged trapping)
check_answer_in domain.TwiceTaggedWrapping = check_answer (tagged (tagged wrapping))

-- two texts on region r of a store
module _ (st : Store) (r : ℕ) (source schedule : List ℕ) where
  -- the store after SOURCE
  abbrev pub after_source : Store
  after_source = settled st (source_put st r) (source_answer st r source)

  -- the store after SCHEDULE, where SOURCE was granted
  abbrev pub after_schedule : Store
  after_schedule = settled after_source (schedule_put after_source r) (schedule_answer after_source r schedule)

  module _ (d : DomainName) where
    -- the store after CHECK, where the two before it were granted
    abbrev pub after_check : Store
    after_check = settled after_schedule (check_put after_schedule r) (check_answer_in d after_schedule r 512)

    -- SOURCE, SCHEDULE and CHECK: the first call that is declined, or the verdict
    abbrev pub checked : Result Verdict Declined
    checked =
        and_then (by call.Source (granted (source_answer st r source))) (λ _.
        and_then (by call.Schedule (granted (schedule_answer after_source r schedule))) (λ _.
        by call.Check (check_answer_in d after_schedule r 512)))

    -- the store after the last call that is made: none is made behind one that is declined
    abbrev pub left : Store
    left =
        behind (by call.Source (granted (source_answer st r source))) after_source
        (behind (by call.Schedule (granted (schedule_answer after_source r schedule))) after_schedule after_check)
