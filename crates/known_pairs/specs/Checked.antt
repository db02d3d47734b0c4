-- What the calls answer of a pair.
use Rattle.std.specs.Prelude.{◌≡◌, ℕ, List, replicate, Ok, Result}
use Rattle.domain.specs.Meaning.{Meaning}
use Rattle.domain.specs.Trapping.{trapping}
use Rattle.domain.specs.Wrapping.{wrapping}
use Rattle.region.specs.Labels.{unused}
use Rattle.region.specs.Rows.{blank}
use Rattle.shelf.specs.declared.refusal.Refusal.{Refusal}
use Rattle.shelf.specs.Store.{Store}
use Rattle.shelf.specs.Calls.{bind, unopened, open_answer, opened, source_answer, source_put, schedule_answer, schedule_put, check_answer}
use Rattle.validator.specs.declared.verdict.Verdict.{Verdict}
use Rattle.known_pairs.specs.declared.pair.DomainName.{DomainName}
use Rattle.known_pairs.specs.declared.pair.DomainName.TheVariants.{Wrapping, Trapping}
use Rattle.known_pairs.specs.Pairs.{Pair}

-- a shelf that was never opened, with the rows and labels of one region
abbrev pub lent : Store
lent = record { count = unopened.count; regions = unopened.regions; rows = replicate 384 blank; labels = replicate 9 unused }

-- OPEN, and then SOURCE, SCHEDULE and CHECK on region 0: the first refusal, or the verdict
module _ {W : Type 0} (m : Meaning W) where
  abbrev pub checked : (source schedule : List ℕ) → Result Verdict Refusal
  checked source schedule =
      bind (open_answer lent) (λ n.
      bind (source_answer (opened lent n) 0 source) (λ s.
      bind (schedule_answer (source_put (opened lent n) 0 s) 0 schedule) (λ l.
      check_answer m (schedule_put (source_put (opened lent n) 0 s) 0 l) 0 512)))

-- in the domain of that name
abbrev pub checked_in : DomainName → (source schedule : List ℕ) → Result Verdict Refusal
checked_in Wrapping = checked wrapping
checked_in Trapping = checked trapping

-- the calls are granted, and CHECK answers the pair's verdict
abbrev pub Holds : Pair → Type 0
Holds p = checked_in p.domain p.source p.schedule ≡ Ok p.verdict
