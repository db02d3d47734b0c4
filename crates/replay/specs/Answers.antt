-- What calls answer on a store, by the definitions of the calls.
use Rattle.std.specs.Prelude.{ℕ, min, Result}
use Rattle.domain.specs.Meaning.{Meaning}
use Rattle.shelf.specs.declared.refusal.Refusal.{Refusal}
use Rattle.shelf.specs.Calls.{on_granted, source_answer, schedule_answer, check_answer, hand_out_answer, drop_answer}
use Rattle.shelf.specs.Store.{Store}
use Rattle.replay.specs.declared.call.Granted.{Granted}
use Rattle.replay.specs.declared.call.Granted.TheVariants.{Done, Judged, HandedOut}
use Rattle.replay.specs.Requests as call
use Rattle.replay.specs.Requests.{Request}

-- what a call answers: what it was granted, or why it was declined
abbrev pub Answer : Type 0
Answer = Result Granted Refusal

-- in a domain, with so many term rows to lend
module _ {W : Type 0} (m : Meaning W) (terms : ℕ) where
  -- what a call answers
  abbrev pub answer_to : Store → Request → Answer
  answer_to st (call.Source r t) = on_granted (λ _. Done) (source_answer st r t)
  answer_to st (call.Schedule r t) = on_granted (λ _. Done) (schedule_answer st r t)
  answer_to st (call.Check r lent) = on_granted Judged (check_answer m st r (min lent terms))
  answer_to st (call.HandOut r) = on_granted (λ _. HandedOut) (hand_out_answer st r)
  answer_to st (call.Drop r) = on_granted (λ _. Done) (drop_answer st r)
