-- The store that calls leave, by the definitions of the calls, and what one call after the other keeps. This is for the
-- contracts of inner functions; the law speaks of what is held.
use Rattle.std.specs.Prelude.{◌≡◌, ℕ, ◌≤◌, min, List, [], ◌∷◌}
use Rattle.domain.specs.Meaning.{Meaning}
use Rattle.shelf.specs.Calls.{settled, source_answer, source_put, schedule_answer, schedule_put, check_answer, check_put, drop_answer, dropped}
use Rattle.shelf.specs.Store.{Store}
use Rattle.replay.specs.Requests as call
use Rattle.replay.specs.Requests.{Request}
use Rattle.replay.specs.Answers.{answer_to}
use Rattle.replay.specs.Events.{Event}
use Rattle.replay.specs.Held.{held}
use Rattle.replay.specs.Stored.{stored}

-- in a domain, with so many term rows to lend
module _ {W : Type 0} (m : Meaning W) (terms : ℕ) where
  -- the store that a call leaves
  abbrev pub store_after : Store → Request → Store
  store_after st (call.Source r t) = settled st (source_put st r) (source_answer st r t)
  store_after st (call.Schedule r t) = settled st (schedule_put st r) (schedule_answer st r t)
  store_after st (call.Check r lent) = settled st (check_put st r) (check_answer m st r (min lent terms))
  store_after st (call.HandOut r) = st
  store_after st (call.Drop r) = settled st (λ _. dropped st r) (drop_answer st r)

  -- of n regions
  module _ (n : ℕ) where
    -- each call answered as it does on a shelf with what was held when it was made
    abbrev pub AllAnswered : List Event → Type 0
    AllAnswered [] = Unit {0}
    AllAnswered (e ∷ earlier) = (e.answer ≡ answer_to m terms (stored n (λ r. held m r earlier)) e.call) × AllAnswered earlier

    -- the store is that of what is held after the events es, and each of them has its answer
    pub record Kept (st : Store) (es : List Event) : Type 0 where
      pub few : n ≤ 16
      pub holds : st ≡ stored n (λ r. held m r es)
      pub answers : AllAnswered es
