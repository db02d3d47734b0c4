-- Calls that were made, with what they answered.
use Rattle.std.specs.Prelude.{ℕ, Bool, true, false, ◌&&◌, List, [], ◌∷◌, ◌==◌}
use Rattle.std.specs.Result.{is_ok}
use Rattle.replay.specs.declared.call.Call.{Call}
use Rattle.replay.specs.Answers.{Answer}
use Rattle.replay.specs.Requests as call
use Rattle.replay.specs.Requests.{Request, asked}

-- a call with the answer that it got
pub record Event : Type 0 where
  pub call : Request
  pub answer : Answer

-- The events of calls and their answers, in front of those of es. The latest event stands first.
abbrev pub history : List Event → List Call → List Answer → List Event
history es [] as' = es
history es (c ∷ cs) [] = es
history es (c ∷ cs) (a ∷ as') = history (record { call = asked c; answer = a } ∷ es) cs as'

-- the region that a call names
abbrev pub region_of_request : Request → ℕ
region_of_request (call.Source r t) = r
region_of_request (call.Schedule r t) = r
region_of_request (call.Check r lent) = r
region_of_request (call.HandOut r) = r
region_of_request (call.Drop r) = r

-- only granted calls on a region count for what it holds
abbrev pub counts : ℕ → Event → Bool
counts r e = is_ok e.answer && region_of_request e.call == r

-- calls that put something else into a region
abbrev pub alters : Request → Bool
alters (call.Source r t) = true
alters (call.Schedule r t) = true
alters (call.Check r lent) = false
alters (call.HandOut r) = false
alters (call.Drop r) = true
