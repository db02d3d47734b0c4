-- A list of calls on a shelf of one region, with what each answers and whether the region's schedule is passed then.
use Rattle.std.specs.Prelude.{◌≡◌, ℕ, Bool, true, false, cond, List, [], ◌∷◌, map, Ok, Err, codes, ◌==◌}
use Prim.Native.String.{String}
use Rattle.domain.specs.Wrapping.{wrapping}
use Rattle.region_text.specs.declared.fault.Fault.TheVariants as fault
use Rattle.region_text.specs.declared.fault.Layer.TheVariants as layer
use Rattle.shelf.specs.declared.refusal.Number.TheVariants as number
use Rattle.shelf.specs.Refusals.{without_place}
use Rattle.validator.specs.declared.verdict.Reason.TheVariants as reason
use Rattle.validator.specs.declared.verdict.Verdict.TheVariants.{Passed, Failed}
use Rattle.replay.specs.declared.call.Granted.TheVariants.{Done, Judged, HandedOut}
use Rattle.replay.specs.Answers.{Answer}
use Rattle.replay.specs.Events.{Event}
use Rattle.replay.specs.Held.{held, passed}
use Rattle.replay.specs.Law.{Law}
use Rattle.replay.specs.Requests.{Request, Source, Schedule, Check, HandOut, Drop}
use Rattle.replay.specs.Stored.{stored}

-- a text as it is written here: a space stands for a tab, and a semicolon for LF
abbrev pub byte : ℕ → ℕ
byte b = cond (b == 32) 9 (cond (b == 59) 10 b)

abbrev pub text : String → List ℕ
text s = map byte (codes s)

-- two registers are compared, an exit leaves for `busy` where they are equal, and below it a cell is stored to
abbrev pub booking : List ℕ
booking = text "M busy 0000;M done 0002;O 5 2 3 4;X 2 busy;S 1 5 6;I 1 7;E done;"

-- the literal is lifted to the top
abbrev pub good : List ℕ
good = text "I 1 7;O 5 2 3 4;X 2 busy;S 1 5 6;E done;"

-- the store stands above the exit
abbrev pub lifted : List ℕ
lifted = text "O 5 2 3 4;S 1 5 6;X 2 busy;I 1 7;E done;"

-- a call, its answer, and whether region 0 holds a passed schedule after it
pub record Step : Type 0 where
  pub call : Request
  pub answer : Answer
  pub passes : Bool

abbrev pub step : Request → Answer → Bool → Step
step c a p = record { call = c; answer = a; passes = p }

-- in the order in which they are made, with 512 term rows to lend
abbrev pub story : List Step
story =
    step (Check 0 512) (Err (without_place number.Source)) false
    ∷ step (Source 0 booking) (Ok Done) false
    ∷ step (HandOut 0) (Err (without_place number.Schedule)) false
    ∷ step (Schedule 0 lifted) (Ok Done) false
    ∷ step (Check 0 512) (Ok (Judged (Failed (record { entry = 0; stop = 1; reason = reason.Bank; number = 1 })))) false
    ∷ step (HandOut 0) (Err (without_place number.NotPassed)) false
    ∷ step (Schedule 0 good) (Ok Done) false
    ∷ step (Check 0 511) (Err (without_place number.Sizes)) false
    ∷ step (Check 0 512) (Ok (Judged Passed)) true
    ∷ step (HandOut 0) (Ok HandedOut) true
    -- a damaged text leaves what is held: its second line names a label that the source does not declare
    ∷ step (Schedule 0 (text "I 1 7;E nowhere;")) (Err (record { number = number.Text fault.Label; line = 2; field = 2; layer = layer.Field })) true
    ∷ step (Source 1 booking) (Err (without_place number.Region)) true
    ∷ step (Drop 0) (Ok Done) false
    ∷ step (HandOut 0) (Err (without_place number.Source)) false
    ∷ step (Source 0 booking) (Ok Done) false
    ∷ step (Schedule 0 good) (Ok Done) false
    ∷ step (Check 0 512) (Ok (Judged Passed)) true
    ∷ step (HandOut 0) (Ok HandedOut) true
    ∷ []

-- the events of steps, in front of those of es: the latest stands first
abbrev pub told : List Event → List Step → List Event
told es [] = es
told es (s ∷ more) = told (record { call = s.call; answer = s.answer } ∷ es) more

-- after each step the schedule of region 0 is passed or not, as it says
abbrev pub PassesSo : List Event → List Step → Type 0
PassesSo es [] = Unit {0}
PassesSo es (s ∷ more) =
    let now_told = record { call = s.call; answer = s.answer } ∷ es in
    (passed wrapping 0 now_told ≡ s.passes) × PassesSo now_told more

-- the law holds of these events, and so they are as every replay of these calls on one region has them
pub record Example : Type 0 where
  pub lawful : Law wrapping 1 512 (stored 1 (λ r. held wrapping r (told [] story))) (told [] story)
  pub passes : PassesSo [] story
