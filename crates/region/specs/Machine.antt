-- The machine: how a line runs on a state of words.
use Rattle.std.specs.Prelude.{ℕ, ◌+◌, ◌*◌, cond, List, [], ◌∷◌, length, Some, None, Ok, Err, Option, Result, ◌==◌, nat_lt, slice_index_or, slice_set}
use Rattle.domain.specs.Meaning.{Meaning}
use Rattle.region.specs.Numbers.{LabelNumber}
use Rattle.region.specs.declared.outcome.Misfit.{Misfit}
use Rattle.region.specs.declared.outcome.Misfit.TheVariants as misfit
use Rattle.region.specs.declared.outcome.Outcome.{Outcome}
use Rattle.region.specs.declared.outcome.Outcome.TheVariants.{Reached, Trapped}
use Rattle.region.specs.declared.row.Action.{Action}
use Rattle.region.specs.declared.row.Action.TheVariants.{Operate, Literal, Load, Store}
use Rattle.region.specs.declared.row.Row.{Row}
use Rattle.region.specs.declared.side.Side.{Side}
use Rattle.region.specs.Kept.{Kept}
use Rattle.region.specs.Lines.{Place, act, exit, join, Line, entered, assembled}

-- how a run ends, and the state that it leaves
pub record Ended (W : Type 0) : Type 0 where
  pub outcome : Outcome
  pub state : List W

abbrev pub bind : {X Y : Type 0} → Option X → (X → Option Y) → Option Y
bind None f = None
bind (Some x) f = f x

-- A state is 80 words: registers 0 to 15, and then four banks of sixteen cells, bank 0 first.
abbrev pub cell : ℕ → ℕ → ℕ
cell k s = 16 + 16 * k + s

module _ {W : Type 0} (m : Meaning W) where
  abbrev pub word : List W → ℕ → W
  word σ i = slice_index_or σ i (m.literal 0)

  -- the state after an action; None where the action traps
  abbrev pub step : Action → List W → Option (List W)
  step (Operate o d a b) σ = bind (m.apply o (word σ a.index) (word σ b.index)) (λ w. Some (slice_set σ d.index w))
  step (Literal d n) σ = Some (slice_set σ d.index (m.literal n))
  step (Load d k a) σ = bind (m.slot (word σ a.index)) (λ s. Some (slice_set σ d.index (word σ (cell k.index s.index))))
  step (Store k a v) σ = bind (m.slot (word σ a.index)) (λ s. Some (slice_set σ (cell k.index s.index) (word σ v.index)))

  abbrev pub trapped : List W → Ended W
  trapped σ = record { outcome = Trapped; state = σ }

  abbrev pub reached : LabelNumber → List W → Ended W
  reached l σ = record { outcome = Reached l; state = σ }

  -- A trap ends the run and leaves the state as the trapping action found it; else the rest runs on.
  abbrev pub onward : Option (List W) → List W → (List W → Ended W) → Ended W
  onward None σ rest = trapped σ
  onward (Some τ) σ rest = rest τ

  -- the actions of a piece, and then the rest
  abbrev pub perform : List Action → List W → (List W → Ended W) → Ended W
  perform [] σ rest = rest σ
  perform (a ∷ more) σ rest = onward (step a σ) σ (λ τ. perform more τ rest)

  -- A taken exit runs its piece and ends at its label; past the last place the run ends at the end label.
  abbrev pub run_places : LabelNumber → List Place → List W → Ended W
  run_places end [] σ = reached end σ
  run_places end (act a ∷ rest) σ = onward (step a σ) σ (run_places end rest)
  run_places end (exit t l p ∷ rest) σ = cond (m.truth (word σ t.index)) (perform p σ (reached l)) (run_places end rest σ)
  run_places end (join p ∷ rest) σ = run_places end rest σ

  -- the run of a line from an entry
  abbrev pub run : Line → ℕ → List W → Ended W
  run line e σ = let s = entered e line.places in perform s.piece σ (run_places line.end s.places)

  -- The run of a line that lies in a region's rows. There is none where the rows are not a region's 384,
  -- where the entry is above the number of joins that is kept, or where the state is not 80 words.
  abbrev pub run_in : Side → List Row → Kept → ℕ → List W → Result (Ended W) Misfit
  run_in side part sh e σ =
      cond (length part == 384)
      (cond (nat_lt sh.joins e) (Err misfit.Entry)
      (cond (length σ == 80) (Ok (run (assembled side part sh) e σ))
      (Err misfit.State)))
      (Err misfit.Rows)

-- the state after a step, which a trap leaves as it was
abbrev pub after_step : {W : Type 0} → Option (List W) → List W → List W
after_step None σ = σ
after_step (Some τ) σ = τ

-- what a run answers, and the state after it, which is as it was where there is no run
abbrev pub answered : {W : Type 0} → Result (Ended W) Misfit → Result Outcome Misfit
answered (Ok z) = Ok z.outcome
answered (Err e) = Err e

abbrev pub state_after : {W : Type 0} → List W → Result (Ended W) Misfit → List W
state_after σ (Ok z) = z.state
state_after σ (Err e) = σ
