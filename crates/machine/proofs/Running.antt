-- Main rows, and the places that they make.
use Rattle.std.proofs.Common.{◌≡◌, ℕ, zero, suc, ◌+◌, ◌-◌, cond, List, [], ◌∷◌, sym, refl, ap, ◌∙◌}
use Rattle.domain.specs.Meaning.{Meaning}
use Rattle.region.specs.declared.row.Row.{Row}
use Rattle.region.specs.declared.row.Row.TheVariants.{Act, Exit, Join}
use Rattle.region.specs.Kept.{Kept}
use Rattle.region.specs.Rows.{actions}
use Rattle.region.specs.declared.side.Side.{Side}
use Rattle.region.specs.Layout.{exit_rows}
use Rattle.region.specs.Lines.{Start, entered, missing, places_of, assembled}
use Rattle.region.specs.Machine.{Ended, word, step, onward, perform, reached, run_places, run}
use Rattle.region.specs.Entries.{start_of}
use Rattle.machine.specs.Straight.{run_rows}

module _ {W : Type 0} (m : Meaning W) (part : List Row) (sh : Kept) where
  -- the places that rows make run as the rows do
  missing_runs : (j n : ℕ) (σ : List W) → run_places m sh.end (missing part sh j n) σ ≡ reached m sh.end σ
  missing_runs j zero σ = refl
  missing_runs j (suc n) σ = missing_runs (suc j) n σ

  pub places_run : (k j n : ℕ) (rows : List Row) (σ : List W) → run_places m sh.end (places_of part sh k j n rows) σ ≡ run_rows m part sh k rows σ
  places_run k j n [] σ = missing_runs j n σ
  places_run k j n (Act a ∷ rs) σ = ap (onward m (step m a σ) σ) (λ i τ. places_run k j n rs τ i)
  places_run k j n (Exit t l ∷ rs) σ = ap (cond (m.truth (word m σ t.index)) (perform m (actions (exit_rows part sh k)) σ (reached m l))) (places_run (k + 1) j n rs σ)
  places_run k j zero (Join ∷ rs) σ = places_run k j zero rs σ
  places_run k j (suc n) (Join ∷ rs) σ = places_run k (suc j) n rs σ

  run_start : List W → Start → Ended W
  run_start σ s = perform m s.piece σ (run_places m sh.end s.places)

  -- the run from entry e is y, to which a piece and the rows ahead come
  pub run_entered : (side : Side) (e exits : ℕ) (piece ahead : List Row) (σ : List W) (y : Ended W)
      → entered e (assembled side part sh).places ≡ start_of part sh e exits piece ahead
      → perform m (actions piece) σ (run_rows m part sh exits ahead) ≡ y
      → y ≡ run m (assembled side part sh) e σ
  unfolding run_start
  run_entered side e exits piece ahead σ y h d =
      sym (ap (run_start σ) h ∙ ap (perform m (actions piece) σ) (λ i τ. places_run exits e (sh.joins - e) ahead τ i) ∙ d)
