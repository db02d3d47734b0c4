-- How the interpreter sees main rows: in order, from a row with k exits above it, joins passed over.
-- The runs that it gives are shown to be those of the places that the rows make.
use Rattle.std.specs.Prelude.{ℕ, ◌+◌, cond, List, [], ◌∷◌, Some, None, Option}
use Rattle.domain.specs.Meaning.{Meaning}
use Rattle.region.specs.Numbers.{LabelNumber}
use Rattle.region.specs.declared.row.Row.{Row}
use Rattle.region.specs.declared.row.Row.TheVariants.{Act, Exit, Join}
use Rattle.region.specs.Kept.{Kept}
use Rattle.region.specs.Rows.{actions}
use Rattle.region.specs.Layout.{exit_rows}
use Rattle.region.specs.Machine.{Ended, step, word, onward, perform, reached, trapped}

-- how a run ends, by the label that it reaches; None is a trap
abbrev pub ended : {W : Type 0} → Meaning W → Option LabelNumber → List W → Ended W
ended m (Some l) σ = reached m l σ
ended m None σ = trapped m σ

module _ {W : Type 0} (m : Meaning W) (part : List Row) (sh : Kept) where
  abbrev pub run_rows : ℕ → List Row → List W → Ended W
  run_rows k [] σ = reached m sh.end σ
  run_rows k (Act a ∷ rs) σ = onward m (step m a σ) σ (run_rows k rs)
  run_rows k (Exit t l ∷ rs) σ =
      cond (m.truth (word m σ t.index)) (perform m (actions (exit_rows part sh k)) σ (reached m l)) (run_rows (k + 1) rs σ)
  run_rows k (Join ∷ rs) σ = run_rows k rs σ
