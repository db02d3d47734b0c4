-- How the comparison walks over main rows: in order, from a row with k exits above it, joins passed over.
-- The stops that it comes to are shown to be those of the places that the rows make.
use Rattle.std.specs.Prelude.{ℕ, ◌+◌, List, [], ◌∷◌, Some, None}
use Rattle.region.specs.declared.row.Row.{Row}
use Rattle.region.specs.declared.row.Row.TheVariants.{Act, Exit, Join}
use Rattle.region.specs.Kept.{Kept}
use Rattle.region.specs.Layout.{exit_rows}
use Rattle.region.specs.Rows.{actions}
use Rattle.validator.specs.Walks.{Basis, Symbols, Stop, follow, follow_all}

module _ (β : Basis) (part : List Row) (sh : Kept) where
  unfoldable pub walk_rows : ℕ → List Row → Symbols → List Stop
  walk_rows k [] s = record { condition = None; label = sh.end; symbols = s } ∷ []
  walk_rows k (Act a ∷ rs) s = walk_rows k rs (follow β a s)
  walk_rows k (Exit t l ∷ rs) s =
      record { condition = Some (s.register t.index); label = l; symbols = follow_all β (actions (exit_rows part sh k)) s } ∷ walk_rows (k + 1) rs s
  walk_rows k (Join ∷ rs) s = walk_rows k rs s
