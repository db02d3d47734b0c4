-- The lines that the texts of a region say.
use Rattle.std.specs.Prelude.{ℕ, ◌+◌, List, [], ◌∷◌, slice_index_or}
use Rattle.region.specs.declared.row.Row.{Row}
use Rattle.region.specs.declared.row.Row.TheVariants.{Act, Exit, Join}
use Rattle.region.specs.Lines.{Place, act, exit, join, Line}
use Rattle.region.specs.Rows.{actions}
use Rattle.region_text.specs.Schedules.{Schedule}
use Rattle.region_text.specs.Sources.{Source}

-- The places of rows with k exits and j joins above them: each exit and each join has its own piece,
-- which is empty where none is given.
module _ (exits entries : List (List Row)) where
  abbrev pub placed : (k j : ℕ) → List Row → List Place
  placed k j [] = []
  placed k j (Act a ∷ rs) = act a ∷ placed k j rs
  placed k j (Exit t l ∷ rs) = exit t l (actions (slice_index_or exits k [])) ∷ placed (k + 1) j rs
  placed k j (Join ∷ rs) = join (actions (slice_index_or entries j [])) ∷ placed k (j + 1) rs

-- a source has no pieces
abbrev pub source_line : Source → Line
source_line s = record { places = placed [] [] 0 0 s.rows; end = s.end }

abbrev pub schedule_line : Schedule → Line
schedule_line x = record { places = placed x.exits x.entries 0 0 x.rows; end = x.end }
