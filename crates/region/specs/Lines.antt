-- A line: rows in order, with the piece of each exit and join at its place.
use Rattle.std.specs.Prelude.{ℕ, zero, suc, ◌+◌, List, [], ◌∷◌}
use Rattle.region.specs.Numbers.{Register, LabelNumber}
use Rattle.region.specs.declared.row.Action.{Action}
use Rattle.region.specs.declared.row.Row.{Row}
use Rattle.region.specs.declared.row.Row.TheVariants.{Act, Exit, Join}
use Rattle.region.specs.declared.side.Side.{Side}
use Rattle.region.specs.Kept.{Kept}
use Rattle.region.specs.Rows.{actions}
use Rattle.region.specs.Layout.{main_rows, exit_rows, join_rows}

-- A place of a line. An exit holds its compensation code, the piece that runs when it is taken;
-- a join holds the piece that runs when the line is entered there.
pub data Place : Type 0 where
  act : Action → Place
  exit : (tested : Register) (label : LabelNumber) (piece : List Action) → Place
  join : (piece : List Action) → Place

-- a line, which ends at a label; the pieces of a source are empty
pub record Line : Type 0 where
  pub places : List Place
  pub end : LabelNumber

-- how many joins a line has, and so how many entries besides entry 0
abbrev pub joins : List Place → ℕ
joins [] = 0
joins (act a ∷ rest) = joins rest
joins (exit t l p ∷ rest) = joins rest
joins (join p ∷ rest) = suc (joins rest)

-- what an entry runs: a piece first, and then the places from there on
pub record Start : Type 0 where
  pub piece : List Action
  pub places : List Place

-- Entry 0 starts at the first place. Entry j starts below the j-th join, and that join's piece runs first.
abbrev pub entered : ℕ → List Place → Start
entered zero places = record { piece = []; places = places }
entered (suc j) [] = record { piece = []; places = [] }
entered (suc j) (act a ∷ rest) = entered (suc j) rest
entered (suc j) (exit t l p ∷ rest) = entered (suc j) rest
entered (suc zero) (join p ∷ rest) = record { piece = p; places = rest }
entered (suc (suc j)) (join p ∷ rest) = entered (suc j) rest

-- The line that a region's rows hold, whatever a caller wrote over them.
module _ (part : List Row) (sh : Kept) where
  -- joins from the j-th on that have no row: they stand at the end
  abbrev pub missing : (j left : ℕ) → List Place
  missing j zero = []
  missing j (suc n) = join (actions (join_rows part sh j)) ∷ missing (suc j) n

  -- The places of main rows with k exits and j joins above them, where `left` joins are still to come:
  -- an exit gets its piece, and join rows beyond those that are kept are passed over.
  abbrev pub places_of : (k j left : ℕ) → List Row → List Place
  places_of k j n [] = missing j n
  places_of k j n (Act a ∷ rs) = act a ∷ places_of k j n rs
  places_of k j n (Exit t l ∷ rs) = exit t l (actions (exit_rows part sh k)) ∷ places_of (k + 1) j n rs
  places_of k j zero (Join ∷ rs) = places_of k j zero rs
  places_of k j (suc n) (Join ∷ rs) = join (actions (join_rows part sh j)) ∷ places_of k (suc j) n rs

-- the source or the schedule of a region, by its rows and by what is kept beside them
abbrev pub assembled : Side → List Row → Kept → Line
assembled side part sh = record { places = places_of part sh 0 0 sh.joins (main_rows side part sh); end = sh.end }
