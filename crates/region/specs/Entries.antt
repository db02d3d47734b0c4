-- Where the entries of a line lie among its main rows.
use Rattle.std.specs.Prelude.{◌≡◌, ℕ, suc, ◌-◌, List, drop}
use Rattle.region.specs.declared.row.Row.{Row}
use Rattle.region.specs.Kept.{Kept}
use Rattle.region.specs.Layout.{join_rows}
use Rattle.region.specs.Lines.{Start, entered, places_of}
use Rattle.region.specs.Rows.{actions}

-- Entry j + 1 of the places that main rows make, with n joins in all, runs the j-th join's piece, counted from 0,
-- and then the rows below `place`, which has so many exits above it.
abbrev pub Enters : (part : List Row) (sh : Kept) (j n : ℕ) (main : List Row) (place exits : ℕ) → Type 0
Enters part sh j n main place exits =
    entered (suc j) (places_of part sh 0 0 n main)
    ≡ record { piece = actions (join_rows part sh j); places = places_of part sh exits (suc j) (n - suc j) (drop place main) }

-- The start at entry e of a line, by rows: those of a piece, and those ahead, which have so many exits above them.
abbrev pub start_of : (part : List Row) (sh : Kept) (e exits : ℕ) (piece ahead : List Row) → Start
start_of part sh e exits piece ahead = record { piece = actions piece; places = places_of part sh exits e (sh.joins - e) ahead }
