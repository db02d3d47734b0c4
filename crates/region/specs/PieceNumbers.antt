-- Pieces by their exit or join, and their numbers among the twelve of a line.
use Rattle.std.specs.Prelude.{ℕ, ◌+◌, cond, List, Some, None, Option, nat_lt, slice_index}
use Rattle.region.specs.declared.piece.Piece.{Piece}
use Rattle.region.specs.declared.piece.Piece.TheVariants.{OfExit, OfJoin}
use Rattle.region.specs.declared.row.Row.{Row}
use Rattle.region.specs.Kept.{Kept}
use Rattle.region.specs.Layout.{exit_rows, join_rows}

-- the pieces of eight exits come first, and then those of four joins
abbrev pub piece_number : Piece → Option ℕ
piece_number (OfExit k) = cond (nat_lt k 8) (Some k) None
piece_number (OfJoin j) = cond (nat_lt j 4) (Some (8 + j)) None

-- how many rows a piece of a line with that shape has: none beyond the eighth exit and the fourth join
abbrev pub piece_length : Piece → Kept → ℕ
piece_length (OfExit k) sh = slice_index sh.exits k
piece_length (OfJoin j) sh = slice_index sh.entries j

-- and those rows, in a region's rows
abbrev pub piece_rows : Piece → List Row → Kept → List Row
piece_rows (OfExit k) part sh = exit_rows part sh k
piece_rows (OfJoin j) part sh = join_rows part sh j
