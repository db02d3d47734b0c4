-- Where the rows of a line lie among a region's 384 rows.
use Rattle.std.specs.Prelude.{ℕ, ◌+◌, ◌*◌, List, take, drop, slice_index}
use Rattle.region.specs.declared.row.Row.{Row}
use Rattle.region.specs.declared.side.Side.{Side}
use Rattle.region.specs.declared.side.Side.TheVariants.{Source, Schedule}
use Rattle.region.specs.Kept.{Kept}

-- rows 0 to 95 are the source, rows 96 to 191 the main line of the schedule
abbrev pub main_at : Side → ℕ
main_at Source = 0
main_at Schedule = 96

-- Sixteen rows for the piece of each of eight exits begin at 192, and sixteen for that of each of four joins at 320.
-- Exits and joins are counted from 0 here, from the top of the line.
abbrev pub exit_piece_at : ℕ → ℕ
exit_piece_at k = 192 + 16 * k

abbrev pub join_piece_at : ℕ → ℕ
join_piece_at j = 320 + 16 * j

-- the rows of a line with that shape in a region's rows; beyond the eighth exit and the fourth join a piece is empty
abbrev pub main_rows : Side → List Row → Kept → List Row
main_rows side part sh = take sh.rows (drop (main_at side) part)

abbrev pub exit_rows : List Row → Kept → ℕ → List Row
exit_rows part sh k = take (slice_index sh.exits k) (drop (exit_piece_at k) part)

abbrev pub join_rows : List Row → Kept → ℕ → List Row
join_rows part sh j = take (slice_index sh.entries j) (drop (join_piece_at j) part)
