-- The pieces of a schedule: its compensation code.
-- There are twelve, those of eight exits and then those of four joins: the piece of exit k is piece k, and that of join j is piece 8 + j, counted from 0.
use Rattle.std.specs.Prelude.{ℕ, Bool, ◌&&◌, List, [], ◌∷◌, ◌++◌, length, take, drop, nat_lt, slice_index_or, slice_set}
use Rattle.region.specs.declared.row.Row.{Row}
use Rattle.region.specs.Rows.{blank, laid}

abbrev pub exit_pieces : List (List Row) → List (List Row)
exit_pieces = take 8

abbrev pub join_pieces : List (List Row) → List (List Row)
join_pieces = drop 8

-- a piece has at most sixteen rows: whether there is a piece p, and it can take one row more
abbrev pub piece_takes : List (List Row) → ℕ → Bool
piece_takes ps p = nat_lt p 12 && nat_lt (length (slice_index_or ps p [])) 16

-- the pieces with one row more in piece p
abbrev pub put_in : List (List Row) → ℕ → Row → List (List Row)
put_in ps p r = slice_set ps p (slice_index_or ps p [] ++ r ∷ [])

-- pieces laid out, each in sixteen places
abbrev pub laid_pieces : List (List Row) → List Row
laid_pieces [] = []
laid_pieces (p ∷ ps) = laid 16 blank p ++ laid_pieces ps

-- the rows of a schedule as they lie in a region: the main line, the pieces of its exits, the pieces of its joins
abbrev pub schedule_rows : (main : List Row) (exits joins : List (List Row)) → List Row
schedule_rows main exits joins = laid 96 blank main ++ (laid_pieces exits ++ laid_pieces joins)
