-- What main rows and pieces hold, and what is kept of a line.
use Rattle.std.specs.Prelude.{List, map, length, replicate}
use Rattle.region.specs.declared.main_rows.MainRows.{MainRows}
use Rattle.region.specs.declared.piece_rows.PieceRows.{PieceRows}
use Rattle.region.specs.Numbers.{LabelNumber}
use Rattle.region.specs.declared.row.Row.{Row}
use Rattle.region.specs.Filled.{filled}
use Rattle.region.specs.Kept.{Kept}
use Rattle.region.specs.Rows.{joins_in}

-- the rows that were put in
abbrev pub listed : MainRows → List Row
listed m = filled m.rows

-- the twelve pieces, with the rows that were put in
abbrev pub listed_pieces : PieceRows → List (List Row)
listed_pieces p = map filled p.pieces

-- what is kept of a source with these rows: it has no pieces
abbrev pub source_kept : List Row → LabelNumber → Kept
source_kept rs end = record { rows = length rs; exits = replicate 8 0; entries = replicate 4 0; joins = joins_in rs; end = end }

-- what is kept of a schedule with these rows and pieces
abbrev pub schedule_kept : (main : List Row) (exits joins : List (List Row)) → LabelNumber → Kept
schedule_kept main exits joins end = record { rows = length main; exits = map length exits; entries = map length joins; joins = joins_in main; end = end }
