-- What a table holds.
use Rattle.std.specs.Prelude.{ℕ, List, length, take}
use Rattle.numbering.specs.declared.kind.Kind.{Ghosts}
use Rattle.numbering.specs.declared.table.Table.{Table}

-- The rows that have a number: the first `len`.
abbrev pub used : {R : Type 0} {kind : Ghosts R} → Table R kind → List R
used t = take t.len t.rows.now

-- How many rows the lent memory has room for.
abbrev pub capacity : {R : Type 0} {kind : Ghosts R} → Table R kind → ℕ
capacity t = length t.rows.now
