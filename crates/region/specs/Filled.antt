-- The rows of a buffer.
use Rattle.std.specs.Prelude.{ℕ, List, take}
use Rattle.region.specs.declared.buffer.RowBuffer.{RowBuffer}
use Rattle.region.specs.declared.row.Row.{Row}

-- the rows that were put in
abbrev pub filled : {N : ℕ} → RowBuffer N → List Row
filled b = take b.len b.rows
