-- What is kept of a line beside its rows.
use Rattle.std.specs.Prelude.{ℕ, List, take, drop}
use Rattle.region.specs.Numbers.{LabelNumber}
use Rattle.region.specs.declared.shape.Shape.{Shape}

-- How many main rows there are, how long the piece of each exit and of each join is, how many joins there are,
-- and the end label.
pub record Kept : Type 0 where
  pub rows : ℕ
  pub exits : List ℕ
  pub entries : List ℕ
  pub joins : ℕ
  pub end : LabelNumber

-- the numbers of a shape: of its twelve pieces, eight are of exits and four of joins
abbrev pub kept : Shape → Kept
kept sh = record { rows = sh.rows; exits = take 8 sh.pieces; entries = drop 8 sh.pieces; joins = sh.joins; end = sh.end }
