-- Label rows and their names.
use Rattle.std.specs.Prelude.{ℕ, Bool, cond, ◌&&◌, ◌||◌, List, length, Some, None, Option, nat_le}
use Rattle.std.specs.Char.{is_ascii_digit, is_ascii_lowercase}
use Rattle.std.specs.List.{list_all}
use Rattle.region.specs.declared.label.Name.{Name}
use Rattle.region.specs.declared.label.LabelRow.{LabelRow}
use Rattle.region.specs.Rows.{laid}

-- a character of a name: a–z or 0–9
abbrev pub name_byte : ℕ → Bool
name_byte b = is_ascii_lowercase b || is_ascii_digit b

-- a name has 1 to 8 of them
abbrev pub spells_name : List ℕ → Bool
spells_name bs = nat_le 1 (length bs) && nat_le (length bs) 8 && list_all name_byte bs

-- it is kept in eight bytes, zeros behind it
abbrev pub name_at : List ℕ → Option Name
name_at bs = cond (spells_name bs) (Some (record { bytes = laid 8 0 bs })) None

-- an unused label row has no name and mask 0
abbrev pub unused : LabelRow
unused = record { name = None; live = 0 }
