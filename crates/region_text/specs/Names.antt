-- Labels are told apart by their names.
use Rattle.std.specs.Prelude.{ℕ, Bool, Option, None, Some, sum}
use Rattle.std.specs.Option.{option_eq}
use Rattle.std.specs.Str.{bytes_eq}
use Rattle.region.specs.declared.label.Name.{Name}
use Rattle.region.specs.declared.label.LabelRow.{LabelRow}

-- whether two names are one: they are kept in eight bytes each
abbrev pub same_name : Option Name → Option Name → Bool
same_name = option_eq (λ a b. bytes_eq a.bytes b.bytes)

-- two label rows are equal where their names are, whatever their masks
abbrev pub same_label : LabelRow → LabelRow → Bool
same_label x y = same_name x.name y.name

-- rows are hashed by the bytes of their names: their sum
abbrev pub name_hash : Option Name → ℕ
name_hash None = 0
name_hash (Some name) = sum name.bytes

abbrev pub label_hash : LabelRow → ℕ
label_hash x = name_hash x.name
