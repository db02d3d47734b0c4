-- What a field says.
use Rattle.std.specs.Prelude.{ℕ, ◌+◌, ◌-◌, ◌*◌, cond, ◌&&◌, List, [], ◌∷◌, length, Some, None, Err, Option, Result, ◌==◌, nat_le}
use Rattle.std.specs.Char.{is_ascii_digit}
use Rattle.std.specs.Option.{ok_or}
use Rattle.region_text.specs.declared.fault.Fault.{Fault}
use Rattle.region_text.specs.declared.fault.Fault.TheVariants.{Malformed, OutOfRange}
use Rattle.region_text.specs.declared.fault.Spot.{Spot}
use Rattle.region_text.specs.declared.fault.FieldFault.{FieldFault}

-- what is there, or a fault of the field
abbrev pub or_fault : {X : Type 0} → Fault → Spot → Option X → Result X FieldFault
or_fault f s o = ok_or o (record { fault = f; spot = s })

-- the number that digits say, after digits that said n
abbrev pub digits : ℕ → List ℕ → Option ℕ
digits n [] = Some n
digits n (b ∷ bs) = cond (is_ascii_digit b) (digits (n * 10 + (b - 48)) bs) None

-- a decimal number of any size: at least one digit, and no leading zero
abbrev pub decimal : List ℕ → Option ℕ
decimal [] = None
decimal (b ∷ []) = digits 0 (b ∷ [])
decimal (b ∷ c ∷ bs) = cond (b == 48) None (digits 0 (b ∷ c ∷ bs))

-- A number that stands for something: malformed where it is no decimal, out of range where it stands for nothing.
abbrev pub ranged : {X : Type 0} → (ℕ → Option X) → List ℕ → Spot → Result X FieldFault
ranged make bs s = elim (decimal bs) [ None ↦ Err (record { fault = Malformed; spot = s }) | Some n ↦ or_fault OutOfRange s (make n) ]

-- a lower-case hexadecimal digit
abbrev pub hex_digit : ℕ → Option ℕ
hex_digit b = cond (is_ascii_digit b) (Some (b - 48)) (cond (nat_le 97 b && nat_le b 102) (Some (b - 97 + 10)) None)

-- the number that hexadecimal digits say, after those that said n
abbrev pub hex : ℕ → List ℕ → Option ℕ
hex n [] = Some n
hex n (b ∷ bs) = elim (hex_digit b) [ None ↦ None | Some d ↦ hex (n * 16 + d) bs ]

-- a mask is four lower-case hexadecimal digits
abbrev pub mask_field : List ℕ → Spot → Result ℕ FieldFault
mask_field bs s = or_fault Malformed s (cond (length bs == 4) (hex 0 bs) None)
