-- T, trapping words: numbers of 32 bits with a sign. An exact result that does not fit traps.
use Rattle.std.specs.Prelude.{Bool, true, false, cond, not, ◌&&◌, ℤ, pos, negsuc, ◌+ℤ◌, ◌-ℤ◌, ◌*ℤ◌, Some, None, Option, bit_and, bit_or, int_div, int_le, int_lt}
use Rattle.std.specs.Int.{w32}
use Rattle.std.proofs.Common.{to_z, of_z}
use Rattle.domain.specs.declared.op.Op.{Op}
use Rattle.domain.specs.declared.op.Op.TheVariants.{Add, Sub, Mul, Div, Lt, Eq, And, Or}
use Rattle.domain.specs.declared.trapping.Trapping.{Trapping}
use Rattle.domain.specs.Meaning.{Meaning}
use Rattle.domain.specs.Slots.{Slot, slot_at}
use Rattle.domain.specs.Wrapping.{commuting_words}

abbrev pub word : ℤ → Trapping
word z = record { value = z }

-- a comparison gives 1 or 0
abbrev pub flag : Bool → ℤ
flag b = cond b (pos 1) (pos 0)

abbrev pub equal : ℤ → ℤ → Bool
equal a b = int_le a b && int_le b a

-- an exact result, which traps unless it lies from -2147483648 to 2147483647
abbrev pub fitting : ℤ → Option Trapping
fitting z = cond (int_le (negsuc 2147483647) z && int_le z (pos 2147483647)) (Some (word z)) None

-- Add, sub and mul are exact. Div drops the fraction; it traps on divisor 0, and -2147483648 by -1 does not fit.
-- And and or work on the bits of the two's complement.
abbrev pub result : Op → ℤ → ℤ → Option Trapping
result Add a b = fitting (a +ℤ b)
result Sub a b = fitting (a -ℤ b)
result Mul a b = fitting (a *ℤ b)
result Div a b = cond (equal b (pos 0)) None (fitting (int_div a b))
result Lt a b = Some (word (flag (int_lt a b)))
result Eq a b = Some (word (flag (equal a b)))
result And a b = Some (word (to_z w32 (bit_and (of_z w32 a) (of_z w32 b))))
result Or a b = Some (word (to_z w32 (bit_or (of_z w32 a) (of_z w32 b))))

-- a word from 0 to 15 is a slot; any other traps
abbrev pub addressed : ℤ → Option Slot
addressed (pos n) = slot_at n
addressed (negsuc n) = None

-- add, sub, mul and div may trap
abbrev pub trapping_operations : Op → Bool
trapping_operations Add = true
trapping_operations Sub = true
trapping_operations Mul = true
trapping_operations Div = true
trapping_operations Lt = false
trapping_operations Eq = false
trapping_operations And = false
trapping_operations Or = false

-- truth is nonzero; addresses may trap; the same operations commute as in W
abbrev pub trapping : Meaning Trapping
trapping = record {
  apply = λ o a b. result o a.value b.value;
  literal = λ n. word (pos n);
  truth = λ a. not (equal a.value (pos 0));
  slot = λ a. addressed a.value;
  may_trap = trapping_operations;
  may_trap_address = true;
  commutes = commuting_words;
}
