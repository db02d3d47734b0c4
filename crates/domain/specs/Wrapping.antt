-- W, wrapping words: numbers of 32 bits without a sign. Nothing traps.
use Rattle.std.specs.Prelude.{ℕ, ◌+◌, ◌-◌, ◌*◌, ◌/◌, ◌%◌, ◌^◌, Bool, true, false, cond, not, Some, ◌==◌, bit_and, bit_or, nat_lt}
use Rattle.domain.specs.declared.op.Op.{Op}
use Rattle.domain.specs.declared.op.Op.TheVariants.{Add, Sub, Mul, Div, Lt, Eq, And, Or}
use Rattle.domain.specs.declared.wrapping.Wrapping.{Wrapping}
use Rattle.domain.specs.Meaning.{Meaning}
use Rattle.domain.specs.Slots.{slot_at}

abbrev pub word : ℕ → Wrapping
word n = record { value = n }

-- a comparison gives 1 or 0
abbrev pub flag : Bool → ℕ
flag b = cond b 1 0

-- Add, sub and mul are modulo 2^32. Div is the whole quotient, and by 0 it gives 2^32 - 1. And and or work bit by bit.
abbrev pub result : Op → ℕ → ℕ → ℕ
result Add a b = (a + b) % 2 ^ 32
result Sub a b = (a + (2 ^ 32 - b)) % 2 ^ 32
result Mul a b = (a * b) % 2 ^ 32
result Div a b = cond (b == 0) 4294967295 (a / b)
result Lt a b = flag (nat_lt a b)
result Eq a b = flag (a == b)
result And a b = bit_and a b
result Or a b = bit_or a b

-- add, mul, eq, and, or commute; sub, div and lt do not
abbrev pub commuting_words : Op → Bool
commuting_words Add = true
commuting_words Sub = false
commuting_words Mul = true
commuting_words Div = false
commuting_words Lt = false
commuting_words Eq = true
commuting_words And = true
commuting_words Or = true

-- truth is nonzero, and the slot is the remainder by 16
abbrev pub wrapping : Meaning Wrapping
wrapping = record {
  apply = λ o a b. Some (word (result o a.value b.value));
  literal = word;
  truth = λ a. not (a.value == 0);
  slot = λ a. slot_at (a.value % 16);
  may_trap = λ o. false;
  may_trap_address = false;
  commutes = commuting_words;
}
