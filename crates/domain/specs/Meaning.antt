-- What a domain of words means, and when it is lawful.
use Rattle.std.specs.Prelude.{◌≡◌, ℕ, Bool, true, false, ◌≢◌, None, Option}
use Rattle.domain.specs.declared.op.Op.{Op}
use Rattle.domain.specs.Slots.{Slot}

-- The six functions of a domain whose words are W; may_trap has a second part, for addresses. None is a trap.
pub record Meaning (W : Type 0) : Type 0 where
  -- an operation on two words
  pub apply : Op → W → W → Option W
  -- the word of a number from 0 to 65535
  pub literal : ℕ → W
  -- whether an exit that tests this word is taken
  pub truth : W → Bool
  -- the cell of a bank that a word addresses
  pub slot : W → Option Slot
  -- whether an operation, or the use of a word as an address, may trap
  pub may_trap : Op → Bool
  pub may_trap_address : Bool
  -- whether the operands of an operation may be exchanged
  pub commutes : Op → Bool

-- The two laws: what is said not to trap never traps, and what is said to commute does, traps included.
pub record Lawful {W : Type 0} (m : Meaning W) : Type 0 where
  pub trapless : (o : Op) (a b : W) → m.may_trap o ≡ false → m.apply o a b ≢ None
  pub trapless_address : (a : W) → m.may_trap_address ≡ false → m.slot a ≢ None
  pub commuting : (o : Op) (a b : W) → m.commutes o ≡ true → m.apply o a b ≡ m.apply o b a
