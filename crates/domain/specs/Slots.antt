-- Slots: the places of a bank's sixteen cells.
use Rattle.std.specs.Prelude.{ℕ, Option}
use Rattle.domain.specs.declared.below.Below.{Below}
use Rattle.domain.specs.Numbered.{numbered}

abbrev pub Slot : Type 0
Slot = Below 16

-- the slot of a number from 0 to 15, and none for any other
abbrev pub slot_at : ℕ → Option Slot
slot_at = numbered 16
