-- The numbers that rows hold: a value for each number in its range, and none for any other.
use Rattle.std.specs.Prelude.{ℕ, Option}
use Rattle.domain.specs.declared.below.Below.{Below}
use Rattle.domain.specs.Numbered.{numbered}

abbrev pub Register : Type 0
Register = Below 16

abbrev pub Bank : Type 0
Bank = Below 4

abbrev pub LabelNumber : Type 0
LabelNumber = Below 9

-- registers are 0 to 15
abbrev pub register_at : ℕ → Option Register
register_at = numbered 16

-- banks are 0 to 3
abbrev pub bank_at : ℕ → Option Bank
bank_at = numbered 4

-- labels are 0 to 8
abbrev pub label_at : ℕ → Option LabelNumber
label_at = numbered 9
