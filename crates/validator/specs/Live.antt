-- Live masks: bit i of a label's mask stands for register i.
use Rattle.std.specs.Prelude.{ℕ, Bool, List, ◌==◌, slice_index_or}
use Rattle.std.specs.Int.{bit_at}
use Rattle.region.specs.declared.label.LabelRow.{LabelRow}
use Rattle.region.specs.Numbers.{LabelNumber}
use Rattle.region.specs.Labels.{unused}

-- bit i of a number, from the lowest on
abbrev pub bit : ℕ → ℕ → ℕ
bit i n = bit_at n i

-- whether a register is live at a label, by a region's label rows
abbrev pub live_in : List LabelRow → LabelNumber → ℕ → Bool
live_in labels l i = bit i (slice_index_or labels l.index unused).live == 1
