-- The comparison of two stops by the numbers of their terms.
use Rattle.std.specs.Prelude.{◌≡◌, ℕ, ◌^◌, ◌<◌, Bool, true, not, ◌&&◌, List, Some, None, Option, ◌==◌, slice_index, slice_index_or}
use Rattle.std.specs.Bool.{beq}
use Rattle.std.specs.Cmp.Lexicographic.{pointwise}
use Rattle.region.specs.declared.label.LabelRow.{LabelRow}
use Rattle.region.specs.Numbers.{LabelNumber}
use Rattle.region.specs.Labels.{unused}
use Rattle.validator.specs.declared.verdict.Mismatch.{Mismatch}
use Rattle.validator.specs.declared.verdict.Reason.TheVariants as reason
use Rattle.validator.specs.declared.walk.Walk.{Walk}
use Rattle.validator.specs.declared.walk.Reached.{Reached}
use Rattle.validator.specs.Comparison.{◌or_else◌, found, lowest}
use Rattle.validator.specs.Live.{bit}

-- the live mask of a label
abbrev pub live_mask : List LabelRow → LabelNumber → ℕ
live_mask labels l = (slice_index_or labels l.index unused).live

abbrev pub unlike : List ℕ → List ℕ → ℕ → Bool
unlike xs ys i = not (slice_index xs i == slice_index ys i)

-- the bits of a mask below bit i are those of the numbers that pass the test
abbrev pub Marks : (ℕ → Bool) → ℕ → ℕ → Type 0
Marks test i mask = (mask < 2 ^ i) × ((k : ℕ) → k < i → (bit k mask == 1) ≡ test k)

module _ (e n : ℕ) where
  abbrev pub conditions_differ : Option ℕ → Option ℕ → Option Mismatch
  conditions_differ None None = None
  conditions_differ None (Some c) = found e n true reason.End 0
  conditions_differ (Some b) None = found e n true reason.End 0
  conditions_differ (Some b) (Some c) = found e n (not (b == c)) reason.Condition 0

  abbrev pub labels_differ : LabelNumber → LabelNumber → Option Mismatch
  labels_differ a b = found e n (not (a.index == b.index)) reason.Label 0

  abbrev pub registers_differ : (live : ℕ) → Walk → Walk → Option Mismatch
  registers_differ live x y = lowest e n 16 (λ i. (bit i live == 1) && unlike x.registers y.registers i) reason.Register

  abbrev pub banks_differ : Walk → Walk → Option Mismatch
  banks_differ x y = lowest e n 4 (unlike x.banks y.banks) reason.Bank

  abbrev pub marks_differ : Walk → Walk → Option Mismatch
  marks_differ x y = found e n (not (pointwise beq x.traps y.traps)) reason.Traps 0

  -- what differs first
  abbrev pub numbers_differ : (live : ℕ) → Reached → Reached → Option Mismatch
  numbers_differ live x y =
      conditions_differ x.condition y.condition
      or_else labels_differ x.label y.label
      or_else registers_differ live x.walk y.walk
      or_else banks_differ x.walk y.walk
      or_else marks_differ x.walk y.walk
