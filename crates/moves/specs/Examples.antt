-- Each move at work, and for each of its conditions a change that breaks it, with the mismatch that is found.
-- The derived schedules come from sources, whose pieces are empty; a change that breaks a piece starts from a line that has one.
use Rattle.std.specs.Prelude.{◌≡◌, ℕ, ◌+◌, ◌%◌, Bool, List, [], ◌∷◌, ◌==◌}
use Rattle.std.proofs.Common.{lit<, mod-lt}
use Rattle.domain.specs.declared.op.Op.{Op}
use Rattle.domain.specs.declared.op.Op.TheVariants.{Add, Sub, Lt}
use Rattle.domain.specs.Trapping.{trapping}
use Rattle.domain.specs.Wrapping.{wrapping}
use Rattle.region.specs.Numbers.{Register, LabelNumber}
use Rattle.region.specs.declared.row.Action.{Action}
use Rattle.region.specs.declared.row.Action.TheVariants.{Operate, Literal, Load, Store}
use Rattle.region.specs.Lines.{Place, act, exit, join}
use Rattle.validator.specs.declared.verdict.Reason.{Reason}
use Rattle.validator.specs.declared.verdict.Reason.TheVariants as reason
use Rattle.validator.specs.declared.verdict.Verdict.TheVariants.{Passed, Failed}
use Rattle.validator.specs.Walks.{Basis, basis}
use Rattle.validator.specs.Comparison.{comparison}
use Rattle.moves.specs.Moves.{Derived, line}

abbrev pub register : ℕ → Register
register n = record { index = n % 16; fits = mod-lt n (lit< tt) }

abbrev pub label : ℕ → LabelNumber
label n = record { index = n % 9; fits = mod-lt n (lit< tt) }

-- operate, literal, load and store, by the numbers of their registers and banks
abbrev pub O : Op → (to left right : ℕ) → Action
O o d a b = Operate o (register d) (register a) (register b)

abbrev pub I : (to value : ℕ) → Action
I d n = Literal (register d) n

abbrev pub L : (to bank address : ℕ) → Action
L d k a = Load (register d) (record { index = k % 4; fits = mod-lt k (lit< tt) }) (register a)

abbrev pub S : (bank address from : ℕ) → Action
S k a v = Store (record { index = k % 4; fits = mod-lt k (lit< tt) }) (register a) (register v)

-- an exit to label 1 on register 6
abbrev pub X : List Action → Place
X p = exit (register 6) (label 1) p

-- register 1 alone is live at label 0, where the lines end, and register 2 alone at label 1
abbrev pub live : LabelNumber → ℕ → Bool
live l i = i == l.index + 1

abbrev pub W : Basis
W = basis wrapping live

abbrev pub T : Basis
T = basis trapping live

-- moves derive the schedule, and it passes
pub record Passes (β : Basis) (source schedule : List Place) : Type 0 where
  pub derived : Derived β (line (label 0) source) (line (label 0) schedule)
  pub passed : comparison β (line (label 0) source) (line (label 0) schedule) ≡ Passed

-- the mismatch that is found
abbrev pub Breaks : Basis → (source schedule : List Place) → (entry stop : ℕ) → Reason → (number : ℕ) → Type 0
Breaks β source schedule e n r i =
    comparison β (line (label 0) source) (line (label 0) schedule) ≡ Failed (record { entry = e; stop = n; reason = r; number = i })

pub record Swaps : Type 0 where
  pub in_line : Passes T (act (O Add 1 3 4) ∷ act (S 1 5 6) ∷ []) (act (S 1 5 6) ∷ act (O Add 1 3 4) ∷ [])
  pub in_exit : Passes W (act (I 2 7) ∷ act (I 3 8) ∷ X [] ∷ []) (X (I 3 8 ∷ I 2 7 ∷ []) ∷ act (I 2 7) ∷ act (I 3 8) ∷ [])
  pub in_join : Passes W (join [] ∷ act (I 1 7) ∷ act (I 3 8) ∷ []) (act (I 1 7) ∷ act (I 3 8) ∷ join (I 3 8 ∷ I 1 7 ∷ []) ∷ [])
  pub read_written : Breaks W (act (I 3 7) ∷ act (O Add 1 3 4) ∷ []) (act (O Add 1 3 4) ∷ act (I 3 7) ∷ []) 0 1 reason.Register 1
  pub written_read : Breaks W (act (O Add 1 3 4) ∷ act (I 3 7) ∷ []) (act (I 3 7) ∷ act (O Add 1 3 4) ∷ []) 0 1 reason.Register 1
  pub written_written : Breaks W (act (I 1 7) ∷ act (I 1 8) ∷ []) (act (I 1 8) ∷ act (I 1 7) ∷ []) 0 1 reason.Register 1
  pub stored_loaded : Breaks W (act (S 1 5 6) ∷ act (L 1 1 5) ∷ []) (act (L 1 1 5) ∷ act (S 1 5 6) ∷ []) 0 1 reason.Register 1
  pub loaded_stored : Breaks W (act (L 1 1 5) ∷ act (S 1 5 6) ∷ []) (act (S 1 5 6) ∷ act (L 1 1 5) ∷ []) 0 1 reason.Register 1
  pub stored_stored : Breaks W (act (S 1 5 6) ∷ act (S 1 4 6) ∷ []) (act (S 1 4 6) ∷ act (S 1 5 6) ∷ []) 0 1 reason.Bank 1

pub record Sinks : Type 0 where
  pub sunk : Passes T (act (S 1 5 6) ∷ X [] ∷ []) (X (S 1 5 6 ∷ []) ∷ act (S 1 5 6) ∷ [])
  pub tested : Breaks W (act (I 6 7) ∷ X [] ∷ []) (X (I 6 7 ∷ []) ∷ act (I 6 7) ∷ []) 0 1 reason.Condition 0
  pub no_copy : Breaks W (act (S 1 5 6) ∷ X [] ∷ []) (X [] ∷ act (S 1 5 6) ∷ []) 0 1 reason.Bank 1
  pub copy_last :
      Breaks W (act (I 3 7) ∷ act (O Add 2 3 3) ∷ X [] ∷ []) (X (O Add 2 3 3 ∷ I 3 7 ∷ []) ∷ act (I 3 7) ∷ act (O Add 2 3 3) ∷ []) 0 1 reason.Register 2

pub record Unsinks : Type 0 where
  pub unsunk : Passes T (act (O Add 1 3 4) ∷ X [] ∷ []) (act (O Add 1 4 3) ∷ X [] ∷ [])
  pub tested : Breaks W (X (I 6 7 ∷ []) ∷ act (I 6 7) ∷ []) (act (I 6 7) ∷ X [] ∷ []) 0 1 reason.Condition 0
  pub another : Breaks W (X (I 2 7 ∷ []) ∷ act (I 2 8) ∷ []) (act (I 2 8) ∷ X [] ∷ []) 0 1 reason.Register 2

pub record Lifts : Type 0 where
  pub operate : Passes W (X [] ∷ act (O Add 1 3 4) ∷ []) (act (O Add 1 3 4) ∷ X [] ∷ [])
  pub trapless_operate : Passes T (X [] ∷ act (O Lt 1 3 4) ∷ []) (act (O Lt 1 3 4) ∷ X [] ∷ [])
  pub literal : Passes T (X [] ∷ act (I 1 7) ∷ []) (act (I 1 7) ∷ X [] ∷ [])
  pub load : Passes W (X [] ∷ act (L 1 1 5) ∷ []) (act (L 1 1 5) ∷ X [] ∷ [])
  pub trapping_operate : Breaks T (X [] ∷ act (O Add 1 3 4) ∷ []) (act (O Add 1 3 4) ∷ X [] ∷ []) 0 1 reason.Traps 0
  pub trapping_load : Breaks T (X [] ∷ act (L 1 1 5) ∷ []) (act (L 1 1 5) ∷ X [] ∷ []) 0 1 reason.Traps 0
  pub store : Breaks W (X [] ∷ act (S 1 5 6) ∷ []) (act (S 1 5 6) ∷ X [] ∷ []) 0 1 reason.Bank 1
  pub tested : Breaks W (X [] ∷ act (I 6 7) ∷ []) (act (I 6 7) ∷ X [] ∷ []) 0 1 reason.Condition 0
  pub live_there : Breaks W (X [] ∷ act (I 2 7) ∷ []) (act (I 2 7) ∷ X [] ∷ []) 0 1 reason.Register 2
  pub read : Breaks W (X (O Add 2 1 3 ∷ []) ∷ act (I 1 7) ∷ []) (act (I 1 7) ∷ X (O Add 2 1 3 ∷ []) ∷ []) 0 1 reason.Register 2

pub record Rises : Type 0 where
  pub risen : Passes T (join [] ∷ act (S 1 5 6) ∷ []) (act (S 1 5 6) ∷ join (S 1 5 6 ∷ []) ∷ [])
  pub no_copy : Breaks W (join [] ∷ act (I 1 7) ∷ []) (act (I 1 7) ∷ join [] ∷ []) 1 1 reason.Register 1
  pub copy_first :
      Breaks W (join [] ∷ act (I 3 7) ∷ act (O Add 1 3 3) ∷ []) (act (I 3 7) ∷ act (O Add 1 3 3) ∷ join (O Add 1 3 3 ∷ I 3 7 ∷ []) ∷ []) 1 1 reason.Register 1

pub record Unrises : Type 0 where
  pub unrisen : Passes T (join [] ∷ act (O Add 1 3 4) ∷ []) (join [] ∷ act (O Add 1 4 3) ∷ [])
  pub another : Breaks W (act (I 1 8) ∷ join (I 1 7 ∷ []) ∷ []) (join [] ∷ act (I 1 8) ∷ []) 1 1 reason.Register 1

pub record Turns : Type 0 where
  pub turned : Passes T (act (O Add 1 3 4) ∷ []) (act (O Add 1 4 3) ∷ [])
  pub of_sub : Breaks W (act (O Sub 1 3 4) ∷ []) (act (O Sub 1 4 3) ∷ []) 0 1 reason.Register 1
  pub of_sub_trapping : Breaks T (X [] ∷ act (O Sub 3 1 4) ∷ []) (X [] ∷ act (O Sub 3 4 1) ∷ []) 0 2 reason.Traps 0

-- exits and joins do not move
pub record Stays : Type 0 where
  pub exits : Breaks W (X [] ∷ exit (register 5) (label 1) [] ∷ []) (exit (register 5) (label 1) [] ∷ X [] ∷ []) 0 1 reason.Condition 0
  pub labels : Breaks W (X [] ∷ []) (exit (register 6) (label 2) [] ∷ []) 0 1 reason.Label 0
  pub fewer : Breaks W (X [] ∷ X [] ∷ []) (X [] ∷ []) 0 2 reason.End 0
  pub more : Breaks W (X [] ∷ []) (X [] ∷ X [] ∷ []) 0 2 reason.End 0
  pub joins : Breaks W (join [] ∷ []) [] 0 0 reason.Joins 0

abbrev pub Examples : Type 0
Examples = Swaps × Sinks × Unsinks × Lifts × Rises × Unrises × Turns × Stays
