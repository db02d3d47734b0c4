-- The moves of a trace scheduler, as a relation between lines. What moves are actions; exits and joins stay in their order.
use Rattle.std.specs.Prelude.{◌≡◌, ℕ, Bool, true, false, ◌||◌, List, [], ◌∷◌, ◌++◌, map, ◌==◌}
use Rattle.domain.specs.declared.op.Op.{Op}
use Rattle.region.specs.Numbers.{Register, LabelNumber}
use Rattle.region.specs.declared.row.Action.{Action}
use Rattle.region.specs.declared.row.Action.TheVariants.{Operate, Literal, Load, Store}
use Rattle.region.specs.Lines.{Place, act, exit, join, Line}
use Rattle.validator.specs.Walks.{Basis, writes, stores, may_trap_at}

-- whether an action reads register i, and whether it loads from bank k
abbrev pub reads : Action → ℕ → Bool
reads (Operate o d a b) i = i == a.index || i == b.index
reads (Literal d n) i = false
reads (Load d k a) i = i == a.index
reads (Store k a v) i = i == a.index || i == v.index

abbrev pub loads : Action → ℕ → Bool
loads (Operate o d a b) k = false
loads (Literal d n) k = false
loads (Load d b a) k = k == b.index
loads (Store b a v) k = false

-- whether a row of a piece reads register i
abbrev pub any_reads : List Action → ℕ → Bool
any_reads [] i = false
any_reads (a ∷ rest) i = reads a i || any_reads rest i

-- what a writes, b leaves alone: it neither reads nor writes such a register, and neither loads from nor stores to such a bank
pub record Untouched (a b : Action) : Type 0 where
  pub registers : (i : ℕ) → writes a i ≡ true → (reads b i || writes b i) ≡ false
  pub banks : (k : ℕ) → stores a k ≡ true → (loads b k || stores b k) ≡ false

-- neither touches what the other writes
pub record Independent (a b : Action) : Type 0 where
  pub forth : Untouched a b
  pub back : Untouched b a

-- What an action below an exit must be to go above it with no copy: it cannot trap, it is an operate, literal or load,
-- and its register is not the tested one, not live at the exit's label, and read by no row of the exit's piece.
pub record Speculative (β : Basis) (a : Action) (tested : Register) (l : LabelNumber) (piece : List Action) : Type 0 where
  pub trapless : may_trap_at β a ≡ false
  pub storeless : (k : ℕ) → stores a k ≡ false
  pub untested : writes a tested.index ≡ false
  pub dead : (i : ℕ) → writes a i ≡ true → β.live l i ≡ false
  pub unread : (i : ℕ) → writes a i ≡ true → any_reads piece i ≡ false

-- where adjacent actions stand: in the main line, or in a piece, with others above and below them
pub data Spot : Type 0 where
  main_line : Spot
  exit_piece : (tested : Register) (label : LabelNumber) (above below : List Action) → Spot
  join_piece : (above below : List Action) → Spot

abbrev pub standing : Spot → List Action → List Place
standing main_line rows = map act rows
standing (exit_piece t l above below) rows = exit t l (above ++ (rows ++ below)) ∷ []
standing (join_piece above below) rows = join (above ++ (rows ++ below)) ∷ []

-- what one move makes of the places that it touches
pub data Move (β : Basis) : List Place → List Place → Type 0 where
  -- Two adjacent independent actions change places.
  swap : (at : Spot) (a b : Action) → Independent a b → Move β (standing at (a ∷ b ∷ [])) (standing at (b ∷ a ∷ []))
  -- An action just above an exit that does not write the tested register goes below it, and a copy is put first in its piece.
  sink : (a : Action) (t : Register) (l : LabelNumber) (p : List Action) → writes a t.index ≡ false
      → Move β (act a ∷ exit t l p ∷ []) (exit t l (a ∷ p) ∷ act a ∷ [])
  -- The reverse, of an action that does not write the tested register either, where the piece begins with that very action.
  unsink : (a : Action) (t : Register) (l : LabelNumber) (p : List Action) → writes a t.index ≡ false
      → Move β (exit t l (a ∷ p) ∷ act a ∷ []) (act a ∷ exit t l p ∷ [])
  -- A speculative action just below an exit goes above it.
  lift : (a : Action) (t : Register) (l : LabelNumber) (p : List Action) → Speculative β a t l p
      → Move β (exit t l p ∷ act a ∷ []) (act a ∷ exit t l p ∷ [])
  -- An action just below a join goes above it, and a copy is put last in its piece.
  rise : (a : Action) (p : List Action) → Move β (join p ∷ act a ∷ []) (act a ∷ join (p ++ a ∷ []) ∷ [])
  -- The reverse, where the piece ends with that very action.
  unrise : (a : Action) (p : List Action) → Move β (act a ∷ join (p ++ a ∷ []) ∷ []) (join p ∷ act a ∷ [])
  -- The operands of a commuting operation change places.
  turn : (at : Spot) (o : Op) (d a b : Register) → β.commutes o ≡ true
      → Move β (standing at (Operate o d a b ∷ [])) (standing at (Operate o d b a ∷ []))

abbrev pub line : LabelNumber → List Place → Line
line end places = record { places = places; end = end }

-- Finitely many moves lead from the source, whose pieces are empty, to the schedule, which ends at the same label.
-- Nothing is asked of the sizes of the lines on the way.
pub data Derived (β : Basis) (source : Line) : Line → Type 0 where
  unmoved : Derived β source source
  moved : (above below : List Place) {x y : List Place} {end : LabelNumber} → Derived β source (line end (above ++ (x ++ below)))
      → Move β x y → Derived β source (line end (above ++ (y ++ below)))
