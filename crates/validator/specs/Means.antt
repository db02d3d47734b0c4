-- What the numbers of a walk stand for.
use Rattle.std.specs.Prelude.{◌≡◌, ℕ, ◌<◌, Bool, true, false, cond, List, [], ◌∷◌, length, replicate, Some, None, Option, slice_index, slice_set}
use Rattle.domain.specs.declared.op.Op.{Op}
use Rattle.domain.specs.Meaning.{Meaning}
use Rattle.region.specs.Numbers.{LabelNumber, Register}
use Rattle.region.specs.declared.row.Action.{Action}
use Rattle.region.specs.declared.row.Action.TheVariants.{Operate, Literal, Load, Store}
use Rattle.region.specs.declared.row.Row.{Row}
use Rattle.region.specs.Rows.{actions}
use Rattle.validator.specs.declared.term_row.TermRow.{TermRow}
use Rattle.validator.specs.declared.term_row.TermRow.TheVariants as row
use Rattle.validator.specs.declared.walk.Walk.{Walk}
use Rattle.validator.specs.declared.walk.Reached.{Reached}
use Rattle.validator.specs.Terms.{Term}
use Rattle.validator.specs.Walks.{Basis, basis, Symbols, Stop, at_entry, may_trap_at, follow_all}
use Rattle.validator.specs.Tidy.{Tidy, Names, Says, Grown}

module _ (commutes : Op → Bool) where
  -- a set of numbers, as marks, for a list of terms
  pub data Marked (xs : List TermRow) : List Bool → List Term → Type 0 where
    none : Marked xs (replicate 512 false) []
    more : (marks : List Bool) (ts : List Term) (n : ℕ) (t : Term) → Names commutes xs n t → Marked xs marks ts → Marked xs (slice_set marks n true) (t ∷ ts)

  -- the numbers of a walk stand for its symbols
  pub record Means (xs : List TermRow) (w : Walk) (s : Symbols) : Type 0 where
    pub sixteen : length w.registers ≡ 16
    pub four : length w.banks ≡ 4
    pub register : (i : ℕ) → i < 16 → Names commutes xs (slice_index w.registers i) (s.register i)
    pub bank : (k : ℕ) → k < 4 → Names commutes xs (slice_index w.banks k) (s.bank k)
    pub traps : Marked xs w.traps s.traps

  -- the table grew, and the walk stands for s in it
  pub record Follows (xs ys : List TermRow) (w : Walk) (s : Symbols) : Type 0 where
    pub grown : Grown commutes xs ys
    pub means : Means ys w s

  -- each row that is made for a place says what f gives there, over whatever table
  abbrev pub EachSays : (makes : ℕ → TermRow → Type 0) → (f : ℕ → Term) → Type 0
  EachSays makes f = (xs : List TermRow) (i : ℕ) (r : TermRow) → makes i r → Says commutes xs r (f i)

  -- the first i numbers stand for f of 0, 1, ..
  pub record Named (xs ys : List TermRow) (ns : List ℕ) (f : ℕ → Term) (i : ℕ) : Type 0 where
    pub grown : Grown commutes xs ys
    pub names : (j : ℕ) → j < i → Names commutes ys (slice_index ns j) (f j)

  -- a walk that stands at an entry
  pub record Begun (xs : List TermRow) (w : Walk) : Type 0 where
    pub tidy : Tidy commutes xs
    pub means : Means xs w at_entry

  -- a number or none for the condition of a stop
  abbrev pub ConditionMeans : List TermRow → Option ℕ → Option Term → Type 0
  ConditionMeans xs None None = Unit {0}
  ConditionMeans xs None (Some t) = ⊥
  ConditionMeans xs (Some n) None = ⊥
  ConditionMeans xs (Some n) (Some t) = Names commutes xs n t

  pub record StopMeans (xs : List TermRow) (r : Reached) (x : Stop) : Type 0 where
    pub condition : ConditionMeans xs r.condition x.condition
    pub label : r.label ≡ x.label
    pub walk : Means xs r.walk x.symbols

-- the stops behind one: there are none behind the last, which has no condition
abbrev pub behind : Option ℕ → List Stop → List Stop
behind None xs = []
behind (Some n) xs = xs

-- A walk came to the stop r, and goes on as w: the stops that it had ahead are that one, and those that it has ahead then.
pub record Stopped (commutes : Op → Bool) (xs ys : List TermRow) (r : Reached) (w : Walk) (then : Symbols → List Stop) (stops : List Stop) : Type 0 where
  pub grown : Grown commutes xs ys
  pub stop : Stop
  pub stop_means : StopMeans commutes ys r stop
  pub symbols : Symbols
  pub means : Means commutes ys w symbols
  pub stops_are : stops ≡ stop ∷ behind r.condition (then symbols)

-- a walk has come to w, and the stops that it has ahead are these
pub record Onward (commutes : Op → Bool) (xs ys : List TermRow) (w : Walk) (then : Symbols → List Stop) (stops : List Stop) : Type 0 where
  pub symbols : Symbols
  pub follows : Follows commutes xs ys w symbols
  pub ahead_are : then symbols ≡ stops

-- which registers are live at which labels; a walk does not ask
abbrev pub Liveness : Type 0
Liveness = LabelNumber → ℕ → Bool

-- what f does to symbols was done to a walk
abbrev pub Does : {W : Type 0} → Meaning W → List TermRow → Walk → List TermRow → Walk → (Basis → Symbols → Symbols) → Type 0
Does m xs w ys v f =
    (live : Liveness) (s : Symbols) → Tidy m.commutes xs → Means m.commutes xs w s → Follows m.commutes xs ys v (f (basis m live) s)

-- a walk that was at w left by an exit over the rows of its piece, which go on a copy: the condition is the term above them
abbrev pub Leaves : {W : Type 0} → Meaning W → List TermRow → Walk → (tested : Register) → LabelNumber → List Row → List TermRow → Reached → Type 0
Leaves m xs w t l piece ys r =
    (live : Liveness) (s : Symbols) → Tidy m.commutes xs → Means m.commutes xs w s
    → Grown m.commutes xs ys
    × StopMeans m.commutes ys r (record { condition = Some (s.register t.index); label = l; symbols = follow_all (basis m live) (actions piece) s })

-- the row of the term that an action makes
abbrev pub action_row : (commutes : Op → Bool) → Walk → Action → TermRow
action_row commutes w (Operate o d a b) = row.Operate o (commutes o) (slice_index w.registers a.index) (slice_index w.registers b.index)
action_row commutes w (Literal d n) = row.Literal n
action_row commutes w (Load d k a) = row.Load (slice_index w.banks k.index) (slice_index w.registers a.index)
action_row commutes w (Store k a v) = row.Store (slice_index w.banks k.index) (slice_index w.registers a.index) (slice_index w.registers v.index)

-- the numbers of the registers and of the banks after an action whose term has the number n
abbrev pub put_register : Action → ℕ → List ℕ → List ℕ
put_register (Operate o d a b) n rs = slice_set rs d.index n
put_register (Literal d m) n rs = slice_set rs d.index n
put_register (Load d k a) n rs = slice_set rs d.index n
put_register (Store k a v) n rs = rs

abbrev pub put_bank : Action → ℕ → List ℕ → List ℕ
put_bank (Operate o d a b) n ks = ks
put_bank (Literal d m) n ks = ks
put_bank (Load d k a) n ks = ks
put_bank (Store k a v) n ks = slice_set ks k.index n

-- the walk after an action whose term has the number n
abbrev pub put : Basis → Action → ℕ → Walk → Walk
put β a n w = record {
  registers = put_register a n w.registers;
  banks = put_bank a n w.banks;
  traps = cond (may_trap_at β a) (slice_set w.traps n true) w.traps;
}
