-- Walks: the machine with terms in the place of words, and no exit taken.
use Rattle.std.specs.Prelude.{ℕ, Bool, false, cond, List, [], ◌∷◌, Some, None, Option, ◌==◌}
use Rattle.domain.specs.declared.op.Op.{Op}
use Rattle.region.specs.declared.row.Action.{Action}
use Rattle.region.specs.declared.row.Action.TheVariants.{Operate, Literal, Load, Store}
use Rattle.region.specs.Numbers.{LabelNumber}
use Rattle.domain.specs.Meaning.{Meaning}
use Rattle.region.specs.Lines.{Place, act, exit, join, Line, entered}
use Rattle.validator.specs.Terms.{Term, register_at_entry, bank_at_entry, literal, operate, load, store}

-- What walks, comparisons and moves go by: what the domain says of its operations and addresses,
-- and which registers are live at a label.
pub record Basis : Type 0 where
  pub may_trap : Op → Bool
  pub may_trap_address : Bool
  pub commutes : Op → Bool
  pub live : LabelNumber → ℕ → Bool

abbrev pub basis : {W : Type 0} → Meaning W → (LabelNumber → ℕ → Bool) → Basis
basis m live = record { may_trap = m.may_trap; may_trap_address = m.may_trap_address; commutes = m.commutes; live = live }

-- whether an action writes register i, and whether it stores to bank k
abbrev pub writes : Action → ℕ → Bool
writes (Operate o d a b) i = i == d.index
writes (Literal d n) i = i == d.index
writes (Load d k a) i = i == d.index
writes (Store k a v) i = false

abbrev pub stores : Action → ℕ → Bool
stores (Operate o d a b) k = false
stores (Literal d n) k = false
stores (Load d b a) k = false
stores (Store b a v) k = k == b.index

abbrev pub may_trap_at : Basis → Action → Bool
may_trap_at β (Operate o d a b) = β.may_trap o
may_trap_at β (Literal d n) = false
may_trap_at β (Load d k a) = β.may_trap_address
may_trap_at β (Store k a v) = β.may_trap_address

-- what a walk carries: a term for each register and bank, and the terms that may have trapped so far
pub record Symbols : Type 0 where
  pub register : ℕ → Term
  pub bank : ℕ → Term
  pub traps : List Term

abbrev pub at_entry : Symbols
at_entry = record { register = register_at_entry; bank = bank_at_entry; traps = [] }

-- an action's term: what it writes or stores
abbrev pub term : Action → Symbols → Term
term (Operate o d a b) s = operate o (s.register a.index) (s.register b.index)
term (Literal d n) s = literal n
term (Load d k a) s = load (s.bank k.index) (s.register a.index)
term (Store k a v) s = store (s.bank k.index) (s.register a.index) (s.register v.index)

-- a place where a walk may end; the last one has no condition
pub record Stop : Type 0 where
  pub condition : Option Term
  pub label : LabelNumber
  pub symbols : Symbols

module _ (β : Basis) where
  abbrev pub follow : Action → Symbols → Symbols
  follow a s = record {
    register = λ i. cond (writes a i) (term a s) (s.register i);
    bank = λ k. cond (stores a k) (term a s) (s.bank k);
    traps = cond (may_trap_at β a) (term a s ∷ s.traps) s.traps;
  }

  abbrev pub follow_all : List Action → Symbols → Symbols
  follow_all [] s = s
  follow_all (a ∷ more) s = follow_all more (follow a s)

  -- an exit's piece goes on a copy
  abbrev pub walk_places : LabelNumber → List Place → Symbols → List Stop
  walk_places end [] s = record { condition = None; label = end; symbols = s } ∷ []
  walk_places end (act a ∷ rest) s = walk_places end rest (follow a s)
  walk_places end (exit t l p ∷ rest) s =
      record { condition = Some (s.register t.index); label = l; symbols = follow_all p s } ∷ walk_places end rest s
  walk_places end (join p ∷ rest) s = walk_places end rest s

  -- the stops of the walk from entry e
  abbrev pub walk : Line → ℕ → List Stop
  walk line e = let s = entered e line.places in walk_places line.end s.places (follow_all s.piece at_entry)
