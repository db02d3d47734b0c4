-- A walk over main rows, row by row.
use Rattle.std.proofs.Common.{◌≡◌, ℕ, ◌+◌, Bool, List, [], ◌∷◌, get_or, Some, None, Option, sym, refl, ap, ◌∙◌}
use Rattle.domain.specs.declared.op.Op.{Op}
use Rattle.domain.specs.Meaning.{Meaning}
use Rattle.region.specs.Numbers.{LabelNumber, Register}
use Rattle.region.specs.declared.row.Action.{Action}
use Rattle.region.specs.declared.row.Row.{Row}
use Rattle.region.specs.declared.row.Row.TheVariants.{Act, Exit, Join}
use Rattle.region.specs.Kept.{Kept}
use Rattle.region.specs.Layout.{exit_rows}
use Rattle.region.specs.Rows.{actions}
use Rattle.validator.specs.declared.term_row.TermRow.{TermRow}
use Rattle.validator.specs.declared.walk.Walk.{Walk}
use Rattle.validator.specs.declared.walk.Reached.{Reached}
use Rattle.validator.specs.Terms.{Term}
use Rattle.validator.specs.Walks.{basis, Symbols, Stop, follow, follow_all}
use Rattle.validator.specs.Straight.{walk_rows}
use Rattle.validator.specs.Means.{Liveness, Does, Leaves, Onward, Stopped, ConditionMeans, behind}
use Rattle.validator.proofs.Interning.{grown_then}
use Rattle.validator.proofs.Steps.{means_kept}

-- a stop that has a condition is not the last
goes_on : (c : Op → Bool) (xs : List TermRow) (o : Option ℕ) (t : Term) (stops : List Stop) → ConditionMeans c xs o (Some t) → stops ≡ behind o stops
goes_on c xs None t stops p = absurd p
goes_on c xs (Some n) t stops p = refl

-- the stop at an exit
pub leaves : {W : Type 0} (m : Meaning W) {xs ys : List TermRow} {w v : Walk} (t : Register) (l : LabelNumber) (piece : List Row) (j : ℕ) → j ≡ t.index
    → Does m xs w ys v (λ β. follow_all β (actions piece)) → Leaves m xs w t l piece ys (record { condition = Some (get_or w.registers j 0); label = l; walk = v })
leaves m {xs = xs} {ys = ys} {w = w} {v = v} t l piece j j-is p live s tidy h =
    let f = p live s tidy h in
    (f.grown, record { condition = rw j-is (f.grown.kept _ _ (h.register t.index t.fits)); label = refl; walk = f.means })

module _ {W : Type 0} (m : Meaning W) (live : Liveness) (part : List Row) (sh : Kept) (k : ℕ) where
  -- the stops of main rows with k exits above them
  abbrev stops_of : List Row → Symbols → List Stop
  stops_of rows = walk_rows (basis m live) part sh k rows

  module _ {xs ys : List TermRow} {w : Walk} {stops : List Stop} {rows : List Row}
      (on : Onward m.commutes xs ys w (walk_rows (basis m live) part sh k rows) stops) where
    module _ {r : Row} {rest : List Row} (rows_are : rows ≡ r ∷ rest) where
      -- what is ahead, at the row x
      at_row : (x : Row) → r ≡ x → walk_rows (basis m live) part sh k (x ∷ rest) on.symbols ≡ stops
      at_row x e = ap (λ rs. stops_of rs on.symbols) (sym (rows_are ∙ ap (λ y. y ∷ rest) e)) ∙ on.ahead_are

      pub past_action : (a : Action) {zs : List TermRow} {v : Walk} → r ≡ Act a → Does m ys w zs v (λ β. follow β a)
          → Onward m.commutes xs zs v (walk_rows (basis m live) part sh k rest) stops
      unfolding walk_rows
      past_action a {zs = zs} {v = v} e p =
          let f = p live on.symbols on.follows.grown.tidy on.follows.means in
          record {
            symbols = follow (basis m live) a on.symbols;
            follows = record { grown = grown_then m.commutes xs ys zs on.follows.grown f.grown; means = f.means };
            ahead_are = at_row (Act a) e;
          }

      pub past_join : r ≡ Join → Onward m.commutes xs ys w (walk_rows (basis m live) part sh k rest) stops
      unfolding walk_rows
      past_join e = record { symbols = on.symbols; follows = on.follows; ahead_are = at_row Join e }

      pub at_exit : (t : Register) (l : LabelNumber) {piece : List Row} {zs : List TermRow} {x : Reached} → r ≡ Exit t l
          → piece ≡ exit_rows part sh k → Leaves m ys w t l piece zs x
          → Stopped m.commutes xs zs x w (walk_rows (basis m live) part sh (k + 1) rest) stops
      unfolding walk_rows
      at_exit t l {piece = piece} {zs = zs} {x = x} e piece_is p =
          let s = on.symbols in
          let f = p live s on.follows.grown.tidy on.follows.means in
          let stop : Stop = record { condition = Some (s.register t.index); label = l; symbols = follow_all (basis m live) (actions piece) s } in
          let here : stops ≡ stop ∷ walk_rows (basis m live) part sh (k + 1) rest s = rw piece_is (sym (at_row (Exit t l) e)) in
          record {
            grown = grown_then m.commutes xs ys zs on.follows.grown f.0;
            stop = stop;
            stop_means = f.1;
            symbols = s;
            means = means_kept m.commutes ys zs f.0.kept w s on.follows.means;
            stops_are = here ∙ ap (λ ss. stop ∷ ss) (goes_on m.commutes zs x.condition (s.register t.index) (walk_rows (basis m live) part sh (k + 1) rest s) f.1.condition);
          }

    pub at_end : (l : LabelNumber) (then : Symbols → List Stop) → l ≡ sh.end → rows ≡ []
        → Stopped m.commutes xs ys (record { condition = None; label = l; walk = w }) w then stops
    unfolding walk_rows
    at_end l then e none = record {
      grown = on.follows.grown;
      stop = record { condition = None; label = sh.end; symbols = on.symbols };
      stop_means = record { condition = tt; label = e; walk = on.follows.means };
      symbols = on.symbols;
      means = on.follows.means;
      stops_are = sym on.ahead_are ∙ ap (λ rs. stops_of rs on.symbols) none;
    }
