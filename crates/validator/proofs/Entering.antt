-- Where walks begin, and the places that main rows make.
use Rattle.std.proofs.Common.{◌≡◌, ℕ, zero, suc, ◌+◌, ◌-◌, ◌<◌, ◌≤◌, Bool, false, ◌≢◌, ◌⊎◌, List, [], ◌∷◌, length, get_or, set, replicate, Some, None, sym, refl, ap, ◌∙◌, subst, inl, inr, arith}
use Rattle.std.proofs.lemmas.Bool.{cases_lt}
use Rattle.std.proofs.lemmas.List.{get_or-set_same, get_or-set_other}
use Rattle.domain.specs.declared.op.Op.{Op}
use Rattle.domain.specs.Meaning.{Meaning}
use Rattle.region.specs.declared.row.Row.{Row}
use Rattle.region.specs.declared.row.Row.TheVariants.{Act, Exit, Join}
use Rattle.region.specs.Kept.{Kept}
use Rattle.region.specs.declared.side.Side.{Side}
use Rattle.region.specs.Layout.{exit_rows, main_rows}
use Rattle.region.specs.Lines.{Start, entered, joins, missing, places_of, assembled}
use Rattle.region.specs.Rows.{actions}
use Rattle.region.specs.Entries.{start_of}
use Rattle.validator.specs.declared.term_row.TermRow.{TermRow}
use Rattle.validator.specs.declared.walk.Walk.{Walk}
use Rattle.validator.specs.Terms.{Term, register_at_entry, bank_at_entry}
use Rattle.validator.specs.Walks.{Basis, basis, Symbols, Stop, at_entry, follow, follow_all, walk_places, walk}
use Rattle.validator.specs.Tidy.{Tidy, Names, Interned}
use Rattle.validator.specs.Straight.{walk_rows}
use Rattle.validator.specs.Means.{Marked, none, Means, Named, Begun, Liveness, Does, Onward}
use Rattle.validator.proofs.Interning.{tidy_none, grown_then}

module _ (c : Op → Bool) where
  pub named_more : {xs ys zs : List TermRow} (ns : List ℕ) (f : ℕ → Term) (i n : ℕ) → i < length ns → Named c xs ys ns f i → Interned c ys zs n (f i)
      → Named c xs zs (set ns i n) f (i + 1)
  named_more {xs = xs} {ys = ys} {zs = zs} ns f i n l p q = record { grown = grown_then c xs ys zs p.grown q.grown; names = λ j m. go j m (cases_lt j i) }
    where
      go : (j : ℕ) → j < i + 1 → (j < i) ⊎ (i ≤ j) → Names c zs (get_or (set ns i n) j 0) (f j)
      go j m (inl a) = let ne : j ≢ i = omega arith in rw (get_or-set_other ns i j n 0 ne) (q.grown.kept _ _ (p.names j a))
      go j m (inr a) = let e : j ≡ i = omega arith in rw (e, get_or-set_same ns i n 0 l) q.named

  pub begun : {xs ys zs : List TermRow} (w : Walk) → xs ≡ [] → length w.registers ≡ 16 → length w.banks ≡ 4 → w.traps ≡ replicate 512 false
      → (Tidy c xs → Named c xs ys w.registers register_at_entry 16) → (Tidy c ys → Named c ys zs w.banks bank_at_entry 4) → Begun c zs w
  begun {xs = xs} {ys = ys} {zs = zs} w e lr lb t f g =
      let a = f (subst (Tidy c) (sym e) (tidy_none c)) in
      let b = g a.grown.tidy in
      record {
        tidy = b.grown.tidy;
        means = record {
          sixteen = lr;
          four = lb;
          register = λ i l. b.grown.kept _ _ (a.names i l);
          bank = b.names;
          traps = subst (λ (h : List Bool). Marked c zs h []) (sym t) none;
        };
      }

-- the places that rows make have the stops of the rows
module _ (β : Basis) (part : List Row) (sh : Kept) where
  missing_walk : (j n : ℕ) (s : Symbols) → walk_places β sh.end (missing part sh j n) s ≡ record { condition = None; label = sh.end; symbols = s } ∷ []
  missing_walk j zero s = refl
  missing_walk j (suc n) s = missing_walk (suc j) n s

  places_walk : (k j n : ℕ) (rows : List Row) (s : Symbols) → walk_places β sh.end (places_of part sh k j n rows) s ≡ walk_rows β part sh k rows s
  unfolding walk_rows
  places_walk k j n [] s = missing_walk j n s
  places_walk k j n (Act a ∷ rs) s = places_walk k j n rs (follow β a s)
  places_walk k j n (Exit t l ∷ rs) s =
      ap (λ (xs : List Stop). record { condition = Some (s.register t.index); label = l; symbols = follow_all β (actions (exit_rows part sh k)) s } ∷ xs) (places_walk (k + 1) j n rs s)
  places_walk k j zero (Join ∷ rs) s = places_walk k j zero rs s
  places_walk k j (suc n) (Join ∷ rs) s = places_walk k (suc j) n rs s

  walk_start : Start → List Stop
  walk_start s = walk_places β sh.end s.places (follow_all β s.piece at_entry)

  -- from an entry, by its piece and the rows ahead
  walk_entered : (side : Side) (e exits : ℕ) (piece ahead : List Row) → entered e (assembled side part sh).places ≡ start_of part sh e exits piece ahead
      → walk β (assembled side part sh) e ≡ walk_rows β part sh exits ahead (follow_all β (actions piece) at_entry)
  unfolding walk_start
  walk_entered side e exits piece ahead h = ap walk_start h ∙ places_walk exits e (sh.joins - e) ahead (follow_all β (actions piece) at_entry)

-- a line has as many joins as are kept
joins_of : (part : List Row) (sh : Kept) (k j n : ℕ) (rows : List Row) → joins (places_of part sh k j n rows) ≡ n
joins_of part sh k j zero [] = refl
joins_of part sh k j (suc n) [] = ap suc (joins_of part sh k (suc j) n [])
joins_of part sh k j n (Act a ∷ rs) = joins_of part sh k j n rs
joins_of part sh k j n (Exit t l ∷ rs) = joins_of part sh (k + 1) j n rs
joins_of part sh k j zero (Join ∷ rs) = joins_of part sh k j zero rs
joins_of part sh k j (suc n) (Join ∷ rs) = ap suc (joins_of part sh k (suc j) n rs)

pub joins_kept : (side : Side) (part : List Row) (sh : Kept) → joins (assembled side part sh).places ≡ sh.joins
joins_kept side part sh = joins_of part sh 0 0 sh.joins (main_rows side part sh)

module _ {W : Type 0} (m : Meaning W) (live : Liveness) (side : Side) (part : List Row) (sh : Kept) (e : ℕ) {xs : List TermRow} {w : Walk}
    (tidy : Tidy m.commutes xs) (means : Means m.commutes xs w at_entry) where
  pub comes_in : (exits : ℕ) (piece ahead : List Row) {ys : List TermRow} {v : Walk} → entered e (assembled side part sh).places ≡ start_of part sh e exits piece ahead
      → Does m xs w ys v (λ β. follow_all β (actions piece))
      → Onward m.commutes xs ys v (walk_rows (basis m live) part sh exits ahead) (walk (basis m live) (assembled side part sh) e)
  comes_in exits piece ahead h does = record {
    symbols = follow_all (basis m live) (actions piece) at_entry;
    follows = does live at_entry tidy means;
    ahead_are = sym (walk_entered (basis m live) part sh side e exits piece ahead h);
  }
