-- Actions on a walk, and what they do to its symbols.
use Rattle.std.proofs.Common.{◌≡◌, ℕ, ◌+◌, ◌<◌, ◌≤◌, Bool, true, false, cond, eqb, ◌≢◌, List, [], ◌∷◌, ◌++◌, length, get_or, take, set, sym, refl, ap, ◌∙◌, subst, arith}
use Rattle.std.proofs.lemmas.Bool.{eqb-true, eqb-false}
use Rattle.std.proofs.lemmas.List.{get_or-set_same, get_or-set_other, length-set, take_more, take_all}
use Rattle.domain.specs.declared.op.Op.{Op}
use Rattle.domain.specs.Meaning.{Meaning}
use Rattle.region.specs.declared.row.Action.{Action}
use Rattle.region.specs.declared.row.Action.TheVariants.{Operate, Literal, Load, Store}
use Rattle.region.specs.declared.row.Row.{Row}
use Rattle.region.specs.declared.row.Row.TheVariants.{Act, Exit, Join}
use Rattle.region.specs.Rows.{actions}
use Rattle.validator.specs.declared.term_row.TermRow.{TermRow}
use Rattle.validator.specs.declared.walk.Walk.{Walk}
use Rattle.validator.specs.Terms.{Term}
use Rattle.validator.specs.Walks.{Basis, basis, Symbols, term, follow, follow_all}
use Rattle.validator.specs.Tidy.{Tidy, Names, Kept, Says, Interned}
use Rattle.validator.specs.Means.{Marked, none, more, Means, Follows, Liveness, Does, action_row, put}
use Rattle.validator.proofs.Interning.{says_literal, says_operate, says_load, says_store, kept_all, grown_then}

module _ (c : Op → Bool) where
  marked_kept : (xs ys : List TermRow) → Kept c xs ys → (h : List Bool) (ts : List Term) → Marked c xs h ts → Marked c ys h ts
  marked_kept xs ys k _ _ none = none
  marked_kept xs ys k _ _ (more h ts n t p m) = more h ts n t (k n t p) (marked_kept xs ys k h ts m)

  -- what a walk stands for, it stands for in a table that grew
  pub means_kept : (xs ys : List TermRow) → Kept c xs ys → (w : Walk) (s : Symbols) → Means c xs w s → Means c ys w s
  means_kept xs ys k w s m = record {
    sixteen = m.sixteen;
    four = m.four;
    register = λ i l. k _ _ (m.register i l);
    bank = λ i l. k _ _ (m.bank i l);
    traps = marked_kept xs ys k w.traps s.traps m.traps;
  }

  -- the row of an action says the action's term
  says : (xs : List TermRow) (w : Walk) (s : Symbols) (a : Action) → Means c xs w s → Says c xs (action_row c w a) (term a s)
  says xs w s (Operate o d a b) m = says_operate c xs o _ _ _ _ (m.register a.index a.fits) (m.register b.index b.fits)
  says xs w s (Literal d n) m = says_literal c xs n
  says xs w s (Load d k a) m = says_load c xs _ _ _ _ (m.bank k.index k.fits) (m.register a.index a.fits)
  says xs w s (Store k a v) m = says_store c xs _ _ _ _ _ _ (m.bank k.index k.fits) (m.register a.index a.fits) (m.register v.index v.fits)

  set_names : (xs : List TermRow) (rs : List ℕ) (f : ℕ → Term) (size k n : ℕ) (t : Term) → length rs ≡ size → k < size → Names c xs n t
      → ((i : ℕ) → i < size → Names c xs (get_or rs i 0) (f i)) → (i : ℕ) → i < size → Names c xs (get_or (set rs k n) i 0) (cond (eqb i k) t (f i))
  set_names xs rs f size k n t len l new old i m = go (eqb i k) refl
    where
      go : (b : Bool) → eqb i k ≡ b → Names c xs (get_or (set rs k n) i 0) (cond b t (f i))
      go true e =
          let i_is : i ≡ k = eqb-true i k e in
          let g : get_or (set rs k n) i 0 ≡ n = ap (λ j. get_or (set rs k n) j 0) i_is ∙ get_or-set_same rs k n 0 (omega arith) in
          rw g new
      go false e =
          let ne : i ≢ k = eqb-false i k e in
          let g : get_or (set rs k n) i 0 ≡ get_or rs i 0 = get_or-set_other rs k i n 0 ne in
          rw g (old i m)

  noted : (xs : List TermRow) (b : Bool) (h : List Bool) (ts : List Term) (n : ℕ) (t : Term) → Names c xs n t → Marked c xs h ts
      → Marked c xs (cond b (set h n true) h) (cond b (t ∷ ts) ts)
  noted xs true h ts n t p m = more h ts n t p m
  noted xs false h ts n t p m = m

module _ (β : Basis) (xs : List TermRow) (w : Walk) (s : Symbols) (n : ℕ) (m : Means β.commutes xs w s) where
  to_register : (d : ℕ) (t : Term) → d < 16 → Names β.commutes xs n t
      → (i : ℕ) → i < 16 → Names β.commutes xs (get_or (set w.registers d n) i 0) (cond (eqb i d) t (s.register i))
  to_register d t l p = set_names β.commutes xs w.registers s.register 16 d n t m.sixteen l p m.register

  -- the action's number in its place stands for the action's term
  putting : (a : Action) → Names β.commutes xs n (term a s) → Means β.commutes xs (put β a n w) (follow β a s)
  putting (Operate o d a b) p = record {
    sixteen = length-set w.registers d.index n ∙ m.sixteen;
    four = m.four;
    register = to_register d.index _ d.fits p;
    bank = m.bank;
    traps = noted β.commutes xs (β.may_trap o) w.traps s.traps n _ p m.traps;
  }
  putting (Literal d k) p = record {
    sixteen = length-set w.registers d.index n ∙ m.sixteen;
    four = m.four;
    register = to_register d.index _ d.fits p;
    bank = m.bank;
    traps = m.traps;
  }
  putting (Load d k a) p = record {
    sixteen = length-set w.registers d.index n ∙ m.sixteen;
    four = m.four;
    register = to_register d.index _ d.fits p;
    bank = m.bank;
    traps = noted β.commutes xs β.may_trap_address w.traps s.traps n _ p m.traps;
  }
  putting (Store k a v) p = record {
    sixteen = m.sixteen;
    four = length-set w.banks k.index n ∙ m.four;
    register = m.register;
    bank = set_names β.commutes xs w.banks s.bank 4 k.index n _ m.four k.fits p m.bank;
    traps = noted β.commutes xs β.may_trap_address w.traps s.traps n _ p m.traps;
  }

module _ {W : Type 0} (m : Meaning W) where
  -- an action is done where its term's row was numbered and its number put in
  pub acted : {xs ys : List TermRow} {w v : Walk} (a : Action) (r : TermRow) (n : ℕ) → r ≡ action_row m.commutes w a → ((live : Liveness) → v ≡ put (basis m live) a n w)
      → ((c : Op → Bool) (t : Term) → Tidy c xs → Says c xs r t → Interned c xs ys n t) → Does m xs w ys v (λ β. follow β a)
  acted {xs = xs} {ys = ys} {w = w} {v = v} a r n p q put_in live s tidy h =
      let i = put_in m.commutes (term a s) tidy (rw p (says m.commutes xs w s a h)) in
      record {
        grown = i.grown;
        means = rw (q live) (putting (basis m live) ys w s n (means_kept m.commutes xs ys i.grown.kept w s h) a i.named);
      }

  pub does_nothing : (xs : List TermRow) (w : Walk) → Does m xs w xs w (λ β s. s)
  does_nothing xs w live s tidy h = record { grown = kept_all m.commutes xs tidy; means = h }

  -- a row of a piece: rows that are no action are passed over
  abbrev row_follow : Basis → Row → Symbols → Symbols
  row_follow β (Act a) s = follow β a s
  row_follow β (Exit t l) s = s
  row_follow β Join s = s

  follow_push : (β : Basis) (rs : List Row) (r : Row) (s : Symbols) → row_follow β r (follow_all β (actions rs) s) ≡ follow_all β (actions (rs ++ r ∷ [])) s
  follow_push β [] (Act a) s = refl
  follow_push β [] (Exit t l) s = refl
  follow_push β [] Join s = refl
  follow_push β (Act a ∷ rs) r s = follow_push β rs r (follow β a s)
  follow_push β (Exit t l ∷ rs) r s = follow_push β rs r s
  follow_push β (Join ∷ rs) r s = follow_push β rs r s

  -- one more row of a piece
  module _ (rows : List Row) (i : ℕ) (x : Row) (l : i < length rows) (at : x ≡ get_or rows i x) {xs ys zs : List TermRow} {w v u : Walk}
      (before : Does m xs w ys v (λ β. follow_all β (actions (take i rows)))) where
    one_more : Does m ys v zs u (λ β. row_follow β x) → Does m xs w zs u (λ β. follow_all β (actions (take (i + 1) rows)))
    one_more p live s tidy h =
        let β = basis m live in
        let e : take (i + 1) rows ≡ take i rows ++ x ∷ [] = take_more rows i x l ∙ ap (λ (y : Row). take i rows ++ y ∷ []) (sym at) in
        let a = before live s tidy h in
        let b = p live (follow_all β (actions (take i rows)) s) a.grown.tidy a.means in
        subst (Follows m.commutes xs zs u) (follow_push β (take i rows) x s ∙ ap (λ (rs : List Row). follow_all β (actions rs) s) (sym e))
        (record { grown = grown_then m.commutes xs ys zs a.grown b.grown; means = b.means })

    pub one_action : (a : Action) {zs' : List TermRow} {u' : Walk} → x ≡ Act a → zs ≡ zs' → u ≡ u' → Does m ys v zs' u' (λ β. follow β a)
        → Does m xs w zs u (λ β. follow_all β (actions (take (i + 1) rows)))
    one_action a {zs' = zs'} {u' = u'} e y z p = one_more (rw (e, y, z) p)

    pub passed_over : ((a : Action) → x ≡ Act a → ⊥) → zs ≡ ys → u ≡ v → Does m xs w zs u (λ β. follow_all β (actions (take (i + 1) rows)))
    passed_over not p q = one_more (go x not)
      where
        go : (r : Row) → ((a : Action) → r ≡ Act a → ⊥) → Does m ys v zs u (λ β. row_follow β r)
        go (Act a) n = absurd (n a refl)
        go (Exit t k) n = rw (p, q) (does_nothing ys v)
        go Join n = rw (p, q) (does_nothing ys v)

  pub all_rows : (rows : List Row) (i : ℕ) {xs ys : List TermRow} {w v : Walk} → length rows ≤ i
      → Does m xs w ys v (λ β. follow_all β (actions (take i rows))) → Does m xs w ys v (λ β. follow_all β (actions rows))
  all_rows rows i {xs = xs} {ys = ys} {w = w} {v = v} l p = subst (λ (rs : List Row). Does m xs w ys v (λ β. follow_all β (actions rs))) (take_all i rows l) p
