-- Symbols that no comparison tells apart, and what actions do to them.
use Rattle.std.proofs.Common.{◌≡◌, ℕ, Bool, true, false, cond, ◌||◌, List, [], ◌∷◌, ◌++◌, sym, refl, ◌∙◌, true≢false}
use mathlib.Core.Bool.{false≢true}
use Rattle.std.proofs.lemmas.Bool.{eq-eqb, or_left, or_right, or_parts}
use Rattle.domain.specs.declared.op.Op.{Op}
use Rattle.region.specs.Numbers.{Register}
use Rattle.region.specs.declared.row.Action.{Action}
use Rattle.region.specs.declared.row.Action.TheVariants.{Operate, Literal, Load, Store}
use Rattle.validator.specs.Terms.{Term, same, Same, same_literal, same_operate, same_turned, same_load, same_store}
use Rattle.validator.specs.Walks.{Basis, Symbols, writes, stores, term, may_trap_at, follow, follow_all}
use Rattle.validator.specs.Comparison.{member}
use Rattle.moves.specs.Moves.{reads, loads, any_reads, Untouched, Independent}
use Rattle.validator.proofs.Same.{same_refl, same_sym, same_trans}
use Rattle.moves.proofs.Same.{to_seen}

pub unless : (a b : Bool) → (a ≡ true → b ≡ false) → b ≡ true → a ≡ false
unless true b h t = sym t ∙ h refl
unless false b h t = refl

or_left_comm : (a b c : Bool) → (a || (b || c)) ≡ (b || (a || c))
or_left_comm true true c = refl
or_left_comm true false c = refl
or_left_comm false b c = refl

module _ (β : Basis) where
  abbrev pub Alike : Term → Term → Type 0
  Alike t u = Same β.commutes t u

  abbrev pub noted : Term → List Term → Bool
  noted = member (same β.commutes)

  -- alike but for the registers that are off
  pub record Close (off : ℕ → Bool) (s s' : Symbols) : Type 0 where
    pub registers : (i : ℕ) → off i ≡ false → Alike (s.register i) (s'.register i)
    pub banks : (k : ℕ) → Alike (s.bank k) (s'.bank k)
    pub traps : (x : Term) → noted x s.traps ≡ noted x s'.traps

  abbrev pub Near : Symbols → Symbols → Type 0
  Near s s' = Close (λ _. false) s s'

  pub near_refl : (s : Symbols) → Near s s
  near_refl s = record { registers = λ i _. same_refl _ (s.register i); banks = λ k. same_refl _ (s.bank k); traps = λ x. refl }

  pub close_sym : {off : ℕ → Bool} {s t : Symbols} → Close off s t → Close off t s
  close_sym p = record { registers = λ i h. same_sym _ (p.registers i h); banks = λ k. same_sym _ (p.banks k); traps = λ x. sym (p.traps x) }

  pub close_trans : {off : ℕ → Bool} {s t u : Symbols} → Close off s t → Close off t u → Close off s u
  close_trans p q = record {
    registers = λ i h. same_trans _ (p.registers i h) (q.registers i h);
    banks = λ k. same_trans _ (p.banks k) (q.banks k);
    traps = λ x. p.traps x ∙ q.traps x;
  }

  -- an action's term hangs on the registers that it reads, and on the bank that it loads from or stores to
  term_only : (a : Action) (s s' : Symbols) → ((i : ℕ) → reads a i ≡ true → Alike (s.register i) (s'.register i))
      → ((k : ℕ) → (loads a k || stores a k) ≡ true → Alike (s.bank k) (s'.bank k)) → Alike (term a s) (term a s')
  term_only (Operate o d a b) s s' f g = same_operate o (f _ (or_left _ _ (eq-eqb a.index _ refl))) (f _ (or_right _ _ (eq-eqb b.index _ refl)))
  term_only (Literal d n) s s' f g = same_literal n
  term_only (Load d k a) s s' f g = same_load (g _ (or_left _ _ (eq-eqb k.index _ refl))) (f _ (eq-eqb a.index _ refl))
  term_only (Store k a v) s s' f g =
      same_store (g _ (eq-eqb k.index _ refl)) (f _ (or_left _ _ (eq-eqb a.index _ refl))) (f _ (or_right _ _ (eq-eqb v.index _ refl)))

  alike_cond : (b : Bool) {t u t' u' : Term} → Alike t t' → Alike u u' → Alike (cond b t u) (cond b t' u')
  alike_cond true p q = p
  alike_cond false p q = q

  noted_cond : (b : Bool) (x : Term) (ts us : List Term) {t u : Term} → Alike t u → noted x ts ≡ noted x us → noted x (cond b (t ∷ ts) ts) ≡ noted x (cond b (u ∷ us) us)
  noted_cond true x ts us p q = λ i. to_seen _ p i x || q i
  noted_cond false x ts us p q = q

  follow_close : (off : ℕ → Bool) (a : Action) {s s' : Symbols} → ((i : ℕ) → off i ≡ true → reads a i ≡ false) → Close off s s'
      → Close off (follow β a s) (follow β a s')
  follow_close off a {s} {s'} h c =
      let v = term_only a s s' (λ i r. c.registers i (unless (off i) (reads a i) (h i) r)) (λ k _. c.banks k) in
      record {
        registers = λ i o. alike_cond (writes a i) v (c.registers i o);
        banks = λ k. alike_cond (stores a k) v (c.banks k);
        traps = λ x. noted_cond (may_trap_at β a) x _ _ v (c.traps x);
      }

  pub follow_all_close : (off : ℕ → Bool) (p : List Action) {s s' : Symbols} → ((i : ℕ) → off i ≡ true → any_reads p i ≡ false) → Close off s s'
      → Close off (follow_all β p s) (follow_all β p s')
  follow_all_close off [] h c = c
  follow_all_close off (a ∷ p) h c =
      follow_all_close off p (λ i o. (or_parts (reads a i) _ (h i o)).1) (follow_close off a (λ i o. (or_parts (reads a i) _ (h i o)).0) c)

  pub follow_append : (p q : List Action) (s : Symbols) → follow_all β (p ++ q) s ≡ follow_all β q (follow_all β p s)
  follow_append [] q s = refl
  follow_append (a ∷ p) q s = follow_append p q (follow β a s)

  -- two lists of actions that do the same to symbols
  abbrev pub Interchange : List Action → List Action → Type 0
  Interchange p q = (s s' : Symbols) → Near s s' → Near (follow_all β p s) (follow_all β q s')

  pub unchanged : (p : List Action) → Interchange p p
  unchanged p s s' c = follow_all_close (λ _. false) p (λ i o. absurd (false≢true o)) c

  pub follow_near : (a : Action) {s s' : Symbols} → Near s s' → Near (follow β a s) (follow β a s')
  follow_near a c = unchanged (a ∷ []) _ _ c

  appended : (p q p' q' : List Action) → Interchange p q → Interchange p' q' → Interchange (p ++ p') (q ++ q')
  appended p q p' q' h h' s s' c = rw (follow_append p p' s, follow_append q q' s') (h' _ _ (h s s' c))

  pub inside : (above below p q : List Action) → Interchange p q → Interchange (above ++ (p ++ below)) (above ++ (q ++ below))
  inside above below p q h = appended above above (p ++ below) (q ++ below) (unchanged above) (appended p q below below h (unchanged below))

  -- two neighbours in either order
  crossed : (p q : Bool) (u : Term) {a a' b b' : Term} → Alike a' a → Alike b' b → (p ≡ true → q ≡ false) → Alike (cond q b' (cond p a u)) (cond p a' (cond q b u))
  crossed true true u e f h = absurd (true≢false (h refl))
  crossed true false u e f h = same_sym _ e
  crossed false true u e f h = f
  crossed false false u e f h = same_refl _ u

  crossed_traps : (x : Term) (p q : Bool) (ts : List Term) {a a' b b' : Term} → Alike a' a → Alike b' b
      → noted x (cond q (b' ∷ cond p (a ∷ ts) ts) (cond p (a ∷ ts) ts)) ≡ noted x (cond p (a' ∷ cond q (b ∷ ts) ts) (cond q (b ∷ ts) ts))
  crossed_traps x true true ts {a} {a'} {b} {b'} e f =
      (λ i. to_seen _ f i x || (to_seen _ (same_sym _ e) i x || noted x ts)) ∙ or_left_comm (same β.commutes x b) (same β.commutes x a') (noted x ts)
  crossed_traps x true false ts e f = λ i. to_seen _ (same_sym _ e) i x || noted x ts
  crossed_traps x false true ts e f = λ i. to_seen _ f i x || noted x ts
  crossed_traps x false false ts e f = refl

  other : (b : Bool) (t u : Term) → b ≡ false → Alike (cond b t u) u
  other b t u h = rw h (same_refl _ u)

  undisturbed : (a b : Action) (s : Symbols) → Untouched a b → Alike (term b (follow β a s)) (term b s)
  undisturbed a b s c = term_only b (follow β a s) s
      (λ i r. other (writes a i) _ _ (unless _ (reads b i) (λ w. (or_parts (reads b i) _ (c.registers i w)).0) r))
      (λ k l. other (stores a k) _ _ (unless _ (loads b k || stores b k) (c.banks k) l))

  pub swapped : (a b : Action) → Independent a b → Interchange (a ∷ b ∷ []) (b ∷ a ∷ [])
  swapped a b h s s' c =
      let ea = undisturbed b a s h.back in let eb = undisturbed a b s h.forth in
      close_trans (record {
        registers = λ i _. crossed (writes a i) (writes b i) _ ea eb (λ w. (or_parts (reads b i) _ (h.forth.registers i w)).1);
        banks = λ k. crossed (stores a k) (stores b k) _ ea eb (λ w. (or_parts (loads b k) _ (h.forth.banks k w)).1);
        traps = λ x. crossed_traps x (may_trap_at β a) (may_trap_at β b) _ ea eb;
      })
      (unchanged (b ∷ a ∷ []) s s' c)

  pub turned : (o : Op) (d a b : Register) → β.commutes o ≡ true → Interchange (Operate o d a b ∷ []) (Operate o d b a ∷ [])
  turned o d a b h s s' c =
      let v = same_turned o h (c.registers a.index refl) (c.registers b.index refl) in
      record {
        registers = λ i on. alike_cond (writes (Operate o d a b) i) v (c.registers i on);
        banks = c.banks;
        traps = λ x. noted_cond (β.may_trap o) x _ _ v (c.traps x);
      }

  -- a register that an action does not write
  pub unwritten : (a : Action) (i : ℕ) {s s' : Symbols} → Near s s' → writes a i ≡ false → Alike (s.register i) ((follow β a s').register i)
  unwritten a i c h = rw h (c.registers i refl)

  -- an action that neither traps nor stores changes one register and nothing else
  pub lifted : (a : Action) {s s' : Symbols} → may_trap_at β a ≡ false → ((k : ℕ) → stores a k ≡ false) → Near s s' → Close (writes a) s (follow β a s')
  lifted a t n c = record { registers = λ i o. rw o (c.registers i refl); banks = λ k. rw (n k) (c.banks k); traps = λ x. rw t (c.traps x) }
