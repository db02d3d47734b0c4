-- The machine and the walk go along together: a run ends as the stops of the walk tell.
use Rattle.std.proofs.Common.{◌≡◌, ℕ, ◌+◌, ◌-◌, ◌*◌, ◌<◌, Bool, true, false, cond, eqb, ◌≢◌, List, [], ◌∷◌, length, take, drop, set, Some, None, Option, sym, refl, ap, ◌∙◌, arith, length-set, get_or-drop, get_or-set_other, get_or-take, get_or-set_same, drop-set-lt}
use native.Mathlib.Decide.{dec_lt}
use lib.Seq.{take-set-lt, take-set-le, drop-set-add}
use Rattle.std.proofs.lemmas.Bool.{eqb-true, eqb-false, or_right, cond_both}
use Rattle.domain.specs.Slots.{Slot}
use Rattle.domain.specs.Meaning.{Meaning, Lawful}
use Rattle.region.specs.Numbers.{Register, Bank, LabelNumber}
use Rattle.region.specs.declared.outcome.Outcome.TheVariants.{Reached, Trapped}
use Rattle.region.specs.declared.row.Action.{Action}
use Rattle.region.specs.declared.row.Action.TheVariants.{Operate, Literal, Load, Store}
use Rattle.region.specs.Lines.{Place, act, exit, join, Line, entered}
use Rattle.region.specs.Machine.{Ended, word, cell, bind, step, onward, perform, trapped, reached, run_places, run}
use Rattle.validator.specs.Terms.{Term}
use Rattle.validator.specs.Walks.{Basis, basis, Symbols, Stop, term, may_trap_at, at_entry, follow, follow_all, walk_places, walk}
use Rattle.moves.specs.Theorems.{bank}
use Rattle.moves.proofs.Values.{first, settled, outcome, value, dirty, missing}

either_way : (b : Bool) {P Q : Type 0} → P → Q → cond b P Q
either_way true p q = p
either_way false p q = q

split : {Z : Type 0} (a b : Bool) → a ≡ b → (P Q : Z → Type 0) (x y : Z) → P x → Q y → cond a (P (cond b x y)) (Q (cond b x y))
split a true e P Q x y p q = rw e p
split a false e P Q x y p q = rw e q

module _ {W : Type 0} (m : Meaning W) where
  -- a cell that is written, in its own bank and in another
  word_bank : (τ : List W) (k s : ℕ) → s < 16 → word m (bank τ k) s ≡ word m τ (cell k s)
  word_bank τ k s h = get_or-take 16 (drop (16 + 16 * k) τ) s (m.literal 0) h ∙ get_or-drop (16 + 16 * k) τ s (m.literal 0)

  bank_same : (τ : List W) (k s : ℕ) (w : W) → s < 16 → bank (set τ (cell k s) w) k ≡ set (bank τ k) s w
  bank_same τ k s w h = ap (take 16) (drop-set-add (16 + 16 * k) τ s w) ∙ take-set-lt 16 (drop (16 + 16 * k) τ) s w h

  bank_low : (τ : List W) (i k : ℕ) (w : W) → i < 16 + 16 * k → bank (set τ i w) k ≡ bank τ k
  bank_low τ i k w h = ap (take 16) (drop-set-lt (16 + 16 * k) τ i w h)

  bank_other : (τ : List W) (j k s : ℕ) (w : W) → s < 16 → j ≢ k → bank (set τ (cell k s) w) j ≡ bank τ j
  bank_other τ j k s w h ne =
      elim (dec_lt j k) [
        | yes p ↦
            let n = 16 * (k - j) + s in let e : cell k s ≡ cell j n = omega arith in
            ap (λ (i : ℕ). bank (set τ i w) j) e ∙ ap (take 16) (drop-set-add (16 + 16 * j) τ n w) ∙ take-set-le 16 (drop (16 + 16 * j) τ) n w (omega arith)
        | no q ↦ bank_low τ (cell k s) j w (omega arith)
      ]

  module _ (live : LabelNumber → ℕ → Bool) (σ : List W) where
    abbrev β : Basis
    β = basis m live

    -- the state is what the symbols stand for, and nothing has trapped
    pub record Tracks (s : Symbols) (τ : List W) : Type 0 where
      pub long : length τ ≡ 80
      pub registers : (i : ℕ) → i < 16 → first m (value m σ (s.register i)) ≡ word m τ i
      pub banks : (k : ℕ) → k < 4 → value m σ (s.bank k) ≡ bank τ k
      pub clean : dirty m σ s.traps ≡ false

    put_register : (s : Symbols) (τ : List W) → Tracks s τ → (d : Register) (t : Term) (w : W) → first m (value m σ t) ≡ w
        → (ts : List Term) → dirty m σ ts ≡ false
        → Tracks (record { register = λ i. cond (eqb i d.index) t (s.register i); bank = s.bank; traps = ts }) (set τ d.index w)
    put_register s τ 𝓣 d t w e ts c =
        let lt = d.fits in let len = 𝓣.long in
        record {
          long = length-set τ d.index w ∙ len;
          registers = λ i h.
              cond_both (eqb i d.index) t (s.register i) (λ u. first m (value m σ u) ≡ word m (set τ d.index w) i)
              (λ q. e ∙ sym (rw (eqb-true i _ q) (get_or-set_same τ d.index w (m.literal 0) (omega arith))))
              (λ q. 𝓣.registers i h ∙ sym (get_or-set_other τ d.index i w (m.literal 0) (eqb-false i _ q)));
          banks = λ k h. 𝓣.banks k h ∙ sym (bank_low τ d.index k w (omega arith));
          clean = c;
        }

    put_bank : (s : Symbols) (τ : List W) → Tracks s τ → (k : Bank) (a : Slot) (t : Term) (w : W) → value m σ t ≡ set (bank τ k.index) a.index w
        → (ts : List Term) → dirty m σ ts ≡ false
        → Tracks (record { register = s.register; bank = λ j. cond (eqb j k.index) t (s.bank j); traps = ts }) (set τ (cell k.index a.index) w)
    put_bank s τ 𝓣 k a t w e ts c =
        let lt = a.fits in let at = cell k.index a.index in
        record {
          long = length-set τ at w ∙ 𝓣.long;
          registers = λ i h. 𝓣.registers i h ∙ sym (get_or-set_other τ at i w (m.literal 0) (omega arith));
          banks = λ j h.
              cond_both (eqb j k.index) t (s.bank j) (λ u. value m σ u ≡ bank (set τ at w) j)
              (λ q. e ∙ sym (rw (eqb-true j _ q) (bank_same τ k.index a.index w lt)))
              (λ q. 𝓣.banks j h ∙ sym (bank_other τ j k.index a.index w lt (eqb-false j _ q)));
          clean = c;
        }

    -- what may have trapped stays noted
    more : (a : Action) (s : Symbols) → dirty m σ s.traps ≡ true → dirty m σ (follow β a s).traps ≡ true
    more a s c =
        cond_both (may_trap_at β a) (term a s ∷ s.traps) s.traps (λ ts. dirty m σ ts ≡ true) (λ _. or_right (missing (outcome m σ (term a s))) _ c) (λ _. c)

    more_all : (p : List Action) (s : Symbols) → dirty m σ s.traps ≡ true → dirty m σ (follow_all β p s).traps ≡ true
    more_all [] s c = c
    more_all (a ∷ p) s c = more_all p (follow β a s) (more a s c)

    -- What an action computes, v, traps or gives a result; so does its term t, which is noted unless the action cannot trap.
    fork : {X : Type 0} (v : Option X) (may : Bool) (t : Term) (ts : List Term) (f g : X → List W) → (may ≡ false → v ≢ None)
        → outcome m σ t ≡ bind v (λ x. Some (f x)) → dirty m σ ts ≡ false
        → (τ : List W) (Q : Ended W → Type 0) (rest : List W → Ended W)
        → (dirty m σ (cond may (t ∷ ts) ts) ≡ true → Q (trapped m τ))
        → ((x : X) → value m σ t ≡ f x → dirty m σ (cond may (t ∷ ts) ts) ≡ false → Q (rest (g x)))
        → Q (onward m (bind v (λ x. Some (g x))) τ rest)
    fork None true t ts f g never e c τ Q rest halt on = halt (rw e)
    fork None false t ts f g never e c τ Q rest halt on = absurd (never refl refl)
    fork (Some x) true t ts f g never e c τ Q rest halt on = on x (ap (settled m) e) (rw (e, c))
    fork (Some x) false t ts f g never e c τ Q rest halt on = on x (ap (settled m) e) c

    module _ (𝓛 : Lawful m) where
      -- one action: the machine traps and so does a noted term, or both go on
      go_on : (a : Action) (s : Symbols) (τ : List W) → Tracks s τ → (Q : Ended W → Type 0) (rest : List W → Ended W)
          → (dirty m σ (follow β a s).traps ≡ true → Q (trapped m τ))
          → ((υ : List W) → Tracks (follow β a s) υ → Q (rest υ))
          → Q (onward m (step m a τ) τ rest)
      go_on (Operate o d a b) s τ 𝓣 Q rest halt on =
          fork (m.apply o (word m τ a.index) (word m τ b.index)) (m.may_trap o) (term (Operate o d a b) s) s.traps (λ w. w ∷ []) (set τ d.index)
          (𝓛.trapless o _ _) (rw (𝓣.registers a.index a.fits, 𝓣.registers b.index b.fits) refl) 𝓣.clean τ Q rest halt
          (λ w e c. on _ (put_register s τ 𝓣 d _ w (ap (first m) e) _ c))
      go_on (Literal d n) s τ 𝓣 Q rest halt on = on _ (put_register s τ 𝓣 d _ (m.literal n) refl _ 𝓣.clean)
      go_on (Load d k a) s τ 𝓣 Q rest halt on =
          fork (m.slot (word m τ a.index)) m.may_trap_address (term (Load d k a) s) s.traps (λ i. word m (bank τ k.index) i.index ∷ [])
          (λ i. set τ d.index (word m τ (cell k.index i.index)))
          (𝓛.trapless_address _) (rw (𝓣.registers a.index a.fits, 𝓣.banks k.index k.fits) refl) 𝓣.clean τ Q rest halt
          (λ i e c. on _ (put_register s τ 𝓣 d _ _ (ap (first m) e ∙ word_bank τ k.index i.index i.fits) _ c))
      go_on (Store k a v) s τ 𝓣 Q rest halt on =
          fork (m.slot (word m τ a.index)) m.may_trap_address (term (Store k a v) s) s.traps (λ i. set (bank τ k.index) i.index (word m τ v.index))
          (λ i. set τ (cell k.index i.index) (word m τ v.index))
          (𝓛.trapless_address _) (rw (𝓣.registers a.index a.fits, 𝓣.registers v.index v.fits, 𝓣.banks k.index k.fits) refl) 𝓣.clean τ Q rest halt
          (λ i e c. on _ (put_bank s τ 𝓣 k i _ (word m τ v.index) e _ c))

      go_along : (p : List Action) (s : Symbols) (τ : List W) → Tracks s τ → (Q : Ended W → Type 0) (rest : List W → Ended W)
          → ((υ : List W) → dirty m σ (follow_all β p s).traps ≡ true → Q (trapped m υ))
          → ((υ : List W) → Tracks (follow_all β p s) υ → Q (rest υ))
          → Q (perform m p τ rest)
      go_along [] s τ 𝓣 Q rest halt on = on τ 𝓣
      go_along (a ∷ p) s τ 𝓣 Q rest halt on =
          go_on a s τ 𝓣 Q (λ υ. perform m p υ rest)
          (λ c. halt τ (more_all p (follow β a s) c))
          (λ υ 𝓤. go_along p (follow β a s) υ 𝓤 Q rest halt on)

    -- whether a run that gets as far as a stop with this condition ends there
    abbrev pub taken : Option Term → Bool
    taken None = true
    taken (Some c) = m.truth (first m (value m σ c))

    -- how it then ends, by whether a noted term traps
    abbrev pub Arrives : Bool → Stop → Ended W → Type 0
    Arrives true x z = z.outcome ≡ Trapped
    Arrives false x z = (z.outcome ≡ Reached x.label) × Tracks x.symbols z.state

    abbrev pub Stops : Stop → Ended W → Type 0
    Stops x z = Arrives (dirty m σ x.symbols.traps) x z

    abbrev pub Ends : List Stop → Ended W → Type 0
    Ends [] z = ⊥
    Ends (x ∷ xs) z = cond (taken x.condition) (Stops x z) (Ends xs z)

    -- after a trap every stop tells of it
    halted : (end : LabelNumber) (places : List Place) (s : Symbols) (υ : List W) → dirty m σ s.traps ≡ true
        → Ends (walk_places β end places s) (trapped m υ)
    halted end [] s υ c = rw c refl
    halted end (act a ∷ rest) s υ c = halted end rest (follow β a s) υ (more a s c)
    halted end (exit t l p ∷ rest) s υ c =
        either_way (m.truth (first m (value m σ (s.register t.index)))) (let d = more_all p s c in rw d refl) (halted end rest s υ c)
    halted end (join p ∷ rest) s υ c = halted end rest s υ c

    module _ (𝓛 : Lawful m) where
      places_end : (end : LabelNumber) (places : List Place) (s : Symbols) (τ : List W) → Tracks s τ
          → Ends (walk_places β end places s) (run_places m end places τ)
      places_end end [] s τ 𝓣 = rw 𝓣.clean (refl, 𝓣)
      places_end end (act a ∷ rest) s τ 𝓣 =
          go_on 𝓛 a s τ 𝓣 (Ends (walk_places β end (act a ∷ rest) s)) (run_places m end rest)
          (halted end rest (follow β a s) τ) (places_end end rest (follow β a s))
      places_end end (exit t l p ∷ rest) s τ 𝓣 =
          let x : Stop = record { condition = Some (s.register t.index); label = l; symbols = follow_all β p s } in
          split _ (m.truth (word m τ t.index)) (ap m.truth (𝓣.registers t.index t.fits)) (Stops x) (Ends (walk_places β end rest s)) _ _
          (go_along 𝓛 p s τ 𝓣 (Stops x) (reached m l) (λ υ c. rw c refl) (λ υ 𝓤. rw 𝓤.clean (refl, 𝓤)))
          (places_end end rest s τ 𝓣)
      places_end end (join p ∷ rest) s τ 𝓣 = places_end end rest s τ 𝓣

      pub run_ends : (line : Line) (e : ℕ) → length σ ≡ 80 → Ends (walk β line e) (run m line e σ)
      run_ends line e len =
          let s = entered e line.places in
          go_along 𝓛 s.piece at_entry σ (record { long = len; registers = λ i h. refl; banks = λ k h. refl; clean = refl })
          (Ends (walk β line e)) (run_places m line.end s.places) (halted line.end s.places _) (places_end line.end s.places _)
