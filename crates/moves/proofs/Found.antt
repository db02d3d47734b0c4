-- A comparison finds nothing exactly where all that it looks at is the same.
use Rattle.std.proofs.Common.{◌≡◌, ℕ, zero, suc, ◌<◌, Bool, true, false, not, ◌&&◌, eqb, List, [], ◌∷◌, Some, None, Option, sym, refl, ap, true≢false, arith}
use native.Mathlib.Decide.{dec_lt}
use Rattle.std.proofs.lemmas.Bool.{eqb-true, eq-eqb, not-false, and_parts, and_from}
use Rattle.region.specs.Lines.{Line, joins}
use Rattle.validator.specs.declared.verdict.Mismatch.{Mismatch}
use Rattle.validator.specs.declared.verdict.Reason.{Reason}
use Rattle.validator.specs.declared.verdict.Reason.TheVariants as reason
use Rattle.validator.specs.declared.verdict.Verdict.TheVariants.{Passed}
use Rattle.validator.specs.Terms.{Term, same}
use Rattle.validator.specs.Walks.{Basis, Stop, walk}
use Rattle.validator.specs.Comparison.{◌or_else◌, first_below, within, found, lowest, label_differs, register_differs, bank_differs, traps_differ}
use Rattle.validator.specs.Comparison.{differ_condition, differ, stops_differ, verdict, mismatch, comparison}

-- nothing is found exactly where P holds
abbrev Silent : Option Mismatch → Type 0 → Type 0
Silent x P = (x ≡ None → P) × (P → x ≡ None)

silent_or : {P Q : Type 0} (x y : Option Mismatch) → Silent x P → Silent y Q → Silent (x or_else y) (P × Q)
silent_or None y p q = (λ h. (p.0 refl, q.0 h), λ h. q.1 h.1)
silent_or (Some a) y p q = (λ h. cc, λ h. let z = p.1 h.0 in cc)

silent_found : {P : Type 0} (e n : ℕ) (differs : Bool) (r : Reason) (i : ℕ) → (differs ≡ false → P) → (P → differs ≡ false) → Silent (found e n differs r i) P
silent_found e n true r i f g = (λ h. cc, λ p. absurd (true≢false (g p)))
silent_found e n false r i f g = (λ _. f refl, λ _. refl)

silent_below : (P : ℕ → Type 0) (n : ℕ) (f : ℕ → Option Mismatch) → ((i : ℕ) → Silent (f i) (P i)) → Silent (first_below n f) ((i : ℕ) → i < n → P i)
silent_below P zero f h = (λ _ i lt. absurd (omega arith), λ _. refl)
silent_below P (suc n) f h =
    let s = silent_or (first_below n f) (f n) (silent_below P n f h) (h n) in (
      λ e i lt. elim (dec_lt i n) [ yes p ↦ (s.0 e).0 i p | no p ↦ let q : i ≡ n = omega arith in rw q (s.0 e).1 ],
      λ all. s.1 (λ i lt. all i (omega arith), all n (omega arith)),
    )

and_not : (a b : Bool) → (a && not b) ≡ false → a ≡ true → b ≡ true
and_not a true e h = refl
and_not true false e h = sym e
and_not false false e h = h

not_and : (a b : Bool) → (a ≡ true → b ≡ true) → (a && not b) ≡ false
not_and true b h = rw (h refl)
not_and false b h = refl

module _ (β : Basis) where
  abbrev pub alike : Term → Term → Bool
  alike = same β.commutes

  -- what is compared at two stops
  abbrev pub Conditions : Option Term → Option Term → Type 0
  Conditions None None = Unit {0}
  Conditions None (Some c) = ⊥
  Conditions (Some b) None = ⊥
  Conditions (Some b) (Some c) = alike b c ≡ true

  pub record Match (x y : Stop) : Type 0 where
    pub condition : Conditions x.condition y.condition
    pub label : x.label.index ≡ y.label.index
    pub registers : (i : ℕ) → i < 16 → β.live x.label i ≡ true → alike (x.symbols.register i) (y.symbols.register i) ≡ true
    pub banks : (k : ℕ) → k < 4 → alike (x.symbols.bank k) (y.symbols.bank k) ≡ true
    pub forth : within alike x.symbols.traps y.symbols.traps ≡ true
    pub back : within alike y.symbols.traps x.symbols.traps ≡ true

  abbrev pub MatchAll : List Stop → List Stop → Type 0
  MatchAll [] ys = Unit {0}
  MatchAll (x ∷ xs) [] = Unit {0}
  MatchAll (x ∷ xs) (y ∷ ys) = Match x y × MatchAll xs ys

  abbrev pub Matching : Line → Line → Type 0
  Matching src sch = (joins src.places ≡ joins sch.places) × ((e : ℕ) → e < suc (joins src.places) → MatchAll (walk β src e) (walk β sch e))

  module _ (e n : ℕ) where
    conditions : (b c : Option Term) → Silent (differ_condition β e n b c) (Conditions b c)
    conditions None None = (λ _. tt, λ _. refl)
    conditions None (Some c) = (λ h. cc, λ h. absurd h)
    conditions (Some b) None = (λ h. cc, λ h. absurd h)
    conditions (Some b) (Some c) = silent_found e n (not (alike b c)) reason.Condition 0 (not-false _) (ap not)

    stop : (x y : Stop) → Silent (differ β e n x y) (Match x y)
    stop x y =
        let forth = within alike x.symbols.traps y.symbols.traps in let back = within alike y.symbols.traps x.symbols.traps in
        let s =
        silent_or (differ_condition β e n x.condition y.condition) _ (conditions x.condition y.condition)
        (silent_or (found e n (label_differs β x y) reason.Label 0) _
        (silent_found e n (label_differs β x y) reason.Label 0 (λ h. eqb-true _ _ (not-false _ h)) (λ h. ap not (eq-eqb _ _ h)))
        (silent_or (lowest e n 16 (register_differs β x y) reason.Register) _
        (silent_below (λ i. β.live x.label i ≡ true → alike (x.symbols.register i) (y.symbols.register i) ≡ true) 16 _
        (λ i. silent_found e n (register_differs β x y i) reason.Register i (and_not _ _) (not_and _ _)))
        (silent_or (lowest e n 4 (bank_differs β x y) reason.Bank) _
        (silent_below (λ k. alike (x.symbols.bank k) (y.symbols.bank k) ≡ true) 4 _
        (λ k. silent_found e n (bank_differs β x y k) reason.Bank k (not-false _) (ap not)))
        (silent_found e n (traps_differ β x y) reason.Traps 0 (λ h. and_parts forth back (not-false _ h)) (λ h. ap not (and_from forth back h.0 h.1)))))) in (
          λ h. let (c, (l, (r, (b, t)))) = s.0 h in record { condition = c; label = l; registers = r; banks = b; forth = t.0; back = t.1 },
          λ 𝓜. s.1 (𝓜.condition, (𝓜.label, (𝓜.registers, (𝓜.banks, (𝓜.forth, 𝓜.back))))),
        )

  stops : (e n : ℕ) (xs ys : List Stop) → Silent (stops_differ β e n xs ys) (MatchAll xs ys)
  stops e n [] ys = (λ _. tt, λ _. refl)
  stops e n (x ∷ xs) [] = (λ _. tt, λ _. refl)
  stops e n (x ∷ xs) (y ∷ ys) = silent_or (differ β e n x y) _ (stop e n x y) (stops e (suc n) xs ys)

  lines : (src sch : Line) → Silent (mismatch β src sch) (Matching src sch)
  lines src sch =
      let other = not (eqb (joins src.places) (joins sch.places)) in
      silent_or (found 0 0 other reason.Joins 0) _
      (silent_found 0 0 other reason.Joins 0 (λ h. eqb-true _ _ (not-false _ h)) (λ h. ap not (eq-eqb _ _ h)))
      (silent_below (λ e. MatchAll (walk β src e) (walk β sch e)) (suc (joins src.places)) _ (λ e. stops e 1 (walk β src e) (walk β sch e)))

  nothing : (x : Option Mismatch) → verdict x ≡ Passed → x ≡ None
  nothing None h = refl
  nothing (Some x) h = cc

  pub passed : (src sch : Line) → comparison β src sch ≡ Passed → Matching src sch
  passed src sch h = (lines src sch).0 (nothing (mismatch β src sch) h)

  pub passes : (src sch : Line) → Matching src sch → comparison β src sch ≡ Passed
  passes src sch h = ap verdict ((lines src sch).1 h)
