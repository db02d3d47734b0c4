-- What a term stands for, by the state where its walk starts.
use Rattle.std.proofs.Common.{◌≡◌, Bool, true, false, ◌||◌, List, [], ◌∷◌, set, Some, None, Option, refl, ap, ◌∙◌, inl, inr}
use mathlib.Core.Bool.{false≢true}
use Rattle.std.proofs.lemmas.Bool.{and_parts, or_cases, or_right}
use Rattle.domain.specs.Meaning.{Meaning, Lawful}
use Rattle.region.specs.Machine.{word, bind}
use Rattle.validator.specs.Terms.{Term, register_at_entry, bank_at_entry, literal, operate, load, store, same}
use Rattle.validator.specs.Terms.{Same, same_register, same_bank, same_literal, same_operate, same_turned, same_load, same_store}
use Rattle.validator.specs.Comparison.{member, within}
use Rattle.moves.specs.Theorems.{bank}
use Rattle.validator.proofs.Same.{test_so_same}

abbrev pub missing : {X : Type 0} → Option X → Bool
missing None = true
missing (Some x) = false

module _ {W : Type 0} (m : Meaning W) where
  abbrev pub first : List W → W
  first xs = word m xs 0

  abbrev pub settled : Option (List W) → List W
  settled None = []
  settled (Some xs) = xs

  module _ (σ : List W) where
    -- one word or a bank; None where the term's own operation traps, and a part that traps counts as []
    abbrev pub outcome : Term → Option (List W)
    outcome (register_at_entry i) = Some (word m σ i ∷ [])
    outcome (bank_at_entry k) = Some (bank σ k)
    outcome (literal n) = Some (m.literal n ∷ [])
    outcome (operate o a b) = bind (m.apply o (first (settled (outcome a))) (first (settled (outcome b)))) (λ w. Some (w ∷ []))
    outcome (load k a) = bind (m.slot (first (settled (outcome a)))) (λ s. Some (word m (settled (outcome k)) s.index ∷ []))
    outcome (store k a v) = bind (m.slot (first (settled (outcome a)))) (λ s. Some (set (settled (outcome k)) s.index (first (settled (outcome v)))))

    abbrev pub value : Term → List W
    value t = settled (outcome t)

    -- whether one of these terms traps
    abbrev pub dirty : List Term → Bool
    dirty [] = false
    dirty (t ∷ ts) = missing (outcome t) || dirty ts

    module _ (𝓛 : Lawful m) where
      alike : {t u : Term} → Same m.commutes t u → outcome t ≡ outcome u
      alike (same_register i) = refl
      alike (same_bank k) = refl
      alike (same_literal n) = refl
      alike (same_operate o p q) = rw (alike p, alike q)
      alike (same_turned o {a} {b} h p q) =
          ap (λ (v : Option W). bind v (λ w. Some (w ∷ []))) (𝓛.commuting o (first (value a)) (first (value b)) h) ∙ rw (alike p, alike q)
      alike (same_load p q) = rw (alike p, alike q)
      alike (same_store p q r) = rw (alike p, alike q, alike r)

      pub alike_test : (t u : Term) → same m.commutes t u ≡ true → outcome t ≡ outcome u
      alike_test t u h = alike (test_so_same m.commutes t u h)

      member_dirty : (t : Term) (us : List Term) → member (same m.commutes) t us ≡ true → missing (outcome t) ≡ true → dirty us ≡ true
      member_dirty t [] h d = absurd (false≢true h)
      member_dirty t (u ∷ us) h d =
          elim (or_cases (same m.commutes t u) _ h) [
            | inl s ↦ rw (← alike_test t u s, d)
            | inr s ↦ or_right (missing (outcome u)) _ (member_dirty t us s d)
          ]

      pub within_dirty : (ts us : List Term) → within (same m.commutes) ts us ≡ true → dirty ts ≡ true → dirty us ≡ true
      within_dirty [] us h d = absurd (false≢true d)
      within_dirty (t ∷ ts) us h d =
          let (head, tail) = and_parts (member (same m.commutes) t us) _ h in
          elim (or_cases (missing (outcome t)) _ d) [
            | inl s ↦ member_dirty t us head s
            | inr s ↦ within_dirty ts us tail s
          ]
