-- Numbers differ where their terms do.
use Rattle.std.proofs.Common.{◌≡◌, ℕ, ◌≤◌, Bool, true, false, not, ◌&&◌, ◌||◌, eqb, ◌⊎◌, List, length, get_or, set, Some, None, Option, sym, refl, ap, ◌∙◌, ap₂, inl, inr, arith}
use Rattle.std.specs.Bool.{beq}
use Rattle.std.specs.Cmp.{booleans_Decides, both_ways}
use Rattle.std.specs.Cmp.Lexicographic.{pointwise}
use Rattle.std.proofs.lemmas.Slice.Eq.{slice_eq-Decides}
use Rattle.std.proofs.lemmas.Bool.{eqb-true, eqb-false, and_parts, and_from, cases_eq}
use Rattle.std.proofs.lemmas.Bool.Decides.{same_from_decides}
use Rattle.std.proofs.lemmas.List.{get_or-set_same, get_or-set_other, length-set, length-replicate, ext_get_or}
use Rattle.domain.specs.declared.op.Op.{Op}
use Rattle.domain.specs.Meaning.{Meaning}
use Rattle.region.specs.declared.label.LabelRow.{LabelRow}
use Rattle.region.proofs.Laid.{get_or_repeated}
use Rattle.validator.specs.declared.term_row.TermRow.{TermRow}
use Rattle.validator.specs.declared.verdict.Reason.TheVariants as reason
use Rattle.validator.specs.declared.walk.Reached.{Reached}
use Rattle.validator.specs.Terms.{Term, same}
use Rattle.validator.specs.Walks.{basis, Stop}
use Rattle.validator.specs.Comparison.{◌or_else◌, found, member, within, differ_condition, differ}
use Rattle.validator.specs.Live.{bit, live_in}
use Rattle.validator.specs.Tidy.{Tidy, Names}
use Rattle.validator.specs.Means.{Marked, none, more, StopMeans, ConditionMeans}
use Rattle.validator.specs.Numbers.{live_mask, conditions_differ, numbers_differ}
use Rattle.validator.proofs.Interning.{same_by_number}
use Rattle.validator.proofs.Lowest.{lowest_cong}

module _ (c : Op → Bool) (xs : List TermRow) (tidy : Tidy c xs) (size : length xs ≤ 512) where
  marked_length : (h : List Bool) (ts : List Term) → Marked c xs h ts → length h ≡ 512
  marked_length _ _ none = length-replicate 512 false
  marked_length _ _ (more h ts n t p m) = length-set h n true ∙ marked_length h ts m

  -- a term is in a list where its number is marked
  member_mark : (k : List Bool) (us : List Term) → Marked c xs k us → (n : ℕ) (t : Term) → Names c xs n t → member (same c) t us ≡ get_or k n false
  member_mark _ _ none n t a = sym (get_or_repeated 512 n false)
  member_mark _ _ (more h us m u p q) n t a =
      ap₂ (λ x y. x || y) (same_by_number c xs tidy n m t u a p) (member_mark h us q n t a) ∙ go (eqb n m) refl
    where
      len : length h ≡ 512
      len = marked_length h us q

      go : (b : Bool) → eqb n m ≡ b → (b || get_or h n false) ≡ get_or (set h m true) n false
      go true e =
          let n_is : n ≡ m = eqb-true n m e in
          sym (ap (λ j. get_or (set h m true) j false) n_is ∙ get_or-set_same h m true false (omega (arith, p.inside, len)))
      go false e = sym (get_or-set_other h m n true false (eqb-false n m e))

  module _ (k : List Bool) (us : List Term) (marks : Marked c xs k us) where
    within_to : (h : List Bool) (ts : List Term) → Marked c xs h ts → within (same c) ts us ≡ true → (n : ℕ) → get_or h n false ≡ true → get_or k n false ≡ true
    within_to _ _ none s n e = let out = get_or_repeated 512 n false in cc
    within_to _ _ (more h ts m t p q) s n e = go (λ r. within_to h ts q r n) (cases_eq n m)
      where
        parts : (member (same c) t us ≡ true) × (within (same c) ts us ≡ true)
        parts = and_parts _ _ s

        go : (within (same c) ts us ≡ true → get_or h n false ≡ true → get_or k n false ≡ true) → (n ≡ m) ⊎ (n ≡ m → ⊥) → get_or k n false ≡ true
        go ih (inl i) = ap (λ j. get_or k j false) i ∙ sym (member_mark k us marks m t p) ∙ parts.0
        go ih (inr i) = ih parts.1 (sym (get_or-set_other h m n true false i) ∙ e)

    within_from : (h : List Bool) (ts : List Term) → Marked c xs h ts → ((n : ℕ) → get_or h n false ≡ true → get_or k n false ≡ true) → within (same c) ts us ≡ true
    within_from _ _ none f = refl
    within_from _ _ (more h ts m t p q) f =
        and_from _ _ (member_mark k us marks m t p ∙ f m here) (within_from h ts q (λ n e. f n (go n e (cases_eq n m))))
      where
        len : length h ≡ 512
        len = marked_length h ts q

        here : get_or (set h m true) m false ≡ true
        here = get_or-set_same h m true false (omega (arith, p.inside, len))

        go : (n : ℕ) → get_or h n false ≡ true → (n ≡ m) ⊎ (n ≡ m → ⊥) → get_or (set h m true) n false ≡ true
        go n e (inl i) = ap (λ j. get_or (set h m true) j false) i ∙ here
        go n e (inr i) = get_or-set_other h m n true false i ∙ e

  -- two sets have the same marks exactly where each is within the other
  traps_match : (h k : List Bool) (ts us : List Term) → Marked c xs h ts → Marked c xs k us → pointwise beq h k ≡ (within (same c) ts us && within (same c) us ts)
  traps_match h k ts us p q =
      let lh = marked_length h ts p in
      let lk = marked_length k us q in
      same_from_decides _ _ (slice_eq-Decides booleans_Decides h k _ refl) (
        (λ e.
            let w = and_parts (within (same c) ts us) (within (same c) us ts) e in
            ext_get_or false h k (lh ∙ sym lk) (λ i l. both_ways _ _ (within_to k us q h ts p w.0 i) (within_to h ts p k us q w.1 i))),
        (λ e.
            and_from (within (same c) ts us) (within (same c) us ts)
            (within_from k us q h ts p (λ n x. ap (λ j. get_or j n false) (sym e) ∙ x))
            (within_from h ts p k us q (λ n x. ap (λ j. get_or j n false) e ∙ x))),
      )

module _ {W : Type 0} (m : Meaning W) (labels : List LabelRow) (e n : ℕ) (xs : List TermRow) (tidy : Tidy m.commutes xs) (size : length xs ≤ 512) where
  conditions_match : (a : Option ℕ) (s : Option Term) (b : Option ℕ) (t : Option Term) → ConditionMeans m.commutes xs a s → ConditionMeans m.commutes xs b t
      → conditions_differ e n a b ≡ differ_condition (basis m (live_in labels)) e n s t
  conditions_match None None None None p q = refl
  conditions_match None None None (Some u) p q = absurd q
  conditions_match None None (Some j) None p q = absurd q
  conditions_match None None (Some j) (Some u) p q = refl
  conditions_match None (Some t) b u p q = absurd p
  conditions_match (Some i) None b u p q = absurd p
  conditions_match (Some i) (Some t) None None p q = refl
  conditions_match (Some i) (Some t) None (Some u) p q = absurd q
  conditions_match (Some i) (Some t) (Some j) None p q = absurd q
  conditions_match (Some i) (Some t) (Some j) (Some u) p q = ap (λ b. found e n (not b) reason.Condition 0) (sym (same_by_number m.commutes xs tidy i j t u p q))

  -- the numbers of two stops differ first where the stops do
  pub differ_match : (x y : Reached) (s t : Stop) → StopMeans m.commutes xs x s → StopMeans m.commutes xs y t
      → numbers_differ e n (live_mask labels x.label) x y ≡ differ (basis m (live_in labels)) e n s t
  differ_match x y s t p q =
      let a = p.walk in
      let b = q.walk in
      ap₂ ◌or_else◌ (conditions_match x.condition s.condition y.condition t.condition p.condition q.condition)
      (ap₂ ◌or_else◌ (ap₂ (λ k l. found e n (not (eqb k.index l.index)) reason.Label 0) p.label q.label)
      (ap₂ ◌or_else◌
      (lowest_cong e n reason.Register 16 _ _
      (λ i l. ap₂ (λ k d. eqb (bit i (live_mask labels k)) 1 && not d) p.label (sym (same_by_number m.commutes xs tidy _ _ _ _ (a.register i l) (b.register i l)))))
      (ap₂ ◌or_else◌
      (lowest_cong e n reason.Bank 4 _ _ (λ k l. ap not (sym (same_by_number m.commutes xs tidy _ _ _ _ (a.bank k l) (b.bank k l)))))
      (ap (λ d. found e n (not d) reason.Traps 0) (traps_match m.commutes xs tidy size _ _ _ _ a.traps b.traps)))))
