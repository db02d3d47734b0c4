-- Walks compared stop by stop, and lines entry by entry.
use Rattle.std.proofs.Common.{◌≡◌, ℕ, suc, ◌+◌, ◌<◌, ◌≤◌, not, List, length, Some, None, Option, is_some, true, false, sym, refl, ap, ◌∙◌, ap₂, add-one, below_more, arith}
use Rattle.std.proofs.lemmas.Bool.{eq-eqb, ne_eqb, false≢true}
use Rattle.domain.specs.Meaning.{Meaning}
use Rattle.region.specs.declared.label.LabelRow.{LabelRow}
use Rattle.region.specs.Lines.{Line, joins}
use Rattle.validator.specs.declared.term_row.TermRow.{TermRow}
use Rattle.validator.specs.declared.verdict.Mismatch.{Mismatch}
use Rattle.validator.specs.declared.verdict.Reason.TheVariants as reason
use Rattle.validator.specs.declared.walk.Walk.{Walk}
use Rattle.validator.specs.declared.walk.Reached.{Reached}
use Rattle.validator.specs.Terms.{Term}
use Rattle.validator.specs.Walks.{basis, Symbols, Stop, at_entry}
use Rattle.validator.specs.Comparison.{◌or_else◌, found, first_below, stops_differ, mismatch}
use Rattle.validator.specs.Live.{live_in}
use Rattle.validator.specs.Tidy.{Tidy, Kept}
use Rattle.validator.specs.Means.{Means, Begun, ConditionMeans, StopMeans, Stopped, Onward, behind}
use Rattle.validator.specs.Walkers.{entry_differs}
use Rattle.validator.specs.Numbers.{live_mask, conditions_differ, numbers_differ}
use Rattle.validator.proofs.Steps.{means_kept}
use Rattle.validator.proofs.Lowest.{first_below_none, first_below_at}
use Rattle.validator.proofs.Matching.{differ_match}

-- where conditions do not differ, both walks go on or both are at an end
both_more : (e n i : ℕ) (b : Option ℕ) (rest : Option Mismatch) → (conditions_differ e n (Some i) b or_else rest) ≡ None → (j : ℕ) × (b ≡ Some j)
both_more e n i None rest h = absurd (let z : ◌≡◌ {A = ℕ} 0 1 = cc in omega arith)
both_more e n i (Some j) rest h = (j, refl)

from_is_none : {X : Type 0} (o : Option X) → is_some o ≡ false → o ≡ None
from_is_none None h = refl
from_is_none (Some x) h = cc

from_is_some : {X : Type 0} (o : Option X) → is_some o ≡ true → (x : X) × (o ≡ Some x)
from_is_some None h = absurd (false≢true h)
from_is_some (Some x) h = (x, refl)

module _ {W : Type 0} (m : Meaning W) (labels : List LabelRow) where
  -- how far a comparison of two walks has come: what is ahead gives what was asked
  pub record Going (xs : List TermRow) (w v : Walk) (f g : Symbols → List Stop) (e n : ℕ) (goal : Option Mismatch) : Type 0 where
    pub tidy : Tidy m.commutes xs
    pub a : Symbols
    pub b : Symbols
    pub a_means : Means m.commutes xs w a
    pub b_means : Means m.commutes xs v b
    pub so_far : stops_differ (basis m (live_in labels)) e n (f a) (g b) ≡ goal

  condition_kept : (xs ys : List TermRow) → Kept m.commutes xs ys → (a : Option ℕ) (t : Option Term) → ConditionMeans m.commutes xs a t → ConditionMeans m.commutes ys a t
  condition_kept xs ys k None None p = tt
  condition_kept xs ys k None (Some t) p = p
  condition_kept xs ys k (Some n) None p = p
  condition_kept xs ys k (Some n) (Some t) p = k n t p

  stop_kept : (xs ys : List TermRow) → Kept m.commutes xs ys → (x : Reached) (s : Stop) → StopMeans m.commutes xs x s → StopMeans m.commutes ys x s
  stop_kept xs ys k x s p = record {
    condition = condition_kept xs ys k x.condition s.condition p.condition;
    label = p.label;
    walk = means_kept m.commutes xs ys k x.walk s.symbols p.walk;
  }

  -- one round
  module _ {xs ys zs : List TermRow} {w v w' v' : Walk} {f g f' g' : Symbols → List Stop} {e n : ℕ} {goal : Option Mismatch} {x y : Reached}
      (now : Going xs w v f g e n goal)
      (at_x : (s : Symbols) → Tidy m.commutes xs → Means m.commutes xs w s → Stopped m.commutes xs ys x w' f' (f s))
      (at_y : (s : Symbols) → Tidy m.commutes ys → Means m.commutes ys v s → Stopped m.commutes ys zs y v' g' (g s))
      (size : length zs ≤ 512) where
    pub record Turned : Type 0 where
      pub tidy : Tidy m.commutes zs
      pub a : Symbols
      pub b : Symbols
      pub a_means : Means m.commutes zs w' a
      pub b_means : Means m.commutes zs v' b
      pub so_far : (numbers_differ e n (live_mask labels x.label) x y or_else stops_differ (basis m (live_in labels)) e (suc n) (behind x.condition (f' a)) (behind y.condition (g' b))) ≡ goal

    pub turned : Turned
    turned =
        let p = at_x now.a now.tidy now.a_means in
        let q = at_y now.b p.grown.tidy (means_kept m.commutes xs ys p.grown.kept v now.b now.b_means) in
        record {
          tidy = q.grown.tidy;
          a = p.symbols;
          b = q.symbols;
          a_means = means_kept m.commutes ys zs q.grown.kept w' p.symbols p.means;
          b_means = q.means;
          so_far =
              ap (λ (o : Option Mismatch). o or_else stops_differ (basis m (live_in labels)) e (suc n) (behind x.condition (f' p.symbols)) (behind y.condition (g' q.symbols)))
              (differ_match m labels e n zs q.grown.tidy size x y p.stop q.stop (stop_kept ys zs q.grown.kept x p.stop p.stop_means) q.stop_means)
              ∙ sym (ap₂ (stops_differ (basis m (live_in labels)) e n) p.stops_are q.stops_are)
              ∙ now.so_far;
        }

    -- where the stops differ, or are the last, this is what was asked
    pub mismatched : {r : Option Mismatch} → r ≡ numbers_differ e n (live_mask labels x.label) x y → is_some r ≡ true → r ≡ goal
    mismatched {r = None} o h = absurd (false≢true h)
    mismatched {r = Some d} o h =
        let t = turned in
        ap (λ (o : Option Mismatch). o or_else stops_differ (basis m (live_in labels)) e (suc n) (behind x.condition (f' t.a)) (behind y.condition (g' t.b))) o ∙ t.so_far

    module _ {r : Option Mismatch} (r_is : r ≡ numbers_differ e n (live_mask labels x.label) x y) (alike : is_some r ≡ false) where
      matched : (None ≡ numbers_differ e n (live_mask labels x.label) x y)
          × (stops_differ (basis m (live_in labels)) e (suc n) (behind x.condition (f' turned.a)) (behind y.condition (g' turned.b)) ≡ goal)
      matched =
          let o = sym (from_is_none _ alike) ∙ r_is in
          (o, ap (λ (o : Option Mismatch). o or_else stops_differ (basis m (live_in labels)) e (suc n) (behind x.condition (f' turned.a)) (behind y.condition (g' turned.b))) o ∙ turned.so_far)

      pub ended : is_some x.condition ≡ false → r ≡ goal
      ended h =
          from_is_none _ alike
          ∙ ap (λ (k : Option ℕ). stops_differ (basis m (live_in labels)) e (suc n) (behind k (f' turned.a)) (behind y.condition (g' turned.b))) (sym (from_is_none x.condition h))
          ∙ matched.1

      -- else the comparison goes on behind them
      pub onward : is_some x.condition ≡ true → Going zs w' v' f' g' e (n + 1) goal
      onward h =
          let t = turned in
          let i = from_is_some x.condition h in
          let j = both_more e n i.0 y.condition _ (ap (λ (k : Option ℕ). numbers_differ e n (live_mask labels x.label) (record { condition = k; label = x.label; walk = x.walk }) y) (sym i.1) ∙ sym matched.0) in
          record {
            tidy = t.tidy;
            a = t.a;
            b = t.b;
            a_means = t.a_means;
            b_means = t.b_means;
            so_far =
                ap (λ (k : ℕ). stops_differ (basis m (live_in labels)) e k (f' t.a) (g' t.b)) (add-one n)
                ∙ ap₂ (λ (k l : Option ℕ). stops_differ (basis m (live_in labels)) e (suc n) (behind k (f' t.a)) (behind l (g' t.b))) (sym i.1) (sym j.1)
                ∙ matched.1;
          }

  -- the two walks from an entry
  pub from_entry : {xs ys zs : List TermRow} {st w v : Walk} {f g : Symbols → List Stop} {ss ts : List Stop} (e : ℕ) {r : Option Mismatch} → Begun m.commutes xs st
      → (Tidy m.commutes xs → Means m.commutes xs st at_entry → Onward m.commutes xs ys w f ss)
      → (Tidy m.commutes ys → Means m.commutes ys st at_entry → Onward m.commutes ys zs v g ts)
      → ((s t : Symbols) → Tidy m.commutes zs → Means m.commutes zs w s → Means m.commutes zs v t → r ≡ stops_differ (basis m (live_in labels)) e 1 (f s) (g t))
      → r ≡ stops_differ (basis m (live_in labels)) e 1 ss ts
  from_entry {xs = xs} {ys = ys} {zs = zs} {st = st} {w = w} {v = v} {f = f} {g = g} {ss = ss} {ts = ts} e {r = r} begun at_a at_b h =
      let p = at_a begun.tidy begun.means in
      let q = at_b p.follows.grown.tidy (means_kept m.commutes xs ys p.follows.grown.kept st at_entry begun.means) in
      h p.symbols q.symbols q.follows.grown.tidy (means_kept m.commutes ys zs q.follows.grown.kept w p.symbols p.follows.means) q.follows.means
      ∙ ap₂ (stops_differ (basis m (live_in labels)) e 1) p.ahead_are q.ahead_are

-- lines, entry by entry
module _ {W : Type 0} (m : Meaning W) (labels : List LabelRow) (src sch : Line) (i j : ℕ) (src_joins : joins src.places ≡ i) (sch_joins : joins sch.places ≡ j) where
  pub other_joins : (i ≡ j → ⊥) → Some (record { entry = 0; stop = 0; reason = reason.Joins; number = 0 }) ≡ mismatch (basis m (live_in labels)) src sch
  other_joins ne =
      ap (λ b. found 0 0 (not b) reason.Joins 0 or_else first_below (suc (joins src.places)) (entry_differs m labels src sch))
      (sym (ne_eqb (joins src.places) (joins sch.places) (λ e. ne (sym src_joins ∙ e ∙ sch_joins))))

  same_joins : i ≡ j → first_below (i + 1) (entry_differs m labels src sch) ≡ mismatch (basis m (live_in labels)) src sch
  same_joins e =
      ap (λ k. first_below k (entry_differs m labels src sch)) (add-one i ∙ ap suc (sym src_joins))
      ∙ ap (λ b. found 0 0 (not b) reason.Joins 0 or_else first_below (suc (joins src.places)) (entry_differs m labels src sch))
      (sym (eq-eqb (joins src.places) (joins sch.places) (src_joins ∙ e ∙ sym sch_joins)))

  -- entry k is the first from which something differs, or the last of all
  module _ (k : ℕ) (same : i ≡ j) (before : (l : ℕ) → l < k → entry_differs m labels src sch l ≡ None) where
    pub entry_failed : (r : Option Mismatch) → k ≤ i → r ≡ entry_differs m labels src sch k → is_some r ≡ true → r ≡ mismatch (basis m (live_in labels)) src sch
    entry_failed r l e h =
        let d = from_is_some r h in
        d.1 ∙ sym (first_below_at (entry_differs m labels src sch) (i + 1) k d.0 (omega arith) before (sym e ∙ d.1)) ∙ same_joins same

    pub entries_passed : (r : Option Mismatch) → k ≡ i → r ≡ entry_differs m labels src sch k → is_some r ≡ false → None ≡ mismatch (basis m (live_in labels)) src sch
    entries_passed r l e h =
        sym (first_below_none (entry_differs m labels src sch) (i + 1) (λ x z. below_more (λ y. entry_differs m labels src sch y ≡ None) k before (sym e ∙ from_is_none r h) x (omega arith)))
        ∙ same_joins same
