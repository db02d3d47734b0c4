-- The way down to a join, row by row.
use Rattle.std.proofs.Common.{◌≡◌, ℕ, zero, suc, ◌+◌, ◌-◌, ◌<◌, ◌≤◌, List, ◌∷◌, length, get_or, drop, sym, ap, ◌∙◌, ap₂, add-one, arith}
use Rattle.std.proofs.lemmas.List.{drop_more, drop_all}
use Rattle.region.specs.declared.row.Action.{Action}
use Rattle.region.specs.Numbers.{LabelNumber, Register}
use Rattle.region.specs.declared.row.Row.{Row}
use Rattle.region.specs.declared.row.Row.TheVariants.{Act, Exit, Join}
use Rattle.region.specs.Kept.{Kept}
use Rattle.region.specs.Rows.{actions}
use Rattle.region.specs.Layout.{join_rows}
use Rattle.region.specs.Lines.{entered, missing, places_of}
use Rattle.region.specs.Entries.{Enters}

-- the rows that are left begin with the row here
pub here : {R : Type 0} (rows : List R) (i : ℕ) (r : R) → i < length rows → r ≡ get_or rows i r → drop i rows ≡ r ∷ drop (i + 1) rows
here rows i r h e = drop_more rows i r h ∙ ap (λ x. x ∷ drop (i + 1) rows) (sym e)

-- Entry j + 1 of main rows is entry j + 1 - above of the rows that are left, which have so many joins and exits above them.
pub record Toward (j : ℕ) (main : List Row) (above exits : ℕ) (left : List Row) : Type 0 where
  pub toward : (part : List Row) (sh : Kept) (n : ℕ) → j < n
      → entered (suc j) (places_of part sh 0 0 n main) ≡ entered (suc (j - above)) (places_of part sh exits above (n - above) left)

-- among joins that have no row
past_missing : (part : List Row) (sh : Kept) (x a y : ℕ)
    → entered (suc x) (missing part sh a (suc (x + y))) ≡ record { piece = actions (join_rows part sh (a + x)); places = missing part sh (suc (a + x)) y }
past_missing part sh zero a y = let p : a + 0 ≡ a = omega arith in let q : 0 + y ≡ y = omega arith in rw (p, q)
past_missing part sh (suc x) a y =
    let p : suc x + y ≡ suc (x + y) = omega arith in
    let q : a + suc x ≡ suc a + x = omega arith in
    rw (p, q) (past_missing part sh x (suc a) y)

module _ (j : ℕ) (main : List Row) (above exits i : ℕ) (r : Row) (inv : Toward j main above exits (drop i main)) (inside : i < length main) (read : r ≡ get_or main i r) where
  at_row : (x : Row) → r ≡ x → Toward j main above exits (x ∷ drop (i + 1) main)
  at_row x e = record { toward = λ part sh n h. inv.toward part sh n h ∙ ap (λ rs. entered (suc (j - above)) (places_of part sh exits above (n - above) rs)) (here main i r inside read ∙ ap (λ y. y ∷ drop (i + 1) main) e) }

  pub past_action : (a : Action) (p q : ℕ) → r ≡ Act a → p ≡ above → q ≡ exits → Toward j main p q (drop (i + 1) main)
  past_action a p q e f g = rw (f, g) (record { toward = λ part sh n h. (at_row (Act a) e).toward part sh n h })

  pub past_exit : (t : Register) (l : LabelNumber) (p q : ℕ) → r ≡ Exit t l → p ≡ above → q ≡ exits + 1 → Toward j main p q (drop (i + 1) main)
  past_exit t l p q e f g = rw (f, g) (record { toward = λ part sh n h. (at_row (Exit t l) e).toward part sh n h })

  pub past_join : (p q : ℕ) → r ≡ Join → above < j → p ≡ above + 1 → q ≡ exits → Toward j main p q (drop (i + 1) main)
  past_join p q e b f g = rw (f, g) (record {
    toward = λ part sh n h.
        let x : j - above ≡ suc (j - (above + 1)) = omega arith in
        let y : n - above ≡ suc (n - (above + 1)) = omega arith in
        (at_row Join e).toward part sh n h
        ∙ ap₂ (λ c d. entered (suc c) (places_of part sh exits above d (Join ∷ drop (i + 1) main))) x y
        ∙ ap (λ c. entered (suc (j - (above + 1))) (places_of part sh exits c (n - (above + 1)) (drop (i + 1) main))) (sym (add-one above));
  })

  pub at_join : r ≡ Join → above ≡ j → (part : List Row) (sh : Kept) (n : ℕ) → j < n → Enters part sh j n main (i + 1) exits
  at_join e b part sh n h =
      let x : j - above ≡ zero = omega arith in
      let y : n - above ≡ suc (n - suc j) = omega arith in
      (at_row Join e).toward part sh n h
      ∙ ap₂ (λ c d. entered (suc c) (places_of part sh exits above d (Join ∷ drop (i + 1) main))) x y
      ∙ ap (λ c. record { piece = actions (join_rows part sh c); places = places_of part sh exits (suc c) (n - suc j) (drop (i + 1) main) }) b

pub at_end : (j : ℕ) (main : List Row) (above exits i k : ℕ) → Toward j main above exits (drop i main) → length main ≤ i → k ≡ length main → above ≤ j
    → (part : List Row) (sh : Kept) (n : ℕ) → j < n → Enters part sh j n main k exits
at_end j main above exits i k inv past e b part sh n h =
    let y : n - above ≡ suc ((j - above) + (n - suc j)) = omega arith in
    let z : above + (j - above) ≡ j = omega arith in
    inv.toward part sh n h
    ∙ ap₂ (λ d rs. entered (suc (j - above)) (places_of part sh exits above d rs)) y (drop_all i main past)
    ∙ past_missing part sh (j - above) above (n - suc j)
    ∙ ap (λ c. record { piece = actions (join_rows part sh c); places = missing part sh (suc c) (n - suc j) }) z
    ∙ ap (λ rs. record { piece = actions (join_rows part sh j); places = places_of part sh exits (suc j) (n - suc j) rs }) (sym (drop_all k main (omega arith)))
