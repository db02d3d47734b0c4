-- What numbering a term's row does to a table.
use Rattle.std.specs.Prelude.{◌≡◌, ℕ, ◌+◌, ◌<◌, ◌≤◌, min, max, Bool, true, false, ◌⊎◌, List, [], ◌∷◌, ◌++◌, length, Some, None, Option, ◌==◌, slice_index_or, refl}
use Rattle.std.proofs.Common.{sym, ◌∙◌, ap, subst, inl, inr, arith, not-suc-le-zero}
use Rattle.std.proofs.lemmas.Bool.{cases_lt}
use Rattle.std.proofs.lemmas.Bool.Decides.{same_from_decides, Decides-eqb}
use Rattle.std.proofs.lemmas.List.{length_push, length-take-le}
use Rattle.numbering.specs.Rows.{found, numbered, with_row}
use Rattle.numbering.specs.declared.kind.Kind.{Ghosts}
use Rattle.numbering.specs.declared.table.Table.{Table}
use Rattle.numbering.specs.Used.{used, capacity}
use Rattle.numbering.proofs.Found.{found_is, distinct_none, distinct_push}
use Rattle.numbering.proofs.Numbered.{by_ways, length_grows}
use Rattle.domain.specs.declared.op.Op.{Op}
use Rattle.validator.specs.declared.term_row.TermRow.{TermRow}
use Rattle.validator.specs.declared.term_row.TermRow.TheVariants.{RegisterAtEntry, BankAtEntry, Literal, Operate, Load, Store}
use Rattle.validator.specs.Terms.{Term, register_at_entry, bank_at_entry, literal, operate, load, store}
use Rattle.validator.specs.Terms as terms
use Rattle.validator.specs.Terms.{Same, same_register, same_bank, same_literal, same_operate, same_turned, same_load, same_store}
use Rattle.validator.specs.TermRows.{ordered, row_equals, row_term, denoted, MarkedRight}
use Rattle.validator.specs.Tidy.{Tidy, Names, Grown, Says, Interned}
use Rattle.validator.proofs.Same.{same_refl, same_sym, same_trans, test_so_same, same_so_test}
use Rattle.validator.specs.Equal.{equal_decides, equivalence}
use Rattle.validator.proofs.Unique.{unique}
use Rattle.validator.proofs.Grown.{grown, stays, newest, at_row}

-- a table has as many rows in use as it counts
pub used_length : {kind : Ghosts TermRow} (t : Table TermRow kind) → length (used t) ≡ t.len
used_length t = length-take-le t.len t.rows.now t.inside

-- a table holds no more than it has room for
pub used_fits : {kind : Ghosts TermRow} (t : Table TermRow kind) → capacity t ≡ 512 → length (used t) ≤ 512
used_fits t e = omega (arith, used_length t, t.inside)

-- numbering puts one row in at most, and answers a number of a row in the table
pub one_more : {kind : Ghosts TermRow} (t u : Table TermRow kind) (r : TermRow) → used u ≡ with_row row_equals (capacity t) (used t) r → u.len ≤ t.len + 1
one_more t u r e = omega (arith, used_length t, used_length u, ap length e, length_grows row_equals (capacity t) (used t) r)

pub number_inside : {kind : Ghosts TermRow} (t : Table TermRow kind) (r : TermRow) (o : Option ℕ) (n : ℕ) → o ≡ numbered row_equals (capacity t) (used t) r → o ≡ Some n → n < capacity t
number_inside t r o n p q =
    by_ways row_equals (capacity t) (used t) r (λ a after. a ≡ Some n → n < capacity t)
    (λ i f g. let i_is : i ≡ n = cc in omega (arith, (found_is row_equals r (used t) i (Literal 0) f).0, used_length t, t.inside))
    (λ f l g. let n_is : length (used t) ≡ n = cc in omega arith)
    (λ f l g. cc)
    (sym p ∙ q)

module _ (c : Op → Bool) (term : ℕ → Term) where
  in_order : (o : Op) (a b : ℕ) → c o ≡ true → Same c (operate o (term a) (term b)) (operate o (term (min a b)) (term (max a b)))
  in_order o a b e = go (cases_lt a b)
    where
      go : (a < b) ⊎ (b ≤ a) → Same c (operate o (term a) (term b)) (operate o (term (min a b)) (term (max a b)))
      go (inl l) = let p : min a b ≡ a = omega arith in let q : max a b ≡ b = omega arith in rw (p, q) (same_refl c _)
      go (inr l) = let p : min a b ≡ b = omega arith in let q : max a b ≡ a = omega arith in rw (p, q) (same_turned o e (same_refl c _) (same_refl c _))

  -- order changes no term
  as_ordered : (r : TermRow) → MarkedRight c r → Same c (row_term term r) (row_term term (ordered r))
  as_ordered (RegisterAtEntry i) f = same_refl c _
  as_ordered (BankAtEntry k) f = same_refl c _
  as_ordered (Literal n) f = same_refl c _
  as_ordered (Operate o true a b) f = in_order o a b (sym f)
  as_ordered (Operate o false a b) f = same_refl c _
  as_ordered (Load k a) f = same_refl c _
  as_ordered (Store k a v) f = same_refl c _

  -- equal rows say the same term
  equal_rows : (r s : TermRow) → MarkedRight c r → MarkedRight c s → row_equals r s ≡ true → Same c (row_term term r) (row_term term s)
  equal_rows r s f g h =
      same_trans c (as_ordered r f) (subst (λ (o : TermRow). Same c (row_term term o) (row_term term s)) (sym ((equal_decides r s).0 h)) (same_sym c (as_ordered s g)))

module _ (c : Op → Bool) where
  pub tidy_none : Tidy c []
  tidy_none = record {
    formed = record { below = λ i l. absurd (not-suc-le-zero l); marks = λ i l. absurd (not-suc-le-zero l) };
    distinct = distinct_none row_equals;
    exact = λ n m t u a b. absurd (not-suc-le-zero a.inside);
  }

  pub kept_all : (xs : List TermRow) → Tidy c xs → Grown c xs xs
  kept_all xs t = record { tidy = t; kept = λ n u h. h }

  pub grown_then : (xs ys zs : List TermRow) → Grown c xs ys → Grown c ys zs → Grown c xs zs
  grown_then xs ys zs g h = record { tidy = h.tidy; kept = λ n u x. h.kept n u (g.kept n u x) }

  module _ (xs : List TermRow) (r : TermRow) (t : Term) (tidy : Tidy c xs) (says : Says c xs r t) where
    -- a row that was there says the same term
    old : (i : ℕ) → found row_equals xs r ≡ Some i → Interned c xs xs i t
    old i e =
        let hit = found_is row_equals r xs i (Literal 0) e in
        let eq = equal_rows c (denoted xs) (slice_index_or xs i (Literal 0)) r (tidy.formed.marks i hit.0) says.marks hit.1 in
        let is = at_row c xs tidy.formed i hit.0 in
        record {
          grown = kept_all xs tidy;
          named = record { inside = hit.0; same = rw is (same_trans c eq says.same) };
        }

    -- a new row is put behind the others
    new : found row_equals xs r ≡ None → Interned c xs (xs ++ r ∷ []) (length xs) t
    new e =
        let len = length_push xs r in
        let wf = tidy.formed in
        let formed = stays c xs r wf says.below says.marks in
        let distinct = distinct_push row_equals equivalence xs r tidy.distinct e in
        let is = newest c xs r wf says.below says.marks in
        record {
          grown = record {
            tidy = record { formed = formed; distinct = distinct; exact = unique c (xs ++ r ∷ []) formed distinct };
            kept = λ n u h. record { inside = omega (arith, h.inside); same = rw (← grown c xs r wf n h.inside) h.same };
          };
          named = record { inside = omega arith; same = rw is says.same };
        }

    pub interned : (room : ℕ) (ys : List TermRow) (o : Option ℕ) (n : ℕ) → o ≡ numbered row_equals room xs r → o ≡ Some n → ys ≡ with_row row_equals room xs r
        → Interned c xs ys n t
    interned room ys o n p q e =
        rw e
        (by_ways row_equals room xs r (λ a after. a ≡ Some n → Interned c xs after n t)
        (λ i f g. let i_is : i ≡ n = cc in rw (← i_is) (old i f))
        (λ f l g. let n_is : length xs ≡ n = cc in rw (← n_is) (new f))
        (λ f l g. cc)
        (sym p ∙ q))

  -- the test on terms is that on their numbers
  pub same_by_number : (xs : List TermRow) → Tidy c xs → (n m : ℕ) (t u : Term) → Names c xs n t → Names c xs m u → terms.same c t u ≡ (n == m)
  same_by_number xs tidy n m t u a b =
      let one = tidy.exact n m t u a b in
      same_from_decides _ _ ((λ h. one.same_so_one (test_so_same c t u h)), (λ e. same_so_test c (one.one_so_same e))) (Decides-eqb n m)

  -- rows over numbers that stand for terms
  module _ (xs : List TermRow) where
    pub says_register : (i : ℕ) → Says c xs (RegisterAtEntry i) (register_at_entry i)
    says_register i = record { below = tt; marks = tt; same = same_register i }

    pub says_bank : (k : ℕ) → Says c xs (BankAtEntry k) (bank_at_entry k)
    says_bank k = record { below = tt; marks = tt; same = same_bank k }

    pub says_literal : (n : ℕ) → Says c xs (Literal n) (literal n)
    says_literal n = record { below = tt; marks = tt; same = same_literal n }

    pub says_operate : (o : Op) (a b : ℕ) (t u : Term) → Names c xs a t → Names c xs b u → Says c xs (Operate o (c o) a b) (operate o t u)
    says_operate o a b t u x y = record { below = (x.inside, y.inside); marks = refl; same = same_operate o x.same y.same }

    pub says_load : (k a : ℕ) (t u : Term) → Names c xs k t → Names c xs a u → Says c xs (Load k a) (load t u)
    says_load k a t u x y = record { below = (x.inside, y.inside); marks = tt; same = same_load x.same y.same }

    pub says_store : (k a v : ℕ) (t u w : Term) → Names c xs k t → Names c xs a u → Names c xs v w → Says c xs (Store k a v) (store t u w)
    says_store k a v t u w x y z = record { below = (x.inside, y.inside, z.inside); marks = tt; same = same_store x.same y.same z.same }
