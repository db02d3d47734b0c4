-- Tables of terms: what the numbers of their rows stand for.
use Rattle.std.specs.Prelude.{◌≡◌, ℕ, ◌<◌, Bool, List, length}
use Rattle.numbering.specs.Rows.{Distinct}
use Rattle.domain.specs.declared.op.Op.{Op}
use Rattle.validator.specs.declared.term_row.TermRow.{TermRow}
use Rattle.validator.specs.Terms.{Term, Same}
use Rattle.validator.specs.TermRows.{row_equals, row_term, denoted, NamesBelow, MarkedRight, WellFormed}

module _ (commutes : Op → Bool) where
  -- number n stands for the term t: that of its row is the same
  pub record Names (xs : List TermRow) (n : ℕ) (t : Term) : Type 0 where
    pub inside : n < length xs
    pub same : Same commutes (denoted xs n) t

  -- two numbers are one exactly where two terms are the same
  pub record OneTerm (n m : ℕ) (t u : Term) : Type 0 where
    pub one_so_same : n ≡ m → Same commutes t u
    pub same_so_one : Same commutes t u → n ≡ m

  -- a table as hash-consing leaves it: no row stands in it twice, and so no term has two numbers
  pub record Tidy (xs : List TermRow) : Type 0 where
    pub formed : WellFormed commutes xs
    pub distinct : Distinct row_equals xs
    pub exact : (n m : ℕ) (t u : Term) → Names xs n t → Names xs m u → OneTerm n m t u

  -- what stood for a term still does
  abbrev pub Kept : List TermRow → List TermRow → Type 0
  Kept xs ys = (n : ℕ) (t : Term) → Names xs n t → Names ys n t

  -- the table ys came from xs
  pub record Grown (xs ys : List TermRow) : Type 0 where
    pub tidy : Tidy ys
    pub kept : Kept xs ys

  -- a row over the numbers of xs that says the term t
  pub record Says (xs : List TermRow) (r : TermRow) (t : Term) : Type 0 where
    pub below : NamesBelow (length xs) r
    pub marks : MarkedRight commutes r
    pub same : Same commutes (row_term (denoted xs) r) t

  -- the term t got the number n
  pub record Interned (xs ys : List TermRow) (n : ℕ) (t : Term) : Type 0 where
    pub grown : Grown xs ys
    pub named : Names ys n t
