-- Rows of terms: each names its parts by the numbers of their rows.
use Rattle.std.specs.Prelude.{◌≡◌, ℕ, zero, suc, ◌+◌, ◌*◌, ◌<◌, min, max, Bool, true, false, List, length, slice_index_or}
use Rattle.domain.specs.declared.op.Op.{Op}
use Rattle.validator.specs.declared.term_row.TermRow.{TermRow}
use Rattle.validator.specs.declared.term_row.TermRow.TheVariants.{RegisterAtEntry, BankAtEntry, Literal, Operate, Load, Store}
use Rattle.validator.specs.contracts.term_row.TermRowPartialEq.TheImpl as eq
use Rattle.validator.specs.Terms.{Term, register_at_entry, bank_at_entry, literal, operate, load, store, number}

-- the row with operands that may be exchanged in ascending order
abbrev pub ordered : TermRow → TermRow
ordered (RegisterAtEntry i) = RegisterAtEntry i
ordered (BankAtEntry k) = BankAtEntry k
ordered (Literal n) = Literal n
ordered (Operate o true a b) = Operate o true (min a b) (max a b)
ordered (Operate o false a b) = Operate o false a b
ordered (Load k a) = Load k a
ordered (Store k a v) = Store k a v

-- Two rows are equal where they are built alike, exchangeable operands in either order. The derived equality of rows is
-- true exactly of one and the same row, which is shown in Equal: so this is the same as `ordered x ≡ ordered y`.
abbrev pub row_equals : TermRow → TermRow → Bool
row_equals x y = (eq.ghosts).eq (ordered x) (ordered y)

-- The parts of a row, mixed; an operation's mark adds nothing. Any function of the row would do: this one spreads the rows of a walk.
abbrev pub mixed : TermRow → ℕ
mixed (RegisterAtEntry i) = i
mixed (BankAtEntry k) = 16 + k
mixed (Literal n) = 20 + n
mixed (Operate o x a b) = 31 * number o + 67 * a + 29 * b
mixed (Load k a) = 7 + 113 * k + 37 * a
mixed (Store k a v) = 5 + 113 * k + 37 * a + 67 * v

-- the hash of a row is that of the row in order
abbrev pub row_hash : TermRow → ℕ
row_hash x = mixed (ordered x)

-- the term that a row says, where `term` gives the terms of numbers
abbrev pub row_term : (term : ℕ → Term) → TermRow → Term
row_term term (RegisterAtEntry i) = register_at_entry i
row_term term (BankAtEntry k) = bank_at_entry k
row_term term (Literal n) = literal n
row_term term (Operate o x a b) = operate o (term a) (term b)
row_term term (Load k a) = load (term k) (term a)
row_term term (Store k a v) = store (term k) (term a) (term v)

-- the term of number n, to so many levels of parts
abbrev pub denote : (levels : ℕ) → List TermRow → ℕ → Term
denote zero xs n = literal 0
denote (suc f) xs n = row_term (denote f xs) (slice_index_or xs n (Literal 0))

-- the term of number n: since rows name only rows above them, there are no more levels than rows
abbrev pub denoted : List TermRow → ℕ → Term
denoted xs n = denote (length xs) xs n

-- a row names only numbers below n
abbrev pub NamesBelow : ℕ → TermRow → Type 0
NamesBelow n (RegisterAtEntry i) = Unit {0}
NamesBelow n (BankAtEntry k) = Unit {0}
NamesBelow n (Literal k) = Unit {0}
NamesBelow n (Operate o x a b) = (a < n) × (b < n)
NamesBelow n (Load k a) = (k < n) × (a < n)
NamesBelow n (Store k a v) = (k < n) × (a < n) × (v < n)

-- the mark of an operation's row tells whether the operation commutes
abbrev pub MarkedRight : (commutes : Op → Bool) → TermRow → Type 0
MarkedRight commutes (RegisterAtEntry i) = Unit {0}
MarkedRight commutes (BankAtEntry k) = Unit {0}
MarkedRight commutes (Literal k) = Unit {0}
MarkedRight commutes (Operate o x a b) = x ≡ commutes o
MarkedRight commutes (Load k a) = Unit {0}
MarkedRight commutes (Store k a v) = Unit {0}

pub record WellFormed (commutes : Op → Bool) (xs : List TermRow) : Type 0 where
  pub below : (i : ℕ) → i < length xs → NamesBelow i (slice_index_or xs i (Literal 0))
  pub marks : (i : ℕ) → i < length xs → MarkedRight commutes (slice_index_or xs i (Literal 0))
