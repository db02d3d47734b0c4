-- Rows and their numbers, over plain lists: `eq` tells whether two rows are equal, and a row's number is its place.
use Rattle.std.specs.Prelude.{◌≡◌, ℕ, ◌<◌, Bool, true, cond, List, [], ◌∷◌, ◌++◌, length, Some, None, Option, nat_lt, slice_index_or}
use Rattle.std.specs.List.{position}

-- A test is an equivalence: each row equals itself, and equality goes both ways and from row to row.
pub record Equivalence {R : Type 0} (eq : R → R → Bool) : Type 0 where
  pub reflexive : (x : R) → eq x x ≡ true
  pub symmetric : (x y : R) → eq x y ≡ true → eq y x ≡ true
  pub transitive : (x y z : R) → eq x y ≡ true → eq y z ≡ true → eq x z ≡ true

-- Equal rows hash alike.
abbrev pub Alike : {R : Type 0} → (R → R → Bool) → (R → ℕ) → Type 0
Alike {R} eq hash = (x y : R) → eq x y ≡ true → hash x ≡ hash y

-- The number of the first of the rows that equals the row: rows are numbered from 0.
abbrev pub found : {R : Type 0} → (R → R → Bool) → List R → R → Option ℕ
found eq xs row = position (λ x. eq x row) xs

-- The number that was found; else, where n rows leave room for one more, the next number, n.
abbrev pub or_next : Option ℕ → ℕ → ℕ → Option ℕ
or_next (Some i) room n = Some i
or_next None room n = cond (nat_lt n room) (Some n) None

-- The rows as they are where a number was found; else, where there is room, the row is put behind them.
abbrev pub or_pushed : {R : Type 0} → Option ℕ → ℕ → List R → R → List R
or_pushed (Some i) room xs row = xs
or_pushed None room xs row = cond (nat_lt (length xs) room) (xs ++ row ∷ []) xs

-- The number that the row gets over the rows xs, in room for so many.
abbrev pub numbered : {R : Type 0} → (R → R → Bool) → ℕ → List R → R → Option ℕ
numbered eq room xs row = or_next (found eq xs row) room (length xs)

-- The rows once the row has been numbered.
abbrev pub with_row : {R : Type 0} → (R → R → Bool) → ℕ → List R → R → List R
with_row eq room xs row = or_pushed (found eq xs row) room xs row

-- No two rows are equal: rows that are equal stand at one place.
abbrev pub Distinct : {R : Type 0} → (R → R → Bool) → List R → Type 0
Distinct {R} eq xs = (i j : ℕ) (d : R) → i < length xs → j < length xs → eq (slice_index_or xs i d) (slice_index_or xs j d) ≡ true → i ≡ j

-- Numbering keeps rows distinct.
abbrev pub KeptDistinct : {R : Type 0} → (R → R → Bool) → List R → List R → Type 0
KeptDistinct eq before after = Distinct eq before → Distinct eq after

-- Two numbers are one exactly where two rows are equal.
pub record Exactly (i j : ℕ) (equal : Bool) : Type 0 where
  pub one_so_equal : i ≡ j → equal ≡ true
  pub equal_so_one : equal ≡ true → i ≡ j

-- Equal rows get one number: where the rows were distinct and the row got the number i, a row s that has the number j has that same number exactly where the two are equal.
abbrev pub OneNumber : {R : Type 0} → (R → R → Bool) → List R → List R → R → Option ℕ → Type 0
OneNumber {R} eq before after row answer =
    Distinct eq before → (s : R) (i j : ℕ) → answer ≡ Some i → found eq after s ≡ Some j → Exactly i j (eq row s)
