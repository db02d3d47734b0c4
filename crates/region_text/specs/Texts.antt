-- A text as lines, and a line as fields. Texts are bytes; only LF (10) and tab (9) part them.
use Rattle.std.specs.Prelude.{ℕ, Bool, true, false, cond, List, [], ◌∷◌, ◌==◌, slice_index_or}
use Rattle.std.specs.List.{slice_split}

-- a line without its LF, and whether it had one: only the last line may lack it
pub record TextLine : Type 0 where
  pub bytes : List ℕ
  pub ended : Bool

abbrev pub text_line : List ℕ → Bool → TextLine
text_line bs e = record { bytes = bs; ended = e }

-- b in front of the first line
abbrev pub onto_line : ℕ → List TextLine → List TextLine
onto_line b [] = record { bytes = b ∷ []; ended = false } ∷ []
onto_line b (x ∷ xs) = record { bytes = b ∷ x.bytes; ended = x.ended } ∷ xs

abbrev pub lines : List ℕ → List TextLine
lines [] = []
lines (b ∷ bs) = cond (b == 10) (record { bytes = []; ended = true } ∷ lines bs) (onto_line b (lines bs))

-- the parts between the tabs: one more than there are tabs
abbrev pub fields : List ℕ → List (List ℕ)
fields = slice_split (λ b. b == 9)

-- the field at an index, counted from 0; nothing where there is none
abbrev pub field_at : List (List ℕ) → ℕ → List ℕ
field_at fs i = slice_index_or fs i []

-- a line by its number and its fields
pub record LineFields : Type 0 where
  pub number : ℕ
  pub fields : List (List ℕ)
