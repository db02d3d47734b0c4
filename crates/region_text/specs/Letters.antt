-- The letters of records.
use Rattle.std.specs.Prelude.{ℕ, Bool, cond, ◌&&◌, List, length, Some, None, Option, ◌==◌, slice_index}
use Rattle.region_text.specs.declared.letter.Letter.{Letter}
use Rattle.region_text.specs.declared.letter.Letter.TheVariants.{Declare, Operate, Literal, Load, Store, Exit, Join, End, ExitPiece, JoinPiece}
use Rattle.region_text.specs.Texts.{TextLine, fields, field_at}

-- the record that a letter begins, by the letter's code: M is 77, O 79, I 73, L 76, S 83, X 88, J 74, E 69, P 80, Q 81
abbrev pub letter_at : ℕ → Option Letter
letter_at b =
    cond (b == 77) (Some Declare)
    (cond (b == 79) (Some Operate)
    (cond (b == 73) (Some Literal)
    (cond (b == 76) (Some Load)
    (cond (b == 83) (Some Store)
    (cond (b == 88) (Some Exit)
    (cond (b == 74) (Some Join)
    (cond (b == 69) (Some End)
    (cond (b == 80) (Some ExitPiece)
    (cond (b == 81) (Some JoinPiece)
    None)))))))))

-- how many fields a record has, its letter included
abbrev pub field_count : Letter → ℕ
field_count Declare = 3
field_count Operate = 5
field_count Literal = 3
field_count Load = 4
field_count Store = 4
field_count Exit = 3
field_count Join = 1
field_count End = 2
field_count ExitPiece = 2
field_count JoinPiece = 2

-- the letter that a first field holds: it is all of the field
abbrev pub letter_of : List ℕ → Option Letter
letter_of bs = cond (length bs == 1) (letter_at (slice_index bs 0)) None

-- what there is, where the test holds
abbrev pub provided : {X : Type 0} → (X → Bool) → Option X → Option X
provided t None = None
provided t (Some x) = cond (t x) (Some x) None

-- the record that a line holds: a known letter, as many fields as it asks for, and a final LF
abbrev pub form : TextLine → Option Letter
form x = provided (λ c. (length (fields x.bytes) == field_count c) && x.ended) (letter_of (field_at (fields x.bytes) 0))
