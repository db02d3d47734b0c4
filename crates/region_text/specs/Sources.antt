-- What a source's text says.
use Rattle.std.specs.Prelude.{ℕ, Bool, false, cond, not, ◌&&◌, List, [], ◌∷◌, ◌++◌, length, is_some, Some, None, Ok, Err, Option, Result, ◌==◌, nat_lt}
use Rattle.region.specs.Numbers.{LabelNumber}
use Rattle.region.specs.declared.row.Row.{Row}
use Rattle.region.specs.declared.row.Row.TheVariants as row
use Rattle.region.specs.declared.label.LabelRow.{LabelRow}
use Rattle.region.specs.Rows.{main_fits}
use Rattle.region_text.specs.declared.letter.Letter.{Letter}
use Rattle.region_text.specs.declared.letter.Letter.TheVariants.{Declare, Operate, Literal, Load, Store, Exit, Join, End, ExitPiece, JoinPiece}
use Rattle.region_text.specs.declared.fault.Fault.TheVariants.{TooMany, OutOfPlace}
use Rattle.region_text.specs.declared.fault.FieldFault.{FieldFault}
use Rattle.region_text.specs.declared.fault.LineFault.{LineFault}
use Rattle.region_text.specs.declared.fault.LineFault.TheVariants.{Field, Line}
use Rattle.region_text.specs.declared.fault.Refusal.{Refusal}
use Rattle.region_text.specs.Texts.{TextLine, LineFields, lines}
use Rattle.region_text.specs.Taking.{taken, all_taken, whole}
use Rattle.region_text.specs.Records.{label_in, label_row, operate_row, literal_row, load_row, store_row, exit_row}

-- what has been read of a source
pub record Reading : Type 0 where
  pub labels : List LabelRow
  pub rows : List Row
  pub end : Option LabelNumber

abbrev pub nothing_read : Reading
nothing_read = record { labels = []; rows = []; end = None }

-- between the first label and the end
abbrev pub begun : Reading → Bool
begun r = not (is_some r.end) && nat_lt 0 (length r.labels)

-- Labels stand first, at least one; then rows; then the end; after it nothing. Heads of pieces have no place in a source.
abbrev pub in_place : Letter → Reading → Bool
in_place Declare r = not (is_some r.end) && length r.rows == 0
in_place Operate r = begun r
in_place Literal r = begun r
in_place Load r = begun r
in_place Store r = begun r
in_place Exit r = begun r
in_place Join r = begun r
in_place End r = begun r
in_place ExitPiece r = false
in_place JoinPiece r = false

-- one more label, where its fields are right and there are fewer than nine before it
abbrev pub declare : Reading → ℕ → Result LabelRow FieldFault → Result Reading LineFault
declare r l (Err f) = Err (Field f)
declare r l (Ok x) = cond (nat_lt (length r.labels) 9) (Ok (record r { labels = r.labels ++ x ∷ [] })) (Err (Line TooMany l))

-- one more row, where its fields are right and there are then at most 96 rows, 8 exits and 4 joins
abbrev pub keep : Reading → ℕ → Result Row FieldFault → Result Reading LineFault
keep r l (Err f) = Err (Field f)
keep r l (Ok x) = cond (main_fits (r.rows ++ x ∷ [])) (Ok (record r { rows = r.rows ++ x ∷ [] })) (Err (Line TooMany l))

-- the end label, where it is right
abbrev pub finish : Reading → Result LabelNumber FieldFault → Result Reading LineFault
finish r (Err f) = Err (Field f)
finish r (Ok e) = Ok (record r { end = Some e })

-- what a record in its place adds
abbrev pub take_record : Letter → Reading → LineFields → Result Reading LineFault
take_record Declare r x = declare r x.number (label_row x r.labels)
take_record Operate r x = keep r x.number (operate_row x)
take_record Literal r x = keep r x.number (literal_row x)
take_record Load r x = keep r x.number (load_row x)
take_record Store r x = keep r x.number (store_row x)
take_record Exit r x = keep r x.number (exit_row x r.labels)
take_record Join r x = keep r x.number (Ok row.Join)
take_record End r x = finish r (label_in x r.labels 1)
take_record ExitPiece r x = Err (Line OutOfPlace x.number)
take_record JoinPiece r x = Err (Line OutOfPlace x.number)

abbrev pub take_line : Reading → ℕ → TextLine → Result Reading LineFault
take_line = taken in_place take_record

-- what a source's text says
pub record Source : Type 0 where
  pub labels : List LabelRow
  pub rows : List Row
  pub end : LabelNumber

abbrev pub source_of : Reading → LabelNumber → Source
source_of r e = record { labels = r.labels; rows = r.rows; end = e }

abbrev pub end_of : Reading → Option LabelNumber
end_of r = r.end

abbrev pub read_source : List ℕ → Result Source Refusal
read_source bs = whole source_of (all_taken take_line end_of nothing_read 1 (lines bs))
