-- How a text is taken line by line: the rules that a source and a schedule share.
-- S is what has been read, and X what the whole text says.
use Rattle.std.specs.Prelude.{ℕ, ◌+◌, Bool, cond, List, [], ◌∷◌, Some, None, Ok, Err, Option, Result}
use Rattle.region.specs.Numbers.{LabelNumber}
use Rattle.region_text.specs.declared.letter.Letter.{Letter}
use Rattle.region_text.specs.declared.fault.Fault.TheVariants.{Malformed, OutOfPlace}
use Rattle.region_text.specs.declared.fault.LineFault.{LineFault}
use Rattle.region_text.specs.declared.fault.LineFault.TheVariants.{Line}
use Rattle.region_text.specs.declared.fault.Refusal.{Refusal}
use Rattle.region_text.specs.Faults.{refusal_of, unended}
use Rattle.region_text.specs.Texts.{TextLine, LineFields, fields}
use Rattle.region_text.specs.Letters.{form}

-- by which records have their place, and by what a record in its place adds
module _ {S : Type 0} (in_place : Letter → S → Bool) (take_record : Letter → S → LineFields → Result S LineFault) where
  -- a record of a line: its place, and then what it adds
  abbrev pub placed : S → LineFields → Option Letter → Result S LineFault
  placed s x None = Err (Line Malformed x.number)
  placed s x (Some c) = cond (in_place c s) (take_record c s x) (Err (Line OutOfPlace x.number))

  -- One line more: first its form, then its place, then its fields from the left, then the sizes.
  abbrev pub taken : S → ℕ → TextLine → Result S LineFault
  taken s l x = placed s (record { number = l; fields = fields x.bytes }) (form x)

-- what was read is whole where it has its end label; l is the line after the last
abbrev pub or_unended : {S : Type 0} → ℕ → S → Option LabelNumber → Result (S × LabelNumber) Refusal
or_unended l s None = Err (unended l)
or_unended l s (Some e) = Ok (s, e)

-- the lines from line l on, after what was read: the first faulty line decides
module _ {S : Type 0} (take_line : S → ℕ → TextLine → Result S LineFault) (end_of : S → Option LabelNumber) where
  abbrev pub all_taken : S → ℕ → List TextLine → Result (S × LabelNumber) Refusal
  all_taken s l [] = or_unended l s (end_of s)
  all_taken s l (x ∷ xs) = elim (take_line s l x) [ Err f ↦ Err (refusal_of f) | Ok t ↦ all_taken t (l + 1) xs ]

-- what the whole text says, by all that was read and its end label
abbrev pub whole : {S X : Type 0} → (S → LabelNumber → X) → Result (S × LabelNumber) Refusal → Result X Refusal
whole k (Ok p) = Ok (k p.0 p.1)
whole k (Err f) = Err f

-- what a reader answers, with what it has read then
abbrev pub after : {X S E : Type 0} → Result X E → S → Result S E
after (Ok x) s = Ok s
after (Err f) s = Err f

abbrev pub with_end : {S : Type 0} → Result LabelNumber Refusal → S → Result (S × LabelNumber) Refusal
with_end (Ok e) s = Ok (s, e)
with_end (Err f) s = Err f
