-- Faults of a text, and the numbers and words that stand for them.
use Rattle.std.specs.Prelude.{ℕ, List, codes}
use Rattle.region_text.specs.declared.fault.Fault.{Fault}
use Rattle.region_text.specs.declared.fault.Fault.TheVariants.{Malformed, OutOfRange, Label, TooMany, OutOfPlace}
use Rattle.region_text.specs.declared.fault.Layer.{Layer}
use Rattle.region_text.specs.declared.fault.Layer.TheVariants as layer
use Rattle.region_text.specs.declared.fault.LineFault.{LineFault}
use Rattle.region_text.specs.declared.fault.LineFault.TheVariants.{Field, Line}
use Rattle.region_text.specs.declared.fault.Refusal.{Refusal}

-- the number that is printed for a fault
abbrev pub printed : Fault → ℕ
printed Malformed = 6
printed OutOfRange = 7
printed Label = 8
printed TooMany = 9
printed OutOfPlace = 10

-- the bytes of the word that is printed for a layer
abbrev pub layer_name : Layer → List ℕ
layer_name layer.Field = codes "field"
layer_name layer.Line = codes "line"
layer_name layer.Shelf = codes "shelf"

-- the refusal that a line's fault becomes: a field's content is of the layer field, and all else of the layer line, with field 0
abbrev pub refusal_of : LineFault → Refusal
refusal_of (Field f) = record { fault = f.fault; line = f.spot.line; field = f.spot.field; layer = layer.Field }
refusal_of (Line f l) = record { fault = f; line = l; field = 0; layer = layer.Line }

-- a text without its end record is refused at the line after the last
abbrev pub unended : ℕ → Refusal
unended l = record { fault = OutOfPlace; line = l; field = 0; layer = layer.Shelf }
