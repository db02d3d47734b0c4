-- A line as its readers hold it. No rule of the text stands here.
use Rattle.std.specs.Prelude.{◌≡◌, ◌+◌, [], ◌∷◌, Option, MatchOption}
use Rattle.region_text.specs.declared.cursor.Line.{Line}
use Rattle.region_text.specs.declared.cursor.Lines.{Lines}
use Rattle.region_text.specs.Texts.{TextLine, text_line, lines, LineFields, fields}

-- the line as it stands in the text
abbrev pub as_text : Line → TextLine
as_text x = text_line x.bytes.now x.ended

-- the line by its number and its fields
abbrev pub parted : Line → LineFields
parted x = record { number = x.number; fields = fields x.bytes.now }

-- what comes of what is left of a text: nothing, or its first line, and then what is left behind that
abbrev pub NextLine : Lines → Option Line → Lines → Type 0
NextLine s r t = MatchOption r ((lines s.rest.now ≡ []) × (t ≡ s)) (λ x. (lines s.rest.now ≡ as_text x ∷ lines t.rest.now) × (x.number ≡ s.number) × (t.number ≡ s.number + 1))
