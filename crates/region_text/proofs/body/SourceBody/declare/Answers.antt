-- The label is new, so it gets the next number where there is room.
use Rattle.std.proofs.Common.{◌≡◌, sym, ◌∙◌, ltb, cond, Some, length, None, ◌++◌, ◌∷◌, [], arith}
use Rattle.std.proofs.lemmas.Grind.{common_steps}
use Rattle.region_text.specs.Lines.{parted}
use Rattle.region_text.specs.Readers.{labels_of}
use Rattle.region_text.proofs.Lookups.{label_is_new, numbered_next, row_behind}
use Rattle.region_text.proofs.body.SourceBody.declare.Goals as goal

pub returns : goal.returns
returns c =
    let labels = labels_of c.args.self.now.labels in
    let row = c.in_ok-row.row in
    let is_new = label_is_new (parted c.args.line) labels row (sym c.in_ok-row.ensures) in
    let answer : c.number.result ≡ cond (ltb (length labels) 9) (Some (length labels)) None = c.number.ensures.answer ∙ numbered_next 9 labels row is_new in
    let rows : labels_of c.number.new.self ≡ cond (ltb (length labels) 9) (labels ++ row ∷ []) labels = c.number.ensures.rows ∙ row_behind 9 labels row is_new in
    grind (arith, common_steps)
