use Rattle.std.proofs.Common.{map, ap, ◌∙◌}
use Rattle.numbering.specs.Rows.{numbered, with_row}
use Rattle.numbering.specs.Used.{used}
use Rattle.region_text.proofs.Lookups.{same_declared, declared, numbered_rows, rows_with}
use Rattle.region_text.proofs.body.DeclaredLabels.number.Goals as goal

pub returns-clause-answer : goal.returns-clause-answer
returns-clause-answer c =
    let xs = used c.args.self.now.table in
    let d = declared c.args.row in
    c.number.ensures.answer ∙ ap (λ n. numbered same_declared n xs d) c.args.self.now.nine ∙ numbered_rows d 9 xs

pub returns-clause-rows : goal.returns-clause-rows
returns-clause-rows c =
    let xs = used c.args.self.now.table in
    let d = declared c.args.row in
    ap (map (λ d. d.row)) (c.number.ensures.used ∙ ap (λ n. with_row same_declared n xs d) c.args.self.now.nine) ∙ rows_with d 9 xs
