use Rattle.std.proofs.Common.{◌≡◌, ◌≤◌, length, get_or, rules, arith, sym, ◌∙◌}
use Rattle.std.proofs.lemmas.List.{same_lists, length-map, length-take-le}
use Rattle.numbering.specs.Used.{used}
use Rattle.region.specs.Labels.{unused}
use Rattle.region.proofs.Laid.{length_laid, get_or_laid}
use Rattle.region_text.specs.Readers.{labels_of}
use Rattle.region_text.proofs.body.DeclaredLabels.rows.Goals as goal

pub returns : goal.returns
returns c =
    let t = c.args.self.now.table in
    let xs = labels_of c.args.self.now in
    let inside : length xs ≤ 9 = rw (length-map (used t) (λ d. d.row)) (omega (arith, length-take-le t.len t.rows.now t.inside, t.inside, c.args.self.now.nine)) in
    let h = c.from_fn.ensures.items in
    same_lists _ _ (h.long ∙ sym (length_laid 9 unused xs inside))
    (λ k d l.
    let e = h.at k d (omega (arith, h.long)) in
    let v : get_or c.from_fn.result k d ≡ get_or xs k unused = search rules in
    v ∙ sym (get_or_laid 9 unused xs k d (omega (arith, h.long))))
