use Rattle.std.proofs.Common.{◌≡◌, ◌+◌, ◌==◌, take, ap, ◌∙◌, arith}
use Rattle.std.specs.List.{count_by}
use Rattle.std.proofs.lemmas.List.{take_all}
use Rattle.std.proofs.lemmas.List.Splits.{length-slice_split}
use Rattle.region_text.proofs.texts.count_fields.Goals as goal

pub returns : goal.returns
returns c =
    let line = c.args.line.now in
    let tabs : c.loop-b.n ≡ 1 + count_by (λ b. b == 9) line = c.loop-b.invariant.1 ∙ ap (λ l. 1 + count_by (λ b. b == 9) l) (take_all c.loop-b.b-index line (omega arith)) in
    omega (arith, tabs, length-slice_split (λ b. b == 9) line)
