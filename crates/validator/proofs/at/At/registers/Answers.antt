use Rattle.std.proofs.Common.{Some, ap, ◌∙◌, arith}
use Rattle.validator.specs.declared.verdict.Reason.TheVariants.{Register}
use Rattle.validator.specs.Numbers.{unlike}
use Rattle.validator.proofs.Lowest.{no_bit, lowest_bit}
use Rattle.validator.proofs.at.At.registers.Goals as goal

pub returns-then-mask-eq0 : goal.returns-then-mask-eq0
returns-then-mask-eq0 c =
    no_bit c.args.self.from c.args.self.stop Register (unlike c.args.x.now.registers c.args.y.now.registers) c.args.live _ c.differing_mask.ensures c.if-mask-eq0.true

pub returns : goal.returns
returns c =
    ap Some c.mismatch.ensures
    ∙ lowest_bit c.args.self.from c.args.self.stop Register (unlike c.args.x.now.registers c.args.y.now.registers) c.args.live _ c.differing_mask.ensures
    (omega arith) c.differing_mask.ensures.0 (omega arith)
