use Rattle.std.proofs.Common.{length, ap, arith}
use Rattle.validator.proofs.Steps.{one_action, passed_over, all_rows}
use Rattle.validator.proofs.walk.Walk.acts.Goals as goal
use Rattle.validator.proofs.walk.Walk.acts.Goals.{in-Act, in_default}

pub loop-row-preserved : goal.loop-row-preserved
loop-row-preserved g c =
    elim c.match-row.branch [
      | in-Act w ↦ (
        omega (arith, ap length w.terms-is, w.act.ensures.few, c.loop-row.invariant.0),
        one_action g.D.Domain.meaning _ _ _ c.loop-row-test.true c.row-item.is c.loop-row.invariant.1 w.in-Act.action w.in-Act.is w.terms-is w.self-is w.act.ensures.acts,
      )
      | in_default w ↦ (
        omega (arith, ap length w.terms-is, c.loop-row.invariant.0),
        passed_over g.D.Domain.meaning _ _ _ c.loop-row-test.true c.row-item.is c.loop-row.invariant.1 w.in_default.not-Act w.terms-is w.self-is,
      )
    ]

pub returns-clause-acts : goal.returns-clause-acts
returns-clause-acts g c = all_rows g.D.Domain.meaning _ _ c.loop-row-test.false c.loop-row.invariant.1
