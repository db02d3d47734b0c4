use Rattle.std.proofs.Common.{◌≡◌, ◌-◌, refl, arith, rules}
use Rattle.region.proofs.ToJoins.{past_action, past_exit, past_join, at_join, at_end}
use Rattle.region.proofs.entering.below.Goals as goal
use Rattle.region.proofs.entering.below.Goals.{in-Act, in-Exit, in-Join+else-above-j}

pub loop-i-init : goal.loop-i-init
loop-i-init c = (
  search rules,
  search rules,
  record { toward = λ part sh n h. let p : c.args.j - 0 ≡ c.args.j = omega arith in let q : n - 0 ≡ n = omega arith in rw (p, q) },
)

pub loop-i-preserved : goal.loop-i-preserved
loop-i-preserved c =
    let l = c.loop-i in
    elim c.match-row.branch [
      | in-Act w ↦ (
        omega (arith, w.exits-is),
        omega (arith, w.above-is),
        past_action _ _ _ _ _ _ l.invariant.2 c.loop-i-test.true c.index-main-i.is _ _ _ w.in-Act.is w.above-is w.exits-is,
      )
      | in-Exit w ↦ (
        omega (arith, w.exits-is),
        omega (arith, w.above-is),
        past_exit _ _ _ _ _ _ l.invariant.2 c.loop-i-test.true c.index-main-i.is _ _ _ _ w.in-Exit.is w.above-is w.exits-is,
      )
      | in-Join+else-above-j w ↦ (
        omega (arith, w.exits-is),
        omega (arith, w.above-is, w.if-above-j.false),
        past_join _ _ _ _ _ _ l.invariant.2 c.loop-i-test.true c.index-main-i.is _ _ w.in-Join.is (omega (arith, w.if-above-j.false)) w.above-is w.exits-is,
      )
    ]

pub returns-then-above-j : goal.returns-then-above-j
returns-then-above-j c = record {
  inside = search rules;
  counted = search rules;
  entered = at_join _ _ _ _ _ _ c.loop-i.invariant.2 c.loop-i-test.true c.index-main-i.is c.in-Join.is c.if-above-j.true;
}

pub returns : goal.returns
returns c = record {
  inside = search rules;
  counted = search rules;
  entered = at_end _ _ _ _ _ _ c.loop-i.invariant.2 c.loop-i-test.false refl c.loop-i.invariant.1;
}
