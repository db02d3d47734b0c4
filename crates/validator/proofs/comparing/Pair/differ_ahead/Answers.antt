use Rattle.std.proofs.Common.{arith, rules}
use Rattle.validator.specs.Live.{live_in}
use Rattle.validator.proofs.Rounds.{mismatched, ended, onward}
use Rattle.validator.proofs.comparing.Pair.differ_ahead.Goals as goal
use Rattle.validator.proofs.comparing.Pair.differ_ahead.Goals.{then-is_some-via-then-is_some, then-is_some-via-else-is_some+then-is_none}

pub returns-then-is_some : goal.returns-then-is_some
returns-then-is_some g c s t tidy p q =
    elim c.then-is_some.branch [
      | then-is_some-via-then-is_some w ↦
          mismatched g.D.Domain.meaning c.args.self.now.labels.now (c.loop-stop.invariant.going s t tidy p q)
          (c.next_stop-x.ensures.stopped (live_in c.args.self.now.labels.now)) (c.next_stop-y.ensures.stopped (live_in c.args.self.now.labels.now))
          (omega (arith, c.next_stop-x.ensures.few, c.next_stop-y.ensures.few)) c.differ-mismatch.ensures (search rules)
      | then-is_some-via-else-is_some+then-is_none w ↦
          ended g.D.Domain.meaning c.args.self.now.labels.now (c.loop-stop.invariant.going s t tidy p q)
          (c.next_stop-x.ensures.stopped (live_in c.args.self.now.labels.now)) (c.next_stop-y.ensures.stopped (live_in c.args.self.now.labels.now))
          (omega (arith, c.next_stop-x.ensures.few, c.next_stop-y.ensures.few)) c.differ-mismatch.ensures (search rules) (search rules)
    ]

pub loop-stop-preserved : goal.loop-stop-preserved
loop-stop-preserved g c = record {
  room = omega (arith, c.next_stop-x.ensures.few, c.next_stop-y.ensures.few);
  stops = search rules;
  going = λ s t tidy p q.
      onward g.D.Domain.meaning c.args.self.now.labels.now (c.loop-stop.invariant.going s t tidy p q)
      (c.next_stop-x.ensures.stopped (live_in c.args.self.now.labels.now)) (c.next_stop-y.ensures.stopped (live_in c.args.self.now.labels.now))
      (omega (arith, c.next_stop-x.ensures.few, c.next_stop-y.ensures.few)) c.differ-mismatch.ensures (search rules) c.if-is_none.ensures;
}
