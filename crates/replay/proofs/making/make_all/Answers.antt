-- One call more.
use Rattle.std.proofs.Common.{◌<◌, length, arith}
use Rattle.std.proofs.lemmas.Grind.{common_steps}
use Rattle.shelf.specs.Store.{store}
use Rattle.replay.proofs.Histories.{made_more}
use Rattle.replay.proofs.making.make_all.Goals as goal

pub loop-i-preserved : goal.loop-i-preserved
loop-i-preserved g c =
    let l = c.loop-i in
    let room : l.i < length l.answers = omega arith in record {
      kept = λ n k. made_more g.D.Domain.meaning (length c.args.terms.now) n (store l.shelf l.rows l.labels) _ c.args.calls.now l.answers l.i _ c.make.result
          (length l.terms) l.auto.terms c.loop-i-test.true room c.make.ensures.answer c.make.ensures.after (l.invariant.kept n k);
      beyond = grind (arith, common_steps);
    }
