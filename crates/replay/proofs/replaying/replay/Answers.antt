-- The law of the calls that were made.
use Rattle.std.proofs.Common.{length, refl}
use Rattle.shelf.specs.Store.{store}
use Rattle.replay.proofs.Histories.{replayed}
use Rattle.replay.proofs.replaying.replay.Goals as goal

pub returns-clause-law : goal.returns-clause-law
returns-clause-law g c =
    let st = store c.args.shelf.now c.args.rows.now c.args.labels.now in
    let st' = store c.make_all.new.shelf c.make_all.new.rows c.make_all.new.labels in
    replayed g.D.Domain.meaning (length c.args.terms.now) _ g.met.D.Domain.lawful c.args.calls.now _ st _ st' c.args.answers.now c.make_all.new.answers
    c.min-made.result c.in_ok-open.ensures.answer c.in_ok-open.ensures.after
    refl c.min-made.ensures c.make_all.ensures.kept c.make_all.ensures.beyond
