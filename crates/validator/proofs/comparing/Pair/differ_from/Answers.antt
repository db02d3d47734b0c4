use Rattle.validator.specs.Live.{live_in}
use Rattle.validator.proofs.Rounds.{from_entry}
use Rattle.validator.proofs.comparing.Pair.differ_from.Goals as goal

pub returns : goal.returns
returns g c =
    from_entry g.D.Domain.meaning c.args.self.now.labels.now c.args.entry (c.at_entry-start.ensures.begun g.D.Domain.meaning.commutes)
    (c.enter-source.ensures.onward (live_in c.args.self.now.labels.now)) (c.enter-schedule.ensures.onward (live_in c.args.self.now.labels.now)) c.differ_ahead.ensures
