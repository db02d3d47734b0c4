use Rattle.std.proofs.Common.{sym, ◌∙◌}
use Rattle.region.specs.Kept.{kept}
use Rattle.machine.proofs.Running.{run_entered}
use Rattle.machine.proofs.state.State.run_from.Goals as goal

pub returns-clause-run : goal.returns-clause-run
returns-clause-run g c =
    let l = c.args.line in
    let at = c.entered-exits.result in
    run_entered g.D.Domain.meaning l.rows.now (kept l.shape) l.side c.args.entry at.exits at.piece.now at.ahead.now c.args.self.now.words.now _
    (c.entered-exits.ensures.start c.requires) (c.in_ok-perform.ensures.state _ ∙ sym c.run_rows.ensures.run)
