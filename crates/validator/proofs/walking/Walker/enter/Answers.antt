use Rattle.region.specs.Kept.{kept}
use Rattle.validator.proofs.Entering.{comes_in}
use Rattle.validator.proofs.walking.Walker.enter.Goals as goal

pub returns-clause-onward : goal.returns-clause-onward
returns-clause-onward g c live tidy h =
    let line = c.args.line in
    let at = c.entered-exits.result in
    comes_in g.D.Domain.meaning live line.side line.rows.now (kept line.shape) c.args.entry tidy h at.exits at.piece.now at.ahead.now (c.entered-exits.ensures.start c.requires.entry) c.acts.ensures.acts
