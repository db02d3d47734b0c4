use Rattle.std.proofs.Common.{rules}
use Rattle.region.specs.Kept.{kept}
use Rattle.validator.specs.Walkers.{line_of}
use Rattle.validator.proofs.Entering.{joins_kept}
use Rattle.validator.proofs.Rounds.{other_joins, entry_failed, entries_passed}
use Rattle.validator.proofs.comparing.Pair.first_mismatch.Goals as goal

pub returns-then-joins : goal.returns-then-joins
returns-then-joins g c =
    let src = c.args.self.now.source in
    let sch = c.args.self.now.schedule in
    rw c.mismatch.ensures
    (other_joins g.D.Domain.meaning c.args.self.now.labels.now (line_of src) (line_of sch) src.shape.joins sch.shape.joins
    (joins_kept src.side src.rows.now (kept src.shape)) (joins_kept sch.side sch.rows.now (kept sch.shape)) (λ e. absurd (search rules)))

pub returns-then-is_some : goal.returns-then-is_some
returns-then-is_some g c =
    let src = c.args.self.now.source in
    let sch = c.args.self.now.schedule in
    entry_failed g.D.Domain.meaning c.args.self.now.labels.now (line_of src) (line_of sch) src.shape.joins sch.shape.joins
    (joins_kept src.side src.rows.now (kept src.shape)) (joins_kept sch.side sch.rows.now (kept sch.shape))
    c.loop-entry.entry (search rules) c.loop-entry.invariant _ (search rules) c.differ_from-mismatch.ensures (search rules)

pub returns-else-is_some : goal.returns-else-is_some
returns-else-is_some g c =
    let src = c.args.self.now.source in
    let sch = c.args.self.now.schedule in
    entries_passed g.D.Domain.meaning c.args.self.now.labels.now (line_of src) (line_of sch) src.shape.joins sch.shape.joins
    (joins_kept src.side src.rows.now (kept src.shape)) (joins_kept sch.side sch.rows.now (kept sch.shape))
    c.loop-entry.entry (search rules) c.loop-entry.invariant _ (search rules) c.differ_from-mismatch.ensures (search rules)
