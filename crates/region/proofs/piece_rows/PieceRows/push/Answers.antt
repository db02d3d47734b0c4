use Rattle.std.proofs.Common.{is_ok, arith}
use Rattle.region.proofs.Schedules.{pushed_piece}
use Rattle.region.proofs.piece_rows.PieceRows.push.Goals as goal

pub returns-clause-after : goal.returns-clause-after
returns-clause-after c =
    pushed_piece (is_ok c.push.result) c.args.self.now.pieces c.args.piece c.args.row _ _ (omega (arith, c.args.self.now.twelve)) c.push.ensures.after
