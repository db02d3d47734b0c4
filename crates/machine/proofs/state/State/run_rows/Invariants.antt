use Rattle.std.proofs.Common.{◌≡◌, ◌+◌, ◌≤◌, drop}
use Rattle.region.specs.Kept.{kept}
use Rattle.machine.specs.Straight.{run_rows}
use Rattle.machine.proofs.state.State.run_rows.Given as goal

abbrev pub invariant-loop-row : goal.invariant-loop-row
invariant-loop-row g l =
    let ran = run_rows g.D.Domain.meaning l.line.rows.now (kept l.line.shape) in record {
      few : l.exits ≤ l.above + l.row-index;
      runs : ran l.above l.initial.rows l.initial.self.words.now ≡ ran l.exits (drop l.row-index l.rows) l.self.words.now;
      same : l.self.words.ghost_name ≡ l.initial.self.words.ghost_name;
    }
