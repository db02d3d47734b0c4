use Rattle.std.proofs.Common.{◌≡◌, drop}
use Rattle.region.specs.Rows.{actions}
use Rattle.region.specs.Machine.{perform}
use Rattle.machine.proofs.state.State.perform.Given as goal

-- whatever comes after them, the rows that are left do what all do
abbrev pub invariant-loop-row : goal.invariant-loop-row
invariant-loop-row g l =
    let m = g.D.Domain.meaning in record {
      alike : (rest : _) → perform m (actions l.initial.rows) l.initial.self.words.now rest ≡ perform m (actions (drop l.row-index l.rows)) l.self.words.now rest;
      same : l.self.words.ghost_name ≡ l.initial.self.words.ghost_name;
    }
