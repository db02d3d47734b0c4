use Rattle.std.proofs.Common.{◌≡◌, ◌∷◌, length, ap, arith, rules}
use Rattle.std.proofs.lemmas.List.{nil_from_length}
use Rattle.region.specs.Kept.{kept}
use Rattle.validator.specs.Walks.{basis}
use Rattle.validator.specs.Walkers.{stops_ahead}
use Rattle.validator.proofs.Stops.{past_action, past_join, at_exit, at_end}
use Rattle.validator.proofs.walking.Walker.next_stop.Goals as goal

pub loop-row-preserved-in-Act : goal.loop-row-preserved-in-Act
loop-row-preserved-in-Act g c =
    let now = c.loop-row.self in
    let first : now.ahead.now ≡ c.in-Some.row.now ∷ c.in-Some.rest.now = search rules in
    record {
      few = omega (arith, ap length first);
      shorter = omega (arith, ap length first);
      onward = λ live s tidy h.
          past_action g.D.Domain.meaning live now.line.rows.now (kept now.line.shape) now.exits (c.loop-row.invariant.onward live s tidy h)
          first c.in-Act.action c.in-Act.is c.act.ensures.acts;
    }

pub returns-in-Exit-clause-stopped : goal.returns-in-Exit-clause-stopped
returns-in-Exit-clause-stopped g c live s tidy h =
    let now = c.loop-row.self in
    let first : now.ahead.now ≡ c.in-Some.row.now ∷ c.in-Some.rest.now = search rules in
    at_exit g.D.Domain.meaning live now.line.rows.now (kept now.line.shape) now.exits (c.loop-row.invariant.onward live s tidy h)
    first c.in-Exit.tested c.in-Exit.label c.in-Exit.is c.piece-piece.ensures.rows c.leave.ensures.leaves

pub loop-row-preserved : goal.loop-row-preserved
loop-row-preserved g c =
    let now = c.loop-row.self in
    let first : now.ahead.now ≡ c.in-Some.row.now ∷ c.in-Some.rest.now = search rules in
    record {
      few = omega (arith, ap length first);
      shorter = omega (arith, ap length first);
      onward = λ live s tidy h.
          past_join g.D.Domain.meaning live now.line.rows.now (kept now.line.shape) now.exits (c.loop-row.invariant.onward live s tidy h) first c.in-Join.is;
    }

pub returns-clause-stopped : goal.returns-clause-stopped
returns-clause-stopped g c live s tidy h =
    let now = c.loop-row.self in
    at_end g.D.Domain.meaning live now.line.rows.now (kept now.line.shape) now.exits (c.loop-row.invariant.onward live s tidy h) _ (stops_ahead (basis g.D.Domain.meaning live) now) c.end.ensures (nil_from_length now.ahead.now (search rules))
