use Rattle.std.proofs.Common.{◌+◌, ◌≤◌, length}
use Rattle.validator.specs.Walks.{basis, Symbols}
use Rattle.validator.specs.Tidy.{Tidy}
use Rattle.validator.specs.Means.{Liveness, Means, Onward}
use Rattle.validator.specs.Walkers.{left, stops_ahead}
use Rattle.validator.proofs.walking.Walker.next_stop.Given as goal

abbrev pub invariant-loop-row : goal.invariant-loop-row
invariant-loop-row g l =
    let m = g.D.Domain.meaning in
    record {
      few : length l.terms + left l.self ≤ length l.initial.terms + left l.initial.self;
      shorter : length l.self.ahead.now ≤ length l.initial.self.ahead.now;
      onward :
          (live : Liveness) (s : Symbols) → Tidy m.commutes l.initial.terms → Means m.commutes l.initial.terms l.initial.self.walk s
          → Onward m.commutes l.initial.terms l.terms l.self.walk (stops_ahead (basis m live) l.self) (stops_ahead (basis m live) l.initial.self s);
    }

abbrev pub decreases-loop-row : goal.decreases-loop-row
decreases-loop-row g l = length l.self.ahead.now
