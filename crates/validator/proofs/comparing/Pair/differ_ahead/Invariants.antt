use Rattle.std.proofs.Common.{◌+◌, ◌≤◌, length}
use Rattle.validator.specs.Walks.{basis, Symbols}
use Rattle.validator.specs.Comparison.{stops_differ}
use Rattle.validator.specs.Live.{live_in}
use Rattle.validator.specs.Tidy.{Tidy}
use Rattle.validator.specs.Means.{Means}
use Rattle.validator.specs.Walkers.{left, stops_ahead}
use Rattle.validator.proofs.Rounds.{Going}
use Rattle.validator.proofs.comparing.Pair.differ_ahead.Given as goal

abbrev pub invariant-loop-stop : goal.invariant-loop-stop
invariant-loop-stop g l =
    let m = g.D.Domain.meaning in
    let β = basis m (live_in l.self.labels.now) in
    record {
      room : length l.terms + left l.source + left l.schedule ≤ 512;
      stops : l.stop + length l.source.ahead.now ≤ 97;
      going :
          (s t : Symbols) → Tidy m.commutes l.initial.terms → Means m.commutes l.initial.terms l.initial.source.walk s → Means m.commutes l.initial.terms l.initial.schedule.walk t
          → Going m l.self.labels.now l.terms l.source.walk l.schedule.walk (stops_ahead β l.source) (stops_ahead β l.schedule) l.entry l.stop
          (stops_differ β l.entry 1 (stops_ahead β l.initial.source s) (stops_ahead β l.initial.schedule t));
    }
