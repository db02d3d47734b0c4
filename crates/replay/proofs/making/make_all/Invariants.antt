-- After i calls the store is that of what is held then, and answers from the i-th on are as they were.
use Rattle.std.proofs.Common.{◌≡◌, ℕ, [], length, take, drop}
use Rattle.shelf.specs.Store.{store}
use Rattle.replay.specs.Events.{history}
use Rattle.replay.specs.Steps.{Kept}
use Rattle.replay.proofs.making.make_all.Given as goal

abbrev pub invariant-loop-i : goal.invariant-loop-i
invariant-loop-i g l =
    let m = g.D.Domain.meaning in
    let terms = length l.initial.terms in record {
      kept : (n : ℕ) → Kept m terms n (store l.initial.shelf l.initial.rows l.initial.labels) []
          → Kept m terms n (store l.shelf l.rows l.labels) (history [] (take l.i l.calls) (take l.i l.answers));
      beyond : drop l.i l.answers ≡ drop l.i l.initial.answers;
    }
