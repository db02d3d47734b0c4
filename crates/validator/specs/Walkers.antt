-- Walks of a line on the numbers of terms: what a walker has ahead, and how it gets there.
use Rattle.std.specs.Prelude.{◌≡◌, ℕ, ◌+◌, ◌-◌, ◌*◌, List, length, Option}
use Rattle.domain.specs.Meaning.{Meaning}
use Rattle.region.specs.declared.label.LabelRow.{LabelRow}
use Rattle.region.specs.Kept.{kept}
use Rattle.region.specs.Lines.{Line, assembled}
use Rattle.region.specs.declared.line_rows.LineRows.{LineRows}
use Rattle.validator.specs.declared.term_row.TermRow.{TermRow}
use Rattle.validator.specs.declared.verdict.Mismatch.{Mismatch}
use Rattle.validator.specs.declared.walk.Reached.{Reached}
use Rattle.validator.specs.declared.walk.Walk.{Walk}
use Rattle.validator.specs.declared.walking.Walker.{Walker}
use Rattle.validator.specs.Walks.{Basis, basis, Symbols, Stop, at_entry, walk}
use Rattle.validator.specs.Comparison.{stops_differ}
use Rattle.validator.specs.Live.{live_in}
use Rattle.validator.specs.Tidy.{Tidy}
use Rattle.validator.specs.Straight.{walk_rows}
use Rattle.validator.specs.Means.{Means, Liveness, Stopped, Onward}

abbrev pub line_of : LineRows → Line
line_of l = assembled l.side l.rows.now (kept l.shape)

-- the stops that a walker has ahead, from its symbols on
abbrev pub stops_ahead : Basis → Walker → Symbols → List Stop
stops_ahead β w s = walk_rows β w.line.rows.now (kept w.line.shape) w.exits w.ahead.now s

-- the most terms that a walk can still make: one for each main row ahead, and sixteen for each of eight exits
abbrev pub left : Walker → ℕ
left w = length w.ahead.now + 16 * (8 - w.exits)

module _ {W : Type 0} (m : Meaning W) where
  -- the walker w, over the table xs, came to the stop r; it is v, and the table ys, then
  abbrev pub ComesTo : List TermRow → Walker → List TermRow → Walker → Reached → Type 0
  ComesTo xs w ys v r =
      (live : Liveness) (s : Symbols) → Tidy m.commutes xs → Means m.commutes xs w.walk s
      → Stopped m.commutes xs ys r v.walk (stops_ahead (basis m live) v) (stops_ahead (basis m live) w s)

  -- a walk that stood at entry e of a line, over the table xs, is the walker v, and the table ys, then: all stops of the entry are ahead
  abbrev pub ComesIn : LineRows → (e : ℕ) → List TermRow → Walk → List TermRow → Walker → Type 0
  ComesIn l e xs w ys v =
      (live : Liveness) → Tidy m.commutes xs → Means m.commutes xs w at_entry
      → Onward m.commutes xs ys v.walk (stops_ahead (basis m live) v) (walk (basis m live) (line_of l) e)

  -- what differs first from entry e
  abbrev pub entry_differs : List LabelRow → Line → Line → (e : ℕ) → Option Mismatch
  entry_differs labels src sch e = let β = basis m (live_in labels) in stops_differ β e 1 (walk β src e) (walk β sch e)

  -- d is what differs first ahead of two walkers
  abbrev pub DiffersFirst : List LabelRow → (e : ℕ) → List TermRow → Walker → Walker → Option Mismatch → Type 0
  DiffersFirst labels e xs a b d =
      let β = basis m (live_in labels) in
      (s t : Symbols) → Tidy m.commutes xs → Means m.commutes xs a.walk s → Means m.commutes xs b.walk t
      → d ≡ stops_differ β e 1 (stops_ahead β a s) (stops_ahead β b t)
