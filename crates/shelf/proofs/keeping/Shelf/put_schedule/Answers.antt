use Rattle.std.proofs.Common.{length, refl, ap, ◌∙◌}
use Rattle.std.proofs.lemmas.List.{map-set}
use Rattle.std.proofs.lemmas.Result.{err_from_is_err_and}
use Rattle.region.specs.Kept.{kept}
use Rattle.shelf.specs.Calls.{scheduled}
use Rattle.shelf.specs.Store.{store}
use Rattle.shelf.proofs.Granting.{found_is}
use Rattle.shelf.proofs.keeping.Shelf.put_schedule.Goals as goal

pub returns-in_err-draft : goal.returns-in_err-draft
returns-in_err-draft c =
    let p = c.in_ok-place.ensures in
    let e = err_from_is_err_and c.from_residual-in_err-draft.result c.from_residual-in_err-draft.ensures.1 in
    rw (e.1, e.2, ← p.value, ← c.in_ok-line.ensures, ← p.first_label, ← c.part_at.ensures, ← c.in_err-draft.ensures)
    (record { answer = refl; after = refl })

pub returns : goal.returns
returns c =
    let p = c.in_ok-place.ensures in
    let st = store c.args.self.now c.args.rows.now c.args.labels.now in
    let mine = found_is st.count st.regions (length st.rows) (length st.labels) c.args.region _ p.value in
    rw (← p.value, ← c.in_ok-line.ensures, ← p.first_label, ← c.part_at.ensures, ← c.in_ok-draft.ensures)
    (record {
      answer = refl;
      after = rw (map-set, c.scheduled.ensures ∙ ap (λ k. scheduled k (kept c.in_ok-draft.draft.shape)) mine, c.write_at.ensures, p.first_row);
    })
