use Rattle.std.proofs.Common.{length, ap, ◌∙◌}
use Rattle.std.proofs.lemmas.List.{map-set}
use Rattle.shelf.specs.Calls.{marked}
use Rattle.shelf.specs.Store.{store}
use Rattle.shelf.proofs.Granting.{found_is}
use Rattle.shelf.proofs.keeping.Shelf.check.Goals as goal

pub returns-clause-after : goal.returns-clause-after
returns-clause-after g c =
    let st = store c.args.self.now c.args.rows.now c.args.labels.now in
    let mine = found_is st.count st.regions (length st.rows) (length st.labels) c.args.region _ c.in_ok-place.ensures.value in
    rw (map-set, c.marked.ensures ∙ ap (λ k. marked k c.in_ok-verdict.verdict) mine)
