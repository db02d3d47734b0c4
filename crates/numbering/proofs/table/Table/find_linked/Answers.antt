-- The search begins at the head of the bucket's chain; a turn finds the row or goes on behind it, by what `same` answers; at the chain's end no row is left.
use Rattle.std.proofs.Common.{◌≡◌, suc, ◌-◌, ◌<◌, length, get_or, take, sym, ap, ◌∙◌, rules, arith, length-take}
use Rattle.std.proofs.lemmas.List.{get_or-take}
use Rattle.numbering.specs.Used.{used}
use Rattle.numbering.proofs.Searches.{link_inside, falls, begun, passed, hit, missed}
use Rattle.numbering.proofs.Found.{distinct_take}
use Rattle.numbering.proofs.table.Table.find_linked.Goals as goal

pub loop-link-init : goal.loop-link-init
loop-link-init g c =
    let t = c.args.self.now in
    begun _ _ g.met.R.Kind.equivalence g.met.R.Kind.alike (take 512 (used t)) c.args.row.now t.chains c.args.bucket t.chained c.requires (search rules)

pub offset_bounds-rows-i : goal.offset_bounds-rows-i
offset_bounds-rows-i g c =
    omega (arith, link_inside _ _ _ _ _ c.loop-link.invariant, length-take 512 (used c.args.self.now), ap length c.rows-rows.ensures)

pub bounds-rows-i : goal.bounds-rows-i
bounds-rows-i g c =
    omega (arith, link_inside _ _ _ _ _ c.loop-link.invariant, length-take 512 (used c.args.self.now), ap length c.rows-rows.ensures)

pub returns-then-same : goal.returns-then-same
returns-then-same g c =
    let t = c.args.self.now in
    let i = c.loop-link.link - 1 in
    let x = c.index-rows-i.result in
    let l : i < length (take 512 (used t)) = omega (arith, link_inside _ _ _ _ _ c.loop-link.invariant) in
    hit _ _ g.met.R.Kind.equivalence g.met.R.Kind.alike (take 512 (used t)) c.args.row.now (distinct_take g.R.Kind.equals 512 (used t) t.distinct) i x l
    (c.index-rows-i.is ∙ ap (λ xs. get_or xs i x) c.rows-rows.ensures ∙ sym (get_or-take 512 (used t) i x (omega (arith, length-take 512 (used t)))))
    (sym c.same.ensures ∙ c.if-same.true)

pub offset_bounds-self-i : goal.offset_bounds-self-i
offset_bounds-self-i g c = omega (arith, link_inside _ _ _ _ _ c.loop-link.invariant, length-take 512 (used c.args.self.now))

pub bounds-self-i : goal.bounds-self-i
bounds-self-i g c = omega (arith, link_inside _ _ _ _ _ c.loop-link.invariant, length-take 512 (used c.args.self.now))

pub loop-link-smaller : goal.loop-link-smaller
loop-link-smaller g c =
    let t = c.args.self.now in
    let i = c.loop-link.link - 1 in
    omega (arith, falls _ (take 512 (used t)) t.chains t.chained i (omega (arith, link_inside _ _ _ _ _ c.loop-link.invariant)))

pub loop-link-preserved : goal.loop-link-preserved
loop-link-preserved g c =
    let t = c.args.self.now in
    let i = c.loop-link.link - 1 in
    let x = c.index-rows-i.result in
    let next : c.loop-link.link ≡ suc i = omega arith in
    let l : i < 512 = omega (arith, link_inside _ _ _ _ _ c.loop-link.invariant, length-take 512 (used t)) in
    passed _ _ g.met.R.Kind.equivalence g.met.R.Kind.alike (take 512 (used t)) c.args.row.now t.chains c.loop-link.link i x t.chained next c.loop-link.invariant
    (c.index-rows-i.is ∙ ap (λ xs. get_or xs i x) c.rows-rows.ensures ∙ sym (get_or-take 512 (used t) i x l))
    (sym c.same.ensures ∙ c.if-same.false)

pub returns : goal.returns
returns g c =
    let t = c.args.self.now in
    missed _ _ g.met.R.Kind.equivalence g.met.R.Kind.alike (take 512 (used t)) c.args.row.now c.loop-link.link (omega arith) c.loop-link.invariant
