-- No linked row equals the row; a turn finds the row or passes another, by what `same` answers.
use Rattle.std.proofs.Common.{length, get_or, take, sym, ap, ◌∙◌, arith, length-take}
use Rattle.std.proofs.lemmas.List.{get_or-take}
use Rattle.numbering.specs.Used.{used}
use Rattle.numbering.proofs.Found.{none_is, none_found}
use Rattle.numbering.proofs.Searches.{hit, passed_over}
use Rattle.numbering.proofs.table.Table.find_unlinked.Goals as goal

pub loop-i-init : goal.loop-i-init
loop-i-init g c k l m =
    let xs = used c.args.self.now in
    let row = c.args.row.now in
    let near = none_is g.R.Kind.equals row (take 512 xs) row c.requires k (omega (arith, length-take 512 xs)) in
    ap (λ x. g.R.Kind.equals x row) (sym (get_or-take 512 xs k row l)) ∙ near

pub returns-then-same : goal.returns-then-same
returns-then-same g c =
    let t = c.args.self.now in
    hit _ g.R.Kind.hash_of g.met.R.Kind.equivalence g.met.R.Kind.alike (used t) c.args.row.now t.distinct c.loop-i.i c.index-rows-i.result
    (omega (arith, ap length c.rows-rows.ensures))
    (c.index-rows-i.is ∙ ap (λ xs. get_or xs c.loop-i.i c.index-rows-i.result) c.rows-rows.ensures)
    (sym c.same.ensures ∙ c.if-same.true)

pub loop-i-preserved : goal.loop-i-preserved
loop-i-preserved g c =
    passed_over _ g.R.Kind.hash_of g.met.R.Kind.equivalence g.met.R.Kind.alike (used c.args.self.now) c.args.row.now c.loop-i.i c.index-rows-i.result
    (c.index-rows-i.is ∙ ap (λ xs. get_or xs c.loop-i.i c.index-rows-i.result) c.rows-rows.ensures)
    (sym c.same.ensures ∙ c.if-same.false)
    c.loop-i.invariant

pub returns : goal.returns
returns g c =
    let xs = used c.args.self.now in
    none_found g.R.Kind.equals c.args.row.now xs (λ k l. c.loop-i.invariant k (omega (arith, ap length c.rows-rows.ensures)) l)
