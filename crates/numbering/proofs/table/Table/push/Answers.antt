-- The row is none of the used rows, and is put behind them and into the chain of its bucket.
use Rattle.std.proofs.Common.{List, sym, subst}
use Rattle.std.proofs.lemmas.List.{length-take-le, take_more_set}
use Rattle.numbering.specs.Rows.{Distinct}
use Rattle.numbering.specs.Chains.{Chained, linked_buckets}
use Rattle.numbering.specs.Used.{used}
use Rattle.numbering.proofs.Found.{distinct_push}
use Rattle.numbering.proofs.Linking.{chained_with}
use Rattle.numbering.proofs.table.Table.push.Goals as goal

pub invariant_of-self-clause-distinct : goal.invariant_of-self-clause-distinct
invariant_of-self-clause-distinct g c =
    let t = c.args.self.now in
    let used_are = take_more_set t.rows.now t.len c.args.row c.requires.room in
    subst (λ (xs : List g.row.R.Denot). Distinct g.R.Kind.equals xs) (sym used_are)
    (distinct_push g.R.Kind.equals g.met.R.Kind.equivalence (used t) c.args.row t.distinct c.requires.new)

pub invariant_of-self-clause-chained : goal.invariant_of-self-clause-chained
invariant_of-self-clause-chained g c =
    let t = c.args.self.now in
    let used_are = take_more_set t.rows.now t.len c.args.row c.requires.room in
    subst (λ (xs : List g.row.R.Denot). Chained (linked_buckets g.R.Kind.hash_of xs) c.link.new.self) (sym used_are)
    (chained_with g.R.Kind.hash_of (used t) c.args.row t.chains c.link.new.self t.len c.args.bucket (length-take-le t.len t.rows.now t.inside) c.requires.bucket
    c.link.ensures.heads c.link.ensures.links c.link.ensures.unlinked t.chained)
