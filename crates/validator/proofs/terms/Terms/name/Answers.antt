use Rattle.std.proofs.Common.{◌≡◌, ℕ, subst, arith}
use Rattle.std.proofs.lemmas.List.{length-set}
use Rattle.validator.specs.Means.{Named}
use Rattle.validator.proofs.Entering.{named_more}
use Rattle.validator.proofs.terms.Terms.name.Goals as goal

pub loop-i-preserved : goal.loop-i-preserved
loop-i-preserved g c =
    let before = c.loop-i.invariant in
    record {
      few = omega arith;
      long = simp length-set before.long;
      named = λ d f says t.
          let p = before.named d f says t in
          named_more d _ f _ _ (omega (arith, before.long)) p (c.intern.ensures.interned d _ p.grown.tidy (says _ _ _ c.row.ensures));
    }

pub returns-clause-named : goal.returns-clause-named
returns-clause-named g c d f says t =
    let e : c.loop-i.i ≡ g.row.N = omega arith in
    subst (λ (n : ℕ). Named d c.args.self.now c.loop-i.self c.loop-i.number-items f n) e (c.loop-i.invariant.named d f says t)
