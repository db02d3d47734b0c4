-- What the tests of a term tell apart: the relation of terms, and no more.
use Rattle.std.proofs.Common.{◌≡◌, Bool, true, List, [], ◌∷◌, refl}
use mathlib.Core.Path.{fun_ext}
use Rattle.std.specs.Cmp.{both_ways}
use Rattle.std.proofs.lemmas.Bool.{or_right}
use Rattle.domain.specs.declared.op.Op.{Op}
use Rattle.validator.specs.Terms.{Term, same, Same}
use Rattle.validator.specs.Comparison.{member, within}
use Rattle.validator.proofs.Same.{same_refl, same_sym, same_trans, test_so_same, same_so_test}
use Rattle.moves.specs.Theorems.{Tested}

module _ (commutes : Op → Bool) where
  -- a term as tests see it
  abbrev pub seen : Term → Term → Bool
  seen t x = same commutes x t

  pub to_seen : {t u : Term} → Same commutes t u → seen t ≡ seen u
  to_seen {t} {u} s = fun_ext (λ x. both_ways (same commutes x t) (same commutes x u)
      (λ h. same_so_test commutes (same_trans commutes (test_so_same commutes x t h) s))
      (λ h. same_so_test commutes (same_trans commutes (test_so_same commutes x u h) (same_sym commutes s))))

  -- a list of which every test that is answered is answered by another
  pub within_seen : (ts us : List Term) → ((x : Term) → member (same commutes) x ts ≡ true → member (same commutes) x us ≡ true)
      → within (same commutes) ts us ≡ true
  within_seen [] us f = refl
  within_seen (t ∷ ts) us f =
      rw (f t (rw (same_so_test commutes (same_refl commutes t)) refl)) (within_seen ts us (λ x h. f x (or_right (same commutes x t) _ h)))

pub tested : Tested
tested commutes t u = (test_so_same commutes t u, same_so_test commutes)
