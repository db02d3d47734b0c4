-- What granted calls leave.
use Rattle.std.proofs.Common.{◌≡◌, ℕ, ◌*◌, Bool, true, false, cond, ◌&&◌, eqb, ltb, List, get_or, Ok, Err}
use Rattle.shelf.specs.declared.refusal.Number.TheVariants as number
use Rattle.shelf.specs.Refusals.{without_place}
use Rattle.shelf.specs.Store.{KeptRegion, empty_region}
use Rattle.shelf.specs.Calls.{placed}

-- a region that is found is the one that the shelf keeps
pub found_is : (n : ℕ) (ks : List KeptRegion) (rows labels r : ℕ) (k : KeptRegion) → Ok k ≡ placed n ks rows labels r → k ≡ get_or ks r empty_region
found_is n ks rows labels r k = go (eqb rows (384 * n) && eqb labels (9 * n)) (ltb r n)
  where
    go : (a b : Bool) → Ok k ≡ cond a (cond b (Ok (get_or ks r empty_region)) (Err (without_place number.Region))) (Err (without_place number.Sizes)) → k ≡ get_or ks r empty_region
    go true true e = cc
    go true false e = cc
    go false true e = cc
    go false false e = cc
