-- The element of a number in a list.
use Rattle.std.proofs.Common.{ℕ, zero, suc, List, [], ◌∷◌, IfSome}
use Rattle.std.specs.List.{AllByRecursion, slice_get}

-- what holds of each element holds of the one of a number
pub nth_all : {X : Type 0} (P : X → Type 0) (xs : List X) (n : ℕ) → AllByRecursion P xs → IfSome (slice_get xs n) P
nth_all P [] n all = tt
nth_all P (x ∷ xs) zero all = all.0
nth_all P (x ∷ xs) (suc n) all = nth_all P xs n all.1
