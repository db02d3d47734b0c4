-- Laws of `laid`: a list in more places than it needs.
use Rattle.std.proofs.Common.{◌≡◌, ℕ, zero, suc, ◌-◌, ◌<◌, ◌≤◌, List, [], ◌∷◌, ◌++◌, length, get_or, take, replicate, refl, ap, ◌∙◌, append_assoc, length-append, take_at, arith}
use Rattle.std.proofs.lemmas.List.{length-replicate, get_or_default}
use Rattle.region.specs.Rows.{laid}

module _ {X : Type 0} where
  -- what repeats a value is read as that value, and past its end too
  pub get_or_repeated : (n i : ℕ) (x : X) → get_or (replicate n x) i x ≡ x
  get_or_repeated zero i x = refl
  get_or_repeated (suc n) zero x = refl
  get_or_repeated (suc n) (suc i) x = get_or_repeated n i x

  get_or_behind : (xs : List X) (n i : ℕ) (x : X) → get_or (xs ++ replicate n x) i x ≡ get_or xs i x
  get_or_behind [] n i x = get_or_repeated n i x
  get_or_behind (y ∷ xs) n zero x = refl
  get_or_behind (y ∷ xs) n (suc i) x = get_or_behind xs n i x

  module _ (n : ℕ) (x : X) (xs : List X) where
    pub length_laid : length xs ≤ n → length (laid n x xs) ≡ n
    length_laid h = omega (arith, length-append xs (replicate (n - length xs) x), length-replicate (n - length xs) x)

    pub take_laid : (rest : List X) → take (length xs) (laid n x xs ++ rest) ≡ xs
    take_laid rest = ap (take (length xs)) (append_assoc xs (replicate (n - length xs) x) rest) ∙ take_at xs _ (length xs) refl

    -- what lies behind the list is x
    pub laid_else : (i : ℕ) → get_or (laid n x xs) i x ≡ get_or xs i x
    laid_else i = get_or_behind xs (n - length xs) i x

    pub get_or_laid : (i : ℕ) (d : X) → i < n → get_or (laid n x xs) i d ≡ get_or xs i x
    get_or_laid i d h =
        get_or_default (laid n x xs) i d x (omega (arith, length-append xs (replicate (n - length xs) x), length-replicate (n - length xs) x)) ∙ laid_else i
