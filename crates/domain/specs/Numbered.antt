-- Numbers below a bound: a value for each, and none for any other number.
use Rattle.std.specs.Prelude.{ℕ, Option}
use Rattle.domain.specs.declared.below.Below.{Below}
use Rattle.domain.specs.Ranged.{below}

abbrev pub numbered : (N : ℕ) → ℕ → Option (Below N)
numbered N = below N (λ n h. record { index = n; fits = h })
