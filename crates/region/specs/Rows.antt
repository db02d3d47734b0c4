-- Rows, counted and read as actions.
use Rattle.std.specs.Prelude.{ℕ, ◌-◌, Bool, ◌&&◌, List, [], ◌∷◌, ◌++◌, length, replicate, nat_le}
use Rattle.std.specs.List.{sum_by}
use Rattle.std.proofs.Common.{lit<}
use Rattle.region.specs.declared.row.Action.{Action}
use Rattle.region.specs.declared.row.Action.TheVariants.{Literal}
use Rattle.region.specs.declared.row.Row.{Row}
use Rattle.region.specs.declared.row.Row.TheVariants.{Act, Exit, Join}

-- the row that stands in an unused place: register 0 becomes literal 0
abbrev pub blank : Row
blank = Act (Literal (record { index = 0; fits = lit< tt }) 0)

-- 1 for an exit, and 1 for a join
abbrev pub one_exit : Row → ℕ
one_exit (Act a) = 0
one_exit (Exit t l) = 1
one_exit Join = 0

abbrev pub one_join : Row → ℕ
one_join (Act a) = 0
one_join (Exit t l) = 0
one_join Join = 1

-- how many exits and joins rows hold
abbrev pub exits_in : List Row → ℕ
exits_in = sum_by one_exit

abbrev pub joins_in : List Row → ℕ
joins_in = sum_by one_join

-- a line has at most 96 rows, 8 exits and 4 joins
abbrev pub sizes_fit : (rows exits joins : ℕ) → Bool
sizes_fit n x j = nat_le n 96 && nat_le x 8 && nat_le j 4

abbrev pub main_fits : List Row → Bool
main_fits rs = sizes_fit (length rs) (exits_in rs) (joins_in rs)

-- what the rows of a piece do: rows that are no action are passed over
abbrev pub actions : List Row → List Action
actions [] = []
actions (Act a ∷ rs) = a ∷ actions rs
actions (Exit t l ∷ rs) = actions rs
actions (Join ∷ rs) = actions rs

-- xs in n places, the unused ones filled with x
abbrev pub laid : {X : Type 0} → ℕ → X → List X → List X
laid n x xs = xs ++ replicate (n - length xs) x
