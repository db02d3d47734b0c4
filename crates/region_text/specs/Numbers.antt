-- What the numbers of a record stand for, beside registers and banks.
use Rattle.std.specs.Prelude.{ℕ, ◌+◌, ◌-◌, cond, ◌&&◌, Some, None, Option, ◌==◌, nat_le}
use Rattle.domain.specs.declared.op.Op.{Op}
use Rattle.domain.specs.declared.op.Op.TheVariants.{Add, Sub, Mul, Div, Lt, Eq, And, Or}

-- operations are numbered 0 to 7
abbrev pub op_at : ℕ → Option Op
op_at n =
    cond (n == 0) (Some Add)
    (cond (n == 1) (Some Sub)
    (cond (n == 2) (Some Mul)
    (cond (n == 3) (Some Div)
    (cond (n == 4) (Some Lt)
    (cond (n == 5) (Some Eq)
    (cond (n == 6) (Some And)
    (cond (n == 7) (Some Or)
    None)))))))

-- literals are 0 to 65535
abbrev pub literal_at : ℕ → Option ℕ
literal_at n = cond (nat_le n 65535) (Some n) None

-- exits and joins are numbered from 1 to their count: the piece of number k, where that of number 1 is piece `first`
abbrev pub piece_at : (first count : ℕ) → ℕ → Option ℕ
piece_at first count k = cond (nat_le 1 k && nat_le k count) (Some (first + (k - 1))) None
