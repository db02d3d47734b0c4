-- Terms, which stand for words and banks, and when two of them are equal.
use Rattle.std.specs.Prelude.{◌≡◌, ℕ, Bool, true, false, ◌&&◌, ◌||◌, ◌==◌}
use Rattle.domain.specs.declared.op.Op.{Op}
use Rattle.domain.specs.declared.op.Op.TheVariants.{Add, Sub, Mul, Div, Lt, Eq, And, Or}

pub data Term : Type 0 where
  register_at_entry : ℕ → Term
  bank_at_entry : ℕ → Term
  literal : ℕ → Term
  operate : Op → Term → Term → Term
  load : (bank address : Term) → Term
  store : (bank address value : Term) → Term

-- an operation's number
abbrev pub number : Op → ℕ
number Add = 0
number Sub = 1
number Mul = 2
number Div = 3
number Lt = 4
number Eq = 5
number And = 6
number Or = 7

-- built alike, where the operands of a commuting operation may be exchanged
pub data Same (commutes : Op → Bool) : Term → Term → Type 0 where
  same_register : (i : ℕ) → Same commutes (register_at_entry i) (register_at_entry i)
  same_bank : (k : ℕ) → Same commutes (bank_at_entry k) (bank_at_entry k)
  same_literal : (n : ℕ) → Same commutes (literal n) (literal n)
  same_operate : (o : Op) {a b c e : Term} → Same commutes a c → Same commutes b e → Same commutes (operate o a b) (operate o c e)
  same_turned : (o : Op) {a b c e : Term} → commutes o ≡ true → Same commutes a e → Same commutes b c → Same commutes (operate o a b) (operate o c e)
  same_load : {k a l c : Term} → Same commutes k l → Same commutes a c → Same commutes (load k a) (load l c)
  same_store : {k a v l c w : Term} → Same commutes k l → Same commutes a c → Same commutes v w → Same commutes (store k a v) (store l c w)

-- the same as a test
module _ (commutes : Op → Bool) where
  abbrev pub same : Term → Term → Bool
  same (register_at_entry i) (register_at_entry j) = i == j
  same (register_at_entry i) (bank_at_entry j) = false
  same (register_at_entry i) (literal n) = false
  same (register_at_entry i) (operate o a b) = false
  same (register_at_entry i) (load k a) = false
  same (register_at_entry i) (store k a v) = false
  same (bank_at_entry i) (register_at_entry j) = false
  same (bank_at_entry i) (bank_at_entry j) = i == j
  same (bank_at_entry i) (literal n) = false
  same (bank_at_entry i) (operate o a b) = false
  same (bank_at_entry i) (load k a) = false
  same (bank_at_entry i) (store k a v) = false
  same (literal n) (register_at_entry j) = false
  same (literal n) (bank_at_entry j) = false
  same (literal n) (literal p) = n == p
  same (literal n) (operate o a b) = false
  same (literal n) (load k a) = false
  same (literal n) (store k a v) = false
  same (operate o a b) (register_at_entry j) = false
  same (operate o a b) (bank_at_entry j) = false
  same (operate o a b) (literal n) = false
  same (operate o a b) (operate p c e) =
      (number o == number p) && ((same a c && same b e) || (commutes o && (same a e && same b c)))
  same (operate o a b) (load k c) = false
  same (operate o a b) (store k c v) = false
  same (load k a) (register_at_entry j) = false
  same (load k a) (bank_at_entry j) = false
  same (load k a) (literal n) = false
  same (load k a) (operate o c e) = false
  same (load k a) (load l c) = same k l && same a c
  same (load k a) (store l c v) = false
  same (store k a v) (register_at_entry j) = false
  same (store k a v) (bank_at_entry j) = false
  same (store k a v) (literal n) = false
  same (store k a v) (operate o c e) = false
  same (store k a v) (load l c) = false
  same (store k a v) (store l c w) = same k l && (same a c && same v w)
