-- A decimal number may be cut at 65536 on the way.
use Rattle.std.proofs.Common.{◌≡◌, ℕ, ◌+◌, ◌-◌, ◌*◌, ◌<◌, ◌≤◌, min, true, false, cond, List, [], ◌∷◌, length, get_or, drop, None, Some, refl, ap, inl, inr, arith}
use Rattle.std.proofs.lemmas.List.{drop_more}
use Rattle.std.proofs.lemmas.Bool.{cases_lt}
use Rattle.std.proofs.lemmas.Bool.Decides.{nat_tests}
use Rattle.std.specs.Char.{is_ascii_digit, digit_value}
use Rattle.std.proofs.lemmas.Str.{digit_value_digit}
use Rattle.std.proofs.lemmas.Str.Parse.{digit_from_value}
use Rattle.region_text.specs.Fields.{digits}
use Rattle.region_text.specs.Scanning.{capped}

-- from 65536 on every continuation says the same
beyond : (bs : List ℕ) (a b : ℕ) → 65536 ≤ a → 65536 ≤ b → capped (digits a bs) ≡ capped (digits b bs)
beyond [] a b h k = let e : min a 65536 ≡ min b 65536 = omega arith in ap Some e
beyond (x ∷ bs) a b h k =
    elim (is_ascii_digit x) as (λ t. capped (cond t (digits (a * 10 + (x - 48)) bs) None) ≡ capped (cond t (digits (b * 10 + (x - 48)) bs) None)) [
      | true ↦ beyond bs (a * 10 + (x - 48)) (b * 10 + (x - 48)) (omega arith) (omega arith)
      | false ↦ refl
    ]

pub cut : (bs : List ℕ) (n : ℕ) → capped (digits (min n 65536) bs) ≡ capped (digits n bs)
cut bs n =
    elim (cases_lt n 65536) [
      | inl h ↦ let e : min n 65536 ≡ n = omega arith in ap (λ k. capped (digits k bs)) e
      | inr h ↦ beyond bs (min n 65536) n (omega arith) h
    ]

-- one digit more
pub more : (n : ℕ) (xs : List ℕ) (i d : ℕ) → i < length xs → digit_value (get_or xs i 0) < 10 → d ≡ digit_value (get_or xs i 0) → capped (digits (min (n * 10 + d) 65536) (drop (i + 1) xs)) ≡ capped (digits n (drop i xs))
more n xs i d h v e =
    let b = get_or xs i 0 in
    let range = digit_from_value b v in
    let test : is_ascii_digit b ≡ true = grind (arith, nat_tests, range) in
    let value : n * 10 + (b - 48) ≡ n * 10 + d = omega (arith, digit_value_digit b range) in
    rw (drop_more xs i 0 h, test, value) (cut (drop (i + 1) xs) (n * 10 + d))
