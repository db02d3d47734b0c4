-- Laws of `lines`, as the code cuts a line off.
use Rattle.std.proofs.Common.{◌≡◌, ℕ, suc, ◌+◌, ◌<◌, ◌≤◌, Bool, true, false, cond, not, ◌==◌, eqb, List, [], ◌∷◌, length, take, drop, Some, None, refl, ap, add-one, arith}
use Rattle.std.proofs.lemmas.Bool.Decides.{nat_tests}
use Rattle.std.specs.List.{position, position_or_len}
use Rattle.region_text.specs.Texts.{text_line, onto_line, lines}

-- a byte is the LF
abbrev pub is_lf : ℕ → Bool
is_lf b = eqb b 10

-- a line ends at the first LF
lines_ended : (xs : List ℕ) → position_or_len is_lf xs < length xs → lines xs ≡ text_line (take (position_or_len is_lf xs) xs) true ∷ lines (drop (suc (position_or_len is_lf xs)) xs)
lines_ended [] = λ h. absurd (omega arith)
lines_ended (b ∷ bs) =
    let n = position_or_len is_lf bs in
    let more : 1 + n ≡ suc n = omega arith in
    elim (eqb b 10) as (λ t. cond (not t) (1 + n) 0 < suc (length bs) → cond t (text_line [] true ∷ lines bs) (onto_line b (lines bs)) ≡ text_line (take (cond (not t) (1 + n) 0) (b ∷ bs)) true ∷ lines (drop (suc (cond (not t) (1 + n) 0)) (b ∷ bs))) [
      | true ↦ λ _. refl
      | false ↦ λ h. rw more (ap (onto_line b) (lines_ended bs (omega arith)))
    ]

-- or with the text
lines_last : (b : ℕ) (bs : List ℕ) → suc (length bs) ≤ position_or_len is_lf (b ∷ bs) → lines (b ∷ bs) ≡ text_line (b ∷ bs) false ∷ []
lines_last b [] =
    elim (eqb b 10) as (λ t. 1 ≤ cond (not t) 1 0 → cond t (text_line [] true ∷ []) (onto_line b []) ≡ text_line (b ∷ []) false ∷ []) [ true ↦ λ k. absurd (omega arith) | false ↦ λ k. refl ]
lines_last b (c ∷ bs) =
    elim (eqb b 10) as (λ t. suc (suc (length bs)) ≤ cond (not t) (1 + position_or_len is_lf (c ∷ bs)) 0 → cond t (text_line [] true ∷ lines (c ∷ bs)) (onto_line b (lines (c ∷ bs))) ≡ text_line (b ∷ c ∷ bs) false ∷ []) [
      | true ↦ λ k. absurd (omega arith)
      | false ↦ λ k. ap (onto_line b) (lines_last c bs (omega arith))
    ]

-- a line is cut off at the LF that was found, or nothing is left behind it
pub cut_ended : (xs : List ℕ) (n : ℕ) → position is_lf xs ≡ Some n → lines xs ≡ text_line (take n xs) true ∷ lines (drop (n + 1) xs)
cut_ended xs n e =
    let at : position_or_len is_lf xs ≡ n = grind (arith, nat_tests) in
    let inside : n < length xs = grind (arith, nat_tests) in
    rw (add-one, ← at) (lines_ended xs (rw at inside))

pub cut_last : (xs : List ℕ) → false ≡ (length xs == 0) → position is_lf xs ≡ None → lines xs ≡ text_line xs false ∷ []
cut_last [] s e = cc
cut_last (b ∷ bs) s e = lines_last b bs (grind (arith, nat_tests))
