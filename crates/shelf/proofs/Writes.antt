-- Parts of lists that are written over.
use Rattle.std.proofs.Common.{◌≡◌, ℕ, ◌+◌, ◌≤◌, List, ◌++◌, length, take, drop, sym, ap, ◌∙◌, append_assoc, arith, length-append, length-take-le, drop-drop, take_at, drop_at}
use Rattle.shelf.specs.Store.{written}

-- two writes, one just behind the other
pub written_twice : {X : Type 0} (at k : ℕ) (x y l : List X) → length x ≡ k → at + k ≤ length l
    → written (at + k) y (written at x l) ≡ written at (x ++ y) l
written_twice {X} at k x y l e h =
    let p = take at l ++ x in
    let q = drop (at + length x) l in
    let lp : length p ≡ at + k = length-append (take at l) x ∙ ap (λ n. n + length x) (length-take-le at l (omega arith)) ∙ ap (λ n. at + n) e in
    let eq : written at x l ≡ p ++ q = sym (append_assoc (take at l) x q) in
    let d : drop (at + k + length y) (p ++ q) ≡ drop (at + length (x ++ y)) l =
    sym (drop-drop (length y) (at + k) (p ++ q)) ∙ ap (drop (length y)) (drop_at p q (at + k) lp) ∙ drop-drop (length y) (at + length x) l
    ∙ ap (λ n. drop n l) (let f = length-append x y in omega arith) in
    ap (λ u. take (at + k) u ++ (y ++ drop (at + k + length y) u)) eq
    ∙ ap (λ u. u ++ (y ++ drop (at + k + length y) (p ++ q))) (take_at p q (at + k) lp)
    ∙ ap (λ u. p ++ (y ++ u)) d
    ∙ append_assoc (take at l) x (y ++ drop (at + length (x ++ y)) l)
    ∙ ap (λ u. take at l ++ u) (sym (append_assoc x y (drop (at + length (x ++ y)) l)))
