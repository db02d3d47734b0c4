-- The chains of buckets, over plain lists.
use Rattle.std.proofs.Common.{◌≡◌, ℕ, zero, suc, ◌+◌, ◌<◌, ◌≤◌, Bool, true, false, cond, eqb, ◌≢◌, ◌⊎◌, List, [], ◌∷◌, ◌++◌, length, get_or, set, replicate, sym, refl, ap, ◌∙◌, ap₂, inl, inr, not-suc-le-zero, add-one, subst, map, arith}
use Rattle.std.proofs.lemmas.Bool.{cases_lt, cases_eq, eq-eqb, ne_eqb, eqb-true, eqb-false}
use Rattle.std.proofs.lemmas.List.{get_or_append_left, get_or_push, length_push, length-set, length-replicate, length-map, map_push, take_all, take-append-le, get_or-set_same, get_or-set_other}
use Rattle.numbering.specs.declared.chains.Chains.{Chains}
use Rattle.numbering.specs.Chains.{bucket, linked_buckets, latest, Chained}

module _ (bs : List ℕ) (b : ℕ) where
  -- the latest row is a row of the bucket
  pub latest_own : (n i : ℕ) → latest bs b n ≡ suc i → (i < n) × (get_or bs i 0 ≡ b)
  latest_own zero i e = absurd (omega arith)
  latest_own (suc n) i e = go (eqb (get_or bs n 0) b) refl e (latest_own n i)
    where
      go : (t : Bool) → eqb (get_or bs n 0) b ≡ t → cond t (suc n) (latest bs b n) ≡ suc i → (latest bs b n ≡ suc i → (i < n) × (get_or bs i 0 ≡ b)) → (i < suc n) × (get_or bs i 0 ≡ b)
      go true t e ih = let i_is : n ≡ i = omega arith in (omega arith, ap (λ j. get_or bs j 0) (sym i_is) ∙ eqb-true _ _ t)
      go false t e ih = let h = ih e in (omega (arith, h.0), h.1)

  -- no row of the bucket is later
  pub latest_above : (n k : ℕ) → k < n → get_or bs k 0 ≡ b → k < latest bs b n
  latest_above zero k l e = absurd (not-suc-le-zero l)
  latest_above (suc n) k l e = go (eqb (get_or bs n 0) b) refl (latest_above n k)
    where
      go : (t : Bool) → eqb (get_or bs n 0) b ≡ t → (k < n → get_or bs k 0 ≡ b → k < latest bs b n) → k < cond t (suc n) (latest bs b n)
      go true t ih = l
      go false t ih =
          let ne : k ≢ n = λ i. eqb-false _ _ t (ap (λ j. get_or bs j 0) (sym i) ∙ e) in
          let less : k < n = go_less (cases_lt k n) ne in
          ih less e
        where
          go_less : (k < n) ⊎ (n ≤ k) → k ≢ n → k < n
          go_less (inl m) ne = m
          go_less (inr m) ne = absurd (ne (omega arith))

  -- a link leads to one of the rows, or nowhere
  pub latest_le : (n : ℕ) → latest bs b n ≤ n
  latest_le zero = omega arith
  latest_le (suc n) = go (eqb (get_or bs n 0) b) (latest_le n)
    where
      go : (t : Bool) → latest bs b n ≤ n → cond t (suc n) (latest bs b n) ≤ suc n
      go true ih = omega arith
      go false ih = omega arith

  -- a row that is put behind the others changes nothing below it
  latest_kept : (h n : ℕ) → n ≤ length bs → latest (bs ++ h ∷ []) b n ≡ latest bs b n
  latest_kept h zero l = refl
  latest_kept h (suc n) l =
      ap₂ (λ (x y : ℕ). cond (eqb x b) (suc n) y) (get_or_append_left bs (h ∷ []) 0 n (omega arith)) (latest_kept h n (omega arith))

  -- the latest row once a row of bucket h is put behind the others
  latest_new : (h : ℕ) → latest (bs ++ h ∷ []) b (length (bs ++ h ∷ [])) ≡ cond (eqb h b) (suc (length bs)) (latest bs b (length bs))
  latest_new h =
      ap (latest (bs ++ h ∷ []) b) (length_push bs h ∙ add-one (length bs))
      ∙ ap₂ (λ (x y : ℕ). cond (eqb x b) (suc (length bs)) y) (get_or_push bs h 0 (length bs) refl) (latest_kept h (length bs) (omega arith))

-- where there are no rows each link is an end
pub unlinked : (n b : ℕ) → get_or (replicate {A = ℕ} n 0) b 0 ≡ 0
unlinked zero b = refl
unlinked (suc n) zero = refl
unlinked (suc n) (suc b) = unlinked n b

-- a row of bucket h is put behind the others: it heads the chain of its bucket, and what headed it stands behind the row
module _ (bs : List ℕ) (chains after : Chains) (h : ℕ) (old : Chained bs chains) (inside : h < 256) (room : length bs < 512)
    (heads_are : after.heads ≡ set chains.heads h (length bs + 1)) (links_are : after.links ≡ set chains.links (length bs) (get_or chains.heads h 0)) where
  head_pushed : (b : ℕ) → b < 256 → (b ≡ h) ⊎ (b ≡ h → ⊥) → get_or (set chains.heads h (length bs + 1)) b 0 ≡ latest (bs ++ h ∷ []) b (length (bs ++ h ∷ []))
  head_pushed b l (inl e) =
      ap (λ j. get_or (set chains.heads h (length bs + 1)) j 0) e
      ∙ get_or-set_same chains.heads h (length bs + 1) 0 (omega (arith, old.buckets))
      ∙ add-one (length bs)
      ∙ sym (latest_new bs b h ∙ ap (λ t. cond t (suc (length bs)) (latest bs b (length bs))) (eq-eqb h b (sym e)))
  head_pushed b l (inr ne) =
      get_or-set_other chains.heads h b (length bs + 1) 0 ne
      ∙ old.begins b l
      ∙ sym (latest_new bs b h ∙ ap (λ t. cond t (suc (length bs)) (latest bs b (length bs))) (ne_eqb h b (λ e. ne (sym e))))

  link_pushed : (i : ℕ) → i < length bs + 1 → (i < length bs) ⊎ (length bs ≤ i) → get_or (set chains.links (length bs) (get_or chains.heads h 0)) i 0 ≡ latest (bs ++ h ∷ []) (get_or (bs ++ h ∷ []) i 0) i
  link_pushed i l (inl a) =
      get_or-set_other chains.links (length bs) i (get_or chains.heads h 0) 0 (omega arith)
      ∙ old.goes_on i a
      ∙ sym (ap (λ j. latest (bs ++ h ∷ []) j i) (get_or_append_left bs (h ∷ []) 0 i a) ∙ latest_kept bs (get_or bs i 0) h i (omega arith))
  link_pushed i l (inr a) =
      let e : length bs ≡ i = omega arith in
      ap (λ j. get_or (set chains.links (length bs) (get_or chains.heads h 0)) j 0) (sym e)
      ∙ get_or-set_same chains.links (length bs) (get_or chains.heads h 0) 0 (omega (arith, old.room))
      ∙ old.begins h inside
      ∙ sym (ap₂ (λ x y. latest (bs ++ h ∷ []) x y) (get_or_push bs h 0 i e) (sym e) ∙ latest_kept bs h h (length bs) (omega arith))

  pub chained_push : Chained (bs ++ h ∷ []) after
  chained_push = record {
    buckets = ap length heads_are ∙ length-set _ _ _ ∙ old.buckets;
    room = ap length links_are ∙ length-set _ _ _ ∙ old.room;
    begins = λ b l. ap (λ xs. get_or xs b 0) heads_are ∙ head_pushed b l (cases_eq b h);
    goes_on = λ i l. ap (λ xs. get_or xs i 0) links_are ∙ link_pushed i (let k = length_push bs h in omega arith) (cases_lt i (length bs));
  }

-- no rows hang in no chains
pub chained_none : (chains : Chains) → chains.heads ≡ replicate 256 0 → length chains.links ≡ 512 → Chained [] chains
chained_none chains heads_are long = record {
  buckets = ap length heads_are ∙ length-replicate {A = ℕ} 256 0;
  room = long;
  begins = λ b l. ap (λ xs. get_or xs b 0) heads_are ∙ unlinked 256 b;
  goes_on = λ i l. absurd (not-suc-le-zero l);
}

-- a row is put behind n others, and into the chain of its bucket unless its number is too high
module _ {R : Type 0} (hash : R → ℕ) (xs : List R) (row : R) (chains after : Chains) (n b : ℕ) (len_is : length xs ≡ n) (b_is : b ≡ bucket hash row)
    (heads_are : n < 512 → after.heads ≡ set chains.heads b (n + 1)) (links_are : n < 512 → after.links ≡ set chains.links n (get_or chains.heads b 0))
    (same : 512 ≤ n → after ≡ chains) (old : Chained (linked_buckets hash xs) chains) where
  pub chained_with : Chained (linked_buckets hash (xs ++ row ∷ [])) after
  chained_with = go (cases_lt n 512)
    where
      go : (n < 512) ⊎ (512 ≤ n) → Chained (linked_buckets hash (xs ++ row ∷ [])) after
      go (inl l) =
          let long : length (map (bucket hash) xs) ≡ n = length-map xs (bucket hash) ∙ len_is in
          let before : linked_buckets hash xs ≡ map (bucket hash) xs = ap (map (bucket hash)) (take_all 512 xs (omega arith)) in
          let behind : linked_buckets hash (xs ++ row ∷ []) ≡ map (bucket hash) xs ++ b ∷ [] =
          ap (map (bucket hash)) (take_all 512 (xs ++ row ∷ []) (omega (arith, length_push xs row)))
          ∙ map_push (bucket hash) xs row
          ∙ ap (λ h. map (bucket hash) xs ++ h ∷ []) (sym b_is) in
          let inside : b < 256 = omega (arith, b_is) in
          subst (λ (ys : List ℕ). Chained ys after) (sym behind)
          (chained_push (map (bucket hash) xs) chains after b (subst (λ (ys : List ℕ). Chained ys chains) before old) inside (omega arith)
          (heads_are l ∙ ap (λ (k : ℕ). set chains.heads b (k + 1)) (sym long))
          (links_are l ∙ ap (λ (k : ℕ). set chains.links k (get_or chains.heads b 0)) (sym long)))
      go (inr l) =
          let kept : linked_buckets hash (xs ++ row ∷ []) ≡ linked_buckets hash xs = ap (map (bucket hash)) (take-append-le 512 xs (row ∷ []) (omega arith)) in
          subst (λ (ys : List ℕ). Chained ys after) (sym kept) (subst (λ (c : Chains). Chained (linked_buckets hash xs) c) (sym (same l)) old)
