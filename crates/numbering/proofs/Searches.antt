-- The search for a row down the chain of its bucket, and the scan of the rows that are not linked.
use Rattle.std.proofs.Common.{◌≡◌, ℕ, suc, ◌+◌, ◌<◌, ◌≤◌, Bool, true, false, ◌⊎◌, List, map, length, get_or, Some, None, Option, sym, refl, ap, ◌∙◌, inl, inr, arith}
use Rattle.std.proofs.lemmas.Bool.{both_ways, cases_lt, cases_eq}
use Rattle.std.proofs.lemmas.List.{get_or_default, get_or-map, length-map}
use Rattle.numbering.specs.declared.chains.Chains.{Chains}
use Rattle.numbering.specs.Rows.{Alike, found, Distinct, Equivalence}
use Rattle.numbering.specs.Chains.{bucket, latest, Chained}
use Rattle.numbering.proofs.Found.{found_is, none_is, none_found}
use Rattle.numbering.proofs.Linking.{latest_own, latest_above, latest_le}

module _ {R : Type 0} (eq : R → R → Bool) (hash : R → ℕ) (xs : List R) (row : R) where
  -- How far a search has come: the link leads to the latest row below `from` of the row's bucket, and no row from there on equals the row.
  pub record Searched (link : ℕ) : Type 0 where
    pub from : ℕ
    pub inside : from ≤ length xs
    pub link_is : link ≡ latest (map (bucket hash) xs) (bucket hash row) from
    pub others : (k : ℕ) (d : R) → from ≤ k → k < length xs → eq (get_or xs k d) row ≡ false

  -- a link leads to one of the rows
  pub link_inside : (link : ℕ) → Searched link → link ≤ length xs
  link_inside link s = omega (arith, s.link_is, s.inside, latest_le (map (bucket hash) xs) (bucket hash row) s.from)

-- a chain leads down
pub falls : {R : Type 0} (hash : R → ℕ) (xs : List R) (chains : Chains) → Chained (map (bucket hash) xs) chains → (i : ℕ) → i < length xs → get_or chains.links i 0 ≤ i
falls hash xs chains chained i l =
    let bs = map (bucket hash) xs in
    omega (arith, chained.goes_on i (omega (arith, length-map xs (bucket hash))), latest_le bs (get_or bs i 0) i)

module _ {R : Type 0} (eq : R → R → Bool) (hash : R → ℕ) (laws : Equivalence eq) (alike : Alike eq hash) (xs : List R) (row : R) where
  -- a row of another bucket does not equal the row
  apart : (k : ℕ) (d : R) → k < length xs → (get_or (map (bucket hash) xs) k 0 ≡ bucket hash row → ⊥) → eq (get_or xs k d) row ≡ false
  apart k d l ne = go (eq (get_or xs k d) row) refl
    where
      go : (t : Bool) → eq (get_or xs k d) row ≡ t → t ≡ false
      go true e = absurd (ne (get_or-map (bucket hash) xs k d 0 l ∙ ap (λ h. bucket (λ x. x) h) (alike (get_or xs k d) row e)))
      go false e = refl

  -- the search begins at the head of the bucket's chain
  pub begun : (chains : Chains) (b : ℕ) → Chained (map (bucket hash) xs) chains → b ≡ bucket hash row → b < 256 → Searched eq hash xs row (get_or chains.heads b 0)
  begun chains b chained b_is l = record {
    from = length xs;
    inside = omega arith;
    link_is = chained.begins b l ∙ ap (λ n. latest (map (bucket hash) xs) b n) (length-map xs (bucket hash)) ∙ ap (λ j. latest (map (bucket hash) xs) j (length xs)) b_is;
    others = λ k d a m. absurd (omega arith);
  }

  -- where the row that the link leads to is another, the search goes on behind it
  pub passed : (chains : Chains) (link i : ℕ) (x : R) → Chained (map (bucket hash) xs) chains → link ≡ suc i → Searched eq hash xs row link → x ≡ get_or xs i x → eq x row ≡ false
      → Searched eq hash xs row (get_or chains.links i 0)
  passed chains link i x chained p s x-is t = record {
    from = i;
    inside = omega (arith, own.0, s.inside);
    link_is = chained.goes_on i (omega (arith, own.0, s.inside, length-map xs (bucket hash))) ∙ ap (λ j. latest (map (bucket hash) xs) j i) own.1;
    others = λ k d a m. go k d a m (cases_lt k s.from) (cases_eq k i);
  }
    where
      own : (i < s.from) × (get_or (map (bucket hash) xs) i 0 ≡ bucket hash row)
      own = latest_own (map (bucket hash) xs) (bucket hash row) s.from i (sym s.link_is ∙ p)

      go : (k : ℕ) (d : R) → i ≤ k → k < length xs → (k < s.from) ⊎ (s.from ≤ k) → (k ≡ i) ⊎ (k ≡ i → ⊥) → eq (get_or xs k d) row ≡ false
      go k d a m (inr b) c = s.others k d b m
      go k d a m (inl b) (inl e) = ap (λ y. eq y row) (get_or_default xs k d x m ∙ ap (λ j. get_or xs j x) e ∙ sym x-is) ∙ t
      go k d a m (inl b) (inr ne) =
          apart k d m (λ h. ne (omega (arith, latest_above (map (bucket hash) xs) (bucket hash row) s.from k b h, s.link_is)))

  -- a row that equals the row is found: there is no other
  pub hit : Distinct eq xs → (i : ℕ) (x : R) → i < length xs → x ≡ get_or xs i x → eq x row ≡ true → Some i ≡ found eq xs row
  hit distinct i x l x-is t = go (found eq xs row) refl
    where
      here : eq (get_or xs i x) row ≡ true
      here = ap (λ y. eq y row) (sym x-is) ∙ t

      go : (o : Option ℕ) → found eq xs row ≡ o → Some i ≡ o
      go (Some k) e =
          let f = found_is eq row xs k x e in
          ap (λ j. Some j) (distinct i k x l f.0 (laws.transitive _ _ _ here (laws.symmetric _ _ f.1)))
      go None e = absurd (both_ways _ (none_is eq row xs x e i l) here)

  -- at the end of the chain no row is left
  pub missed : (link : ℕ) → link ≡ 0 → Searched eq hash xs row link → None ≡ found eq xs row
  missed link z s = none_found eq row xs (λ k l. away k l (cases_lt k s.from))
    where
      away : (k : ℕ) → k < length xs → (k < s.from) ⊎ (s.from ≤ k) → eq (get_or xs k row) row ≡ false
      away k l (inl a) = apart k row l (λ h. absurd (omega (arith, latest_above (map (bucket hash) xs) (bucket hash row) s.from k a h, s.link_is)))
      away k l (inr a) = s.others k row a l

  -- where the row at i is another and so are those above it, so are those above i + 1
  pub passed_over : (i : ℕ) (x : R) → x ≡ get_or xs i x → eq x row ≡ false → ((k : ℕ) → k < i → k < length xs → eq (get_or xs k row) row ≡ false)
      → (k : ℕ) → k < i + 1 → k < length xs → eq (get_or xs k row) row ≡ false
  passed_over i x x-is t above k l m = go (cases_lt k i)
    where
      go : (k < i) ⊎ (i ≤ k) → eq (get_or xs k row) row ≡ false
      go (inl a) = above k a m
      go (inr a) =
          let k_is : k ≡ i = omega arith in
          ap (λ y. eq y row) (get_or_default xs k row x m ∙ ap (λ j. get_or xs j x) k_is ∙ sym x-is) ∙ t
