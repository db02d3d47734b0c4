-- Rows in buckets, over plain lists. The rows of a bucket hang in a chain, from the latest down.
-- A link is 0 at the end of a chain, and else one more than the number of the next row.
use Rattle.std.specs.Prelude.{◌≡◌, ℕ, zero, suc, ◌%◌, ◌<◌, cond, List, map, length, take, ◌==◌, slice_index}
use Rattle.numbering.specs.declared.chains.Chains.{Chains}

-- The bucket of a row, of 256.
abbrev pub bucket : {R : Type 0} → (R → ℕ) → R → ℕ
bucket hash x = hash x % 256

-- The buckets of the rows that are linked, in the order of their numbers: of the first 512.
abbrev pub linked_buckets : {R : Type 0} → (R → ℕ) → List R → List ℕ
linked_buckets hash xs = map (bucket hash) (take 512 xs)

-- The link to the latest of the first n rows that is in bucket b, where bs are the rows' buckets.
abbrev pub latest : List ℕ → (b n : ℕ) → ℕ
latest bs b zero = 0
latest bs b (suc n) = cond (slice_index bs n == b) (suc n) (latest bs b n)

-- A bucket's chain begins with its latest row, and behind each row hangs the latest one below it of its bucket.
pub record Chained (bs : List ℕ) (chains : Chains) : Type 0 where
  pub buckets : length chains.heads ≡ 256
  pub room : length chains.links ≡ 512
  pub begins : (b : ℕ) → b < 256 → slice_index chains.heads b ≡ latest bs b (length bs)
  pub goes_on : (i : ℕ) → i < length bs → slice_index chains.links i ≡ latest bs (slice_index bs i) i
