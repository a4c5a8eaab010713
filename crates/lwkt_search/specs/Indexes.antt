-- An index of items by their keys.
use Rattle.std.specs.Prelude.{◌≡◌, ℕ, ◌+◌, ◌%◌, ◌<◌, ◌≤◌, List, length, slice_index_or}

-- the bucket of a key
abbrev pub bucket_of : ℕ → ℕ → ℕ
bucket_of count key = key % count

-- `up` is 1 more than the last place before `end` whose key is in the bucket, and 0 if there is none
pub record IsLast (count : ℕ) (key : ℕ → ℕ) (bucket end up : ℕ) : Type 0 where
  pub within : up ≤ end
  pub inside : (k : ℕ) → k + 1 ≡ up → bucket_of count (key k) ≡ bucket
  pub none : (k : ℕ) → up ≤ k → k < end → bucket_of count (key k) ≡ bucket → ⊥

-- each bucket leads to the last place in it, and each place before `end` to the one before it in its bucket
pub record IsIndex (key : ℕ → ℕ) (heads links : List ℕ) (end : ℕ) : Type 0 where
  pub some : 0 < length heads
  pub long : length links ≡ end
  pub head : (b : ℕ) → b < length heads → IsLast (length heads) key b end (slice_index_or heads b 0)
  pub link : (k : ℕ) → k < end → IsLast (length heads) key (bucket_of (length heads) (key k)) k (slice_index_or links k 0)

-- an index of keys that come before this one becomes one of this key too, at the next place
abbrev pub IsAdded : ℕ → List ℕ → List ℕ → List ℕ → List ℕ → Type 0
IsAdded last heads links heads' links' = (key : ℕ → ℕ) (end : ℕ) → IsIndex key heads links end → key end ≡ last → IsIndex key heads' links' (end + 1)

-- where the search for something with a key stands: from this place on it isn't there
pub record IsSought (count : ℕ) (key : ℕ → ℕ) (wanted end : ℕ) (is : ℕ → Type 0) (up : ℕ) : Type 0 where
  pub within : up ≤ end
  pub inside : (k : ℕ) → k + 1 ≡ up → bucket_of count (key k) ≡ bucket_of count wanted
  pub none : (k : ℕ) → up ≤ k → k < end → is k → ⊥
