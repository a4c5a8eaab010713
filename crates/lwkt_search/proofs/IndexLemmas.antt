use Rattle.std.proofs.Common.{◌≡◌, ◌≢◌, ℕ, ◌+◌, ◌<◌, ◌≤◌, List, [], ◌∷◌, ◌++◌, ◌⊎◌, inl, inr, length, length-append, arith, ap, subst, sym, refl, ◌∙◌, below_more, slice_index_or, slice_set, replicate, get_or-set_other, get_or-set_same}
use Rattle.std.proofs.lemmas.List.{get_or_push, get_or_append_left, get_or_read, length-set, get_or-replicate, length-replicate}
use Rattle.lwkt_search.specs.Indexes.{bucket_of, IsLast, IsIndex, IsAdded, IsSought}

same_or_not : (i j : ℕ) → (i ≡ j) ⊎ (i ≢ j)
same_or_not i j = grind arith

under_or_over : (i j : ℕ) → (i < j) ⊎ (j ≤ i)
under_or_over i j = grind arith

-- the last place stays so where the keys before the end stay
pub last_same : (count : ℕ) (key key' : ℕ → ℕ) (bucket end up : ℕ) → ((k : ℕ) → k < end → key' k ≡ key k) → IsLast count key bucket end up → IsLast count key' bucket end up
last_same count key key' bucket end up same is =
    let B : ℕ → Type 0 = λ s. bucket_of count s ≡ bucket in
    record {
      within = is.within;
      inside = λ k h. let low : k < end = omega (arith, is.within) in subst B (sym (same k low)) (is.inside k h);
      none = λ k h low e. is.none k h low (subst B (same k low) e);
    }

-- and so does an index
pub index_same : (key key' : ℕ → ℕ) (heads links : List ℕ) (end : ℕ) → ((k : ℕ) → k < end → key' k ≡ key k) → IsIndex key heads links end → IsIndex key' heads links end
index_same key key' heads links end same is =
    record {
      some = is.some;
      long = is.long;
      head = λ b h. last_same (length heads) key key' b end (slice_index_or heads b 0) same (is.head b h);
      link = λ k h.
          let B : ℕ → Type 0 = λ s. IsLast (length heads) key' (bucket_of (length heads) s) k (slice_index_or links k 0) in
          let before : (j : ℕ) → j < k → key' j ≡ key j = λ j low. let h2 : j < end = omega arith in same j h2 in
          subst B (sym (same k h)) (last_same (length heads) key key' (bucket_of (length heads) (key k)) k (slice_index_or links k 0) before (is.link k h));
    }

-- one more key of another bucket
pub last_other : (count : ℕ) (key : ℕ → ℕ) (bucket end up : ℕ) → IsLast count key bucket end up → (bucket_of count (key end) ≡ bucket → ⊥) → IsLast count key bucket (end + 1) up
last_other count key bucket end up is other = record {
  within = omega (arith, is.within);
  inside = is.inside;
  none = λ k h low.
      below_more (λ j. up ≤ j → bucket_of count (key j) ≡ bucket → ⊥) end
      (λ j less more e. is.none j more less e)
      (λ more e. other e)
      k low h;
}

-- one more key of this bucket
pub last_here : (count : ℕ) (key : ℕ → ℕ) (bucket end : ℕ) → bucket_of count (key end) ≡ bucket → IsLast count key bucket (end + 1) (end + 1)
last_here count key bucket end here =
    let B : ℕ → Type 0 = λ j. bucket_of count (key j) ≡ bucket in
    record {
      within = omega arith;
      inside = λ k h. let e : end ≡ k = omega arith in subst B e here;
      none = λ k h low. absurd (omega arith);
    }

-- an index with one more key
pub index_more : (key : ℕ → ℕ) (heads links : List ℕ) (end bucket : ℕ) → IsIndex key heads links end → bucket ≡ bucket_of (length heads) (key end) → bucket < length heads → IsIndex key (slice_set heads bucket (end + 1)) (links ++ slice_index_or heads bucket 0 ∷ []) (end + 1)
index_more key heads links end bucket is here there =
    let heads' : List ℕ = slice_set heads bucket (end + 1) in
    let links' : List ℕ = links ++ slice_index_or heads bucket 0 ∷ [] in
    let count : length heads' ≡ length heads = length-set heads bucket (end + 1) in
    let long : length links' ≡ length links + 1 = length-append links (slice_index_or heads bucket 0 ∷ []) in
    let seam : slice_index_or links' end 0 ≡ slice_index_or heads bucket 0 = get_or_push links (slice_index_or heads bucket 0) 0 end is.long in
    let H : ℕ → Type 0 = λ n. (b : ℕ) → b < n → IsLast n key b (end + 1) (slice_index_or heads' b 0) in
    let L : ℕ → Type 0 = λ n. (k : ℕ) → k < end + 1 → IsLast n key (bucket_of n (key k)) k (slice_index_or links' k 0) in
    let head : H (length heads) = λ b h. elim (same_or_not b bucket) [
      | inl same ↦
          let U : ℕ → Type 0 = λ up. IsLast (length heads) key bucket (end + 1) up in
          let B : ℕ → Type 0 = λ c. IsLast (length heads) key c (end + 1) (slice_index_or heads' c 0) in
          subst B (sym same) (subst U (sym (get_or-set_same heads bucket (end + 1) 0 there)) (last_here (length heads) key bucket end (sym here)))
      | inr other ↦
          let U : ℕ → Type 0 = λ up. IsLast (length heads) key b (end + 1) up in
          let differs : bucket_of (length heads) (key end) ≡ b → ⊥ = λ e. other (sym (here ∙ e)) in
          subst U (sym (get_or-set_other heads bucket b (end + 1) 0 other)) (last_other (length heads) key b end (slice_index_or heads b 0) (is.head b h) differs)
    ]
    in
    let link : L (length heads) = below_more (λ k. IsLast (length heads) key (bucket_of (length heads) (key k)) k (slice_index_or links' k 0)) end
    (λ k h.
    let less : k < length links = omega (arith, is.long) in
    let U : ℕ → Type 0 = λ up. IsLast (length heads) key (bucket_of (length heads) (key k)) k up in
    subst U (sym (get_or_append_left links (slice_index_or heads bucket 0 ∷ []) 0 k less)) (is.link k h))
    (let U : ℕ → Type 0 = λ up. IsLast (length heads) key (bucket_of (length heads) (key end)) end up in
    let B : ℕ → Type 0 = λ b. IsLast (length heads) key b end (slice_index_or heads bucket 0) in
    subst U (sym seam) (subst B here (is.head bucket there)))
    in
    record {
      some = omega (arith, count, is.some);
      long = omega (arith, long, is.long);
      head = subst H (sym count) head;
      link = subst L (sym count) link;
    }

-- what is written into an index for one key more
pub add_is : (heads links new : List ℕ) (count bucket place before : ℕ) (last : ℕ) → count ≡ length heads → bucket ≡ bucket_of count last → bucket < count → before ≡ slice_index_or heads bucket before → place ≡ length links → new ≡ links ++ before ∷ [] → IsAdded last heads links (slice_set heads bucket (place + 1)) new
add_is heads links new count bucket place before last counted here there read long pushed = λ key end is same.
    let B : ℕ → Type 0 = λ n. bucket ≡ bucket_of n last in
    let there2 : bucket < length heads = omega arith in
    let b : before ≡ slice_index_or heads bucket 0 = get_or_read heads bucket before there2 read 0 in
    let here2 : bucket ≡ bucket_of (length heads) (key end) = subst B counted here ∙ ap (bucket_of (length heads)) (sym same) in
    let P : ℕ → Type 0 = λ p. IsIndex key (slice_set heads bucket (p + 1)) (links ++ slice_index_or heads bucket 0 ∷ []) (end + 1) in
    let Q : ℕ → Type 0 = λ x. IsIndex key (slice_set heads bucket (place + 1)) (links ++ x ∷ []) (end + 1) in
    let R : List ℕ → Type 0 = λ xs. IsIndex key (slice_set heads bucket (place + 1)) xs (end + 1) in
    let at : end ≡ place = omega (arith, is.long, long) in
    subst R (sym pushed) (subst Q (sym b) (subst P at (index_more key heads links end bucket is here2 there2)))

pub sought_first : (key : ℕ → ℕ) (heads links : List ℕ) (wanted bucket end : ℕ) (is : ℕ → Type 0) → ((k : ℕ) → k < end → is k → key k ≡ wanted) → IsIndex key heads links end → bucket ≡ bucket_of (length heads) wanted → bucket < length heads → IsSought (length heads) key wanted end is (slice_index_or heads bucket 0)
sought_first key heads links wanted bucket end is by index here there =
    let h : IsLast (length heads) key bucket end (slice_index_or heads bucket 0) = index.head bucket there in
    record {
      within = h.within;
      inside = λ k e. h.inside k e ∙ here;
      none = λ k more less so. h.none k more less (ap (bucket_of (length heads)) (by k less so) ∙ sym here);
    }

pub sought_next : (key : ℕ → ℕ) (heads links : List ℕ) (wanted at end : ℕ) (is : ℕ → Type 0) → ((k : ℕ) → k < end → is k → key k ≡ wanted) → IsIndex key heads links end → at < end → IsSought (length heads) key wanted end is (at + 1) → (is at → ⊥) → IsSought (length heads) key wanted end is (slice_index_or links at 0)
sought_next key heads links wanted at end is by index there was differs =
    let up : ℕ = slice_index_or links at 0 in
    let l : IsLast (length heads) key (bucket_of (length heads) (key at)) at up = index.link at there in
    let in_it : bucket_of (length heads) (key at) ≡ bucket_of (length heads) wanted = was.inside at refl in
    let low : (k : ℕ) → up ≤ k → k < at → is k → ⊥ = λ k more less so.
    let inside : k < end = omega arith in
    l.none k more less (ap (bucket_of (length heads)) (by k inside so) ∙ sym in_it)
    in
    let here : (k : ℕ) → up ≤ k → k < at + 1 → is k → ⊥ = λ k more less.
    below_more (λ j. up ≤ j → is j → ⊥) at (λ j h m. low j m h) (λ m. differs) k less more
    in
    record {
      within = omega (arith, l.within);
      inside = λ k e. l.inside k e ∙ in_it;
      none = λ k more less. elim (under_or_over k (at + 1)) [ inl h ↦ here k more h | inr h ↦ was.none k h less ];
    }

-- an index of no keys, with empty buckets
pub begin_index : (key : ℕ → ℕ) (heads links : List ℕ) (count : ℕ) → heads ≡ replicate count 0 → links ≡ [] → 0 < count → IsIndex key heads links 0
begin_index key heads links count none empty some =
    let zeros : List ℕ = replicate count 0 in
    let L : List ℕ → Type 0 = λ ls. IsIndex key heads ls 0 in
    let H : List ℕ → Type 0 = λ hs. IsIndex key hs [] 0 in
    let long : length zeros ≡ count = length-replicate {A = ℕ} count 0 in
    let at : (b : ℕ) → IsLast (length zeros) key b 0 0 = λ b. record { within = omega arith; inside = λ k e. absurd (omega arith); none = λ k m l. absurd (omega arith) } in
    subst L (sym empty) (subst H (sym none) (record {
      some = omega (arith, long, some);
      long = refl;
      head = λ b h.
          let low : b < count = omega (arith, h, long) in
          let U : ℕ → Type 0 = λ up. IsLast (length zeros) key b 0 up in
          subst U (sym (get_or-replicate {A = ℕ} count b 0 0 low)) (at b);
      link = λ k h. absurd (omega arith);
    }))
