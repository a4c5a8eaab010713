-- Written sections in order are one list, and in order what the processors of a run name is what the run has written (own).
use Rattle.std.proofs.Common.{◌≡◌, ◌⊎◌, inl, inr, ℕ, ◌<◌, ◌≤◌, ◌==◌, Bool, true, false, cond, List, [], ◌∷◌, ◌++◌, length, All, filter, flat_map, map, refl, ap, sym, ◌∙◌, subst, arith, IsPermutation, Ordering, Less, Equal, Greater, is_lt}
use Rattle.std.specs.List.{range_with_len}
use Rattle.std.specs.List.Sorted.{IsSortedBy}
use Rattle.std.specs.Ordering.{nat_cmp, ordering_then}
use Rattle.std.proofs.lemmas.Cmp.{ranked}
use Rattle.std.proofs.lemmas.List.Elements.{All-cons, All-head, All-tail, All-weaker}
use Rattle.std.proofs.lemmas.List.Sorted.{IsPermutation-sym, IsPermutation-trans, All-permutation, length_permutation}
use Rattle.lwkt_base.specs.declared.sections.Section.{Section}
use Rattle.lwkt_core.specs.declared.events.Event.{Event}
use Rattle.lwkt_table.specs.declared.seats.Deed.{Deed}
use Rattle.lwkt_core.specs.Machine.{Machine}
use Rattle.lwkt_core.specs.Trace.{Run}
use Rattle.lwkt_core.specs.Headline.{sections_of}
use Rattle.lwkt_table.specs.History.{events_in, AreOthers}
use Rattle.lwkt_core.specs.SectionChain.{sections_at, AreSectionChains, Precedes, AreInOrder}
use Rattle.lwkt_core.specs.RunSections.{of_token, rows_of, section_in, sections_in, sections_named}
use Rattle.lwkt_table.specs.Sections.{sections_by}
use Rattle.lwkt_table.proofs.PartLemmas.{permutation_same, permutation-filter, flat_map-parted}
use Rattle.lwkt_core.proofs.RunChainLemmas.{IsSettled, settled_chains, length-rows}
use Rattle.lwkt_core.proofs.NamingLemmas.{naming, named_chains}
use Rattle.lwkt_table.proofs.SectionParts.{chains_in_any_order, deeds_below, parts_are_all, parts_chains, is_before, sorted_in_order}

-- a section that is before another one is so by the test, and none is before itself
less_than : (a b : ℕ) (p : Ordering) → (a < b) ⊎ ((a ≡ b) × (is_lt p ≡ true)) → is_lt (ordering_then (nat_cmp a b) p) ≡ true
less_than a b p why = go (nat_cmp a b) refl why
  where
    go : (o : Ordering) → o ≡ nat_cmp a b → (a < b) ⊎ ((a ≡ b) × (is_lt p ≡ true)) → is_lt (ordering_then o p) ≡ true
    go Less is so = refl
    go Equal is (inl low) = let same = ranked a b Equal is in absurd (omega arith)
    go Equal is (inr so) = so.1
    go Greater is (inl low) = let above = ranked a b Greater is in absurd (omega arith)
    go Greater is (inr so) = let above = ranked a b Greater is in let same = so.0 in absurd (omega arith)

less_alone : (a b : ℕ) → a < b → is_lt (nat_cmp a b) ≡ true
less_alone a b low = go (nat_cmp a b) refl
  where
    go : (o : Ordering) → o ≡ nat_cmp a b → is_lt o ≡ true
    go Less is = refl
    go Equal is = let same = ranked a b Equal is in absurd (omega arith)
    go Greater is = let above = ranked a b Greater is in absurd (omega arith)

before_is : (a b : Section) → Precedes a b → is_before a b ≡ true
before_is a b (inl earlier) = less_than a.tok.0 b.tok.0 (nat_cmp a.generation b.generation) (inl earlier)
before_is a b (inr same) = less_than a.tok.0 b.tok.0 (nat_cmp a.generation b.generation) (inr (same.0, less_alone a.generation b.generation same.1))

before_itself : (n k : ℕ) → is_lt (ordering_then (nat_cmp n n) (nat_cmp k k)) ≡ false
before_itself n k = go (nat_cmp n n) (nat_cmp k k) refl refl
  where
    go : (o p : Ordering) → o ≡ nat_cmp n n → p ≡ nat_cmp k k → is_lt (ordering_then o p) ≡ false
    go Less p is also = let low = ranked n n Less is in absurd (omega arith)
    go Equal Less is also = let low = ranked k k Less also in absurd (omega arith)
    go Equal Equal is also = refl
    go Equal Greater is also = refl
    go Greater p is also = refl

-- what is behind the first of a list in order
behind : (s : Section) (sections : List Section) → All (Precedes s) sections → filter (is_before s) sections ≡ sections
behind s [] all = refl
behind s (x ∷ sections) all =
    ap (λ (b : Bool). cond b (x ∷ filter (is_before s) sections) (filter (is_before s) sections)) (before_is s x (All-head (Precedes s) x sections all))
    ∙ ap (λ (xs : List Section). x ∷ xs) (behind s sections (All-tail (Precedes s) x sections all))

behind_first : (s : Section) (sections : List Section) → All (Precedes s) sections → filter (is_before s) (s ∷ sections) ≡ sections
behind_first s sections all =
    ap (λ (b : Bool). cond b (s ∷ filter (is_before s) sections) (filter (is_before s) sections)) (before_itself s.tok.0 s.generation) ∙ behind s sections all

-- the first of a list in order is it or before it
abbrev IsFirst : Section → Section → Type 0
IsFirst s x = (x ≡ s) ⊎ Precedes s x

all_behind : (s : Section) (sections : List Section) → All (Precedes s) sections → All (IsFirst s) (s ∷ sections)
all_behind s sections all = All-cons (IsFirst s) s sections (inl refl) (All-weaker (Precedes s) (IsFirst s) (λ x later. inr later) sections all)

not_both : (s x : Section) → Precedes s x → Precedes x s → ⊥
not_both s x (inl a) (inl b) = absurd (omega arith)
not_both s x (inl a) (inr b) = let e = b.0 in absurd (omega arith)
not_both s x (inr a) (inl b) = let e = a.0 in absurd (omega arith)
not_both s x (inr a) (inr b) = let u = a.1 in let v = b.1 in absurd (omega arith)

-- two lists in order with the same sections are the same
pub order_is_one : (xs ys : List Section) → AreInOrder xs → AreInOrder ys → IsPermutation xs ys → ys ≡ xs
order_is_one [] [] one two same = refl
order_is_one [] (y ∷ ys) one two same = let long = length_permutation [] (y ∷ ys) same in absurd (omega arith)
order_is_one (x ∷ xs) [] one two same = let long = length_permutation (x ∷ xs) [] same in absurd (omega arith)
order_is_one (x ∷ xs) (y ∷ ys) one two same =
    let there : IsFirst x y = All-head (IsFirst x) y ys (All-permutation (IsFirst x) (x ∷ xs) (y ∷ ys) same (all_behind x xs one.0)) in
    let back : IsFirst y x = All-head (IsFirst y) x xs (All-permutation (IsFirst y) (y ∷ ys) (x ∷ xs) (IsPermutation-sym (x ∷ xs) (y ∷ ys) same) (all_behind y ys two.0)) in
    let head : y ≡ x = elim there [
      | inl is ↦ is
      | inr later ↦ elim back [
        | inl is ↦ sym is
        | inr earlier ↦ absurd (not_both x y later earlier)
      ]
    ] in
    let kept : IsPermutation (filter (is_before x) (x ∷ xs)) (filter (is_before x) (y ∷ ys)) = permutation-filter (is_before x) (x ∷ xs) (y ∷ ys) same in
    let after_y : filter (is_before x) (y ∷ ys) ≡ ys = ap (λ (s : Section). filter (is_before s) (y ∷ ys)) (sym head) ∙ behind_first y ys two.0 in
    let rest : IsPermutation xs ys = subst (λ (l : List Section). IsPermutation l ys) (behind_first x xs one.0) (subst (λ (l : List Section). IsPermutation (filter (is_before x) (x ∷ xs)) l) after_y kept) in
    ap (λ (s : Section). s ∷ ys) head ∙ ap (λ (l : List Section). x ∷ l) (order_is_one xs ys one.1 two.1 rest)

-- the sections that a run's events name are its written ones
filter_each : (t : ℕ) (sections : List Section) → sections_at t sections ≡ flat_map (λ s. cond (s.tok.0 == t) (s ∷ []) []) sections
filter_each t [] = refl
filter_each t (s ∷ sections) =
    elim (s.tok.0 == t) as (λ b. cond b (s ∷ sections_at t sections) (sections_at t sections) ≡ cond b (s ∷ []) [] ++ flat_map (λ x. cond (x.tok.0 == t) (x ∷ []) []) sections)
    [ true ↦ ap (λ l. s ∷ l) (filter_each t sections) | false ↦ filter_each t sections ]

one_by_one : (sections : List Section) → flat_map (λ s. s ∷ []) sections ≡ sections
one_by_one [] = refl
one_by_one (s ∷ sections) = ap (λ l. s ∷ l) (one_by_one sections)

pub named_are_written : (m : Machine) (events : List Event) (n : Machine) → Run m events n → All IsSettled m.tokens → All IsSettled n.tokens → IsPermutation (sections_named events) (sections_in m events)
named_are_written m events n run opened closed =
    let named = sections_named events in
    let long = length-rows m.tokens in
    let there : All (λ (s : Section). s.tok.0 < length m.tokens) named = subst (λ (count : ℕ). All (λ (s : Section). s.tok.0 < count) named) long (named_chains m events n run opened closed).known in
    let parted = flat_map-parted (λ (s : Section). s.tok.0) (λ (s : Section). s ∷ []) (length m.tokens) named there in
    let each : (t : ℕ) → flat_map (λ s. cond (s.tok.0 == t) (s ∷ []) []) named ≡ map (of_token t) (sections_of t m events) = λ t. sym (filter_each t named) ∙ naming m events n run t in
    IsPermutation-trans _ _ _ (permutation_same _ _ (sym (one_by_one named)))
    (IsPermutation-trans _ _ _ parted (permutation_same _ _ (λ i. flat_map (λ t. each t i) (range_with_len 0 (length m.tokens)))))

-- so in order they are the written sections of the run
pub in_order_as_written : (m : Machine) (history : List Deed) (n : Machine) (cpus : ℕ) (sections : List Section) → Run m (events_in history) n → All IsSettled m.tokens → All IsSettled n.tokens → ((cpu : ℕ) → cpus ≤ cpu → AreOthers cpu history)
    → IsPermutation (sections_by cpus history) sections → IsSortedBy is_before sections → sections ≡ sections_in m (events_in history)
in_order_as_written m history n cpus sections run opened closed others same sorted =
    let events = events_in history in
    let all : IsPermutation (sections_named events) (sections_by cpus history) = parts_are_all section_in cpus history (deeds_below cpus history others) in
    let chains : AreSectionChains (rows_of m) (rows_of n) sections = chains_in_any_order (rows_of m) (rows_of n) (sections_by cpus history) sections same (parts_chains m history n cpus run opened closed others) in
    let whole : IsPermutation (sections_in m events) sections = IsPermutation-trans _ _ _ (IsPermutation-sym _ _ (named_are_written m events n run opened closed)) (IsPermutation-trans _ _ _ all same) in
    order_is_one (sections_in m events) sections (settled_chains m events n run opened closed).0 (sorted_in_order (rows_of m) (rows_of n) sections sorted chains) whole
