-- Written sections in another order, put together from the parts of a history, and put in order (own).
use Rattle.std.proofs.Common.{◌≡◌, ◌≢◌, ◌⊎◌, inl, inr, ⊎_elim, ℕ, suc, ◌+◌, ◌<◌, ◌≤◌, ◌==◌, Bool, true, false, cond, List, [], ◌∷◌, ◌++◌, length, get_or, All, count_by, flat_map, refl, ap, sym, ◌∙◌, subst, arith, IsPermutation, Ordering, Less, Equal, Greater, is_lt, true≢false}
use Rattle.std.specs.List.{range_with_len}
use Rattle.std.specs.List.Sorted.{IsSortedBy}
use Rattle.std.specs.Ordering.{nat_cmp, ordering_then}
use Rattle.std.proofs.lemmas.Bool.{cases_eq, cases_order}
use Rattle.std.proofs.lemmas.Cmp.{ranked}
use Rattle.std.proofs.lemmas.List.Concat.{flat_map-append}
use Rattle.std.proofs.lemmas.List.Elements.{All-nil, All-cons, All-weaker}
use Rattle.std.proofs.lemmas.Map.Keys.{ge_from_not_lt}
use Rattle.std.proofs.lemmas.List.Sorted.{IsPermutation-trans, All-permutation, sum_by-IsPermutation}
use Rattle.lwkt_base.specs.declared.sections.Section.{Section}
use Rattle.lwkt_core.specs.declared.events.Event.{Event}
use Rattle.lwkt_table.specs.declared.seats.Deed.{Deed}
use Rattle.lwkt_table.specs.History.{part_by, events_by, events_in, AreOthers}
use Rattle.lwkt_core.specs.SectionChain.{RowsAt, row_at, generation_at, IsSectionChain, sections_at, AreSectionChains, Precedes, AreInOrder}
use Rattle.lwkt_core.proofs.ChainLemmas.{is_of, count-yes, count-no, count-none, sections_at-own, sections_at-other, sections_at-none}
use Rattle.lwkt_core.specs.RunSections.{rows_of, section_in}
use Rattle.lwkt_table.specs.Sections.{sections_by, PartsNameChains}
use Rattle.lwkt_core.specs.Machine.{Machine}
use Rattle.lwkt_core.specs.Trace.{Run}
use Rattle.lwkt_core.proofs.RunChainLemmas.{IsSettled, open_settled}
use Rattle.lwkt_core.proofs.SafetyLemmas.{stays}
use Rattle.lwkt_core.proofs.NamingLemmas.{named_chains}
use Rattle.lwkt_table.proofs.PartLemmas.{permutation_same, permutation-filter, flat_map-parted}

-- a token's chain, with its sections in another order
module _ (opening : List ℕ) (first : ℕ) (closing : List ℕ) (last : ℕ) where
  abbrev Within : Section → Type 0
  Within s = (first ≤ s.generation) × (s.generation < last)

  abbrev Begins : Section → Type 0
  Begins s = s.generation ≡ first → s.before ≡ opening

  abbrev Ends : Section → Type 0
  Ends s = s.generation + 1 ≡ last → s.after ≡ closing

  abbrev IsNext : Section → Section → Type 0
  IsNext s next = next.generation ≡ s.generation + 1 → next.before ≡ s.after

  abbrev GoesInto : List Section → Section → Type 0
  GoesInto sections s = All (IsNext s) sections

  pub chain_in_any_order : (xs ys : List Section) → IsPermutation xs ys → IsSectionChain opening first closing last xs → IsSectionChain opening first closing last ys
  chain_in_any_order xs ys same chain = record {
    rises = chain.rises;
    one_each = λ g low high. sum_by-IsPermutation (λ (s : Section). cond (is_of g s) 1 0) xs ys same ∙ chain.one_each g low high;
    no_other = All-permutation Within xs ys same chain.no_other;
    begins = All-permutation Begins xs ys same chain.begins;
    goes_on = All-permutation (GoesInto ys) xs ys same (All-weaker (GoesInto xs) (GoesInto ys) (λ s into. All-permutation (IsNext s) xs ys same into) xs chain.goes_on);
    ends = All-permutation Ends xs ys same chain.ends;
    stands = chain.stands;
  }

-- chains of all tokens, with their sections in another order
pub chains_in_any_order : (first last : RowsAt) (xs ys : List Section) → IsPermutation xs ys → AreSectionChains first last xs → AreSectionChains first last ys
chains_in_any_order first last xs ys same chains = record {
  known = All-permutation (λ (s : Section). s.tok.0 < length first) xs ys same chains.known;
  chains = λ t low. chain_in_any_order (row_at first t) (generation_at first t) (row_at last t) (generation_at last t) (sections_at t xs) (sections_at t ys) (permutation-filter (λ (s : Section). s.tok.0 == t) xs ys same) (chains.chains t low);
}

-- what is made of each event of a processor's part is made of each of its deeds
of_part : {A : Type 0} (cpu : ℕ) (f : Event → List A) (deeds : List Deed) → flat_map f (events_by cpu deeds) ≡ part_by cpu (λ d. flat_map f d.events) deeds
of_part cpu f [] = refl
of_part {A} cpu f (d ∷ deeds) =
    flat_map-append f (cond (d.cpu.0 == cpu) d.events []) (events_by cpu deeds)
    ∙ ap (λ l. flat_map f (cond (d.cpu.0 == cpu) d.events []) ++ l) (of_part cpu f deeds)
    ∙ ap (λ l. l ++ part_by cpu (λ x. flat_map f x.events) deeds) (within (d.cpu.0 == cpu))
  where
    within : (b : Bool) → flat_map f (cond b d.events []) ≡ cond b (flat_map f d.events) []
    within true = refl
    within false = refl

of_all : {A : Type 0} (f : Event → List A) (deeds : List Deed) → flat_map f (events_in deeds) ≡ flat_map (λ d. flat_map f d.events) deeds
of_all f [] = refl
of_all f (d ∷ deeds) = flat_map-append f d.events (events_in deeds) ∙ ap (λ l. flat_map f d.events ++ l) (of_all f deeds)

-- a number is below another one or not
below_or : (n k : ℕ) → (n < k) ⊎ (k ≤ n)
below_or n k = elim (cases_order n k) [
  | inl same ↦ inr (omega arith)
  | inr differ ↦ elim differ [
    | inl below ↦ inl below
    | inr above ↦ inr (omega arith)
  ]
]

-- where no processor from a number on has a deed, each deed is of one below it
pub deeds_below : (cpus : ℕ) (deeds : List Deed) → ((cpu : ℕ) → cpus ≤ cpu → AreOthers cpu deeds) → All (λ d. d.cpu.0 < cpus) deeds
deeds_below cpus deeds others k d low = ⊎_elim
    (λ (below : (get_or deeds k d).cpu.0 < cpus). below)
    (λ (above : cpus ≤ (get_or deeds k d).cpu.0). absurd (others (get_or deeds k d).cpu.0 above k d low refl))
    (below_or (get_or deeds k d).cpu.0 cpus)

-- what is made of the events of a history, and of the events of one processor after another, are permutations
pub parts_are_all : {A : Type 0} (f : Event → List A) (cpus : ℕ) (history : List Deed) → All (λ d. d.cpu.0 < cpus) history
    → IsPermutation (flat_map f (events_in history)) (flat_map (λ cpu. flat_map f (events_by cpu history)) (range_with_len 0 cpus))
parts_are_all {A} f cpus history low =
    IsPermutation-trans _ _ _ (permutation_same _ _ (of_all f history))
    (IsPermutation-trans _ _ _ (flat_map-parted (λ (d : Deed). d.cpu.0) (λ d. flat_map f d.events) cpus history low)
    (permutation_same _ _ (sym (λ i. flat_map (λ cpu. of_part cpu f history i) (range_with_len 0 cpus)))))

-- so where the sections that a history's events name are chains, those of one processor after another are
pub parts_are_chains : (first last : RowsAt) (f : Event → List Section) (cpus : ℕ) (history : List Deed) → All (λ d. d.cpu.0 < cpus) history → AreSectionChains first last (flat_map f (events_in history))
    → AreSectionChains first last (flat_map (λ cpu. flat_map f (events_by cpu history)) (range_with_len 0 cpus))
parts_are_chains first last f cpus history low chains = chains_in_any_order first last (flat_map f (events_in history)) (flat_map (λ cpu. flat_map f (events_by cpu history)) (range_with_len 0 cpus)) (parts_are_all f cpus history low) chains

-- whether a section is before another one by token and then by generation, as a sort by these asks
abbrev pub is_before : Section → Section → Bool
is_before a b = is_lt (ordering_then (nat_cmp a.tok.0 b.tok.0) (nat_cmp a.generation b.generation))

-- a section is of an earlier token than another one, or of the same token and no later generation
abbrev AtMost : Section → Section → Type 0
AtMost a b = (a.tok.0 < b.tok.0) ⊎ ((a.tok.0 ≡ b.tok.0) × (a.generation ≤ b.generation))

at_most_trans : (a b c : Section) → AtMost a b → AtMost b c → AtMost a c
at_most_trans a b c (inl x) (inl y) = inl (omega arith)
at_most_trans a b c (inl x) (inr y) = inl (let e = y.0 in omega arith)
at_most_trans a b c (inr x) (inl y) = inl (let e = x.0 in omega arith)
at_most_trans a b c (inr x) (inr y) = inr (x.0 ∙ y.0, (let u = x.1 in let v = y.1 in omega arith))

not_before : (a b : Section) → is_before b a ≡ false → AtMost a b
not_before a b sorted = go (nat_cmp b.tok.0 a.tok.0) refl sorted
  where
    go : (o : Ordering) → o ≡ nat_cmp b.tok.0 a.tok.0 → is_lt (ordering_then o (nat_cmp b.generation a.generation)) ≡ false → AtMost a b
    go Less is more = absurd (true≢false more)
    go Equal is more = inr (sym (ranked b.tok.0 a.tok.0 Equal is), ge_from_not_lt b.generation a.generation more)
    go Greater is more = inl (ranked b.tok.0 a.tok.0 Greater is)

-- a sorted list rises
abbrev Rises : List Section → Type 0
Rises [] = Unit {0}
Rises (s ∷ sections) = All (AtMost s) sections × Rises sections

sorted_tail : (s : Section) (sections : List Section) → IsSortedBy is_before (s ∷ sections) → IsSortedBy is_before sections
sorted_tail s sections sorted k d low high =
    let at : suc k + 1 ≡ suc (k + 1) = omega arith in
    let F : ℕ → Type 0 = λ j. is_before (get_or (s ∷ sections) j d) (get_or sections k d) ≡ false in
    subst F at (sorted (suc k) d (omega arith) (omega arith))

sorted_rises : (sections : List Section) → IsSortedBy is_before sections → Rises sections
sorted_rises [] sorted = tt
sorted_rises (s ∷ []) sorted = (All-nil (AtMost s), tt)
sorted_rises (s ∷ x ∷ sections) sorted =
    let rest = sorted_rises (x ∷ sections) (sorted_tail s (x ∷ sections) sorted) in
    let step : AtMost s x = not_before s x (sorted 0 s (omega arith) (omega arith)) in
    (All-cons (AtMost s) x sections step (All-weaker (AtMost x) (AtMost s) (λ y far. at_most_trans s x y step far) sections rest.0), rest)

-- no token has two sections of one generation
abbrev HasEachOnce : List Section → Type 0
HasEachOnce sections = (t g : ℕ) → count_by (is_of g) (sections_at t sections) ≤ 1

count_more : (g : ℕ) (s : Section) (sections : List Section) → count_by (is_of g) sections ≤ count_by (is_of g) (s ∷ sections)
count_more g s sections = ⊎_elim
    (λ (same : s.generation ≡ g). let e = count-yes g s sections same in omega arith)
    (λ (differ : s.generation ≢ g). let e = count-no g s sections differ in omega arith)
    (cases_eq s.generation g)

count_rest : (t g : ℕ) (s : Section) (sections : List Section) → count_by (is_of g) (sections_at t sections) ≤ count_by (is_of g) (sections_at t (s ∷ sections))
count_rest t g s sections = ⊎_elim
    (λ (own : s.tok.0 ≡ t).
    let more = count_more g s (sections_at t sections) in
    let e = ap (λ (xs : List Section). count_by (is_of g) xs) (sections_at-own t s sections own) in
    omega arith)
    (λ (other : s.tok.0 ≢ t).
    let e = ap (λ (xs : List Section). count_by (is_of g) xs) (sections_at-other t s sections other) in
    omega arith)
    (cases_eq s.tok.0 t)

-- a token that has no section of a generation
none_at : (t g : ℕ) (sections : List Section) → count_by (is_of g) (sections_at t sections) ≤ 0 → All (λ x. x.tok.0 ≡ t → x.generation ≢ g) sections
none_at t g [] none = All-nil (λ (x : Section). x.tok.0 ≡ t → x.generation ≢ g)
none_at t g (s ∷ sections) none =
    let fewer = count_rest t g s sections in
    All-cons (λ (x : Section). x.tok.0 ≡ t → x.generation ≢ g) s sections
    (λ own is.
    let e = ap (λ (xs : List Section). count_by (is_of g) xs) (sections_at-own t s sections own) in
    let one = count-yes g s (sections_at t sections) is in
    absurd (omega arith))
    (none_at t g sections (omega arith))

-- a list that rises, in which no token has two sections of one generation, is in order
rises_in_order : (sections : List Section) → Rises sections → HasEachOnce sections → AreInOrder sections
rises_in_order [] rises once = tt
rises_in_order (s ∷ sections) rises once =
    let own_count = ap (λ (xs : List Section). count_by (is_of s.generation) xs) (sections_at-own s.tok.0 s sections refl) in
    let one = count-yes s.generation s (sections_at s.tok.0 sections) refl in
    let most = once s.tok.0 s.generation in
    let apart = none_at s.tok.0 s.generation sections (omega arith) in (
      λ k d low. strict (get_or sections k d) (rises.0 k d low) (apart k d low),
      rises_in_order sections rises.1 (λ t g. (let fewer = count_rest t g s sections in let all = once t g in omega arith)),
    )
  where
    strict : (x : Section) → AtMost s x → (x.tok.0 ≡ s.tok.0 → x.generation ≢ s.generation) → Precedes s x
    strict x (inl earlier) apart = inl earlier
    strict x (inr same) apart =
        let differ = apart (sym same.0) in
        let up = same.1 in
        inr (
          same.0,
          elim (cases_order s.generation x.generation) [
            | inl equal ↦ absurd (differ (sym equal))
            | inr other ↦ elim other [
              | inl below ↦ below
              | inr above ↦ absurd (omega arith)
            ]
          ],
        )

-- chains have each of their sections once
chains_once : (first last : RowsAt) (sections : List Section) → AreSectionChains first last sections → HasEachOnce sections
chains_once first last sections chains t g = elim (cases_order t (length first)) [
  | inl same ↦ outside (omega arith)
  | inr differ ↦ elim differ [
    | inl below ↦ inside below
    | inr above ↦ outside (omega arith)
  ]
]
  where
    outside : length first ≤ t → count_by (is_of g) (sections_at t sections) ≤ 1
    outside past =
        let none : sections_at t sections ≡ [] = sections_at-none t sections (All-weaker (λ (s : Section). s.tok.0 < length first) (λ (s : Section). s.tok.0 ≢ t) (λ s low e. absurd (omega arith)) sections chains.known) in
        let e = ap (λ (xs : List Section). count_by (is_of g) xs) none in
        omega arith

    inside : t < length first → count_by (is_of g) (sections_at t sections) ≤ 1
    inside low = ⊎_elim
        (λ (early : g < generation_at first t).
        let none = count-none g (sections_at t sections) (All-weaker (λ (s : Section). (generation_at first t ≤ s.generation) × (s.generation < generation_at last t)) (λ (s : Section). s.generation ≢ g) (λ s w e. (let a = w.0 in absurd (omega arith))) (sections_at t sections) (chains.chains t low).no_other) in
        omega arith)
        (λ (on : generation_at first t ≤ g). ⊎_elim
        (λ (within : g < generation_at last t). let one = (chains.chains t low).one_each g on within in omega arith)
        (λ (past : generation_at last t ≤ g).
        let none = count-none g (sections_at t sections) (All-weaker (λ (s : Section). (generation_at first t ≤ s.generation) × (s.generation < generation_at last t)) (λ (s : Section). s.generation ≢ g) (λ s w e. (let b = w.1 in absurd (omega arith))) (sections_at t sections) (chains.chains t low).no_other) in
        omega arith)
        (below_or g (generation_at last t)))
        (below_or g (generation_at first t))

-- chains that are sorted by token and then by generation are in order
pub sorted_in_order : (first last : RowsAt) (sections : List Section) → IsSortedBy is_before sections → AreSectionChains first last sections → AreInOrder sections
sorted_in_order first last sections sorted chains = rises_in_order sections (sorted_rises sections sorted) (chains_once first last sections chains)

-- of a run, the sections that its processors name, one processor's after another's, are chains
pub parts_chains : (m : Machine) (history : List Deed) (n : Machine) (cpus : ℕ) → Run m (events_in history) n → All IsSettled m.tokens → All IsSettled n.tokens → ((cpu : ℕ) → cpus ≤ cpu → AreOthers cpu history) → AreSectionChains (rows_of m) (rows_of n) (sections_by cpus history)
parts_chains m history n cpus run opened closed others = parts_are_chains (rows_of m) (rows_of n) section_in cpus history (deeds_below cpus history others) (named_chains m (events_in history) n run opened closed)

pub parts_name : PartsNameChains
parts_name m history n cpus safe run opened closed others = parts_chains m history n cpus run (open_settled m safe opened) (open_settled n (stays m (events_in history) n safe run) closed) others
