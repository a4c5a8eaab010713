use Rattle.std.proofs.Common.{◌≡◌, ◌≢◌, ◌⊎◌, inl, inr, ⊎_elim, ℕ, zero, suc, ◌+◌, ◌<◌, ◌≤◌, ◌==◌, Bool, cond, List, [], ◌∷◌, ◌++◌, length, set, get_or, take, All, count_by, refl, ap, sym, ◌∙◌, subst, arith, Option, Some, None, eq-eqb, ne_eqb, get_or-set_same, get_or-set_other}
use Rattle.std.specs.Prelude.{slice_get, MatchOption, IfSome}
use Rattle.std.proofs.lemmas.Bool.{cases_eq, cases_order}
use Rattle.std.proofs.lemmas.List.{take_more, take-take, take_all, length-take-le, length-set, get_or-take, get_or_default}
use Rattle.std.proofs.lemmas.List.Elements.{All-nil, All-cons, All-head, All-tail, All-weaker}
use Rattle.std.proofs.lemmas.List.Sums.{sum_by-cons}
use Rattle.std.proofs.lemmas.Option.{slice_get-get_or, slice_get_past}
use Rattle.lwkt_base.specs.declared.sections.Section.{Section}
use Rattle.lwkt_core.specs.SectionChain.{RowsAt, row_at, generation_at, IsSectionChain, sections_at, AreSectionChains, Precedes, AreInOrder, rows_after, rows_after_all, GoesOn, GoOn, SectionsFailAt, SectionFailureRefutes, SectionFailureIsOnly, IsUpTo}

-- whether a section is of a generation
abbrev pub is_of : ℕ → Section → Bool
is_of g s = s.generation == g

-- what is so of two things of each element
both : {X : Type 0} (P Q : X → Type 0) (xs : List X) → All P xs → All Q xs → All (λ x. P x × Q x) xs
both P Q xs p q = λ k d low. (p k d low, q k d low)

-- how many there are in a list with one more in front: by whether that one counts
pub count-yes : (g : ℕ) (s : Section) (sections : List Section) → s.generation ≡ g → count_by (is_of g) (s ∷ sections) ≡ 1 + count_by (is_of g) sections
count-yes g s sections is =
    sum_by-cons (λ (x : Section). cond (is_of g x) 1 0) s sections
    ∙ ap (λ (b : Bool). cond b 1 0 + count_by (is_of g) sections) (eq-eqb s.generation g is)

pub count-no : (g : ℕ) (s : Section) (sections : List Section) → s.generation ≢ g → count_by (is_of g) (s ∷ sections) ≡ count_by (is_of g) sections
count-no g s sections differ =
    let step = sum_by-cons (λ (x : Section). cond (is_of g x) 1 0) s sections in
    let none = ap (λ (b : Bool). cond b 1 0 + count_by (is_of g) sections) (ne_eqb s.generation g differ) in
    omega arith

pub count-none : (g : ℕ) (sections : List Section) → All (λ s. s.generation ≢ g) sections → count_by (is_of g) sections ≡ 0
count-none g [] none = refl
count-none g (s ∷ sections) none =
    count-no g s sections (All-head (λ (x : Section). x.generation ≢ g) s sections none)
    ∙ count-none g sections (All-tail (λ (x : Section). x.generation ≢ g) s sections none)

-- what the clauses of a chain say of each section
module _ (opening : List ℕ) (first : ℕ) (closing : List ℕ) (last : ℕ) where
  abbrev Within : Section → Type 0
  Within s = (first ≤ s.generation) × (s.generation < last)

  abbrev Begins : Section → Type 0
  Begins s = s.generation ≡ first → s.before ≡ opening

  abbrev Ends : Section → Type 0
  Ends s = s.generation + 1 ≡ last → s.after ≡ closing

abbrev IsNext : Section → Section → Type 0
IsNext s next = next.generation ≡ s.generation + 1 → next.before ≡ s.after

abbrev GoesInto : List Section → Section → Type 0
GoesInto sections s = All (IsNext s) sections

-- no sections are a chain from a row to itself
pub chain-nil : (row : List ℕ) (g : ℕ) → IsSectionChain row g row g []
chain-nil row g = record {
  rises = omega arith;
  one_each = λ k low high. absurd (omega arith);
  no_other = All-nil (Within row g row g);
  begins = All-nil (Begins row g row g);
  goes_on = All-nil (GoesInto []);
  ends = All-nil (Ends row g row g);
  stands = λ same. refl;
}

-- a section before the chain of the later ones makes a longer chain
module _ (s : Section) (closing : List ℕ) (last : ℕ) (sections : List Section) (below : s.generation < last) (rest : IsSectionChain s.after (s.generation + 1) closing last sections) where
  one_of : (g : ℕ) → s.generation ≤ g → g < last → count_by (is_of g) (s ∷ sections) ≡ 1
  one_of g low high = ⊎_elim
      (λ (same : s.generation ≡ g).
      let none = count-none g sections (All-weaker (Within s.after (s.generation + 1) closing last) (λ (x : Section). x.generation ≢ g) (λ x within e. absurd (omega arith)) sections rest.no_other) in
      let one = count-yes g s sections same in
      omega arith)
      (λ (differ : s.generation ≢ g). count-no g s sections differ ∙ rest.one_each g (omega arith) high)
      (cases_eq s.generation g)

  goes : All (GoesInto (s ∷ sections)) (s ∷ sections)
  goes = All-cons (GoesInto (s ∷ sections)) s sections
      (All-cons (IsNext s) s sections (λ e. absurd (omega arith)) rest.begins)
      (All-weaker (λ (x : Section). Within s.after (s.generation + 1) closing last x × GoesInto sections x) (GoesInto (s ∷ sections))
      (λ x is. All-cons (IsNext x) s sections (λ e. let w = is.0 in absurd (omega arith)) is.1)
      sections
      (both (Within s.after (s.generation + 1) closing last) (GoesInto sections) sections rest.no_other rest.goes_on))

  pub chain-cons : IsSectionChain s.before s.generation closing last (s ∷ sections)
  chain-cons = record {
    rises = omega arith;
    one_each = one_of;
    no_other = All-cons (Within s.before s.generation closing last) s sections (omega arith, below)
        (All-weaker (Within s.after (s.generation + 1) closing last) (Within s.before s.generation closing last) (λ x w. (omega (arith, w.0), w.1)) sections rest.no_other);
    begins = All-cons (Begins s.before s.generation closing last) s sections (λ e. refl)
        (All-weaker (Within s.after (s.generation + 1) closing last) (Begins s.before s.generation closing last) (λ x w e. absurd (omega arith)) sections rest.no_other);
    goes_on = goes;
    ends = All-cons (Ends s.before s.generation closing last) s sections (λ e. rest.stands e) rest.ends;
    stands = λ e. absurd (omega arith);
  }

-- of a chain whose other sections are of later generations than one of them, that one is the first, and the others go on from it
module _ (opening : List ℕ) (first : ℕ) (closing : List ℕ) (last : ℕ) (s : Section) (sections : List Section) (later : All (λ x. s.generation < x.generation) sections) (chain : IsSectionChain opening first closing last (s ∷ sections)) where
  within : (first ≤ s.generation) × (s.generation < last)
  within = All-head (Within opening first closing last) s sections chain.no_other

  pub chain-generation : s.generation ≡ first
  chain-generation = ⊎_elim
      (λ (same : s.generation ≡ first). same)
      (λ (differ : s.generation ≢ first).
      let low = within.0 in
      let high = within.1 in
      let after' : first < s.generation = omega arith in
      let none = count-none first sections (All-weaker (λ (x : Section). s.generation < x.generation) (λ (x : Section). x.generation ≢ first) (λ x w e. absurd (omega arith)) sections later) in
      let one = chain.one_each first (omega arith) (omega arith) in
      let no' = count-no first s sections differ in
      absurd (omega arith))
      (cases_eq s.generation first)

  pub chain-before : s.before ≡ opening
  chain-before = All-head (Begins opening first closing last) s sections chain.begins chain-generation

  pub chain-below : s.generation < last
  chain-below = within.1

  one_later : (g : ℕ) → s.generation + 1 ≤ g → g < last → count_by (is_of g) sections ≡ 1
  one_later g low high =
      let bound = within.0 in
      let one = chain.one_each g (omega arith) high in
      sym (count-no g s sections (λ e. absurd (omega arith))) ∙ one

  pub chain-rest : IsSectionChain s.after (s.generation + 1) closing last sections
  chain-rest = record {
    rises = (let high = within.1 in omega arith);
    one_each = one_later;
    no_other = All-weaker (λ (x : Section). (s.generation < x.generation) × Within opening first closing last x) (Within s.after (s.generation + 1) closing last)
        (λ x w. (omega (arith, w.0), w.1.1))
        sections
        (both (λ (x : Section). s.generation < x.generation) (Within opening first closing last) sections later (All-tail (Within opening first closing last) s sections chain.no_other));
    begins = All-tail (IsNext s) s sections (All-head (GoesInto (s ∷ sections)) s sections chain.goes_on);
    goes_on = All-weaker (GoesInto (s ∷ sections)) (GoesInto sections) (λ x all. All-tail (IsNext x) s sections all) sections (All-tail (GoesInto (s ∷ sections)) s sections chain.goes_on);
    ends = All-tail (Ends opening first closing last) s sections chain.ends;
    stands = All-head (Ends opening first closing last) s sections chain.ends;
  }

-- a token's sections of a list with one more in front: by whether that one is the token's
pub sections_at-own : (t : ℕ) (s : Section) (sections : List Section) → s.tok.0 ≡ t → sections_at t (s ∷ sections) ≡ s ∷ sections_at t sections
sections_at-own t s sections is = ap (λ (b : Bool). cond b (s ∷ sections_at t sections) (sections_at t sections)) (eq-eqb s.tok.0 t is)

pub sections_at-other : (t : ℕ) (s : Section) (sections : List Section) → s.tok.0 ≢ t → sections_at t (s ∷ sections) ≡ sections_at t sections
sections_at-other t s sections differ = ap (λ (b : Bool). cond b (s ∷ sections_at t sections) (sections_at t sections)) (ne_eqb s.tok.0 t differ)

-- a token that no section is of has none
pub sections_at-none : (t : ℕ) (sections : List Section) → All (λ s. s.tok.0 ≢ t) sections → sections_at t sections ≡ []
sections_at-none t [] none = refl
sections_at-none t (s ∷ sections) none =
    sections_at-other t s sections (All-head (λ (x : Section). x.tok.0 ≢ t) s sections none)
    ∙ sections_at-none t sections (All-tail (λ (x : Section). x.tok.0 ≢ t) s sections none)

-- what is so of each of a token's sections
at_own : (P : Section → Type 0) (t : ℕ) (sections : List Section) → All P (sections_at t sections) → All (λ s. s.tok.0 ≡ t → P s) sections
at_own P t [] all = All-nil (λ (s : Section). s.tok.0 ≡ t → P s)
at_own P t (s ∷ sections) all = ⊎_elim
    (λ (own : s.tok.0 ≡ t).
    let here : All P (s ∷ sections_at t sections) = subst (All P) (sections_at-own t s sections own) all in
    All-cons (λ (x : Section). x.tok.0 ≡ t → P x) s sections (λ e. All-head P s (sections_at t sections) here) (at_own P t sections (All-tail P s (sections_at t sections) here)))
    (λ (other : s.tok.0 ≢ t).
    All-cons (λ (x : Section). x.tok.0 ≡ t → P x) s sections (λ e. absurd (other e)) (at_own P t sections (subst (All P) (sections_at-other t s sections other) all)))
    (cases_eq s.tok.0 t)

-- the token's sections behind one in order are of later generations
later_at : (s : Section) (sections : List Section) → All (Precedes s) sections → All (λ x. s.generation < x.generation) (sections_at s.tok.0 sections)
later_at s [] all = All-nil (λ (x : Section). s.generation < x.generation)
later_at s (x ∷ sections) all = ⊎_elim
    (λ (own : x.tok.0 ≡ s.tok.0).
    subst (All (λ (y : Section). s.generation < y.generation)) (sym (sections_at-own s.tok.0 x sections own))
    (All-cons (λ (y : Section). s.generation < y.generation) x (sections_at s.tok.0 sections) (later (All-head (Precedes s) x sections all) own) (later_at s sections (All-tail (Precedes s) x sections all))))
    (λ (other : x.tok.0 ≢ s.tok.0).
    subst (All (λ (y : Section). s.generation < y.generation)) (sym (sections_at-other s.tok.0 x sections other)) (later_at s sections (All-tail (Precedes s) x sections all)))
    (cases_eq x.tok.0 s.tok.0)
  where
    later : Precedes s x → x.tok.0 ≡ s.tok.0 → s.generation < x.generation
    later (inl before) own = absurd (omega arith)
    later (inr after') own = after'.1

-- the rows after a section: at its token, and at another one
here_after : (rows : RowsAt) (s : Section) → s.tok.0 < length rows → (row_at (rows_after rows s) s.tok.0 ≡ s.after) × (generation_at (rows_after rows s) s.tok.0 ≡ s.generation + 1)
here_after rows s low =
    let is = get_or-set_same rows s.tok.0 (s.after, s.generation + 1) ([], 0) low in
    (ap (λ (r : List ℕ × ℕ). r.0) is, ap (λ (r : List ℕ × ℕ). r.1) is)

else_after : (rows : RowsAt) (s : Section) (t : ℕ) → t ≢ s.tok.0 → get_or (rows_after rows s) t ([], 0) ≡ get_or rows t ([], 0)
else_after rows s t differ = get_or-set_other rows s.tok.0 t (s.after, s.generation + 1) ([], 0) differ

-- rows of as many tokens are the same if each token's are
pub same_rows : (xs ys : RowsAt) → length xs ≡ length ys → ((t : ℕ) → t < length xs → get_or xs t ([], 0) ≡ get_or ys t ([], 0)) → xs ≡ ys
same_rows [] [] long same = refl
same_rows [] (y ∷ ys) long same = absurd (omega arith)
same_rows (x ∷ xs) [] long same = absurd (omega arith)
same_rows (x ∷ xs) (y ∷ ys) long same =
    let head : x ≡ y = same 0 (omega arith) in
    let tail : xs ≡ ys = same_rows xs ys (omega arith) (λ t low. same (suc t) (omega arith)) in
    ap (λ (r : List ℕ × ℕ). r ∷ xs) head ∙ ap (λ (rs : RowsAt). y ∷ rs) tail

-- a chain between equal ends, with equal sections
pub chain_as : (opening opening' : List ℕ) (first first' : ℕ) (closing : List ℕ) (last : ℕ) (sections sections' : List Section) → opening ≡ opening' → first ≡ first' → sections ≡ sections' → IsSectionChain opening first closing last sections → IsSectionChain opening' first' closing last sections'
chain_as opening opening' first first' closing last sections sections' row generation list chain =
    subst (λ (xs : List Section). IsSectionChain opening' first' closing last xs) list
    (subst (λ (g : ℕ). IsSectionChain opening' g closing last sections) generation
    (subst (λ (r : List ℕ). IsSectionChain r first closing last sections) row chain))

-- sections that go on one after another, to the last rows, are chains in order
abbrev AreGood : RowsAt → RowsAt → List Section → Type 0
AreGood first last sections = AreInOrder sections × AreSectionChains first last sections

chains-none : (rows : RowsAt) → AreSectionChains rows rows []
chains-none rows = record {
  known = All-nil (λ (s : Section). s.tok.0 < length rows);
  chains = λ t low. chain-nil (row_at rows t) (generation_at rows t);
}

module _ (first last : RowsAt) (s : Section) (sections : List Section) (on : GoesOn last first s) (rest : AreSectionChains (rows_after first s) last sections) where
  long : length (rows_after first s) ≡ length first
  long = length-set first s.tok.0 (s.after, s.generation + 1)

  known_later : All (λ (x : Section). x.tok.0 < length first) sections
  known_later = λ k d low. let h = rest.known k d low in omega (arith, long)

  ordered : (x : Section) → x.tok.0 < length first → (x.tok.0 ≡ x.tok.0 → (generation_at (rows_after first s) x.tok.0 ≤ x.generation) × (x.generation < generation_at last x.tok.0)) → Precedes s x
  ordered x known bounds = elim (cases_order x.tok.0 s.tok.0) [
    | inl same ↦ (
        let w = (bounds refl).0 in
        let g : generation_at (rows_after first s) x.tok.0 ≡ s.generation + 1 = ap (λ (t : ℕ). generation_at (rows_after first s) t) same ∙ (here_after first s on.known).1 in
        inr (sym same, omega arith))
    | inr differ ↦ elim differ [
      | inl below ↦ (
          let w = bounds refl in
          let low = w.0 in
          let high = w.1 in
          let turn = on.in_turn x.tok.0 below in
          let g : generation_at (rows_after first s) x.tok.0 ≡ generation_at first x.tok.0 = ap (λ (r : List ℕ × ℕ). r.1) (else_after first s x.tok.0 (λ e. absurd (omega arith))) in
          absurd (omega arith))
      | inr above ↦ inl above
    ]
  ]

  precedes : All (Precedes s) sections
  precedes = λ k d low.
      let x : Section = get_or sections k d in
      let known = known_later k d low in
      ordered x known (at_own (λ (y : Section). (generation_at (rows_after first s) x.tok.0 ≤ y.generation) × (y.generation < generation_at last x.tok.0)) x.tok.0 sections (rest.chains x.tok.0 (omega (arith, long))).no_other k d low)

  chain_of : (t : ℕ) → t < length first → IsSectionChain (row_at first t) (generation_at first t) (row_at last t) (generation_at last t) (sections_at t (s ∷ sections))
  chain_of t low = ⊎_elim
      (λ (own : s.tok.0 ≡ t).
      let after' = here_after first s on.known in
      let there : IsSectionChain s.after (s.generation + 1) (row_at last s.tok.0) (generation_at last s.tok.0) (sections_at s.tok.0 sections) =
      chain_as (row_at (rows_after first s) s.tok.0) s.after (generation_at (rows_after first s) s.tok.0) (s.generation + 1) (row_at last s.tok.0) (generation_at last s.tok.0) (sections_at s.tok.0 sections) (sections_at s.tok.0 sections) after'.0 after'.1 refl (rest.chains s.tok.0 (let k = on.known in omega (arith, long))) in
      let here : IsSectionChain (row_at first s.tok.0) (generation_at first s.tok.0) (row_at last s.tok.0) (generation_at last s.tok.0) (sections_at s.tok.0 (s ∷ sections)) =
      chain_as s.before (row_at first s.tok.0) s.generation (generation_at first s.tok.0) (row_at last s.tok.0) (generation_at last s.tok.0) (s ∷ sections_at s.tok.0 sections) (sections_at s.tok.0 (s ∷ sections)) on.row on.generation (sym (sections_at-own s.tok.0 s sections refl))
      (chain-cons s (row_at last s.tok.0) (generation_at last s.tok.0) (sections_at s.tok.0 sections) on.below there) in
      subst (λ (u : ℕ). IsSectionChain (row_at first u) (generation_at first u) (row_at last u) (generation_at last u) (sections_at u (s ∷ sections))) own here)
      (λ (other : s.tok.0 ≢ t).
      let still = else_after first s t (λ e. other (sym e)) in
      chain_as (row_at (rows_after first s) t) (row_at first t) (generation_at (rows_after first s) t) (generation_at first t) (row_at last t) (generation_at last t) (sections_at t sections) (sections_at t (s ∷ sections))
      (ap (λ (r : List ℕ × ℕ). r.0) still) (ap (λ (r : List ℕ × ℕ). r.1) still) (sym (sections_at-other t s sections other)) (rest.chains t (omega (arith, long))))
      (cases_eq s.tok.0 t)

  chains-cons : AreSectionChains first last (s ∷ sections)
  chains-cons = record {
    known = All-cons (λ (x : Section). x.tok.0 < length first) s sections on.known known_later;
    chains = chain_of;
  }

pub are_good : (first last : RowsAt) (sections : List Section) → GoOn last first sections → rows_after_all first sections ≡ last → AreGood first last sections
are_good first last [] on end = (tt, subst (λ (rows : RowsAt). AreSectionChains first rows []) end (chains-none first))
are_good first last (s ∷ sections) on end =
    let rest = are_good (rows_after first s) last sections on.1 end in
    ((precedes first last s sections on.0 rest.1, rest.0), chains-cons first last s sections on.0 rest.1)

-- chains in order go on one after another, to the last rows
module _ (first last : RowsAt) (s : Section) (sections : List Section) (later : All (Precedes s) sections) (chains : AreSectionChains first last (s ∷ sections)) where
  there : s.tok.0 < length first
  there = All-head (λ (x : Section). x.tok.0 < length first) s sections chains.known

  own : IsSectionChain (row_at first s.tok.0) (generation_at first s.tok.0) (row_at last s.tok.0) (generation_at last s.tok.0) (s ∷ sections_at s.tok.0 sections)
  own = chain_as (row_at first s.tok.0) (row_at first s.tok.0) (generation_at first s.tok.0) (generation_at first s.tok.0) (row_at last s.tok.0) (generation_at last s.tok.0) (sections_at s.tok.0 (s ∷ sections)) (s ∷ sections_at s.tok.0 sections) refl refl (sections_at-own s.tok.0 s sections refl) (chains.chains s.tok.0 there)

  behind : All (λ x. s.generation < x.generation) (sections_at s.tok.0 sections)
  behind = later_at s sections later

  not_early : (t : ℕ) → t < s.tok.0 → (x : Section) → Precedes s x → x.tok.0 ≢ t
  not_early t low x (inl before) e = absurd (omega arith)
  not_early t low x (inr same) e = (let h = same.0 in absurd (omega arith))

  turn : (t : ℕ) → t < s.tok.0 → generation_at last t ≤ generation_at first t
  turn t low =
      let chain = chains.chains t (omega (arith, there)) in
      let none : sections_at t (s ∷ sections) ≡ [] = sections_at-none t (s ∷ sections) (All-cons (λ (x : Section). x.tok.0 ≢ t) s sections (λ e. absurd (omega arith)) (All-weaker (Precedes s) (λ (x : Section). x.tok.0 ≢ t) (not_early t low) sections later)) in
      elim (cases_order (generation_at first t) (generation_at last t)) [
        | inl same ↦ omega arith
        | inr differ ↦ elim differ [
          | inl below ↦ (
              let one = chain.one_each (generation_at first t) (omega arith) below in
              let zero' : count_by (is_of (generation_at first t)) (sections_at t (s ∷ sections)) ≡ 0 = ap (λ (xs : List Section). count_by (is_of (generation_at first t)) xs) none in
              absurd (omega arith))
          | inr above ↦ omega arith
        ]
      ]

  goes_on_first : GoesOn last first s
  goes_on_first = record {
    known = there;
    row = chain-before (row_at first s.tok.0) (generation_at first s.tok.0) (row_at last s.tok.0) (generation_at last s.tok.0) s (sections_at s.tok.0 sections) behind own;
    generation = chain-generation (row_at first s.tok.0) (generation_at first s.tok.0) (row_at last s.tok.0) (generation_at last s.tok.0) s (sections_at s.tok.0 sections) behind own;
    below = chain-below (row_at first s.tok.0) (generation_at first s.tok.0) (row_at last s.tok.0) (generation_at last s.tok.0) s (sections_at s.tok.0 sections) behind own;
    in_turn = turn;
  }

  chain_later : (t : ℕ) → t < length first → IsSectionChain (row_at (rows_after first s) t) (generation_at (rows_after first s) t) (row_at last t) (generation_at last t) (sections_at t sections)
  chain_later t low = ⊎_elim
      (λ (is : s.tok.0 ≡ t).
      let after' = here_after first s there in
      let rest = chain-rest (row_at first s.tok.0) (generation_at first s.tok.0) (row_at last s.tok.0) (generation_at last s.tok.0) s (sections_at s.tok.0 sections) behind own in
      let here = chain_as s.after (row_at (rows_after first s) s.tok.0) (s.generation + 1) (generation_at (rows_after first s) s.tok.0) (row_at last s.tok.0) (generation_at last s.tok.0) (sections_at s.tok.0 sections) (sections_at s.tok.0 sections) (sym after'.0) (sym after'.1) refl rest in
      subst (λ (u : ℕ). IsSectionChain (row_at (rows_after first s) u) (generation_at (rows_after first s) u) (row_at last u) (generation_at last u) (sections_at u sections)) is here)
      (λ (other : s.tok.0 ≢ t).
      let still = else_after first s t (λ e. other (sym e)) in
      chain_as (row_at first t) (row_at (rows_after first s) t) (generation_at first t) (generation_at (rows_after first s) t) (row_at last t) (generation_at last t) (sections_at t (s ∷ sections)) (sections_at t sections)
      (sym (ap (λ (r : List ℕ × ℕ). r.0) still)) (sym (ap (λ (r : List ℕ × ℕ). r.1) still)) (sections_at-other t s sections other) (chains.chains t low))
      (cases_eq s.tok.0 t)

  chains-rest : AreSectionChains (rows_after first s) last sections
  chains-rest = record {
    known = λ k d low. (let h = All-tail (λ (x : Section). x.tok.0 < length first) s sections chains.known k d low in let long' = length-set first s.tok.0 (s.after, s.generation + 1) in omega arith);
    chains = λ t low. chain_later t (let long' = length-set first s.tok.0 (s.after, s.generation + 1) in omega arith);
  }

closed : (first last : RowsAt) (t : ℕ) → IsSectionChain (row_at first t) (generation_at first t) (row_at last t) (generation_at last t) [] → get_or first t ([], 0) ≡ get_or last t ([], 0)
closed first last t chain =
    let rises = chain.rises in
    let same : generation_at first t ≡ generation_at last t = elim (cases_order (generation_at first t) (generation_at last t)) [
      | inl same ↦ same
      | inr differ ↦ elim differ [
        | inl below ↦ (let one = chain.one_each (generation_at first t) (omega arith) below in absurd (omega arith))
        | inr above ↦ absurd (omega arith)
      ]
    ] in
    ap (λ (row : List ℕ). (row, generation_at first t)) (chain.stands same) ∙ ap (λ (g : ℕ). (row_at last t, g)) same

pub go_on : (first last : RowsAt) (sections : List Section) → length first ≡ length last → AreInOrder sections → AreSectionChains first last sections → GoOn last first sections × (rows_after_all first sections ≡ last)
go_on first last [] long order chains = (tt, same_rows first last long (λ t low. closed first last t (chains.chains t low)))
go_on first last (s ∷ sections) long order chains =
    let rest = go_on (rows_after first s) last sections (length-set first s.tok.0 (s.after, s.generation + 1) ∙ long) order.1 (chains-rest first last s sections order.0 chains) in
    ((goes_on_first first last s sections order.0 chains, rest.0), rest.1)

-- in a list of sections that go on one after another, the one at an index does
goes_on_at : (last rows : RowsAt) (sections : List Section) (i : ℕ) → GoOn last rows sections → MatchOption (slice_get sections i) (Unit {0}) (λ s. GoesOn last (rows_after_all rows (take i sections)) s)
goes_on_at last rows [] zero on = tt
goes_on_at last rows [] (suc i) on = tt
goes_on_at last rows (s ∷ sections) zero on = on.0
goes_on_at last rows (s ∷ sections) (suc i) on = goes_on_at last (rows_after rows s) sections i on.1

-- a section, or the end, can't both fail and not
clash : (o : Option Section) (End : Type 0) (On : Section → Type 0) → MatchOption o (Unit {0}) On → MatchOption o (¬ End) (λ s. ¬ On s) → End → ⊥
clash None End On is fails end = fails end
clash (Some s) End On is fails end = fails is

pub refutes : SectionFailureRefutes
refutes first last sections index long fails good =
    let on = go_on first last sections long good.0 good.1 in
    clash (slice_get sections index) (rows_after_all first sections ≡ last) (λ s. GoesOn last (rows_after_all first (take index sections)) s) (goes_on_at last first sections index on.0) fails.fails on.1

section_at : (sections : List Section) (i : ℕ) → i < length sections → (s : Section) × (slice_get sections i ≡ Some s)
section_at [] i inside = absurd (omega arith)
section_at (s ∷ sections) i inside = (get_or (s ∷ sections) i s, slice_get-get_or (s ∷ sections) i s inside)

not_before : (first last : RowsAt) (sections : List Section) (j k : ℕ) → SectionsFailAt first last sections j → SectionsFailAt first last sections k → j < k → ⊥
not_before first last sections j k at_j at_k below =
    let inside : j < length sections = (let w = at_k.within in omega arith) in
    let found = section_at sections j inside in
    let h = goes_on_at last first (take k sections) j at_k.before in
    let long : length (take k sections) ≡ k = length-take-le k sections at_k.within in
    let same : slice_get (take k sections) j ≡ slice_get sections j =
    slice_get-get_or (take k sections) j found.0 (omega arith) ∙ ap (λ (s : Section). Some s) (get_or-take k sections j found.0 below) ∙ sym (slice_get-get_or sections j found.0 inside) in
    let goes' : GoesOn last (rows_after_all first (take j (take k sections))) found.0 =
    (let F : Option Section → Type 0 = λ o. MatchOption o (Unit {0}) (λ s. GoesOn last (rows_after_all first (take j (take k sections))) s) in subst F (same ∙ found.1) h) in
    let fails : ¬ GoesOn last (rows_after_all first (take j sections)) found.0 =
    (let F : Option Section → Type 0 = λ o. MatchOption o (¬ (rows_after_all first sections ≡ last)) (λ s. ¬ GoesOn last (rows_after_all first (take j sections)) s) in subst F found.1 at_j.fails) in
    fails (subst (λ (front : List Section). GoesOn last (rows_after_all first front) found.0) (take-take j k sections (omega arith)) goes')

pub is_only : SectionFailureIsOnly
is_only first last sections index other one two =
    elim (cases_order index other) [
      | inl same ↦ same
      | inr differ ↦ elim differ [
        | inl below ↦ absurd (not_before first last sections index other one two below)
        | inr above ↦ absurd (not_before first last sections other index two one above)
      ]
    ]

-- as many rows after sections as before
pub length-after : (rows : RowsAt) (sections : List Section) → length (rows_after_all rows sections) ≡ length rows
length-after rows [] = refl
length-after rows (s ∷ sections) = length-after (rows_after rows s) sections ∙ length-set rows s.tok.0 (s.after, s.generation + 1)

-- one section more at the end
after-push : (rows : RowsAt) (sections : List Section) (s : Section) → rows_after_all rows (sections ++ s ∷ []) ≡ rows_after (rows_after_all rows sections) s
after-push rows [] s = refl
after-push rows (x ∷ sections) s = after-push (rows_after rows x) sections s

on-push : (last rows : RowsAt) (sections : List Section) (s : Section) → GoOn last rows sections → GoesOn last (rows_after_all rows sections) s → GoOn last rows (sections ++ s ∷ [])
on-push last rows [] s on one = (one, tt)
on-push last rows (x ∷ sections) s on one = (on.0, on-push last (rows_after rows x) sections s on.1 one)

-- one row changed twice
set-set : (rows : RowsAt) (t : ℕ) (a b : List ℕ × ℕ) → set (set rows t a) t b ≡ set rows t b
set-set [] t a b = refl
set-set (r ∷ rows) zero a b = refl
set-set (r ∷ rows) (suc t) a b = ap (λ (rs : RowsAt). r ∷ rs) (set-set rows t a b)

-- the first sections of a list, of one token's chain so far: those before it, and a row changed to what the chain has come to
pub record IsAlong (first last : RowsAt) (sections : List Section) (tok from index : ℕ) (row : List ℕ) (generation : ℕ) : Type 0 where
  pub gone : GoOn last first (take index sections)
  pub moved : rows_after_all first (take index sections) ≡ set (rows_after_all first (take from sections)) tok (row, generation)

-- and goes on with a section
pub along-next : (first last : RowsAt) (sections : List Section) (tok from index : ℕ) (row : List ℕ) (generation : ℕ) (d : Section) → tok < length first → index < length sections → IsUpTo first last sections tok from → IsAlong first last sections tok from index row generation
    → (get_or sections index d).tok.0 ≡ tok → (get_or sections index d).before ≡ row → (get_or sections index d).generation ≡ generation → (get_or sections index d).generation < generation_at last tok
    → IsAlong first last sections tok from (index + 1) (get_or sections index d).after ((get_or sections index d).generation + 1)
along-next first last sections tok from index row generation d low inside come along is before at below =
    let s : Section = get_or sections index d in
    let old : RowsAt = rows_after_all first (take from sections) in
    let rows : RowsAt = rows_after_all first (take index sections) in
    let long : length rows ≡ length first = length-after first (take index sections) in
    let long_old : length old ≡ length first = length-after first (take from sections) in
    let here : get_or rows tok ([], 0) ≡ (row, generation) = ap (λ (rs : RowsAt). get_or rs tok ([], 0)) along.moved ∙ get_or-set_same old tok (row, generation) ([], 0) (omega arith) in
    let here_is : get_or rows s.tok.0 ([], 0) ≡ (row, generation) = ap (λ (t : ℕ). get_or rows t ([], 0)) is ∙ here in
    let on : GoesOn last rows s = record {
      known = omega arith;
      row = before ∙ sym (ap (λ (r : List ℕ × ℕ). r.0) here_is);
      generation = at ∙ sym (ap (λ (r : List ℕ × ℕ). r.1) here_is);
      below = subst (λ (t : ℕ). s.generation < generation_at last t) (sym is) below;
      in_turn = λ t lower. (
          let still : get_or rows t ([], 0) ≡ get_or old t ([], 0) = ap (λ (rs : RowsAt). get_or rs t ([], 0)) along.moved ∙ get_or-set_other old tok t (row, generation) ([], 0) (λ e. absurd (omega arith)) in
          let same : generation_at rows t ≡ generation_at old t = ap (λ (r : List ℕ × ℕ). r.1) still in
          let done = come.done t (omega arith) in
          omega arith);
    } in
    let more : take (index + 1) sections ≡ take index sections ++ s ∷ [] = take_more sections index d inside in
    record {
      gone = subst (GoOn last first) (sym more) (on-push last first (take index sections) s along.gone on);
      moved =
          ap (λ (front : List Section). rows_after_all first front) more
          ∙ after-push first (take index sections) s
          ∙ ap (λ (t : ℕ). set rows t (s.after, s.generation + 1)) is
          ∙ ap (λ (rs : RowsAt). set rs tok (s.after, s.generation + 1)) along.moved
          ∙ set-set old tok (row, generation) (s.after, s.generation + 1);
    }

-- past the end there is no section
pub none-past : (sections : List Section) (index : ℕ) (P : Section → Type 0) → length sections ≤ index → IfSome (slice_get sections index) P
none-past sections index P past = subst (λ (o : Option Section). IfSome o P) (sym (slice_get_past sections index past)) tt

-- the same as `along-next`, of a section and a closing generation that were read
pub along-read : (first last : RowsAt) (sections : List Section) (tok from index : ℕ) (row : List ℕ) (generation : ℕ) (s : Section) (d : List ℕ × ℕ) → tok < length first → length first ≡ length last → index < length sections → IsUpTo first last sections tok from → IsAlong first last sections tok from index row generation
    → s ≡ get_or sections index s → (s.tok.0 ≡ tok) × (s.before ≡ row) × (s.generation ≡ generation) × (s.generation < (get_or last tok d).1)
    → IsAlong first last sections tok from (index + 1) s.after (s.generation + 1)
along-read first last sections tok from index row generation s d low long inside come along is on =
    let closing : (get_or last tok d).1 ≡ generation_at last tok = ap (λ (r : List ℕ × ℕ). r.1) (get_or_default last tok d ([], 0) (omega arith)) in
    let F : Section → Type 0 = λ x. (x.tok.0 ≡ tok) × (x.before ≡ row) × (x.generation ≡ generation) × (x.generation < generation_at last tok) in
    let G : Section → Type 0 = λ x. IsAlong first last sections tok from (index + 1) x.after (x.generation + 1) in
    let below = on.3 in
    let here : F (get_or sections index s) = subst F is (on.0, on.1, on.2, omega arith) in
    subst G (sym is) (along-next first last sections tok from index row generation s low inside come along here.0 here.1 here.2 here.3)

-- the tokens before one have come to their closing values
abbrev pub AreSettled : RowsAt → RowsAt → List Section → ℕ → ℕ → Type 0
AreSettled first last sections tok index = (t : ℕ) → t < tok → get_or (rows_after_all first (take index sections)) t ([], 0) ≡ get_or last t ([], 0)

-- where nothing is read, the index is past the end
past-none : (sections : List Section) (index : ℕ) → slice_get sections index ≡ None → length sections ≤ index
past-none sections index none = elim (cases_order index (length sections)) [
  | inl same ↦ omega arith
  | inr differ ↦ elim differ [
    | inl below ↦ (let found = section_at sections index below in let clash' : Some found.0 ≡ None = sym found.1 ∙ none in absurd (cc))
    | inr above ↦ omega arith
  ]
]

by_option : (o : Option Section) (Q : Section → Type 0) (End : Type 0) (R : Section → Type 0) → IfSome o Q → (o ≡ None → End) → ((s : Section) → Q s → R s) → MatchOption o End R
by_option None Q End R q end each = end refl
by_option (Some s) Q End R q end each = each s q

whole : (first : RowsAt) (sections : List Section) (index : ℕ) → length sections ≤ index → rows_after_all first (take index sections) ≡ rows_after_all first sections
whole first sections index past = ap (λ (xs : List Section). rows_after_all first xs) (take_all index sections past)

-- after the chain of a token was followed, and the sections of it are through
module _ (first last : RowsAt) (sections : List Section) (tok from index : ℕ) (row : List ℕ) (generation : ℕ) (low : tok < length first) (come : IsUpTo first last sections tok from) (inside : index ≤ length sections) (gone : GoOn last first (take index sections)) (moved : rows_after_all first (take index sections) ≡ set (rows_after_all first (take from sections)) tok (row, generation)) where
  abbrev old_rows : RowsAt
  old_rows = rows_after_all first (take from sections)

  abbrev new_rows : RowsAt
  new_rows = rows_after_all first (take index sections)

  at_tok : get_or new_rows tok ([], 0) ≡ (row, generation)
  at_tok = let long = length-after first (take from sections) in ap (λ (rs : RowsAt). get_or rs tok ([], 0)) moved ∙ get_or-set_same old_rows tok (row, generation) ([], 0) (omega arith)

  at_other : (t : ℕ) → t ≢ tok → get_or new_rows t ([], 0) ≡ get_or old_rows t ([], 0)
  at_other t differ = ap (λ (rs : RowsAt). get_or rs t ([], 0)) moved ∙ get_or-set_other old_rows tok t (row, generation) ([], 0) differ

  done_before : (t : ℕ) → t < tok → generation_at last t ≤ generation_at new_rows t
  done_before t lower =
      let same : generation_at new_rows t ≡ generation_at old_rows t = ap (λ (r : List ℕ × ℕ). r.1) (at_other t (λ e. absurd (omega arith))) in
      let done = come.done t lower in
      omega arith

  abbrev Stopped : Section → Type 0
  Stopped s = ¬ ((s.tok.0 ≡ tok) × (s.before ≡ row) × (s.generation ≡ generation) × (s.generation < generation_at last tok))

  -- where the token isn't at its closing generation, the next section fails, or the close
  not_next : generation < generation_at last tok → (s : Section) → Stopped s → ¬ GoesOn last new_rows s
  not_next early s stopped on =
      let below = on.below in
      let at = on.generation in
      elim (cases_order s.tok.0 tok) [
        | inl same ↦ stopped (same, on.row ∙ ap (λ (t : ℕ). row_at new_rows t) same ∙ ap (λ (r : List ℕ × ℕ). r.0) at_tok, on.generation ∙ ap (λ (t : ℕ). generation_at new_rows t) same ∙ ap (λ (r : List ℕ × ℕ). r.1) at_tok, subst (λ (t : ℕ). s.generation < generation_at last t) same on.below)
        | inr differ ↦ elim differ [
          | inl lower ↦ (let done = done_before s.tok.0 lower in absurd (omega arith))
          | inr higher ↦ (let turn = on.in_turn tok higher in let here : generation_at new_rows tok ≡ generation = ap (λ (r : List ℕ × ℕ). r.1) at_tok in absurd (omega arith))
        ]
      ]

  pub fails-early : generation < generation_at last tok → IfSome (slice_get sections index) Stopped → SectionsFailAt first last sections index
  fails-early early stops = record {
    within = inside;
    before = gone;
    fails = by_option (slice_get sections index) Stopped (¬ (rows_after_all first sections ≡ last)) (λ s. ¬ GoesOn last new_rows s) stops
        (λ none end.
        let all = whole first sections index (past-none sections index none) in
        let here : generation_at last tok ≡ generation = ap (λ (rs : RowsAt). generation_at rs tok) (sym end ∙ sym all) ∙ ap (λ (r : List ℕ × ℕ). r.1) at_tok in
        omega arith)
        (not_next early);
  }

  -- where it is, the next token is begun
  pub up-to-next : generation_at last tok ≤ generation → IsUpTo first last sections (tok + 1) index
  up-to-next ended = record {
    within = inside;
    gone = gone;
    done = λ t lower. ⊎_elim
        (λ (same : t ≡ tok). subst (λ (u : ℕ). generation_at last u ≤ generation_at new_rows u) (sym same) (let here : generation_at new_rows tok ≡ generation = ap (λ (r : List ℕ × ℕ). r.1) at_tok in omega arith))
        (λ (differ : t ≢ tok). done_before t (omega arith))
        (cases_eq t tok);
    later = λ t higher. at_other t (λ e. absurd (omega arith)) ∙ come.later t (omega arith);
  }

  pub settled-more : AreSettled first last sections tok from → (row, generation) ≡ get_or last tok ([], 0) → AreSettled first last sections (tok + 1) index
  settled-more settled here t lower = ⊎_elim
      (λ (same : t ≡ tok). subst (λ (u : ℕ). get_or new_rows u ([], 0) ≡ get_or last u ([], 0)) (sym same) (at_tok ∙ here))
      (λ (differ : t ≢ tok). at_other t differ ∙ settled t (omega arith))
      (cases_eq t tok)

  pub settled-less : AreSettled first last sections (tok + 1) index → AreSettled first last sections tok from
  settled-less settled t lower = sym (at_other t (λ e. absurd (omega arith))) ∙ settled t (omega arith)

  pub settled-here : AreSettled first last sections (tok + 1) index → (row, generation) ≡ get_or last tok ([], 0)
  settled-here settled = sym at_tok ∙ settled tok (omega arith)

-- after the chains of all tokens were followed
module _ (first last : RowsAt) (sections : List Section) (tok index : ℕ) (long : length first ≡ length last) (all : length last ≤ tok) (come : IsUpTo first last sections tok index) where
  abbrev end_rows : RowsAt
  end_rows = rows_after_all first (take index sections)

  none_next : (s : Section) → Unit {0} → ¬ GoesOn last end_rows s
  none_next s u on =
      let known = on.known in
      let as_many = length-after first (take index sections) in
      let done = come.done s.tok.0 (omega arith) in
      let below = on.below in
      let at = on.generation in
      omega arith

  any : (o : Option Section) → IfSome o (λ s. Unit {0})
  any None = tt
  any (Some s) = tt

  pub fails-end : (index < length sections) ⊎ (¬ AreSettled first last sections tok index) → SectionsFailAt first last sections index
  fails-end why = record {
    within = come.within;
    before = come.gone;
    fails = by_option (slice_get sections index) (λ s. Unit {0}) (¬ (rows_after_all first sections ≡ last)) (λ s. ¬ GoesOn last end_rows s) (any (slice_get sections index))
        (λ none end.
        let past = past-none sections index none in
        ⊎_elim
        (λ (left : index < length sections). absurd (omega arith))
        (λ (unsettled : ¬ AreSettled first last sections tok index). unsettled (λ t lower. ap (λ (rs : RowsAt). get_or rs t ([], 0)) (whole first sections index past ∙ end)))
        why)
        none_next;
  }

  pub good-end : length sections ≤ index → AreSettled first last sections tok index → AreInOrder sections × AreSectionChains first last sections
  good-end past settled =
      let as_many = length-after first (take index sections) in
      let end : end_rows ≡ last = same_rows end_rows last (omega arith) (λ t lower. settled t (omega arith)) in
      are_good first last sections (subst (GoOn last first) (take_all index sections past) come.gone) (sym (whole first sections index past) ∙ end)
