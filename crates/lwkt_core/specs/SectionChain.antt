use Rattle.std.specs.Prelude.{◌≡◌, ◌⊎◌, ℕ, ◌+◌, ◌<◌, ◌≤◌, ◌==◌, List, [], ◌∷◌, length, All, filter, take, count_by, MatchOption, slice_get, slice_index_or, slice_set}
use Rattle.lwkt_base.specs.declared.sections.Section.{Section}

-- the rows and generations of tokens, by token; of a token that isn't there no cell, and 0
abbrev pub RowsAt : Type 0
RowsAt = List (List ℕ × ℕ)

abbrev pub row_at : RowsAt → ℕ → List ℕ
row_at rows t = (slice_index_or rows t ([], 0)).0

abbrev pub generation_at : RowsAt → ℕ → ℕ
generation_at rows t = (slice_index_or rows t ([], 0)).1

-- the sections of one token, in whatever order, are one chain of generations from one row to another: there is one section for
-- each generation from the opening one to the one before the closing one, and no other; the first one's `before` is the opening
-- row, each later one's is the `after` of the one before it, and the last `after` is the closing row; without a section the two
-- rows are equal; the closing generation isn't below the opening one (own)
pub record IsSectionChain (opening : List ℕ) (first : ℕ) (closing : List ℕ) (last : ℕ) (sections : List Section) : Type 0 where
  pub rises : first ≤ last
  pub one_each : (g : ℕ) → first ≤ g → g < last → count_by (λ s. s.generation == g) sections ≡ 1
  pub no_other : All (λ s. (first ≤ s.generation) × (s.generation < last)) sections
  pub begins : All (λ s. s.generation ≡ first → s.before ≡ opening) sections
  pub goes_on : All (λ s. All (λ next. next.generation ≡ s.generation + 1 → next.before ≡ s.after) sections) sections
  pub ends : All (λ s. s.generation + 1 ≡ last → s.after ≡ closing) sections
  pub stands : first ≡ last → opening ≡ closing

-- the sections of a token, in the order of the list
abbrev pub sections_at : ℕ → List Section → List Section
sections_at t sections = filter (λ s. s.tok.0 == t) sections

-- each section is of a token that is there, and each token's sections are one chain from its opening row to its closing row
pub record AreSectionChains (first last : RowsAt) (sections : List Section) : Type 0 where
  pub known : All (λ s. s.tok.0 < length first) sections
  pub chains : (t : ℕ) → t < length first → IsSectionChain (row_at first t) (generation_at first t) (row_at last t) (generation_at last t) (sections_at t sections)

-- the one section is of an earlier token, or of the same token and an earlier generation
abbrev pub Precedes : Section → Section → Type 0
Precedes a b = (a.tok.0 < b.tok.0) ⊎ ((a.tok.0 ≡ b.tok.0) × (a.generation < b.generation))

-- the sections are in order: by token, then by generation
abbrev pub AreInOrder : List Section → Type 0
AreInOrder [] = Unit {0}
AreInOrder (s ∷ sections) = All (Precedes s) sections × AreInOrder sections

-- the rows and generations after a section, and after some one after another
abbrev pub rows_after : RowsAt → Section → RowsAt
rows_after rows s = slice_set rows s.tok.0 (s.after, s.generation + 1)

abbrev pub rows_after_all : RowsAt → List Section → RowsAt
rows_after_all rows [] = rows
rows_after_all rows (s ∷ sections) = rows_after_all (rows_after rows s) sections

-- a section goes on with its token's chain, where the chains have come to these rows: it begins with the row and at the generation
-- that its token has come to, which is below the token's closing one; and no earlier token is below its closing one
pub record GoesOn (last rows : RowsAt) (s : Section) : Type 0 where
  pub known : s.tok.0 < length rows
  pub row : s.before ≡ row_at rows s.tok.0
  pub generation : s.generation ≡ generation_at rows s.tok.0
  pub below : s.generation < generation_at last s.tok.0
  pub in_turn : (t : ℕ) → t < s.tok.0 → generation_at last t ≤ generation_at rows t

-- each section goes on with its token's chain
abbrev pub GoOn : RowsAt → RowsAt → List Section → Type 0
GoOn last rows [] = Unit {0}
GoOn last rows (s ∷ sections) = GoesOn last rows s × GoOn last (rows_after rows s) sections

-- the section of this index is the first that doesn't go on with its token's chain or begins a later token too early, or the
-- index is the number of sections and only the last values differ
pub record SectionsFailAt (first last : RowsAt) (sections : List Section) (index : ℕ) : Type 0 where
  pub within : index ≤ length sections
  pub before : GoOn last first (take index sections)
  pub fails : MatchOption (slice_get sections index) (¬ (rows_after_all first sections ≡ last)) (λ s. ¬ GoesOn last (rows_after_all first (take index sections)) s)

-- a law: an index at which sections fail shows that they aren't chains in order
abbrev pub SectionFailureRefutes : Type 0
SectionFailureRefutes = (first last : RowsAt) (sections : List Section) (index : ℕ) → length first ≡ length last → SectionsFailAt first last sections index → ¬ (AreInOrder sections × AreSectionChains first last sections)

-- a law: sections fail at one index only
abbrev pub SectionFailureIsOnly : Type 0
SectionFailureIsOnly = (first last : RowsAt) (sections : List Section) (index other : ℕ) → SectionsFailAt first last sections index → SectionsFailAt first last sections other → index ≡ other

-- a checker's place in a list: the sections before the index go on with their tokens' chains, no token before this one is below its
-- closing generation, and the others are as at the opening
pub record IsUpTo (first last : RowsAt) (sections : List Section) (tok index : ℕ) : Type 0 where
  pub within : index ≤ length sections
  pub gone : GoOn last first (take index sections)
  pub done : (t : ℕ) → t < tok → generation_at last t ≤ generation_at (rows_after_all first (take index sections)) t
  pub later : (t : ℕ) → tok ≤ t → slice_index_or (rows_after_all first (take index sections)) t ([], 0) ≡ slice_index_or first t ([], 0)
