-- Stretches of written sections (own).
use Rattle.std.specs.Prelude.{◌≡◌, ℕ, ◌+◌, ◌<◌, List, [], ◌∷◌, length, map, flat_map, All, IsPermutation, slice_set}
use Rattle.lwkt_base.specs.declared.sections.Section.{Section}
use Rattle.lwkt_core.specs.SectionChain.{RowsAt, row_at, generation_at}
use Rattle.lwkt_drive.specs.declared.stretches.Stretch.{Stretch}

-- sections of a token that lead from one row and generation to another: each begins with what the one before it came to
abbrev pub LeadTo : ℕ → List ℕ → ℕ → List Section → List ℕ → ℕ → Type 0
LeadTo tok row generation [] left next = (row ≡ left) × (generation ≡ next)
LeadTo tok row generation (s ∷ sections) left next = (s.tok.0 ≡ tok) × ((s.before ≡ row) × ((s.generation ≡ generation) × LeadTo tok s.after (s.generation + 1) sections left next))

-- a stretch stands for these sections
abbrev pub IsStretchOf : Stretch → List Section → Type 0
IsStretchOf stretch sections = LeadTo stretch.tok.0 stretch.before stretch.first sections stretch.after (stretch.last + 1)

-- stretches stand for these sections, in whatever order: each for some of them, and all for all
pub record StandFor (stretches : List Stretch) (sections : List Section) : Type 0 where
  pub parts : List (Stretch × List Section)
  pub stretches_are : map (λ p. p.0) parts ≡ stretches
  pub each : All (λ p. IsStretchOf p.0 p.1) parts
  pub all : IsPermutation (flat_map (λ p. p.1) parts) sections

-- a section goes on from a stretch
abbrev pub GoesOnFrom : Stretch → Section → Type 0
GoesOnFrom stretch s = (s.tok.0 ≡ stretch.tok.0) × ((s.before ≡ stretch.after) × (s.generation ≡ stretch.last + 1))

-- the stretch with this section behind it, and that of a section alone
abbrev pub longer : Stretch → Section → Stretch
longer stretch s = record stretch { after = s.after; last = s.generation }

abbrev pub stretch_of : Section → Stretch
stretch_of s = record { before = s.before; after = s.after; first = s.generation; last = s.generation; tok = s.tok }

-- a stretch goes on with its token's chain, where the chains have come to these rows and generations: it begins with what its token
-- has come to
abbrev pub Follows : RowsAt → Stretch → Type 0
Follows rows stretch = (stretch.tok.0 < length rows) × ((stretch.before ≡ row_at rows stretch.tok.0) × (stretch.first ≡ generation_at rows stretch.tok.0))

-- the rows and generations after a stretch
abbrev pub rows_past : RowsAt → Stretch → RowsAt
rows_past rows stretch = slice_set rows stretch.tok.0 (stretch.after, stretch.last + 1)

-- stretches lead the tokens, one after another, from one list of rows and generations to another
abbrev pub Lead : RowsAt → List Stretch → RowsAt → Type 0
Lead rows [] last = rows ≡ last
Lead rows (stretch ∷ stretches) last = Follows rows stretch × Lead (rows_past rows stretch) stretches last
