-- The written sections that the traces of a run on threads name (own).
use Rattle.std.specs.Prelude.{List, ◌++◌, flat_map, map, zip, IsPermutation}
use Rattle.std.specs.List.Sorted.{IsSortedBy}
use Rattle.std.specs.Ordering.{is_lt, nat_cmp, ordering_then}
use Rattle.lwkt_base.specs.declared.opening_specs.TokSpec.{TokSpec}
use Rattle.lwkt_base.specs.declared.sections.Section.{Section}
use Rattle.lwkt_core.specs.declared.events.Event.{Event}
use Rattle.lwkt_drive.specs.ShortEvents.{KeptTrace}
use Rattle.lwkt_core.specs.declared.finals.Final.{Final}
use Rattle.lwkt_core.specs.Machine.{Machine}
use Rattle.lwkt_core.specs.RunSections.{rows_of, sections_named}
use Rattle.lwkt_core.specs.SectionChain.{RowsAt, AreInOrder, AreSectionChains, SectionsFailAt}
use Rattle.lwkt_report.specs.declared.closings.Verdict.{Verdict}
use Rattle.lwkt_report.specs.declared.closings.Verdict.TheVariants.{Closed, Lawful, Unlawful}

-- the written sections that traces name, one trace's after another's, and then those that a stop names
abbrev pub sections_of_all : List KeptTrace → List Event → List Section
sections_of_all traces stops = flat_map (λ trace. sections_named trace.items) traces ++ sections_named stops

-- the sections stand by token, and those of one token by generation
abbrev pub AreSorted : List Section → Type 0
AreSorted sections = IsSortedBy (λ a b. is_lt (ordering_then (nat_cmp a.tok.0 b.tok.0) (nat_cmp a.generation b.generation))) sections

-- the rows and generations that tokens are opened with, and those of closing values
abbrev pub opening_rows : List TokSpec → RowsAt
opening_rows specs = map (λ spec. (spec.cells, spec.generation)) specs

abbrev pub closing_rows : Final → RowsAt
closing_rows last = zip last.rows.items last.gens.items

-- what a verdict says of sections, from the rows and generations of an opening to those of a close: that they are chains in order,
-- or at which index they fail
abbrev pub IsVerdictOn : Verdict → RowsAt → RowsAt → List Section → Type 0
IsVerdictOn Closed first last sections = AreInOrder sections × AreSectionChains first last sections
IsVerdictOn (Unlawful index) first last sections = SectionsFailAt first last sections index
IsVerdictOn Lawful first last sections = ⊥

-- what a verdict says of sections in whatever order: that they are chains, or at which index they fail once they are in order
abbrev pub IsVerdictOnAll : Verdict → RowsAt → RowsAt → List Section → Type 0
IsVerdictOnAll Closed first last named = AreSectionChains first last named
IsVerdictOnAll (Unlawful index) first last named = (sections : List Section) × (IsPermutation named sections × (AreSorted sections × SectionsFailAt first last sections index))
IsVerdictOnAll Lawful first last named = ⊥

-- sections are the written ones that traces and a stop name, in order, and chains: of each token one, generation by generation, from
-- its row in a machine to its closing row
pub record NameChains (m : Machine) (traces : List KeptTrace) (stops : List Event) (last : Final) (sections : List Section) : Type 0 where
  pub named : IsPermutation (sections_of_all traces stops) sections
  pub ordered : AreInOrder sections
  pub chains : AreSectionChains (rows_of m) (closing_rows last) sections
