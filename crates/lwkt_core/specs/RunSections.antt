use Rattle.std.specs.Prelude.{◌≡◌, ℕ, List, [], ◌∷◌, map, length, flat_map, zip, All}
use Rattle.std.specs.List.{range_with_len}
use Rattle.lwkt_base.specs.declared.sections.Section.{Section}
use Rattle.lwkt_core.specs.declared.events.Event.{Event}
use Rattle.lwkt_core.specs.declared.events.Event.TheVariants.{GiveWritten}
use Rattle.lwkt_core.specs.declared.tokens.Token.{Token}
use Rattle.lwkt_core.specs.Tokens.{IsOpen}
use Rattle.lwkt_core.specs.Machine.{Machine, IsSafe}
use Rattle.lwkt_core.specs.Trace.{Run, IsLawfulTrace}
use Rattle.lwkt_core.specs.declared.finals.Final.{Final}
use Rattle.lwkt_core.specs.Headline.{Section as Written, sections_of}
use Rattle.lwkt_core.specs.SectionChain.{RowsAt, sections_at, AreInOrder, AreSectionChains}

-- a written section of a token
abbrev pub of_token : ℕ → Written → Section
of_token t s = record { before = s.before; after = s.left; generation = s.generation; tok = record { 0 = t } }

-- the written sections of a run, by token and in order: of each GiveWritten the token, its generation, first row and row
abbrev pub sections_in : Machine → List Event → List Section
sections_in m events = flat_map (λ t. map (of_token t) (sections_of t m events)) (range_with_len 0 (length m.tokens))

-- the section that an event names, if it ends a written one, and those that some events name, in order
abbrev pub section_in : Event → List Section
section_in (GiveWritten cpu tok section) = section ∷ []
section_in e = []

abbrev pub sections_named : List Event → List Section
sections_named events = flat_map section_in events

-- the row and generation of a token, and of each token of a machine
abbrev pub values_of : Token → List ℕ × ℕ
values_of tok = (tok.row, tok.generation)

abbrev pub rows_of : Machine → RowsAt
rows_of m = map values_of m.tokens

-- a law: the written sections of a run, from a machine to another one in which nobody holds a token exclusively, are in order, and
-- chains from the rows and generations of the one to those of the other (own)
abbrev pub RunsWriteChains : Type 0
RunsWriteChains = (m : Machine) (events : List Event) (n : Machine) → IsSafe m → Run m events n → All IsOpen m.tokens → All IsOpen n.tokens
    → AreInOrder (sections_in m events) × AreSectionChains (rows_of m) (rows_of n) (sections_in m events)

-- a law: those of a lawful trace, from a machine in which nobody holds a token exclusively, are in order, and chains from its rows
-- and generations to the closing ones (own)
abbrev pub TracesWriteChains : Type 0
TracesWriteChains = (m : Machine) (events : List Event) (last : Final) → IsSafe m → All IsOpen m.tokens → IsLawfulTrace m events last
    → AreInOrder (sections_in m events) × AreSectionChains (rows_of m) (zip last.rows.items last.gens.items) (sections_in m events)

-- a law: what the events of a run name of a token are its written sections, in order (own)
abbrev pub RunsNameSections : Type 0
RunsNameSections = (m : Machine) (events : List Event) (n : Machine) → Run m events n → (t : ℕ) → sections_at t (sections_named events) ≡ map (of_token t) (sections_of t m events)
