-- The written sections that the processors of a history name (own).
use Rattle.std.specs.Prelude.{ℕ, ◌≤◌, List, flat_map, All}
use Rattle.std.specs.List.{range_with_len}
use Rattle.lwkt_base.specs.declared.sections.Section.{Section}
use Rattle.lwkt_core.specs.Tokens.{IsOpen}
use Rattle.lwkt_core.specs.Machine.{Machine, IsSafe}
use Rattle.lwkt_core.specs.Trace.{Run}
use Rattle.lwkt_core.specs.SectionChain.{AreSectionChains}
use Rattle.lwkt_core.specs.RunSections.{rows_of, sections_named}
use Rattle.lwkt_table.specs.declared.seats.Deed.{Deed}
use Rattle.lwkt_table.specs.History.{AreOthers, events_in, events_by}

-- the sections that so many processors name of what was done, one processor's after another's
abbrev pub sections_by : ℕ → List Deed → List Section
sections_by cpus history = flat_map (λ cpu. sections_named (events_by cpu history)) (range_with_len 0 cpus)

-- a law: the sections that processors name of one run, each of what it did itself, put together in any order of the processors, are
-- chains from the rows and generations of the machine that the run begins with to those of the one that it ends with (own)
abbrev pub PartsNameChains : Type 0
PartsNameChains = (m : Machine) (history : List Deed) (n : Machine) (cpus : ℕ) → IsSafe m → Run m (events_in history) n → All IsOpen m.tokens → All IsOpen n.tokens → ((cpu : ℕ) → cpus ≤ cpu → AreOthers cpu history)
    → AreSectionChains (rows_of m) (rows_of n) (sections_by cpus history)
