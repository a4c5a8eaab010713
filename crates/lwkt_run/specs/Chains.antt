-- What the written sections of a run come to (own).
use Rattle.std.specs.Prelude.{List, zip}
use Rattle.lwkt_core.specs.declared.events.Event.{Event}
use Rattle.lwkt_core.specs.declared.finals.Final.{Final}
use Rattle.lwkt_core.specs.Machine.{Machine}
use Rattle.lwkt_core.specs.RunSections.{sections_in, rows_of}
use Rattle.lwkt_core.specs.SectionChain.{AreInOrder, AreSectionChains}

-- the written sections of these events from a machine on, by token and in order, are chains: of each token one, generation by
-- generation, from its row there to its closing row
abbrev pub WritesChains : Machine → List Event → Final → Type 0
WritesChains m events last = AreInOrder (sections_in m events) × AreSectionChains (rows_of m) (zip last.rows.items last.gens.items) (sections_in m events)
