-- The events that a trace states (own).
use Rattle.std.specs.Prelude.{◌≡◌, List, [], ◌∷◌, slice_get}
use Rattle.std.specs.Option.{option_map_or}
use Rattle.lwkt_base.specs.declared.names.TokId.{TokId}
use Rattle.lwkt_base.specs.declared.sections.Section.{Section}
use Rattle.lwkt_core.specs.declared.events.Event.{Event}
use Rattle.lwkt_core.specs.declared.events.Event.TheVariants.{GiveWritten}
use Rattle.lwkt_core.specs.Tokens.{section_at}
use Rattle.lwkt_core.specs.Machine.{Machine, after}
use Rattle.lwkt_core.specs.Trace.{Run}
use Rattle.lwkt_trace.specs.declared.traces.Stated.{Stated}
use Rattle.lwkt_trace.specs.declared.traces.Stated.TheVariants.{Whole, Given}

-- a section without cells, for a token that isn't there
abbrev pub no_section : TokId → Section
no_section t = record { before = []; after = []; generation = 0; tok = t }

-- the section of a token that would end now
abbrev pub section_due : Machine → TokId → Section
section_due m t = option_map_or (section_at t) (slice_get m.tokens t.0) (no_section t)

-- the event that is stated: a written give whose section isn't stated has the one that would end now
abbrev pub event_stated : Machine → Stated → Event
event_stated m (Whole e) = e
event_stated m (Given cpu t) = GiveWritten cpu t (section_due m t)

-- the events that are stated from a machine on, each in the machine that those before it leave
abbrev pub events_stated : Machine → List Stated → List Event
events_stated m [] = []
events_stated m (x ∷ xs) = event_stated m x ∷ events_stated (after m (event_stated m x)) xs

-- an event is one that is stated: the whole one, or a written give with any section
abbrev pub IsStated : Stated → Event → Type 0
IsStated (Whole e) event = event ≡ e
IsStated (Given cpu t) event = (section : Section) × (event ≡ GiveWritten cpu t section)

-- events are some that are stated
abbrev pub AreStated : List Stated → List Event → Type 0
AreStated [] [] = Unit {0}
AreStated [] (e ∷ es) = ⊥
AreStated (x ∷ xs) [] = ⊥
AreStated (x ∷ xs) (e ∷ es) = IsStated x e × AreStated xs es

-- a law: of all events that are stated, only these can happen from a machine
abbrev pub StatedIsOnly : Type 0
StatedIsOnly = (m n : Machine) (stated : List Stated) (events : List Event) → AreStated stated events → Run m events n → events ≡ events_stated m stated
