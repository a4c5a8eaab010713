-- Whether every order was tried (own).
use Rattle.std.specs.Prelude.{Bool, true, false, ℕ, if◌then◌else◌, Option, None, Some, option_map}
use Rattle.lwkt_explore.specs.declared.extents.Bound.{Bound}
use Rattle.lwkt_explore.specs.declared.extents.Bound.TheVariants.{States, Turns, Memory, Refused, Stopped, Differs}
use Rattle.lwkt_explore.specs.declared.extents.Room.{Room}
use Rattle.lwkt_explore.specs.declared.extents.Room.TheVariants as room
use Rattle.lwkt_plain.specs.Sizes.{plus, times}
use Rattle.lwkt_search.specs.declared.machines.Seen.{Seen}
use Rattle.lwkt_search.specs.declared.searches.Bound.{Bound as Met}
use Rattle.lwkt_search.specs.declared.searches.Bound.TheVariants as met
use Rattle.lwkt_explore.specs.declared.extents.Extent.{Extent}
use Rattle.lwkt_explore.specs.declared.extents.Extent.TheVariants.{Complete, Part, Sampled}
use Rattle.lwkt_explore.specs.declared.searches.Found.{Found}

-- a bound that the search of the plain machine met
abbrev pub bound_met : Met → Bound
bound_met met.States = States
bound_met met.Turns = Turns
bound_met met.Stopped = Stopped

-- how many bytes a search keeps: those of its states, twelve for what is noted of each, and four for each turn
abbrev pub bytes_seen : Seen → ℕ
bytes_seen seen = plus seen.bytes (plus (times seen.states 12) (times seen.turns 4))

-- the same of one that was stopped for what it kept, if it was stopped
abbrev pub bound_met_full : Met → Bound
bound_met_full met.States = States
bound_met_full met.Turns = Turns
bound_met_full met.Stopped = Memory

-- what room a search had: that memory was refused, where it was; else that it kept more than it may, where it did
abbrev pub room_of : Bool → Bool → Room
room_of was_refused is_full = if was_refused then room.Refused else (if is_full then room.Full else room.Enough)

-- what ended a search, if anything did: that memory was refused, where it was, and else the bound that it met
abbrev pub bound_of : Option Met → Room → Option Bound
bound_of met room.Refused = Some Refused
bound_of met room.Full = option_map bound_met_full met
bound_of met room.Enough = option_map bound_met met

abbrev pub is_whole : Extent → Bool
is_whole Complete = true
is_whole (Part bound) = false
is_whole Sampled = false

-- whether every order was tried
abbrev pub is_complete : Found → Bool
is_complete found = is_whole found.extent

abbrev pub is_difference : Bound → Bool
is_difference States = false
is_difference Turns = false
is_difference Memory = false
is_difference Refused = false
is_difference Stopped = false
is_difference Differs = true

abbrev pub ends_in_difference : Extent → Bool
ends_in_difference Complete = false
ends_in_difference (Part bound) = is_difference bound
ends_in_difference Sampled = false

-- whether the real machine was seen to be otherwise than its plain machine
abbrev pub differs : Found → Bool
differs found = ends_in_difference found.extent
