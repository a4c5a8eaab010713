-- The events by which the references of a list are taken.
use Rattle.std.specs.Prelude.{if◌then◌else◌, List, [], ◌∷◌, ◌++◌}
use Rattle.lwkt_base.specs.declared.names.CpuId.{CpuId}
use Rattle.lwkt_base.specs.declared.names.TokId.{TokId}
use Rattle.lwkt_base.specs.declared.names.Mode.{Mode}
use Rattle.lwkt_base.specs.declared.names.Mode.TheVariants.{Exclusive, Shared}
use Rattle.lwkt_base.specs.declared.names.Ref.{Ref}
use Rattle.lwkt_base.specs.Refs.{names}
use Rattle.lwkt_core.specs.declared.events.Event.{Event}
use Rattle.lwkt_core.specs.declared.events.Event.TheVariants.{Take, Share, Again}

-- the event of taking a first reference to a token, in its mode (token(9))
abbrev pub taking : CpuId → TokId → Mode → Event
taking cpu tok Exclusive = Take cpu tok
taking cpu tok Shared = Share cpu tok

-- the event of taking a reference, those in front of it being held: a further one, or a first one in its mode (token(9))
abbrev pub taking_event : CpuId → List Ref → Ref → Event
taking_event cpu front r = if names front r.tok.0 then Again cpu r.tok else taking cpu r.tok r.mode

-- the events of taking references in order, those in front of them being held
abbrev pub takes_all : CpuId → List Ref → List Ref → List Event
takes_all cpu front [] = []
takes_all cpu front (r ∷ refs) = taking_event cpu front r ∷ takes_all cpu (front ++ r ∷ []) refs
