-- Written gives (own).
use Rattle.std.specs.Prelude.{Option, Some, None}
use Rattle.lwkt_core.specs.declared.events.Event.{Event}
use Rattle.lwkt_core.specs.declared.events.Event.TheVariants.{GiveWritten}
use Rattle.lwkt_drive.specs.declared.gives.Give.{Give}

-- the written give that an event is, if it is one
abbrev pub give_of : Event → Option Give
give_of (GiveWritten cpu tok section) = Some (record { cpu = cpu; section = section })
give_of _ = None
