use mir.Raw.{raw}
use base.Shift.{Keyless}
use denote.Memory.{lone}
use denote.RawPtr.{Ptr}
use denote.Struct.Struct.{exits_of}
use denote.Struct.Owning.{shape, fields, to}
use denote.Param.Send.{IsSend, AllSend, owning_send, struct_send, sendable}
use Rattle.core.specs.declared.option.Option.{Option}
use Rattle.core.specs.declared.option.Option.TheVariants.{None, Some}
use Rattle.std_alloc.proofs.SendSync.{quiet, lies}
use Rattle.std.proofs.Crossing.{frees}
use Rattle.lwkt_seats.specs.Handles.{is_held}
use Rattle.lwkt_seats.specs.contracts.desks.Desk as Desk
use Rattle.lwkt_seats.proofs.desks.Desk.TheSendSync.{the_send as desk}
use Rattle.lwkt_seats.specs.contracts.handles.LwktHeld.{the_row, the_type}

held : (p : Ptr) (o : Option Desk.the_row.Denot) → Keyless (is_held p o)
held p None = λ _. tt
held p (Some x) = λ alloc. (lies Desk.the_row desk p x, frees.frees alloc (raw (lone Desk.the_row.mir)) p)

pub send : IsSend the_row
send =
    let all : AllSend (fields the_type) = search sendable in
    owning_send the_type all (λ d. held d.place d.desk) (λ k. quiet (to the_type) (exits_of k (fields the_type)) ((struct_send (shape the_type) all).leaving k))
