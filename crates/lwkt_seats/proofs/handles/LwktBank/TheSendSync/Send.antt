use mathlib.Core.List.{[]}
use base.Shift.{Keyless}
use denote.RawPtr.{Ptr}
use denote.Struct.Struct.{exits_of}
use denote.Struct.Owning.{shape, fields, to}
use denote.Param.Send.{IsSend, AllSend, owning_send, struct_send, sendable}
use Rattle.core.specs.declared.option.Option.{Option}
use Rattle.core.specs.declared.option.Option.TheVariants.{None, Some}
use Rattle.std_alloc.proofs.SendSync.{quiet, seen}
use Rattle.lwkt_seats.specs.Handles.{is_lent}
use Rattle.lwkt_seats.specs.contracts.desks.Desk as Desk
use Rattle.lwkt_seats.proofs.desks.Desk.TheSendSync.{the_sync as desk}
use Rattle.lwkt_seats.specs.contracts.handles.LwktBank.{the_row, the_type}

lent : (p : Ptr) (o : Option Desk.the_row.Denot) → Keyless (is_lent p o)
lent p None = λ _. tt
lent p (Some x) = (λ _. tt, seen Desk.the_row desk p x [])

pub send : IsSend the_row
send =
    let all : AllSend (fields the_type) = search sendable in
    owning_send the_type all (λ d. lent d.place d.desk) (λ k. quiet (to the_type) (exits_of k (fields the_type)) ((struct_send (shape the_type) all).leaving k))
