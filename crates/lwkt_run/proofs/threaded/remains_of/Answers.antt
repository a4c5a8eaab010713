use denote.Param.Send.{sendable}
use Rattle.lwkt_run.proofs.Crossings.{body_send}
use Rattle.lwkt_run.proofs.RoomMoves.{room_stays}
use Rattle.lwkt_run.proofs.ThreadedMoves.{driven_has, ended}
use Rattle.lwkt_run.proofs.threaded.remains_of.Goals as goal

pub left_by-requires-clause-threads : goal.left_by-requires-clause-threads
left_by-requires-clause-threads g c =
    driven_has (g.G.Gate.answers c.args.gate.now) c.args.script.now c.in_ok-machine.machine c.drive_on_threads.new.self c.in_ok-machine.ensures.ok c.drive_on_threads.ensures.driven

pub left_by-requires-clause-room : goal.left_by-requires-clause-room
left_by-requires-clause-room g c =
    let d = c.drive_on_threads.ensures in
    room_stays c.in_ok-machine.machine c.drive_on_threads.new.self c.in_ok-close_room.close_room d.bank d.book d.as_many c.in_ok-close_room.ensures

pub returns-clause-traces_of_run : goal.returns-clause-traces_of_run
returns-clause-traces_of_run g c =
    let opened = c.in_ok-machine in
    let remains = c.in_ok-left_by in
    let t = remains.field-0 in
    ended (g.G.Gate.answers c.args.gate.now) c.args.script.now t.left.threads.items t.left.last opened.machine c.drive_on_threads.new.self t.traces.items t.stops.items
    opened.ensures.ok opened.ensures.within c.drive_on_threads.ensures.driven remains.ensures.shown remains.ensures.leaves.0 remains.ensures.leaves.1

pub drive_on_threads-requires-send-B : goal.drive_on_threads-requires-send-B
drive_on_threads-requires-send-B g c κs within = search (sendable, body_send)
