use Rattle.std.proofs.Common.{◌≡◌, ◌<◌, length, get_or, arith, Some}
use Rattle.std.specs.Prelude.{slice_get}
use Rattle.std.proofs.lemmas.List.Elements.{All-set}
use Rattle.std.proofs.lemmas.Option.{slice_get-get_or}
use Rattle.lwkt_bank.specs.Seats.{id_of}
use Rattle.lwkt_drive.specs.Course.{IsAtTables}
use Rattle.lwkt_machine.specs.Machines.{Lasts}
use Rattle.lwkt_machine.proofs.StopMoves.{ended_none, ended_more, ended_all, rooms_first, rooms_more}
use Rattle.lwkt_machine.proofs.stops.end_all.Goals as goal

pub loop-number-init : goal.loop-number-init
loop-number-init g c = record {
  at = c.requires.at;
  kept = c.requires.kept;
  rooms = rooms_first c.args.stops.now c.requires.rooms;
  so_far = ended_none {B = g.row.B.Denot} c.args.cpus.now c.args.stops.now c.requires.many;
}

pub end_one-requires-clause-room : goal.end_one-requires-clause-room
end_one-requires-clause-room g c =
    let l = c.loop-number in
    let d = c.index-stops-number.result in
    let within : l.number < length l.stops = omega (arith, c.loop-number-test.true, l.auto.cpus, l.invariant.so_far.as_many, l.invariant.so_far.stops_are) in
    l.invariant.rooms l.number (get_or l.stops l.number d) (omega arith) (slice_get-get_or l.stops l.number d within)

pub loop-number-preserved : goal.loop-number-preserved
loop-number-preserved g c =
    let l = c.loop-number in
    let d = c.index-cpus-number.result in
    let within : l.number < length l.cpus = omega (arith, c.loop-number-test.true, l.auto.cpus) in
    let there : l.number < length l.stops = omega (arith, within, l.invariant.so_far.as_many, l.invariant.so_far.stops_are) in
    let p = get_or l.cpus l.number d in
    let q = c.end_one.new.driven in
    let v = c.end_one.new.stop in
    let is : slice_get l.cpus l.number ≡ Some p = slice_get-get_or l.cpus l.number d within in
    record {
      at = All-set (IsAtTables {B = g.row.B.Denot} (id_of c.args.bank.now) c.args.book.now.table) l.cpus l.number q c.end_one.ensures.at l.invariant.at;
      kept = All-set (Lasts {B = g.row.B.Denot} g.B.Lasting.kept) l.cpus l.number q c.end_one.ensures.kept l.invariant.kept;
      rooms = rooms_more l.stops l.number v l.invariant.rooms;
      so_far = ended_more {B = g.row.B.Denot} c.args.cpus.now l.cpus l.stops l.number p q v within there is c.end_one.ensures.ends l.invariant.so_far;
    }

pub returns-clause-ended : goal.returns-clause-ended
returns-clause-ended g c =
    let l = c.loop-number in
    let all : l.number ≡ length c.args.cpus.now = omega (arith, c.loop-number-test.false, l.auto.number-end, l.auto.cpus, l.invariant.so_far.as_many) in
    ended_all {B = g.row.B.Denot} c.args.cpus.now l.cpus l.stops l.number all l.invariant.so_far
