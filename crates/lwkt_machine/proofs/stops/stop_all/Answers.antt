use Rattle.std.proofs.Common.{◌≡◌, ◌<◌, length, get_or, set, refl, arith, Some}
use Rattle.std.specs.Prelude.{slice_get}
use Rattle.std.proofs.lemmas.List.Elements.{All-set}
use Rattle.std.proofs.lemmas.Option.{slice_get-get_or}
use Rattle.lwkt_bank.specs.Seats.{id_of}
use Rattle.lwkt_drive.specs.Course.{IsAtTables}
use Rattle.lwkt_machine.specs.Ended.{AreStoppedShort}
use Rattle.lwkt_machine.specs.Machines.{Lasts, processors}
use Rattle.lwkt_machine.proofs.SameMoves.{on_err, same_none}
use Rattle.lwkt_machine.proofs.StopMoves.{stopped_more, stopped_none, stopped_same}
use Rattle.lwkt_machine.proofs.stops.stop_all.Goals as goal

pub loop-number-init : goal.loop-number-init
loop-number-init g c = record {
  at = c.requires.at;
  kept = c.requires.kept;
  same = same_none (processors {B = g.row.B.Denot} c.args.cpus.now);
  so_far = stopped_none {B = g.row.B.Denot} c.args.cpus.now;
}

pub returns-in_err-stop_one-clause-err : goal.returns-in_err-stop_one-clause-err
returns-in_err-stop_one-clause-err g c =
    let l = c.loop-number in
    let d = c.index-cpus-number.result in
    let within : l.number < length l.cpus = omega (arith, c.loop-number-test.true, l.auto.cpus) in
    let p = get_or l.cpus l.number d in
    let q = c.stop_one.new.driven in
    let is : slice_get l.cpus l.number ≡ Some p = slice_get-get_or l.cpus l.number d within in
    on_err c.from_residual.result (AreStoppedShort {B = g.row.B.Denot} c.args.cpus.now (set l.cpus l.number q))
    (record {
      count = l.number;
      mids = l.cpus;
      stopped = l.invariant.so_far;
      stays = record { before = p; now = q; at_before = is; does = c.in_err-stop_one.ensures.err; cpus = refl };
    })

pub returns-in_err-stop_one-clause-same : goal.returns-in_err-stop_one-clause-same
returns-in_err-stop_one-clause-same g c =
    let l = c.loop-number in
    let d = c.index-cpus-number.result in
    let within : l.number < length l.cpus = omega (arith, c.loop-number-test.true, l.auto.cpus) in
    stopped_same c.args.cpus.now l.cpus l.number (get_or l.cpus l.number d) c.stop_one.new.driven within (slice_get-get_or l.cpus l.number d within) c.stop_one.ensures.same l.invariant.same

pub loop-number-preserved : goal.loop-number-preserved
loop-number-preserved g c =
    let l = c.loop-number in
    let d = c.index-cpus-number.result in
    let within : l.number < length l.cpus = omega (arith, c.loop-number-test.true, l.auto.cpus) in
    let p = get_or l.cpus l.number d in
    let q = c.stop_one.new.driven in
    let is : slice_get l.cpus l.number ≡ Some p = slice_get-get_or l.cpus l.number d within in
    record {
      at = All-set (IsAtTables {B = g.row.B.Denot} (id_of c.args.bank.now) c.args.book.now.table) l.cpus l.number q c.stop_one.ensures.at l.invariant.at;
      kept = All-set (Lasts {B = g.row.B.Denot} g.B.Lasting.kept) l.cpus l.number q c.stop_one.ensures.kept l.invariant.kept;
      same = stopped_same c.args.cpus.now l.cpus l.number p q within is c.stop_one.ensures.same l.invariant.same;
      so_far = stopped_more {B = g.row.B.Denot} c.args.cpus.now l.cpus l.number p q within is c.in_ok-stop_one.ensures.ok l.invariant.so_far;
    }
