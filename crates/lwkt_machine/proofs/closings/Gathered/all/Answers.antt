use Rattle.std.proofs.Common.{◌≡◌, ℕ, ◌+◌, ◌<◌, length, ap, subst, arith}
use Rattle.lwkt_lane.proofs.PlaceMoves.{length_removed}
use Rattle.lwkt_machine.specs.Ended.{HasRoom}
use Rattle.lwkt_machine.proofs.RetireMoves.{over_first, retiring_more, room_first}
use Rattle.lwkt_machine.proofs.closings.Gathered.all.Goals as goal

pub loop-number-preserved : goal.loop-number-preserved
loop-number-preserved g c =
    let l = c.loop-number in
    let rest = l.cpus.items in
    let some : 0 < length rest = omega (arith, c.loop-number-test.true, l.invariant.left, l.auto, c.len-number-end.ensures, c.args.cpus.ok) in
    let fewer = length_removed rest some in
    let is = ap length c.remove-driven.ensures.items in
    let F : ℕ → Type 0 = λ n. HasRoom {B = g.row.B.Denot} n l.all in
    let one : length rest ≡ length c.remove-driven.new.self.items + 1 = omega (arith, fewer, is) in
    record {
      so_far = retiring_more {B = g.row.B.Denot} c.args.cpus.items rest c.remove-driven.new.self.items l.all c.add.new.self c.remove-driven.result some c.remove-driven.ensures.value c.remove-driven.ensures.items l.invariant.so_far (c.add.ensures.retired l.invariant.so_far.done l.invariant.so_far.retired);
      room = c.add.ensures.room (length c.remove-driven.new.self.items) (subst F one l.invariant.room);
      left = omega (arith, fewer, is, l.invariant.left);
    }

pub add-requires-clause-over : goal.add-requires-clause-over
add-requires-clause-over g c =
    let l = c.loop-number in
    let rest = l.cpus.items in
    let some : 0 < length rest = omega (arith, c.loop-number-test.true, l.invariant.left, l.auto, c.len-number-end.ensures, c.args.cpus.ok) in
    over_first {B = g.row.B.Denot} c.args.cpus.items rest l.all c.remove-driven.result some c.remove-driven.ensures.value l.invariant.so_far

pub add-requires-clause-room : goal.add-requires-clause-room
add-requires-clause-room g c =
    let l = c.loop-number in
    let rest = l.cpus.items in
    let some : 0 < length rest = omega (arith, c.loop-number-test.true, l.invariant.left, l.auto, c.len-number-end.ensures, c.args.cpus.ok) in
    let fewer = length_removed rest some in
    let is = ap length c.remove-driven.ensures.items in
    let F : ℕ → Type 0 = λ n. HasRoom {B = g.row.B.Denot} n l.all in
    let one : length rest ≡ length c.remove-driven.new.self.items + 1 = omega (arith, fewer, is) in
    room_first {B = g.row.B.Denot} (length c.remove-driven.new.self.items) l.all (subst F one l.invariant.room)
