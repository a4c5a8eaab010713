use Rattle.std.proofs.Common.{rules, ◌≡◌, ◌∙◌, length}
use Rattle.lwkt_seats.proofs.CloseMoves.{front_free, last_out}
use Rattle.lwkt_seats.proofs.desks.Desk.put_all_back.Goals as goal

pub set_down-requires : goal.set_down-requires
set_down-requires c =
    let number : c.len.result ≡ length c.pop.new.self.items = search rules in
    last_out c.args.self.now c.loop-taken.sitters.items c.pop.new.self.items c.in-Some.taken c.len.result c.in-Some.ensures.items c.loop-taken.invariant.free number

pub loop-taken-preserved : goal.loop-taken-preserved
loop-taken-preserved c = record {
  free = front_free c.args.self.now c.loop-taken.sitters.items c.pop.new.self.items c.in-Some.taken c.in-Some.ensures.items c.loop-taken.invariant.free;
  room = c.pop.ensures.capacity ∙ c.loop-taken.invariant.room;
}
