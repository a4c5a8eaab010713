use Rattle.std.proofs.Common.{rules, ◌≡◌, ◌∷◌, ◌++◌, length, ap, sym, ◌∙◌, arith}
use Rattle.lwkt_seats.proofs.CloseMoves.{seats_in, seats_more, whole_more, fewer}
use Rattle.lwkt_seats.proofs.closes.seats_of.Goals as goal

pub put_seat-requires : goal.put_seat-requires
put_seat-requires c =
    let whole : c.args.sitters.items ≡ c.loop-taken.yielded ++ c.in-Some.taken ∷ c.next.new.self.rest.items = search rules in
    let few = fewer c.loop-taken.yielded c.in-Some.taken c.next.new.self.rest.items in
    let is = ap length c.loop-taken.invariant.is in
    let many = seats_in c.loop-taken.yielded in
    let all = ap length whole in
    let room = c.loop-taken.invariant.room in
    omega (arith, few, is, many, all, room)

pub loop-taken-preserved : goal.loop-taken-preserved
loop-taken-preserved c =
    let whole : c.args.sitters.items ≡ c.loop-taken.yielded ++ c.in-Some.taken ∷ c.next.new.self.rest.items = search rules in
    record {
      whole = whole_more c.loop-taken.yielded c.in-Some.taken c.next.new.self.rest.items ∙ sym whole;
      is = c.put_seat.ensures.items ∙ seats_more c.loop-taken.yielded c.in-Some.taken c.loop-taken.seats.items c.seat_of.result c.loop-taken.invariant.is c.seat_of.ensures;
      room = (let room = c.loop-taken.invariant.room in let wider = c.put_seat.ensures.room in omega (arith, room, wider));
    }
