use Rattle.std.proofs.Common.{◌+◌, length, ap, sym, ◌∙◌, subst, arith}
use Rattle.lwkt_seats.specs.Closes.{AreFree}
use Rattle.lwkt_seats.proofs.CloseMoves.{free_more, longer}
use Rattle.lwkt_seats.proofs.desks.Desk.free_seats.Goals as goal

pub loop-number-preserved : goal.loop-number-preserved
loop-number-preserved c =
    let i = c.loop-number.invariant in
    let items = c.put_taken.ensures.items in
    record {
      count = ap length items ∙ longer c.loop-number.sitters.items c.in-Ok.taken ∙ ap (λ n. n + 1) i.count;
      free = subst (AreFree c.args.self.now) (sym items) (free_more c.args.self.now c.loop-number.sitters.items c.in-Ok.taken c.loop-number.number i.free (sym i.count) c.in-Ok.ensures.ok);
      room = (let room = i.room in let wider = c.put_taken.ensures.room in omega (arith, room, wider));
      wider = (let wide = i.wider in let wider = c.put_taken.ensures.room in omega (arith, wide, wider));
    }
