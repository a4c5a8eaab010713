use Rattle.std.proofs.Common.{◌≡◌, ◌++◌, ◌∷◌, [], length, ap, length-append, subst, sym, arith}
use Rattle.std.specs.Prelude.{All}
use Rattle.std.proofs.lemmas.Grind.{common_steps}
use Rattle.std.proofs.lemmas.List.Elements.{All-push}
use Rattle.lwkt_machine.specs.Ended.{IsStopRoom}
use Rattle.lwkt_machine.proofs.closings.stop_rooms.Goals as goal

pub loop-driven-preserved : goal.loop-driven-preserved
loop-driven-preserved g c =
    let l = c.loop-driven in
    let e = c.in_ok-with_capacity.ensures in
    let stop = c.in_ok-with_capacity.field-0 in
    let room : IsStopRoom stop = (e.items, omega (arith, e.len, e.capacity)) in
    let grown : c.push.new.list.items ≡ l.stops.items ++ stop ∷ [] = grind (arith, common_steps) in
    (omega (arith, ap length grown, length-append l.stops.items (stop ∷ []), l.invariant.0), subst (All IsStopRoom) (sym grown) (All-push IsStopRoom l.stops.items stop l.invariant.1 room))
