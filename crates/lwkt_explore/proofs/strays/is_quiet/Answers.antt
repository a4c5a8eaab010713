use Rattle.std.proofs.Common.{◌≤◌, length, arith}
use Rattle.lwkt_plain.specs.Stores.{kept, form_turn}
use Rattle.lwkt_explore.proofs.StrayLemmas.{turned_longer}
use Rattle.lwkt_explore.proofs.strays.is_quiet.Goals as goal

pub loop-cpu-preserved : goal.loop-cpu-preserved
loop-cpu-preserved c =
    let old = kept c.loop-cpu.store in
    let new = kept c.turn.new.self in
    let more : length old ≤ length new = turned_longer (form_turn c.args.script.now) old new c.args.at c.loop-cpu.cpu c.in_ok-next.next c.in_ok-next.ensures.turned in
    record { store = c.in_ok-next.ensures.store; longer = omega (arith, c.loop-cpu.invariant.longer) }

pub returns-then-next-at-clause-longer : goal.returns-then-next-at-clause-longer
returns-then-next-at-clause-longer c =
    let old = kept c.loop-cpu.store in
    let new = kept c.turn.new.self in
    let more : length old ≤ length new = turned_longer (form_turn c.args.script.now) old new c.args.at c.loop-cpu.cpu c.in_ok-next.next c.in_ok-next.ensures.turned in
    omega (arith, c.loop-cpu.invariant.longer)
