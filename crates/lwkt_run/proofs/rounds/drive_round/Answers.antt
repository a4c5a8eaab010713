use Rattle.std.proofs.Common.{◌≡◌, length, refl, ◌∙◌, arith}
use Rattle.lwkt_run.specs.Driving.{DriverState, driver_state}
use Rattle.lwkt_run.proofs.DriveMoves.{within_none, within_more, within_stops, within_ends}
use Rattle.lwkt_run.proofs.rounds.drive_round.Goals as goal

pub loop-cpu-init : goal.loop-cpu-init
loop-cpu-init g c = record { as_many = refl; made = within_none (driver_state c.args.machine.now (g.K.Keeper.kept c.args.keeper.now) c.args.events.now c.args.follower.now) }

pub loop-cpu-preserved : goal.loop-cpu-preserved
loop-cpu-preserved g c =
    let l = c.loop-cpu in
    let n = c.drive_turn.new in
    let first : DriverState = driver_state c.args.machine.now (g.K.Keeper.kept c.args.keeper.now) c.args.events.now c.args.follower.now in
    let old : DriverState = driver_state l.machine (g.K.Keeper.kept l.keeper) l.events l.follower in
    let new : DriverState = driver_state n.machine (g.K.Keeper.kept n.keeper) n.events n.follower in
    let driven = rw c.in-Some.is at c.in_ok-drive_turn.ensures.ok in
    record {
      as_many = c.drive_turn.ensures.as_many ∙ l.invariant.as_many;
      made = within_more l.cpu l.over c.in-Some.ended c.both-over.result first old new l.invariant.made driven c.both-over.ensures;
    }

pub returns-in-None : goal.returns-in-None
returns-in-None g c =
    let l = c.loop-cpu in
    let n = c.drive_turn.new in
    let first : DriverState = driver_state c.args.machine.now (g.K.Keeper.kept c.args.keeper.now) c.args.events.now c.args.follower.now in
    let old : DriverState = driver_state l.machine (g.K.Keeper.kept l.keeper) l.events l.follower in
    let new : DriverState = driver_state n.machine (g.K.Keeper.kept n.keeper) n.events n.follower in
    let driven = rw c.in-None.is at c.in_ok-drive_turn.ensures.ok in
    record { ok = within_stops l.cpu l.over first old new (omega (arith, c.loop-cpu-test.true, l.auto.cpu-end, c.cpus-cpu-end.ensures.value)) l.invariant.made driven }

pub returns : goal.returns
returns g c =
    let l = c.loop-cpu in
    let first : DriverState = driver_state c.args.machine.now (g.K.Keeper.kept c.args.keeper.now) c.args.events.now c.args.follower.now in
    let old : DriverState = driver_state l.machine (g.K.Keeper.kept l.keeper) l.events l.follower in
    let whole : l.cpu ≡ length c.args.machine.now.cpus = omega (arith, c.loop-cpu-test.false, l.auto.cpu-end, c.cpus-cpu-end.ensures.value) in
    record { ok = within_ends l.cpu l.over first old whole l.invariant.as_many l.invariant.made }
