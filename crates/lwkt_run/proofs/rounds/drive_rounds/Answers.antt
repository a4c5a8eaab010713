use Rattle.std.proofs.Common.{arith}
use Rattle.lwkt_run.specs.Driving.{DriverState, driver_state}
use Rattle.lwkt_run.proofs.DriveMoves.{rounds_none, rounds_more, rounds_end, rounds_stop, rounds_all}
use Rattle.lwkt_run.proofs.rounds.drive_rounds.Goals as goal

pub loop-round-init : goal.loop-round-init
loop-round-init g c = rounds_none (driver_state c.args.machine.now (g.K.Keeper.kept c.args.keeper.now) c.args.events.now c.args.follower.now)

pub loop-round-preserved : goal.loop-round-preserved
loop-round-preserved g c =
    let l = c.loop-round in
    let n = c.drive_round.new in
    let first : DriverState = driver_state c.args.machine.now (g.K.Keeper.kept c.args.keeper.now) c.args.events.now c.args.follower.now in
    let old : DriverState = driver_state l.machine (g.K.Keeper.kept l.keeper) l.events l.follower in
    let new : DriverState = driver_state n.machine (g.K.Keeper.kept n.keeper) n.events n.follower in
    let followed_so = rw (c.in-Some-false.is, c.in-Some-false.field-0-test) at c.in_ok-drive_round.ensures.ok in
    rounds_more l._round first old new l.invariant followed_so

pub returns-in-Some-true : goal.returns-in-Some-true
returns-in-Some-true g c =
    let l = c.loop-round in
    let n = c.drive_round.new in
    let first : DriverState = driver_state c.args.machine.now (g.K.Keeper.kept c.args.keeper.now) c.args.events.now c.args.follower.now in
    let old : DriverState = driver_state l.machine (g.K.Keeper.kept l.keeper) l.events l.follower in
    let new : DriverState = driver_state n.machine (g.K.Keeper.kept n.keeper) n.events n.follower in
    let followed_so = rw (c.in-Some-true.is, c.in-Some-true.field-0-test) at c.in_ok-drive_round.ensures.ok in
    record { ok = rounds_end c.args.limit l._round first old new c.loop-round-test.true l.invariant followed_so }

pub returns-in-None : goal.returns-in-None
returns-in-None g c =
    let l = c.loop-round in
    let n = c.drive_round.new in
    let first : DriverState = driver_state c.args.machine.now (g.K.Keeper.kept c.args.keeper.now) c.args.events.now c.args.follower.now in
    let old : DriverState = driver_state l.machine (g.K.Keeper.kept l.keeper) l.events l.follower in
    let new : DriverState = driver_state n.machine (g.K.Keeper.kept n.keeper) n.events n.follower in
    let followed_so = rw c.in-None.is at c.in_ok-drive_round.ensures.ok in
    record { ok = rounds_stop c.args.limit l._round first old new c.loop-round-test.true l.invariant followed_so }

pub returns : goal.returns
returns g c =
    let l = c.loop-round in
    let first : DriverState = driver_state c.args.machine.now (g.K.Keeper.kept c.args.keeper.now) c.args.events.now c.args.follower.now in
    let old : DriverState = driver_state l.machine (g.K.Keeper.kept l.keeper) l.events l.follower in
    record { ok = rounds_all c.args.limit l._round first old (omega (arith, c.loop-round-test.false, l.auto._round-end)) l.invariant }
