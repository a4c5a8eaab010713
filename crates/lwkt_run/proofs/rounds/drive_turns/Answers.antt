use Rattle.std.proofs.Common.{◌≡◌, refl, sym, ◌∙◌, arith}
use Rattle.std.proofs.lemmas.Option.{unwrap_or-slice_get}
use Rattle.lwkt_verdict.specs.Run.{whose}
use Rattle.lwkt_run.specs.Driving.{DriverState, driver_state}
use Rattle.lwkt_run.proofs.DriveMoves.{turns_none, turns_more, turns_stop, turns_all}
use Rattle.lwkt_run.proofs.rounds.drive_turns.Goals as goal

pub loop-at-init : goal.loop-at-init
loop-at-init g c = record { as_many = refl; made = turns_none c.args.order.now (driver_state c.args.machine.now (g.K.Keeper.kept c.args.keeper.now) c.args.events.now c.args.follower.now) }

pub loop-at-preserved : goal.loop-at-preserved
loop-at-preserved g c =
    let l = c.loop-at in
    let n = c.drive_turn.new in
    let all = c.args.order.now in
    let first : DriverState = driver_state c.args.machine.now (g.K.Keeper.kept c.args.keeper.now) c.args.events.now c.args.follower.now in
    let old : DriverState = driver_state l.machine (g.K.Keeper.kept l.keeper) l.events l.follower in
    let new : DriverState = driver_state n.machine (g.K.Keeper.kept n.keeper) n.events n.follower in
    let driven = rw c.in-Some.is at c.in_ok-drive_turn.ensures.ok in
    let named : c.from-cpu.result ≡ whose all l.at = c.from-cpu.ensures ∙ sym (unwrap_or-slice_get all l.at 0) in
    record {
      as_many = c.drive_turn.ensures.as_many ∙ l.invariant.as_many;
      made = turns_more all l.at c.from-cpu.result _ first old new named l.invariant.made driven;
    }

pub returns-in-None : goal.returns-in-None
returns-in-None g c =
    let l = c.loop-at in
    let n = c.drive_turn.new in
    let all = c.args.order.now in
    let first : DriverState = driver_state c.args.machine.now (g.K.Keeper.kept c.args.keeper.now) c.args.events.now c.args.follower.now in
    let old : DriverState = driver_state l.machine (g.K.Keeper.kept l.keeper) l.events l.follower in
    let new : DriverState = driver_state n.machine (g.K.Keeper.kept n.keeper) n.events n.follower in
    let driven = rw c.in-None.is at c.in_ok-drive_turn.ensures.ok in
    let named : c.from-cpu.result ≡ whose all l.at = c.from-cpu.ensures ∙ sym (unwrap_or-slice_get all l.at 0) in
    record { ok = turns_stop all l.at c.from-cpu.result first old new (omega (arith, c.loop-at-test.true, l.auto.at-end)) named l.invariant.made driven }

pub returns : goal.returns
returns g c =
    let l = c.loop-at in
    let first : DriverState = driver_state c.args.machine.now (g.K.Keeper.kept c.args.keeper.now) c.args.events.now c.args.follower.now in
    let old : DriverState = driver_state l.machine (g.K.Keeper.kept l.keeper) l.events l.follower in
    record { ok = turns_all c.args.order.now l.at first old (omega (arith, c.loop-at-test.false, l.auto.at-end)) l.invariant.made }
