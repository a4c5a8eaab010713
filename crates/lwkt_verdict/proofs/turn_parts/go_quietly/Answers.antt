use Rattle.std.proofs.Common.{◌≡◌, subst}
use Rattle.std.proofs.lemmas.Bool.{iff_false}
use Rattle.lwkt_core.specs.declared.events.Event.{Event}
use Rattle.lwkt_core.specs.Machine.{Needs, after}
use Rattle.lwkt_verdict.specs.Owns.{IsQuiet}
use Rattle.lwkt_verdict.specs.TurnParts.{after_all, GoesQuietly}
use Rattle.lwkt_verdict.proofs.PartMoves.{quiet_on, after_on, quiet_stops, never}
use Rattle.lwkt_verdict.proofs.turn_parts.go_quietly.Goals as goal

pub returns-then-not-goes_quietly_by_one-clause-right : goal.returns-then-not-goes_quietly_by_one-clause-right
returns-then-not-goes_quietly_by_one-clause-right c =
    let F : Event → Type 0 = λ e. Needs c.loop-event.state e × IsQuiet c.loop-event.state e → ⊥ in
    let no = subst F c.event-item.is (iff_false c.goes_quietly_by_one.ensures.right c.if-not-goes_quietly_by_one.true) in
    never (quiet_stops c.loop-event.state (GoesQuietly c.args.state.now c.args.events.now) c.args.events.now c.loop-event.event-index c.event-item.result c.loop-event-test.true no c.loop-event.invariant.right)

pub loop-event-preserved : goal.loop-event-preserved
loop-event-preserved c =
    let yes = c.if-not-goes_quietly_by_one.false in
    let F : Event → Type 0 = λ e. Needs c.loop-event.state e × IsQuiet c.loop-event.state e in
    let G : Event → Type 0 = λ e. c.goes_quietly_by_one.new.state ≡ after c.loop-event.state e in
    let fits = subst F c.event-item.is (c.goes_quietly_by_one.ensures.right.0 yes) in
    let next = subst G c.event-item.is (c.goes_quietly_by_one.ensures.moved yes) in
    record {
      right = quiet_on c.loop-event.state c.goes_quietly_by_one.new.state (GoesQuietly c.args.state.now c.args.events.now) c.args.events.now c.loop-event.event-index c.event-item.result c.loop-event-test.true fits next c.loop-event.invariant.right;
      moved = after_on c.loop-event.state c.goes_quietly_by_one.new.state (after_all c.args.state.now c.args.events.now) c.args.events.now c.loop-event.event-index c.event-item.result c.loop-event-test.true next c.loop-event.invariant.moved;
    }
