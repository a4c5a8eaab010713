use Rattle.std.proofs.Common.{subst}
use Rattle.std.specs.Prelude.{string_bytes}
use Rattle.lwkt_core.specs.Machine.{Machine, Needs, Happens}
use Rattle.lwkt_core.specs.declared.events.Event.{Event}
use Rattle.lwkt_checker.specs.Said.{IsReason}
use Rattle.lwkt_checker.proofs.Stops.{plays_more, fails_more}
use Rattle.lwkt_checker.proofs.stages.played.Goals as goal

pub returns-in-Ok : goal.returns-in-Ok
returns-in-Ok c = λ trace open_still counted so.
    plays_more trace c.args.stated.now c.args.state c.step.new.self open_still so (subst (λ (e : Event). Happens c.args.state e c.step.new.self) c.event_stated-event.ensures c.in-Ok.ensures.ok)

pub returns-in_ok-reason-in-Err : goal.returns-in_ok-reason-in-Err
returns-in_ok-reason-in-Err c = λ trace open_still counted so.
    fails_more trace c.args.stated.now c.args.state c.args.index c.in_ok-reason-in-Err.field-0 open_still counted so (subst (λ (e : Event). ¬ Needs c.args.state e) c.event_stated-event.ensures c.in-Err.ensures.refused)
    (subst (λ (m : Machine). IsReason m c.args.index c.args.stated.now (string_bytes c.in_ok-reason-in-Err.field-0)) c.in-Err.ensures.unchanged c.in_ok-reason-in-Err.ensures)
