use Rattle.std.proofs.Common.{◌≡◌, drop}
use Rattle.std.specs.Prelude.{◌↔◌}
use Rattle.lwkt_verdict.specs.TurnParts.{after_all, GoesQuietly}
use Rattle.lwkt_verdict.proofs.turn_parts.go_quietly.Given as goal

-- the events are quiet exactly if those that are left are, and what they leave is what those leave
abbrev pub invariant-loop-event : goal.invariant-loop-event
invariant-loop-event l = record {
  right : GoesQuietly l.fn.state l.events ↔ GoesQuietly l.state (drop l.event-index l.events);
  moved : after_all l.fn.state l.events ≡ after_all l.state (drop l.event-index l.events);
}
