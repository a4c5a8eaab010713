use Rattle.std.proofs.Common.{◌≤◌}
use Rattle.std.specs.Prelude.{vec_capacity}
use Rattle.std.specs.Slots.{slots_items}
use Rattle.lwkt_msg.specs.Desks.{AreShown}
use Rattle.lwkt_msg.proofs.closings.read_ends.Given as goal

abbrev pub invariant-loop-m : goal.invariant-loop-m
invariant-loop-m l = record { shown : AreShown l.m (slots_items l.closed.words) l.ends.items; room : l.messages ≤ vec_capacity l.ends }
