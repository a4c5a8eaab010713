use Rattle.std.proofs.Common.{◌≡◌, ◌+◌, length}
use Rattle.std.specs.Prelude.{vec_len}
use Rattle.lwkt_bank.specs.Closing.{AreRead, HasRoom}
use Rattle.lwkt_bank.proofs.closings.values.Given as goal

abbrev pub invariant-loop-blank : goal.invariant-loop-blank
invariant-loop-blank l = record {
  read : AreRead l.plans l.cpus l.words l.slots l.kept l.closed (length l.closed.gens.items);
  left : length l.closed.gens.items + length l.blanks.items ≡ length l.plans;
  room : HasRoom l.closed (length l.plans);
}

abbrev pub decreases-loop-blank : goal.decreases-loop-blank
decreases-loop-blank l = vec_len l.blanks
