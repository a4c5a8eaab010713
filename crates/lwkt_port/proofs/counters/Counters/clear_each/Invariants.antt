use Rattle.std.proofs.Common.{◌≡◌, ◌+◌, ◌-◌, ◌≤◌, true}
use Rattle.lwkt_port.specs.Chains.{Chain}
use Rattle.lwkt_port.specs.Intakes.{Clearing, clearing, ClearsAt}
use Rattle.lwkt_port.specs.Works.{MailroomGrew}
use Rattle.lwkt_port.proofs.counters.Counters.clear_each.Given as goal

abbrev pub invariant-loop-at : goal.invariant-loop-at
invariant-loop-at l = record {
  clears : Chain Clearing ClearsAt l.at (clearing l.initial.self l.initial.trace 16) (clearing l.self l.trace l.left);
  within : l.left ≤ 16;
  grew_so : MailroomGrew (16 - l.left + l.at) l.initial.self.room l.initial.trace l.self.room l.trace;
  uncleared : l.self.uncleared ≡ true;
}
