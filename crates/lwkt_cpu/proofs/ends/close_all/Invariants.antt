use Rattle.std.proofs.Common.{◌≡◌}
use Rattle.lwkt_port.specs.Chains.{Chain}
use Rattle.lwkt_port.specs.Posts.{Post, IsSamePost}
use Rattle.lwkt_cpu.specs.Ending.{includes, ClosesAt}
use Rattle.lwkt_cpu.proofs.ends.close_all.Given as goal

abbrev pub invariant-loop-at : goal.invariant-loop-at
invariant-loop-at l = record {
  closes : Chain Post (ClosesAt (includes l.which) l.threads) l.at l.initial.ports l.ports;
  same : IsSamePost l.initial.ports l.ports;
  seat : l.ports.seat ≡ l.initial.ports.seat;
}
