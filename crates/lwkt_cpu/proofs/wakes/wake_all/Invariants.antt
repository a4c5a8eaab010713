use Rattle.std.proofs.Common.{◌*◌}
use Rattle.lwkt_msg.specs.Desks.{desk_cpu}
use Rattle.lwkt_port.specs.Chains.{Chain}
use Rattle.lwkt_port.specs.Posts.{IsSamePost}
use Rattle.lwkt_port.specs.Traced.{TracesDeeds}
use Rattle.lwkt_port.specs.Works.{Grew}
use Rattle.lwkt_cpu.specs.Waking.{Ward, WakesAt, ward, AreWoken}
use Rattle.lwkt_cpu.proofs.wakes.wake_all.Given as goal

abbrev pub invariant-loop-at : goal.invariant-loop-at
invariant-loop-at l = record {
  wakes : Chain Ward WakesAt l.at (ward l.initial.ports l.initial.threads l.initial.trace) (ward l.ports l.threads l.trace);
  woken : AreWoken l.initial.threads l.threads;
  same : IsSamePost l.initial.ports l.ports;
  grew : Grew (desk_cpu l.initial.ports.seat) (128 * l.at) l.initial.trace l.trace;
  traced : TracesDeeds l.initial.ports.seat l.ports.seat l.initial.trace.items l.trace.items;
}
