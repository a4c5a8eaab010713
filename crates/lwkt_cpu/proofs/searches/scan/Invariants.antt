use Rattle.std.proofs.Common.{◌≡◌, ◌-◌, ◌*◌}
use Rattle.lwkt_base.specs.Holding.{holds_nothing}
use Rattle.lwkt_bank.specs.Seats.{holding}
use Rattle.lwkt_hold.specs.Runs.{Ran}
use Rattle.lwkt_cpu.specs.Traced.{TracesTokensOnly}
use Rattle.lwkt_cpu.specs.Searches.{point, SkipsTo, IsOfOne}
use Rattle.lwkt_cpu.proofs.searches.scan.Given as goal

abbrev pub invariant-loop-at : goal.invariant-loop-at
invariant-loop-at l = record {
  ran : Ran (IsOfOne l.initial.threads) (64 * (l.at - l.from)) l.initial.hold.seat l.hold.seat l.initial.trace l.trace;
  empty : holding l.hold.seat ≡ holds_nothing;
  quiet : TracesTokensOnly l.initial.trace.items l.trace.items;
  skipped : SkipsTo l.from l.at (point l.initial.hold.seat l.initial.threads l.initial.trace) (point l.hold.seat l.threads l.trace);
}
