use Rattle.std.proofs.Common.{◌≡◌, ◌+◌, ◌≤◌, sum, arith}
use Rattle.lwkt_explore.proofs.samples.add_all.Goals as goal

pub loop-made-preserved : goal.loop-made-preserved
loop-made-preserved g c = record {
  found = c.in_ok-more.ensures.found;
  short = c.in_ok-more.ensures.short;
  counts = omega (arith, c.in_ok-more.ensures.counts, c.loop-made.invariant.counts);
  once = λ once. c.in_ok-more.ensures.once (c.loop-made.invariant.once once);
}
