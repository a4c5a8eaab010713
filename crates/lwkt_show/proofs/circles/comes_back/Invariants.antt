use Rattle.std.proofs.Common.{◌≡◌, ◌-◌, length}
use Rattle.lwkt_show.specs.Circles.{comes_back, next_of}
use Rattle.lwkt_show.proofs.circles.comes_back.Given as goal

abbrev pub invariant-loop-wait : goal.invariant-loop-wait
invariant-loop-wait l =
    comes_back (next_of l.waits) l.first (length l.waits - l._wait) l.now ≡ comes_back (next_of l.waits) l.first (length l.waits) l.first
