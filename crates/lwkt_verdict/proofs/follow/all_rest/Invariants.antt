use Rattle.lwkt_verdict.specs.Followed.{AreKept}
use Rattle.lwkt_verdict.proofs.FollowMoves.{Rested, Left, Allowed}
use Rattle.lwkt_verdict.proofs.follow.all_rest.Given as goal

-- each thread is kept, those so far may rest, and those of the processor that are left are as they were
abbrev pub invariant-loop-n : goal.invariant-loop-n
invariant-loop-n l = record {
  kept : AreKept l.fn.table l.table;
  rested : Rested l.cpu l.n l.fn.table l.table;
  left : Left l.cpu l.n l.fn.table l.table;
  allowed : Allowed l.cpu l.n l.fn.table l.table;
}
