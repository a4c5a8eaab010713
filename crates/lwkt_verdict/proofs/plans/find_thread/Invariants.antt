use Rattle.std.proofs.Common.{◌≡◌, drop}
use Rattle.lwkt_verdict.specs.Threads.{plan_of_thread}
use Rattle.lwkt_verdict.proofs.plans.find_thread.Given as goal

-- the thread is that among the ones that are left
abbrev pub invariant-loop-i : goal.invariant-loop-i
invariant-loop-i l = plan_of_thread l.cpu l.n l.plans ≡ plan_of_thread l.cpu l.left (drop l.i l.plans)
