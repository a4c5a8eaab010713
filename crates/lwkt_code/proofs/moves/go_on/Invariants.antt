use Rattle.std.proofs.Common.{◌≡◌}
use Rattle.lwkt_code.specs.Next.{ask_from}
use Rattle.lwkt_code.proofs.Walks.{silent_from}
use Rattle.lwkt_code.proofs.moves.go_on.Given as goal

abbrev pub invariant-loop-ask : goal.invariant-loop-ask
invariant-loop-ask l = ask_from l.steps l.local ≡ ask_from l.fn.steps l.fn.local

abbrev pub decreases-loop-ask : goal.decreases-loop-ask
decreases-loop-ask l = silent_from l.steps l.local
