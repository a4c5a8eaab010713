use Rattle.std.proofs.Common.{◌≡◌}
use Rattle.lwkt_code.specs.Next.{ask_from}
use Rattle.lwkt_code.proofs.Walks.{silent_from}
use Rattle.lwkt_show.specs.declared.walks.Kept.{Kept}
use Rattle.lwkt_show.specs.Keeping.{KeepsAll, made_from}
use Rattle.lwkt_show.proofs.walks.walk_on.Given as goal

-- the ask to come is that of the whole way, and with what is made ahead all of it is kept
abbrev pub invariant-loop-ask : goal.invariant-loop-ask
invariant-loop-ask l =
    (ask_from l.steps l.local ≡ ask_from l.fn.steps l.fn.local) × ((final : Kept) → KeepsAll l.kept final (made_from l.steps l.local) → KeepsAll l.fn.kept final (made_from l.fn.steps l.fn.local))

abbrev pub decreases-loop-ask : goal.decreases-loop-ask
decreases-loop-ask l = silent_from l.steps l.local
