use Rattle.std.proofs.Common.{◌≡◌}
use Rattle.lwkt_core.proofs.ChainLemmas.{IsAlong}
use Rattle.lwkt_core.proofs.sections.follow.Given as goal

-- the sections so far go on with the chain of the token
abbrev pub invariant-loop-i : goal.invariant-loop-i
invariant-loop-i l = (l.reached.index ≡ l.i) × IsAlong l.first l.last l.sections l.tok l.from l.i l.reached.row l.reached.generation
