use Rattle.std.specs.Prelude.{◌↔◌, IsTrue}
use Rattle.lwkt_core.specs.SectionChain.{IsUpTo}
use Rattle.lwkt_core.proofs.ChainLemmas.{AreSettled}
use Rattle.lwkt_core.proofs.sections.follow_all.Given as goal

-- the sections so far are those of the tokens so far, and whether each of these has come to its closing values
abbrev pub invariant-loop-tok : goal.invariant-loop-tok
invariant-loop-tok l = IsUpTo l.first l.last l.sections l.tok l.index × (IsTrue l.settled ↔ AreSettled l.first l.last l.sections l.tok l.index)
