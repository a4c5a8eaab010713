use Rattle.std.proofs.Common.{◌≡◌, ◌++◌, drop}
use Rattle.lwkt_text.specs.Drafting.{unended}
use Rattle.lwkt_text.proofs.drafts.Draft.blame_unended.Given as goal

abbrev pub invariant-loop-block : goal.invariant-loop-block
invariant-loop-block l = record l.self { faults = l.self.faults ++ unended (drop l.block-index l.block-items) } ≡ record l.initial.self { faults = l.initial.self.faults ++ unended l.block-items }
