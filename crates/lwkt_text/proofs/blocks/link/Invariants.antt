use Rattle.std.proofs.Common.{◌≡◌, ◌++◌, length, take, drop}
use Rattle.lwkt_text.specs.Blocks.{linked}
use Rattle.lwkt_text.proofs.blocks.link.Given as goal

abbrev pub invariant-loop-at : goal.invariant-loop-at
invariant-loop-at l = (length l.steps ≡ length l.fn.steps) × (take l.at l.steps ++ linked l.at (drop l.at l.steps) ≡ linked 0 l.fn.steps)
