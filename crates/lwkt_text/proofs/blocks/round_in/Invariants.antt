use Rattle.std.proofs.Common.{◌≡◌, drop}
use Rattle.lwkt_text.specs.Blocks.{round_in}
use Rattle.lwkt_text.specs.Naming.{either}
use Rattle.lwkt_text.proofs.blocks.round_in.Given as goal

abbrev pub invariant-loop-block : goal.invariant-loop-block
invariant-loop-block l = either (round_in (drop l.block-index l.blocks)) l.found ≡ round_in l.blocks
