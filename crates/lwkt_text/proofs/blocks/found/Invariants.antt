use Rattle.std.proofs.Common.{◌≡◌, ◌+◌, ◌≤◌, drop}
use Rattle.lwkt_text.specs.Blocks.{found}
use Rattle.lwkt_text.proofs.blocks.found.Given as goal

abbrev pub invariant-loop-k : goal.invariant-loop-k
invariant-loop-k l = (l.depth ≤ l.k) × (found l.is_loop (l.at + l.k) l.depth (drop l.k l.steps) ≡ found l.is_loop l.at 0 l.steps)
