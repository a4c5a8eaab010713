use Rattle.std.proofs.Common.{◌≡◌, ◌≤◌, drop}
use Rattle.lwkt_text.specs.Expanding.{inside}
use Rattle.lwkt_text.proofs.expansions.inside.Given as goal

abbrev pub invariant-loop-n : goal.invariant-loop-n
invariant-loop-n l = (l.depth ≤ l.n) × (inside l.n l.depth (drop l.n l.sentences) ≡ inside 0 0 l.sentences)
