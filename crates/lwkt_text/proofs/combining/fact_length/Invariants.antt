use Rattle.std.proofs.Common.{◌≡◌, ◌+◌, drop}
use Rattle.lwkt_text.specs.Combining.{fact_length}
use Rattle.lwkt_text.proofs.combining.fact_length.Given as goal

abbrev pub invariant-loop-word : goal.invariant-loop-word
invariant-loop-word l = (l.count ≡ l.word-index) × (l.count + fact_length (drop l.word-index l.words) ≡ fact_length l.words)
