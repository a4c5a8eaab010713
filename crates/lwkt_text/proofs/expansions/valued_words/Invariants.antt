use Rattle.std.proofs.Common.{◌≡◌, ◌++◌, map, drop}
use Rattle.lwkt_text.specs.Expanding.{valued}
use Rattle.lwkt_text.proofs.expansions.valued_words.Given as goal

abbrev pub invariant-loop-word : goal.invariant-loop-word
invariant-loop-word l = l.list ++ map (valued l.s) (drop l.word-index l.words) ≡ map (valued l.s) l.words
