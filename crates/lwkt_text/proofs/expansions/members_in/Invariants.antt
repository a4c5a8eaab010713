use Rattle.std.proofs.Common.{◌≡◌, ◌++◌, drop}
use Rattle.lwkt_text.specs.Expanding.{members_from}
use Rattle.lwkt_text.proofs.expansions.members_in.Given as goal

abbrev pub invariant-loop-word : goal.invariant-loop-word
invariant-loop-word l = l.list ++ members_from l.words l.i (drop l._word-index l.words) ≡ members_from l.words 0 l.words
