use Rattle.std.proofs.Common.{◌≡◌, take}
use Rattle.lwkt_text.proofs.expansions.numbers_of.Given as goal

abbrev pub invariant-loop-n : goal.invariant-loop-n
invariant-loop-n l = l.list ≡ take l.n-index l.numbers
