use Rattle.std.proofs.Common.{◌≡◌, take}
use Rattle.lwkt_bank.specs.Opened.{opening_words}
use Rattle.lwkt_bank.proofs.first_tables.words_of.Given as goal

abbrev pub invariant-loop-spec : goal.invariant-loop-spec
invariant-loop-spec l = l.words.items ≡ opening_words (take l.spec-index l.specs)
