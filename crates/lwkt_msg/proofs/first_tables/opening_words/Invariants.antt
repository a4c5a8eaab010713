use Rattle.lwkt_msg.specs.Desks.{AreOpeningWords}
use Rattle.lwkt_msg.proofs.first_tables.opening_words.Given as goal

abbrev pub invariant-loop-m : goal.invariant-loop-m
invariant-loop-m l = AreOpeningWords l.m l.specs l.words.items
