use Rattle.lwkt_port.specs.Intakes.{PaysFirst}
use Rattle.lwkt_port.proofs.offices.Office.pay_owed.Given as goal

abbrev pub invariant-loop-m : goal.invariant-loop-m
invariant-loop-m l = PaysFirst l.m l.m l.initial.self l.initial.trace l.self l.trace
