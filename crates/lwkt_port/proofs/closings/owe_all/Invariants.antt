use Rattle.lwkt_port.specs.Closings.{OwesGone}
use Rattle.lwkt_port.proofs.closings.owe_all.Given as goal

abbrev pub invariant-loop-m : goal.invariant-loop-m
invariant-loop-m l = OwesGone l.thread l.m l.initial.mails.items l.mails.items
