use Rattle.std.proofs.Common.{◌≡◌, ◌-◌}
use Rattle.std.specs.List.{range_with_len}
use Rattle.lwkt_plain.specs.Turns.{finds}
use Rattle.lwkt_plain.proofs.TurnSound.{StaysIdle}
use Rattle.lwkt_plain.proofs.states.Plain.scan.Given as goal

abbrev pub invariant-loop-k : goal.invariant-loop-k
invariant-loop-k l = record {
  goes : finds l.c l.self (range_with_len l.k (l.to - l.k)) ≡ finds l.c l.initial.self (range_with_len l.from (l.to - l.from));
  stays : StaysIdle l.c l.initial.self l.self;
}
