use Rattle.std.proofs.Common.{◌≡◌, ℕ, List, vec_len}
use Rattle.std.specs.Prelude.{All}
use Rattle.lwkt_port.specs.declared.queues.Port.{Port}
use Rattle.lwkt_port.specs.Chains.{Chain}
use Rattle.lwkt_port.specs.Intakes.{Intake, EmptiesFrom, untaken}
use Rattle.lwkt_port.specs.Lines.{HasNoneInHand}
use Rattle.lwkt_port.specs.Posts.{KeepsNamed}
use Rattle.lwkt_port.specs.Works.{Work}
use Rattle.lwkt_port.proofs.intakes.pass_empty.Given as goal

abbrev pub invariant-loop-sender : goal.invariant-loop-sender
invariant-loop-sender l = record {
  passes : (limit : ℕ) (w : Work) (ports : List Port) → Chain Intake (EmptiesFrom limit) l.sender (untaken w ports l.initial.lanes.items) (untaken w ports l.lanes.items);
  len : vec_len l.lanes ≡ vec_len l.initial.lanes;
  named : (n : ℕ) → All (KeepsNamed n) l.initial.lanes.items → All (KeepsNamed n) l.lanes.items;
  hands : All HasNoneInHand l.initial.lanes.items → All HasNoneInHand l.lanes.items;
}
