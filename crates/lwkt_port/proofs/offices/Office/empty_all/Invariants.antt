use Rattle.std.proofs.Common.{◌≡◌, ◌≤◌, vec_len}
use Rattle.lwkt_port.specs.Chains.{Chain}
use Rattle.lwkt_port.specs.Intakes.{Intake, intake, EmptiesFrom}
use Rattle.lwkt_port.specs.Works.{work_state, KeepsWorkState}
use Rattle.lwkt_port.proofs.offices.Office.empty_all.Given as goal

abbrev pub invariant-loop-sender : goal.invariant-loop-sender
invariant-loop-sender l = record {
  notes : (z : Intake) → Chain Intake (EmptiesFrom l.limit) l.first z (intake l.initial.self l.initial.trace l.taken) → Chain Intake (EmptiesFrom l.limit) l.sender z (intake l.self l.trace l.count);
  within : l.count ≤ l.limit;
  keeps : KeepsWorkState (work_state l.initial.self.counters l.initial.trace) (work_state l.self.counters l.trace);
  len : vec_len l.self.lanes ≡ vec_len l.initial.self.lanes;
}
