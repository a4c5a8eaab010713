use Rattle.std.proofs.Common.{◌≡◌, ℕ, ◌≤◌, length, take}
use Rattle.std.specs.Prelude.{slice_get}
use Rattle.std.specs.List.{AllZip}
use Rattle.lwkt_machine.specs.Machines.{processors}
use Rattle.lwkt_machine.specs.Sights.{KeepsLog, SeesEach}
use Rattle.lwkt_machine.proofs.sights.see_each.Given as goal

abbrev pub invariant-loop-at : goal.invariant-loop-at
invariant-loop-at g l = record {
  as_many : length l.others ≡ length l.initial.others;
  sees : SeesEach {B = g.row.B.Denot} l.initial.cpu l.cpu (take l.at (processors {B = g.row.B.Denot} l.initial.others)) (take l.at (processors {B = g.row.B.Denot} l.others));
  logs : AllZip (KeepsLog {B = g.row.B.Denot}) l.initial.others l.others;
  rest : (k : ℕ) → l.at ≤ k → slice_get l.others k ≡ slice_get l.initial.others k;
}
