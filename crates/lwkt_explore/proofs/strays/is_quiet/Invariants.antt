use Rattle.std.proofs.Common.{◌≤◌, length}
use Rattle.lwkt_plain.specs.Stores.{kept, IsStore}
use Rattle.lwkt_explore.proofs.strays.is_quiet.Given as goal

abbrev pub invariant-loop-cpu : goal.invariant-loop-cpu
invariant-loop-cpu l = record {
  store : IsStore l.store;
  longer : length (kept l.fn.store) ≤ length (kept l.store);
}
