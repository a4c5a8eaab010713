use Rattle.std.proofs.Common.{◌≡◌, length}
use Rattle.lwkt_explore.proofs.mirrors.Mirror.go.Given as goal

abbrev pub invariant-loop-cpu : goal.invariant-loop-cpu
invariant-loop-cpu l = length l.self.machine.cpus ≡ length l.initial.self.machine.cpus
