use Rattle.std.proofs.Common.{◌≡◌, ◌++◌, map, take}
use Rattle.std.specs.List.{enumerate_from}
use Rattle.lwkt_cpu.specs.Processors.{is_running}
use Rattle.lwkt_machine.specs.Statuses.{status_of}
use Rattle.lwkt_machine.proofs.statuses.ThreadStatus.of_processor.Given as goal

abbrev pub invariant-loop-thread : goal.invariant-loop-thread
invariant-loop-thread g l = l.statuses.items ≡ l.initial.statuses.items ++ map (λ e. status_of l.number e.0 (is_running l.cpu.running e.0) e.1) (enumerate_from 0 (take l.thread l.cpu.threads))
