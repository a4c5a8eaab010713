use Rattle.std.proofs.Common.{◌≡◌, replicate}
use Rattle.lwkt_cpu.specs.Fresh.{fresh}
use Rattle.lwkt_cpu.proofs.cpus.fresh_threads.Given as goal

abbrev pub invariant-loop-made : goal.invariant-loop-made
invariant-loop-made l = l.threads.items ≡ replicate l.made fresh
