use Rattle.std.specs.Prelude.{[], None}
use Rattle.lwkt_base.specs.declared.asks.Answer.TheVariants.{Begin}
use Rattle.lwkt_cpu.specs.declared.phases.Phase.TheVariants.{Live}
use Rattle.lwkt_cpu.specs.declared.threads.Thread.{Thread}

-- a thread that was never polled: ready, with no references
abbrev pub fresh : Thread
fresh = record { list = []; last = Begin; phase = Live; busy = None }
