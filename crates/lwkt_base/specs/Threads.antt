-- How a thread stands (own).
use Rattle.std.specs.Prelude.{Bool, true, false, ◌||◌}
use Rattle.lwkt_base.specs.declared.threads.ThreadState.{ThreadState}
use Rattle.lwkt_base.specs.declared.threads.ThreadState.TheVariants.{Ready, Waiting, Running, Exited, Faulted}
use Rattle.lwkt_base.specs.declared.threads.ThreadLine.{ThreadLine}

-- whether a thread has ended: it exited, or a fault ended it
abbrev pub has_ended : ThreadState → Bool
has_ended Ready = false
has_ended Waiting = false
has_ended Running = false
has_ended Exited = true
has_ended (Faulted fault) = true

-- whether a run needn't go on for a thread: it has ended, or it is a service
abbrev pub is_done : ThreadLine → Bool
is_done line = line.service || has_ended line.state
