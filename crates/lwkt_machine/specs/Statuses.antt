-- How the threads of a machine stand between two turns (own).
use Rattle.std.specs.Prelude.{ℕ, Bool, List, map}
use Rattle.std.specs.List.{enumerate_from, flat_map}
use Rattle.lwkt_cpu.specs.declared.threads.Thread.{Thread}
use Rattle.lwkt_cpu.specs.Processors.{Processor, thread_state, is_running}
use Rattle.lwkt_machine.specs.declared.statuses.ThreadStatus.{ThreadStatus}

-- how a thread stands: its processor and its number there, what it is doing, by whether it runs, and its references
abbrev pub status_of : ℕ → ℕ → Bool → Thread → ThreadStatus
status_of cpu n runs t = record { id = record { cpu = record { 0 = cpu }; thread = n }; state = thread_state runs t.phase; list = t.list }

-- how each thread of the processor of this number stands, by number
abbrev pub statuses_on : {B : Type 0} → ℕ → Processor B → List ThreadStatus
statuses_on cpu p = map (λ e. status_of cpu e.0 (is_running p.running e.0) e.1) (enumerate_from 0 p.threads)

-- how each thread of these processors stands, by processor, then by number
abbrev pub statuses_of : {B : Type 0} → List (Processor B) → List ThreadStatus
statuses_of cpus = flat_map (λ e. statuses_on e.0 e.1) (enumerate_from 0 cpus)
