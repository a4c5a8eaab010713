-- Where every thread of a machine has ended, the lines of its threads say so.
use Rattle.std.proofs.Common.{◌≡◌, ℕ, suc, ◌+◌, List, [], ◌∷◌, map, refl, sym, subst, Option}
use Rattle.std.specs.Prelude.{Bool, true, All}
use Rattle.std.specs.List.{enumerate_from, flat_map}
use Rattle.std.proofs.lemmas.Bool.{false≢true}
use Rattle.std.proofs.lemmas.List.Elements.{All-nil, All-cons, All-head, All-tail, All-append, All-map}
use Rattle.lwkt_base.specs.declared.threads.ThreadState.{ThreadState}
use Rattle.lwkt_base.specs.Threads.{has_ended}
use Rattle.lwkt_cpu.specs.declared.phases.Phase.{Phase}
use Rattle.lwkt_cpu.specs.declared.phases.Phase.TheVariants.{Live, AwaitsItem, AwaitsReply, Exited, Faulted}
use Rattle.lwkt_cpu.specs.declared.threads.Thread.{Thread}
use Rattle.lwkt_cpu.specs.Processors.{Processor, AllOver, is_over, is_running, thread_state}
use Rattle.lwkt_machine.specs.Bodies.{Scripted}
use Rattle.lwkt_machine.specs.Ended.{AreOver}
use Rattle.lwkt_machine.specs.Machines.{Rig}
use Rattle.lwkt_machine.specs.Statuses.{status_of, statuses_on, statuses_of}
use Rattle.lwkt_machine.specs.declared.statuses.ThreadStatus.{ThreadStatus}
use Rattle.lwkt_base.specs.declared.threads.ThreadLine.{ThreadLine}
use Rattle.lwkt_script.specs.declared.scripts.ThreadSpec.{ThreadSpec}
use Rattle.lwkt_run.specs.Running.{ShowThreads}

abbrev Ended : ThreadState → Type 0
Ended state = has_ended state ≡ true

abbrev HasEnded : ThreadStatus → Type 0
HasEnded s = Ended s.state

abbrev SaysEnded : ThreadLine → Type 0
SaysEnded line = Ended line.state

-- a thread whose phase is over has ended
state_ended : (runs : Bool) (phase : Phase) → is_over phase ≡ true → Ended (thread_state runs phase)
state_ended runs Live over = absurd (false≢true over)
state_ended runs AwaitsItem over = absurd (false≢true over)
state_ended runs (AwaitsReply msg) over = absurd (false≢true over)
state_ended runs Exited over = refl
state_ended runs (Faulted fault) over = refl

-- the threads of a processor from a number on
ended_from : (cpu : ℕ) (runs : Option ℕ) (threads : List Thread) (n : ℕ) → AllOver threads → All HasEnded (map (λ (e : ℕ × Thread). status_of cpu e.0 (is_running runs e.0) e.1) (enumerate_from n threads))
ended_from cpu runs [] n over = All-nil HasEnded
ended_from cpu runs (t ∷ threads) n over =
    let rest : List ThreadStatus = map (λ (e : ℕ × Thread). status_of cpu e.0 (is_running runs e.0) e.1) (enumerate_from (n + 1) threads) in
    All-cons HasEnded (status_of cpu n (is_running runs n) t) rest (state_ended (is_running runs n) t.phase (over 0 t refl)) (ended_from cpu runs threads (n + 1) (λ k u at. over (suc k) u at))

-- the threads of processors from a number on
all_ended_from : (cpus : List (Processor Scripted)) (n : ℕ) → AreOver cpus → All HasEnded (flat_map (λ (e : ℕ × Processor Scripted). statuses_on e.0 e.1) (enumerate_from n cpus))
all_ended_from [] n over = All-nil HasEnded
all_ended_from (p ∷ cpus) n over =
    let f : ℕ × Processor Scripted → List ThreadStatus = λ e. statuses_on e.0 e.1 in
    All-append HasEnded (statuses_on n p) (flat_map f (enumerate_from (n + 1) cpus)) (ended_from n p.running p.threads 0 (over 0 p refl)) (all_ended_from cpus (n + 1) (λ k q at. over (suc k) q at))

-- lines whose states are those of threads that have ended
lines_say : (lines : List ThreadLine) → All Ended (map (λ (line : ThreadLine). line.state) lines) → All SaysEnded lines
lines_say [] all = All-nil SaysEnded
lines_say (line ∷ lines) all =
    let rest : List ThreadState = map (λ (l : ThreadLine). l.state) lines in
    All-cons SaysEnded line lines (All-head Ended line.state rest all) (lines_say lines (All-tail Ended line.state rest all))

-- where every thread of a machine has ended, its lines say so
pub lines_ended : (threads : List ThreadSpec) (lines : List ThreadLine) (m : Rig Scripted) → ShowThreads threads lines m → AreOver m.cpus → All (λ line. has_ended line.state ≡ true) lines
lines_ended threads lines m shown over =
    let F : List ThreadState → Type 0 = λ states. All Ended states in
    lines_say lines (subst F (sym shown.states) (All-map Ended (λ (s : ThreadStatus). s.state) (statuses_of m.cpus) (all_ended_from m.cpus 0 over)))
