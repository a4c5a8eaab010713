-- A run of a script over a lawful trace (own).
use Rattle.std.specs.Prelude.{◌≡◌, ℕ, unwrap_or, ◌+◌, ◌-◌, ◌*◌, ◌%◌, ◌<◌, ◌≤◌, ◌⊎◌, Bool, true, false, List, [], ◌∷◌, ◌++◌, length, take, drop, All, slice_get, Option, MatchOption, option_and_then, is_some}
use Rattle.std.specs.Option.{option_map_or}
use Rattle.lwkt_base.specs.Threads.{has_ended}
use Rattle.lwkt_core.specs.declared.events.Event.{Event}
use Rattle.lwkt_core.specs.Events.{cpu_of}
use Rattle.lwkt_core.specs.Machine.{Machine}
use Rattle.lwkt_script.specs.declared.scripts.ThreadSpec.{ThreadSpec}
use Rattle.lwkt_base.specs.declared.threads.ThreadLine.{ThreadLine}
use Rattle.lwkt_base.specs.declared.limits.TheConstants.{CPU_LIMIT, THREAD_LIMIT}
use Rattle.lwkt_verdict.specs.declared.turns.Poll.{Poll}
use Rattle.lwkt_verdict.specs.declared.turns.Turn.{Turn}
use Rattle.lwkt_verdict.specs.declared.turns.Pace.{Pace}
use Rattle.lwkt_verdict.specs.declared.turns.Pace.TheVariants.{Rounds, Named}
use Rattle.lwkt_verdict.specs.declared.progress.Asked.{Asked}
use Rattle.lwkt_verdict.specs.declared.progress.Progress.{Progress}
use Rattle.lwkt_verdict.specs.declared.progress.Piece.{Piece}
use Rattle.lwkt_verdict.specs.Asks.{may_answer}
use Rattle.lwkt_verdict.specs.Owns.{has_blocked}
use Rattle.lwkt_verdict.specs.TurnParts.{after_all, GoesQuietly, IsPartOf}
use Rattle.lwkt_verdict.specs.Threads.{slot_of, plan_of_thread, line_of, asked_by, program_of, progress_of, MayAsk, IsLogged, Rests, EndsAsShown}

-- the poll of a turn, by its place among the polls
abbrev pub poll_of : List Poll → Turn → Option Poll
poll_of polls turn = option_and_then (slice_get polls) turn.poll

-- what a turn was, where its poll and its part of the trace are these
abbrev pub piece : Option Poll → List Event → Piece
piece poll part = record { poll = poll; blocked = option_map_or (λ q. has_blocked q.ask part) poll false }

-- how far a thread has come after those turns, by its number among those of all processors
abbrev pub came_by : Option ThreadSpec → List Piece → ℕ → Progress
came_by plan before slot = progress_of (program_of plan) (asked_by slot before)

-- the same of thread n of a processor
abbrev pub came : List ThreadSpec → List Piece → ℕ → ℕ → Progress
came plans before cpu n = came_by (plan_of_thread cpu n plans) before (THREAD_LIMIT * cpu + n)

-- an ask and its answer, where its part shows that it blocked its thread, or doesn't
abbrev pub asked_of_poll : Poll → Bool → Asked
asked_of_poll q blocked = record { ask = q.ask; answer = q.answer; blocked = blocked }

-- a poll fits a thread that has come so far: the thread is one of the script's, of this processor, the ask is what its program asks
-- next by the answers that it was given, the ask before it has its answer, the answer of this one, if it has one, is one that the ask
-- can have, and its entry stands in the thread's log
pub record PollFits (plans : List ThreadSpec) (lines : List ThreadLine) (cpu : ℕ) (p : Progress) (q : Poll) : Type 0 where
  pub here : q.thread.cpu.0 ≡ cpu
  pub numbered : q.thread.thread < THREAD_LIMIT
  pub asks : MatchOption (plan_of_thread cpu q.thread.thread plans) ⊥ (λ plan. MayAsk plan.code.steps p q.ask)
  pub answers : MatchOption q.answer (Unit {0}) (λ a. may_answer q.ask a ≡ true)
  pub logs : MatchOption (line_of (THREAD_LIMIT * cpu + q.thread.thread) lines) ⊥ (λ line. IsLogged (program_of (plan_of_thread cpu q.thread.thread plans)).steps line p (asked_of_poll q false))

-- a turn without an ask fits threads that have come so far: each thread of its processor may rest
abbrev pub Idles : List ThreadSpec → ℕ → (ℕ → Progress) → Type 0
Idles plans cpu progress = (n : ℕ) → n < THREAD_LIMIT → MatchOption (plan_of_thread cpu n plans) (Unit {0}) (λ plan. Rests (progress n))

-- the part of a turn with or without an ask
abbrev pub MakesPart : Machine → Option Poll → List Event → Type 0
MakesPart m poll part = MatchOption poll (GoesQuietly m part) (λ q. IsPartOf m q.ask q.answer part)

-- a turn fits the turns before it, and its part of the trace the machine that it finds; each event of the part is of the
-- turn's processor
pub record TurnFits (plans : List ThreadSpec) (lines : List ThreadLine) (cpu : ℕ) (m : Machine) (before : List Piece) (poll : Option Poll) (part : List Event) : Type 0 where
  pub own : All (λ e. cpu_of e ≡ cpu) part
  pub makes : MakesPart m poll part
  pub polls : MatchOption poll (Idles plans cpu (came plans before cpu)) (λ q. PollFits plans lines cpu (came plans before cpu q.thread.thread) q)

-- the end of a run: the events of the stop may happen unasked, and each thread of the script has its line and ends as it says
pub record EndsRun (plans : List ThreadSpec) (lines : List ThreadLine) (m : Machine) (before : List Piece) (stop : List Event) : Type 0 where
  pub quiet : GoesQuietly m stop
  pub ends : (cpu n : ℕ) → cpu < CPU_LIMIT → n < THREAD_LIMIT → EndsAsShown (plan_of_thread cpu n plans) (line_of (THREAD_LIMIT * cpu + n) lines) (came plans before cpu n)

-- the processor of the turn of this number, by an order of processors
abbrev pub whose : List ℕ → ℕ → ℕ
whose order k = unwrap_or (slice_get order k) 0

-- the trace is cut in order into one part for each turn and the events of the stop; each turn is of the processor that the order
-- names
abbrev pub RunsThrough : List ThreadSpec → List ThreadLine → List Poll → List ℕ → Machine → List Piece → List Turn → List Event → Type 0
RunsThrough plans lines polls order m before [] events = EndsRun plans lines m before events
RunsThrough plans lines polls order m before (turn ∷ turns) events =
    (turn.events ≤ length events) × (TurnFits plans lines (whose order (length before)) m before (poll_of polls turn) (take turn.events events) × RunsThrough plans lines polls order (after_all m (take turn.events events)) (before ++ piece (poll_of polls turn) (take turn.events events) ∷ []) turns (drop turn.events events))

-- turns of an order begin a run, whatever comes after them: each of them fits the turns before it, and its part of the trace the
-- machine that it finds
abbrev pub BeginRun : List ThreadSpec → List ThreadLine → List Poll → List ℕ → Machine → List Piece → List Turn → List Event → Type 0
BeginRun plans lines polls order m before [] events = Unit {0}
BeginRun plans lines polls order m before (turn ∷ turns) events =
    (turn.events ≤ length events) × (TurnFits plans lines (whose order (length before)) m before (poll_of polls turn) (take turn.events events) × BeginRun plans lines polls order (after_all m (take turn.events events)) (before ++ piece (poll_of polls turn) (take turn.events events) ∷ []) turns (drop turn.events events))

-- a thread and its line are both there, or neither is
abbrev pub IsPaired : List ThreadSpec → List ThreadLine → ℕ → ℕ → Type 0
IsPaired plans lines cpu n = is_some (plan_of_thread cpu n plans) ≡ is_some (line_of (THREAD_LIMIT * cpu + n) lines)

-- the lines of threads are in order, by processor, then number
abbrev pub AreListed : ℕ → ℕ → List ThreadLine → Type 0
AreListed cpus least [] = Unit {0}
AreListed cpus least (l ∷ ls) = (least ≤ slot_of l.id) × ((l.id.cpu.0 < cpus) × ((l.id.thread < THREAD_LIMIT) × AreListed cpus (slot_of l.id + 1) ls))

-- the rounds of a run end before the script's are used up: the last round has no ask, and every thread has ended
pub record EndsEarly (polls : List Poll) (cpus : ℕ) (limit : ℕ) (turns : List Turn) (lines : List ThreadLine) : Type 0 where
  pub fewer : length turns < limit * cpus
  pub unasked : All (λ turn. is_some (poll_of polls turn) ≡ false) (drop (length turns - cpus) turns)
  pub ended : All (λ line. has_ended line.state ≡ true) lines

-- an order goes round the processors from this turn on: turn k is of processor k mod their number
abbrev pub GoesRound : ℕ → ℕ → List ℕ → Type 0
GoesRound cpus k [] = Unit {0}
GoesRound cpus k (cpu ∷ order) = (cpu ≡ k % cpus) × GoesRound cpus (k + 1) order

-- the turns of an order are whole rounds of the processors, at least one; they are the script's, or fewer
pub record AreRounds (polls : List Poll) (cpus : ℕ) (limit : ℕ) (order : List ℕ) (turns : List Turn) (lines : List ThreadLine) : Type 0 where
  pub round : GoesRound cpus 0 order
  pub processors : 0 < cpus
  pub some : 0 < length turns
  pub whole : length turns % cpus ≡ 0
  pub enough : (length turns ≡ limit * cpus) ⊎ EndsEarly polls cpus limit turns lines

-- turns follow one another as they should: in rounds, or as they were named
abbrev pub KeepsPace : Pace → List Poll → ℕ → List ℕ → List Turn → List ThreadLine → Type 0
KeepsPace (Rounds limit) polls cpus order turns lines = AreRounds polls cpus limit order turns lines
KeepsPace Named polls cpus order turns lines = Unit {0}

-- the turns, with their polls, are a run of a script along an order of its processors, at this pace, over a trace from an opening,
-- which ends as the lines say
pub record IsScriptRun (plans : List ThreadSpec) (pace : Pace) (order : List ℕ) (opening : Machine) (polls : List Poll) (turns : List Turn) (trace : List Event) (lines : List ThreadLine) : Type 0 where
  pub listed : AreListed opening.cpus 0 lines
  pub paired : (cpu n : ℕ) → cpu < CPU_LIMIT → n < THREAD_LIMIT → IsPaired plans lines cpu n
  pub named : length order ≡ length turns
  pub within : All (λ cpu. cpu < opening.cpus) order
  pub paced : KeepsPace pace polls opening.cpus order turns lines
  pub runs : RunsThrough plans lines polls order opening [] turns trace
