-- What a run of a script says of its trace, its asks and its logs (own).
use Rattle.std.specs.Prelude.{◌≡◌, ℕ, ◌+◌, ◌*◌, ◌<◌, true, false, List, [], ◌∷◌, length, map, take, drop, slice_get, Some, None, is_some, MatchOption, IfSome}
use Rattle.lwkt_core.specs.declared.events.Event.{Event}
use Rattle.lwkt_core.specs.Machine.{Machine}
use Rattle.lwkt_core.specs.Trace.{Run}
use Rattle.lwkt_code.specs.Next.{asks_by}
use Rattle.lwkt_code.specs.Programs.{start}
use Rattle.lwkt_script.specs.declared.scripts.ThreadSpec.{ThreadSpec}
use Rattle.lwkt_base.specs.declared.threads.ThreadLine.{ThreadLine}
use Rattle.lwkt_base.specs.declared.limits.TheConstants.{CPU_LIMIT, LOG_LIMIT, THREAD_LIMIT}
use Rattle.lwkt_verdict.specs.declared.turns.Poll.{Poll}
use Rattle.lwkt_verdict.specs.declared.turns.Turn.{Turn}
use Rattle.lwkt_verdict.specs.declared.progress.Asked.{Asked}
use Rattle.lwkt_verdict.specs.declared.progress.Piece.{Piece}
use Rattle.lwkt_verdict.specs.Asks.{is_end}
use Rattle.lwkt_verdict.specs.Threads.{plan_of_thread, line_of, program_of, asked_by, told_by, entries_of}
use Rattle.lwkt_verdict.specs.declared.turns.Pace.{Pace}
use Rattle.lwkt_verdict.specs.declared.turns.Pace.TheVariants.{Rounds}
use Rattle.lwkt_verdict.specs.Run.{poll_of, piece, whose, IsScriptRun}

-- what the turns of a run were
abbrev pub pieces_of : List Poll → List Turn → List Event → List Piece
pieces_of polls [] events = []
pieces_of polls (turn ∷ turns) events = piece (poll_of polls turn) (take turn.events events) ∷ pieces_of polls turns (drop turn.events events)

-- what the turns of a run asked of thread n of a processor, in order
abbrev pub asks_of : List Poll → List Turn → List Event → ℕ → ℕ → List Asked
asks_of polls turns trace cpu n = asked_by (THREAD_LIMIT * cpu + n) (pieces_of polls turns trace)

-- what holds of each run of each script
abbrev pub OfRuns : (List ThreadSpec → Machine → List Poll → List Turn → List Event → List ThreadLine → Type 0) → Type 0
OfRuns P = (plans : List ThreadSpec) (pace : Pace) (order : List ℕ) (opening : Machine) (polls : List Poll) (turns : List Turn) (trace : List Event) (lines : List ThreadLine) → IsScriptRun plans pace order opening polls turns trace lines → P plans opening polls turns trace lines

-- what holds of each of the threads that there can be
abbrev pub OfThreads : (ℕ → ℕ → Type 0) → Type 0
OfThreads P = (cpu n : ℕ) → cpu < CPU_LIMIT → n < THREAD_LIMIT → P cpu n

-- a theorem: no turn at all is no run in rounds
abbrev pub NoTurnsAreNoRun : Type 0
NoTurnsAreNoRun = (plans : List ThreadSpec) (limit : ℕ) (order : List ℕ) (opening : Machine) (polls : List Poll) (trace : List Event) (lines : List ThreadLine) → ¬ IsScriptRun plans (Rounds limit) order opening polls [] trace lines

-- a theorem: no run begins with a turn without an ask, where the processor of that turn has a thread
abbrev pub RunsBeginWithAnAsk : Type 0
RunsBeginWithAnAsk = (plans : List ThreadSpec) (pace : Pace) (order : List ℕ) (opening : Machine) (polls : List Poll) (turn : Turn) (turns : List Turn) (trace : List Event) (lines : List ThreadLine) → is_some (plan_of_thread (whose order 0) 0 plans) ≡ true → poll_of polls turn ≡ None → ¬ IsScriptRun plans pace order opening polls (turn ∷ turns) trace lines

-- a theorem: the events of a run's trace can happen one after another, from the opening on
abbrev pub TracesOfRunsHappen : Type 0
TracesOfRunsHappen = OfRuns (λ plans opening polls turns trace lines. (end : Machine) × Run opening trace end)

-- a theorem: what a thread asks is what its program asks, by the answers that it was given; and what isn't a thread of the script asks nothing
abbrev pub AsksAreThoseOfTheScript : Type 0
AsksAreThoseOfTheScript = OfRuns (λ plans opening polls turns trace lines. OfThreads (λ cpu n. let asked = asks_of polls turns trace cpu n in
    MatchOption (plan_of_thread cpu n plans) (asked ≡ []) (λ plan. map (λ (a : Asked). a.ask) asked ≡ asks_by plan.code.steps (start plan.code) (told_by None asked))))

-- a theorem: each ask of a thread but its last has its answer, and the last has none
abbrev pub AllButTheLastAreAnswered : Type 0
AllButTheLastAreAnswered = OfRuns (λ plans opening polls turns trace lines. OfThreads (λ cpu n. (k : ℕ) (a : Asked) → slice_get (asks_of polls turns trace cpu n) k ≡ Some a → (k + 1 < length (asks_of polls turns trace cpu n) → is_some a.answer ≡ true) × (k + 1 ≡ length (asks_of polls turns trace cpu n) → is_some a.answer ≡ false)))

-- a theorem: a thread's printed log is the first 32 entries that its asks and their answers make
abbrev pub LogsAreTheFirstEntries : Type 0
LogsAreTheFirstEntries = OfRuns (λ plans opening polls turns trace lines. OfThreads (λ cpu n. IfSome (line_of (THREAD_LIMIT * cpu + n) lines) (λ line. line.log ≡ take LOG_LIMIT (entries_of (program_of (plan_of_thread cpu n plans)) (asks_of polls turns trace cpu n)))))

-- a theorem: an ask that ends its thread is the last one that the thread makes
abbrev pub NothingFollowsAnEnd : Type 0
NothingFollowsAnEnd = OfRuns (λ plans opening polls turns trace lines. OfThreads (λ cpu n. (k : ℕ) (a : Asked) → slice_get (asks_of polls turns trace cpu n) k ≡ Some a → is_end a.ask ≡ true → k + 1 ≡ length (asks_of polls turns trace cpu n)))
