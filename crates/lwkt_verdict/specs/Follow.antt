-- A check that follows a run turn by turn, and keeps no turn (own).
--
-- What an ask is answered is known when its thread is polled again. So of each thread the check keeps where its program stands, its last ask
-- and which answers this one can have by its turn's part of the trace; what it says of a turn holds for each of them.
use Rattle.std.specs.Prelude.{◌≡◌, ℕ, ◌+◌, ◌*◌, ◌<◌, ◌==◌, Bool, true, false, not, List, [], ◌∷◌, ◌++◌, length, take, min, slice_get, if◌then◌else◌, Option, Some, None, MatchOption, option_map, option_and_then}
use Rattle.std.specs.Option.{option_map_or}
use Rattle.lwkt_base.specs.declared.asks.Ask.{Ask}
use Rattle.lwkt_base.specs.declared.asks.Answer.{Answer}
use Rattle.lwkt_base.specs.declared.entries.Entry.{Entry}
use Rattle.lwkt_base.specs.declared.names.ThreadId.{ThreadId}
use Rattle.lwkt_core.specs.declared.events.Event.{Event}
use Rattle.lwkt_core.specs.Machine.{Machine}
use Rattle.lwkt_code.specs.declared.locals.Local.{Local}
use Rattle.lwkt_code.specs.declared.steps.Step.{Step}
use Rattle.lwkt_script.specs.declared.scripts.ThreadSpec.{ThreadSpec}
use Rattle.lwkt_base.specs.declared.threads.ThreadLine.{ThreadLine}
use Rattle.lwkt_base.specs.declared.limits.TheConstants.{CPU_LIMIT, LOG_LIMIT, MACHINE_THREADS, THREAD_LIMIT}
use Rattle.lwkt_verdict.specs.declared.expected.Expected.{Expected}
use Rattle.lwkt_verdict.specs.declared.expected.Expected.TheVariants.{Any, NoRefusal, Refusal, Value, Bytes}
use Rattle.lwkt_verdict.specs.declared.progress.Asked.{Asked}
use Rattle.lwkt_verdict.specs.declared.progress.Progress.{Progress}
use Rattle.lwkt_verdict.specs.declared.progress.Piece.{Piece}
use Rattle.lwkt_verdict.specs.declared.turns.Poll.{Poll}
use Rattle.lwkt_verdict.specs.Asks.{may_answer, is_refused}
use Rattle.lwkt_verdict.specs.Owns.{agrees, agrees_with_record}
use Rattle.lwkt_verdict.specs.TurnParts.{after_all}
use Rattle.lwkt_verdict.specs.Threads.{slot_of, plan_of_thread, line_of, program_of, logged_by}
use Rattle.lwkt_verdict.specs.Run.{came_by, piece, TurnFits, EndsRun, IsPaired, AreListed}

-- whether this answer, or none yet, is one of those that are expected
abbrev pub is_expected : Expected → Option Answer → Bool
is_expected Any answer = true
is_expected NoRefusal answer = not (is_refused answer)
is_expected Refusal None = true
is_expected Refusal (Some a) = is_refused (Some a)
is_expected (Value value) answer = agrees answer value
is_expected (Bytes blob) answer = agrees_with_record answer blob

-- what a thread last asked, whether its part shows that it blocked the thread, and which answers it can have
pub record Awaited : Type 0 where
  pub ask : Ask
  pub blocked : Bool
  pub expected : Expected

-- what is known of a thread: the script's thread, if there is one, where it stands after what it last asked, what that was, and the first
-- 32 entries that the asks before made
pub record Known : Type 0 where
  pub plan : Option ThreadSpec
  pub local : Local
  pub last : Option Awaited
  pub log : List Entry

-- the steps of a thread
abbrev pub steps_of : Known → List Step
steps_of t = (program_of t.plan).steps

-- what was asked, with this answer
abbrev pub asked_so : Awaited → Option Answer → Asked
asked_so w answer = record { ask = w.ask; answer = answer; blocked = w.blocked }

-- the entry that a thread's last ask makes with this answer, if it makes one
abbrev pub entry_so : Known → Option Answer → Option Entry
entry_so t answer = option_and_then (λ w. logged_by (steps_of t) t.local (asked_so w answer)) t.last

-- how far a thread has come whose last ask gets this answer
abbrev pub come : Known → Option Answer → Progress
come t answer = record { local = t.local; last = option_map (λ w. asked_so w answer) t.last; logged = option_map_or (λ e. min LOG_LIMIT (length t.log + 1)) (entry_so t answer) (length t.log) }

-- a thread's last ask can have this answer, and its line has the entries so far, and then that of the answer, if there is room for it
pub record Bears (t : Known) (answer : Option Answer) (line : ThreadLine) : Type 0 where
  pub expected : MatchOption t.last (Unit {0}) (λ w. is_expected w.expected answer ≡ true)
  pub answers : MatchOption t.last (Unit {0}) (λ w. MatchOption answer (Unit {0}) (λ a. may_answer w.ask a ≡ true))
  pub entries : take (length t.log) line.log ≡ t.log
  pub entry : MatchOption (entry_so t answer) (Unit {0}) (λ e. length t.log < LOG_LIMIT → slice_get line.log (length t.log) ≡ Some e)

-- the same of all threads, 16 for each of 8 processors: each that the script has has its line
abbrev pub AllBear : List Known → (ℕ → Option Answer) → List ThreadLine → Type 0
AllBear table answers lines = (k : ℕ) → k < MACHINE_THREADS → MatchOption (slice_get table k) ⊥ (λ t. MatchOption (line_of k lines) (t.plan ≡ None) (Bears t (answers k)))

-- what is possible of a thread so far, if its last ask gets this answer: it has a line, which bears it, or has none and was never polled;
-- and an ask whose event isn't there hasn't blocked it
pub record Allows (t : Known) (answer : Option Answer) (line : Option ThreadLine) : Type 0 where
  pub bears : MatchOption line (t.last ≡ None) (Bears t answer)
  pub unblocked : MatchOption t.last (Unit {0}) (λ w. w.expected ≡ Refusal → w.blocked ≡ false)

-- the same of all threads
abbrev pub AllAllow : List Known → (ℕ → Option Answer) → List ThreadLine → Type 0
AllAllow table answers lines = (k : ℕ) → k < MACHINE_THREADS → MatchOption (slice_get table k) ⊥ (λ t. Allows t (answers k) (line_of k lines))

-- so far the threads have come after these turns, where their last asks get these answers
abbrev pub AreShown : List Piece → List Known → (ℕ → Option Answer) → Type 0
AreShown before table answers = (k : ℕ) → k < MACHINE_THREADS → MatchOption (slice_get table k) ⊥ (λ t. came_by t.plan before k ≡ come t (answers k))

-- each thread of a script in its place
abbrev pub AreThreads : List ThreadSpec → List Known → Type 0
AreThreads plans table = (length table ≡ MACHINE_THREADS) × ((cpu n : ℕ) → cpu < CPU_LIMIT → n < THREAD_LIMIT → MatchOption (slice_get table (THREAD_LIMIT * cpu + n)) ⊥ (λ t. t.plan ≡ plan_of_thread cpu n plans))

-- what a check knows that follows a run: the script's threads, what it knows of each, and the machine that the trace so far leads to
pub record Follow : Type 0 where
  pub plans : List ThreadSpec
  pub table : List Known
  pub machine : Machine

-- the answers, with this one in the place of a thread
abbrev pub answered_at : ℕ → Option Answer → (ℕ → Option Answer) → ℕ → Option Answer
answered_at slot answer answers k = if k == slot then answer else answers k

-- no thread's last ask has an answer
abbrev pub none_answered : ℕ → Option Answer
none_answered k = None

-- a check goes on by a turn of a processor with this part of the trace. Whatever answers the last asks get after it that are expected, with
-- these and the former ones the turn fits the turns before, and with these the threads have come so far. And whatever answers they get with
-- which the turn fits, these are expected
pub record GoesOn (cpu : ℕ) (part : List Event) (poll : (ℕ → Option Answer) → Option Poll) (former : (ℕ → Option Answer) → ℕ → Option Answer) (old new : Follow) : Type 0 where
  pub plans : new.plans ≡ old.plans
  pub machine : new.machine ≡ after_all old.machine part
  pub bear : (answers : ℕ → Option Answer) (lines : List ThreadLine) → AllBear new.table answers lines → AllBear old.table (former answers) lines
  pub fits : (answers : ℕ → Option Answer) (lines : List ThreadLine) → AllBear new.table answers lines → (before : List Piece) → AreShown before old.table (former answers) → TurnFits old.plans lines cpu old.machine before (poll answers) part
  pub shown : (answers : ℕ → Option Answer) (before : List Piece) → AreShown before old.table (former answers) → AreShown (before ++ piece (poll answers) part ∷ []) new.table answers
  pub allows : (answers : ℕ → Option Answer) (lines : List ThreadLine) → AllAllow old.table (former answers) lines → (before : List Piece) → AreShown before old.table (former answers) → TurnFits old.plans lines cpu old.machine before (poll answers) part → AllAllow new.table answers lines

-- a check doesn't go on by a turn: whatever answers the asks before got, the turn fits no turns before it
abbrev pub Declines : ℕ → List Event → ((ℕ → Option Answer) → Option Poll) → ((ℕ → Option Answer) → ℕ → Option Answer) → Follow → Type 0
Declines cpu part poll former f = (lines : List ThreadLine) (before : List Piece) → AllAllow f.table (former none_answered) lines → AreShown before f.table (former none_answered) → ¬ TurnFits f.plans lines cpu f.machine before (poll none_answered) part

-- the poll of a thread which asked this, by the answers that the last asks get
abbrev pub poll_so : ThreadId → Ask → (ℕ → Option Answer) → Option Poll
poll_so thread asked answers = Some (record { answer = answers (slot_of thread); ask = asked; thread = thread })

-- a turn that polled this thread, which heard this, the answer to its ask before, and asked this
abbrev pub GoesOnByPoll : ℕ → ThreadId → Answer → Ask → List Event → Follow → Follow → Type 0
GoesOnByPoll cpu thread heard asked part old new = GoesOn cpu part (poll_so thread asked) (answered_at (slot_of thread) (Some heard)) old new

abbrev pub DeclinesPoll : ℕ → ThreadId → Answer → Ask → List Event → Follow → Type 0
DeclinesPoll cpu thread heard asked part f = Declines cpu part (poll_so thread asked) (answered_at (slot_of thread) (Some heard)) f

-- a turn that polled no thread
abbrev pub GoesOnUnasked : ℕ → List Event → Follow → Follow → Type 0
GoesOnUnasked cpu part old new = GoesOn cpu part (λ answers. None) (λ answers. answers) old new

abbrev pub DeclinesUnasked : ℕ → List Event → Follow → Type 0
DeclinesUnasked cpu part f = Declines cpu part (λ answers. None) (λ answers. answers) f

-- a check that has followed no turn yet
pub record Begins (script : List ThreadSpec) (opening : Machine) (f : Follow) : Type 0 where
  pub plans : f.plans ≡ script
  pub machine : f.machine ≡ opening
  pub shown : (answers : ℕ → Option Answer) → AreShown [] f.table answers
  pub allows : (answers : ℕ → Option Answer) (lines : List ThreadLine) → AllAllow f.table answers lines

-- the run ends here, as these lines say, with the events of the stop
pub record EndsHere (f : Follow) (lines : List ThreadLine) (stop : List Event) : Type 0 where
  pub listed : AreListed f.machine.cpus 0 lines
  pub paired : (cpu n : ℕ) → cpu < CPU_LIMIT → n < THREAD_LIMIT → IsPaired f.plans lines cpu n
  pub bear : AllBear f.table none_answered lines
  pub ends : (before : List Piece) → AreShown before f.table none_answered → EndsRun f.plans lines f.machine before stop

-- the run doesn't end here, as these lines say, with the events of the stop
abbrev pub DeclinesEnd : Follow → List ThreadLine → List Event → Type 0
DeclinesEnd f lines stop = (before : List Piece) → AllAllow f.table none_answered lines → AreShown before f.table none_answered → AreListed f.machine.cpus 0 lines → ¬ EndsRun f.plans lines f.machine before stop
