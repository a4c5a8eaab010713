-- What one thread of a script asks, is answered and logs, and how it ends (own).
use Rattle.std.specs.Prelude.{◌≡◌, ℕ, ◌+◌, ◌-◌, ◌*◌, ◌<◌, ◌==◌, ◌&&◌, ◌||◌, Bool, true, false, not, List, [], ◌∷◌, ◌++◌, length, min, replicate, slice_get, option_to_list, Option, Some, None, MatchOption, is_some, unwrap_or, if◌then◌else◌}
use Rattle.std.specs.Option.{option_map_or}
use Rattle.lwkt_base.specs.declared.names.ThreadId.{ThreadId}
use Rattle.lwkt_base.specs.declared.threads.ThreadState.{ThreadState}
use Rattle.lwkt_base.specs.declared.threads.ThreadState.TheVariants.{Ready, Waiting, Running, Exited, Faulted}
use Rattle.lwkt_base.specs.declared.asks.Ask.{Ask}
use Rattle.lwkt_base.specs.declared.asks.Answer.{Answer}
use Rattle.lwkt_base.specs.declared.asks.Answer.TheVariants.{Begin}
use Rattle.lwkt_base.specs.declared.entries.Entry.{Entry}
use Rattle.lwkt_base.specs.Fault.{number_of}
use Rattle.lwkt_code.specs.declared.locals.Local.{Local}
use Rattle.lwkt_code.specs.declared.steps.Step.{Step}
use Rattle.lwkt_code.specs.Answers.{last_step, logs}
use Rattle.lwkt_code.specs.Next.{next, local_after}
use Rattle.lwkt_code.specs.Programs.{Program, start}
use Rattle.lwkt_script.specs.declared.scripts.ThreadSpec.{ThreadSpec}
use Rattle.lwkt_base.specs.declared.threads.ThreadLine.{ThreadLine}
use Rattle.lwkt_base.specs.declared.limits.TheConstants.{LOG_LIMIT, THREAD_LIMIT}
use Rattle.lwkt_verdict.specs.declared.progress.Asked.{Asked}
use Rattle.lwkt_verdict.specs.declared.progress.Progress.{Progress}
use Rattle.lwkt_verdict.specs.declared.progress.Piece.{Piece}
use Rattle.lwkt_script.specs.Logs.{entry_of, failure_of}
use Rattle.lwkt_verdict.specs.Asks.{is_refused, is_exit, is_fail, is_end, may_block, may_wait}

-- a thread's number among those of all processors, 16 for each
abbrev pub slot_of : ThreadId → ℕ
slot_of id = THREAD_LIMIT * id.cpu.0 + id.thread

-- thread number n of a processor: its n-th thread in the script, counted from 0
abbrev pub plan_of_thread : ℕ → ℕ → List ThreadSpec → Option ThreadSpec
plan_of_thread cpu n [] = None
plan_of_thread cpu n (t ∷ ts) = if t.cpu.0 == cpu then (if n == 0 then Some t else plan_of_thread cpu (n - 1) ts) else plan_of_thread cpu n ts

-- the printed line of a thread
abbrev pub line_of : ℕ → List ThreadLine → Option ThreadLine
line_of slot [] = None
line_of slot (l ∷ ls) = if slot_of l.id == slot then Some l else line_of slot ls

-- the program of a thread; one that the script doesn't have makes no steps
abbrev pub program_of : Option ThreadSpec → Program
program_of None = record { steps = []; repeat = 0; vars = replicate 8 0 }
program_of (Some plan) = plan.code

-- what a turn asked of a thread
abbrev pub asked_in : ℕ → Piece → List Asked
asked_in slot piece = option_map_or (λ q. if slot_of q.thread == slot then record { ask = q.ask; answer = q.answer; blocked = piece.blocked } ∷ [] else []) piece.poll []

-- what some turns asked of a thread, in order
abbrev pub asked_by : ℕ → List Piece → List Asked
asked_by slot [] = []
asked_by slot (p ∷ ps) = asked_in slot p ++ asked_by slot ps

-- the last item of a list
abbrev pub last_of : List Asked → Option Asked
last_of xs = slice_get xs (length xs - 1)

-- what a thread is told at its next poll: the answer to its last ask, and Begin at its first
abbrev pub told : Option Asked → Answer
told None = Begin
told (Some a) = unwrap_or a.answer Begin

-- what a thread was told at the polls of these asks, where that was its last ask before them
abbrev pub told_by : Option Asked → List Asked → List Answer
told_by last [] = []
told_by last (a ∷ asked) = told last ∷ told_by (Some a) asked

-- where a thread stands after these asks
abbrev pub stands_after : Program → List Asked → Local
stands_after p asked = local_after p.steps (start p) (told_by None asked)

-- what an ask puts in the log, by where its thread stands after it: what its answer does, where the step that made the ask logs that; and
-- without an answer, that to end by an assertion its number
abbrev pub logged_by : List Step → Local → Asked → Option Entry
logged_by steps s a = option_map_or (λ answer. if logs (last_step steps s) answer then entry_of a.ask answer else None) a.answer (failure_of a.ask)

-- what some asks put in the log, from where their thread stands, by its last ask before them
abbrev pub entries_from : List Step → Local → Option Asked → List Asked → List Entry
entries_from steps s last [] = []
entries_from steps s last (a ∷ asked) = let t = (next steps s (told last)).1 in option_to_list (logged_by steps t a) ++ entries_from steps t (Some a) asked

-- what the asks of a thread put in its log
abbrev pub entries_of : Program → List Asked → List Entry
entries_of p asked = entries_from p.steps (start p) None asked

-- how far a thread has come
abbrev pub progress_of : Program → List Asked → Progress
progress_of p asked = record { local = stands_after p asked; last = last_of asked; logged = min LOG_LIMIT (length (entries_of p asked)) }

-- what a thread asks next that has come so far, and where it stands then
abbrev pub next_after : List Step → Progress → Ask × Local
next_after steps p = next steps p.local (told p.last)

-- how far a thread has come after one more ask
abbrev pub progress_after : List Step → Progress → Asked → Progress
progress_after steps p a = let s = (next_after steps p).1 in record { local = s; last = Some a; logged = option_map_or (λ e. min LOG_LIMIT (p.logged + 1)) (logged_by steps s a) p.logged }

-- a thread that has come so far may be polled with this ask: it is what its program asks next, and the ask before it has its answer
abbrev pub MayAsk : List Step → Progress → Ask → Type 0
MayAsk steps p ask = (ask ≡ (next_after steps p).0) × MatchOption p.last (Unit {0}) (λ a. is_some a.answer ≡ true)

-- the entry of an ask, if it has one and that is among the first 32, stands at its place in the thread's log
abbrev pub IsLogged : List Step → ThreadLine → Progress → Asked → Type 0
IsLogged steps line p a = MatchOption (logged_by steps (next_after steps p).1 a) (Unit {0}) (λ e. p.logged < LOG_LIMIT → slice_get line.log p.logged ≡ Some e)

-- whether a thread is blocked by what it last asked: that isn't refused, and its part shows that it blocked
abbrev pub is_blocked : Asked → Bool
is_blocked a = not (is_refused a.answer) && a.blocked

-- a thread may rest: it was polled, and is blocked by what it last asked
abbrev pub Rests : Progress → Type 0
Rests p = MatchOption p.last ⊥ (λ a. is_blocked a ≡ true)

-- whether a fault of this number can have ended a thread that was blocked by this ask: a law is broken where it blocks or
-- ends (19), a last generation is met where it would go on (20), an assertion of its program doesn't hold (42)
abbrev pub may_fault : ℕ → Ask → Bool
may_fault number ask = (number == 19 && (is_end ask || may_block ask)) || (number == 20 && may_block ask) || (number == 42 && is_fail ask)

-- whether a thread may be in this state whose last ask was this: it is exited only after Exit, it doesn't run after an ask that ends it,
-- and it is faulted, waiting or ready only where it is blocked
abbrev pub may_end_after : ThreadState → Asked → Bool
may_end_after Ready a = is_blocked a && may_block a.ask
may_end_after Waiting a = is_blocked a && may_wait a.ask
may_end_after Running a = not (is_end a.ask)
may_end_after Exited a = is_exit a.ask
may_end_after (Faulted fault) a = is_blocked a && may_fault (number_of fault) a.ask

-- whether a state is that of a thread that can run
abbrev pub is_ready : ThreadState → Bool
is_ready Ready = true
is_ready Waiting = false
is_ready Running = false
is_ready Exited = false
is_ready (Faulted fault) = false

-- the same of a thread that may have been polled or not: one that never was is ready
abbrev pub may_end : ThreadState → Option Asked → Bool
may_end state None = is_ready state
may_end state (Some a) = may_end_after state a

-- a thread that has come so far ends as its printed line says: its last ask has no answer, the line's log has no more than
-- the entries that were logged, and its state may come of its last ask
abbrev pub EndsAs : ThreadLine → Progress → Type 0
EndsAs line p = MatchOption p.last (Unit {0}) (λ a. is_some a.answer ≡ false) × (length line.log ≡ p.logged) × (may_end line.state p.last ≡ true)

-- the same of a thread that the script may have or not: a line is there exactly if the thread is
abbrev pub EndsAsShown : Option ThreadSpec → Option ThreadLine → Progress → Type 0
EndsAsShown None None p = Unit {0}
EndsAsShown None (Some line) p = ⊥
EndsAsShown (Some plan) None p = ⊥
EndsAsShown (Some plan) (Some line) p = EndsAs line p
