-- What a turn leaves of what a check knows of one thread that follows a run (own).
use Rattle.std.specs.Prelude.{◌≡◌, ℕ, ◌+◌, ◌*◌, ◌/◌, ◌<◌, nat_lt, Bool, true, false, List, [], ◌∷◌, ◌++◌, length, take, slice_get, if◌then◌else◌, Option, Some, None, MatchOption, is_some, option_map}
use Rattle.std.specs.Option.{option_map_or}
use Rattle.lwkt_base.specs.declared.asks.Ask.{Ask}
use Rattle.lwkt_base.specs.declared.asks.Answer.{Answer}
use Rattle.lwkt_base.specs.declared.asks.Answer.TheVariants.{Begin}
use Rattle.lwkt_base.specs.declared.entries.Entry.{Entry}
use Rattle.lwkt_code.specs.declared.locals.Local.{Local}
use Rattle.lwkt_code.specs.Next.{next}
use Rattle.lwkt_code.specs.Programs.{start}
use Rattle.lwkt_core.specs.declared.events.Event.{Event}
use Rattle.lwkt_core.specs.declared.events.Event.TheVariants.{Read, ReadBlob}
use Rattle.lwkt_core.specs.Machine.{Machine}
use Rattle.lwkt_script.specs.declared.scripts.ThreadSpec.{ThreadSpec}
use Rattle.lwkt_base.specs.declared.threads.ThreadLine.{ThreadLine}
use Rattle.lwkt_base.specs.declared.limits.TheConstants.{LOG_LIMIT, MACHINE_THREADS, THREAD_LIMIT}
use Rattle.lwkt_verdict.specs.declared.expected.Expected.{Expected}
use Rattle.lwkt_verdict.specs.declared.expected.Expected.TheVariants.{Any, NoRefusal, Refusal, Value, Bytes}
use Rattle.lwkt_verdict.specs.Asks.{may_answer, makes_event}
use Rattle.lwkt_verdict.specs.Owns.{has_blocked}
use Rattle.lwkt_verdict.specs.TurnParts.{IsPartOf}
use Rattle.lwkt_verdict.specs.Threads.{program_of, progress_after, IsLogged, Rests, EndsAsShown}
use Rattle.lwkt_verdict.specs.Follow.{is_expected, Awaited, Known, steps_of, entry_so, come, Bears, Allows}

-- which answers an ask can have that stands at this event of its own: any at one that may have happened unasked as well
abbrev pub expected_by : Bool → Event → Expected
expected_by unasked (Read cpu tok cell value) = Value value
expected_by unasked (ReadBlob cpu tok blob) = Bytes blob
expected_by unasked _ = if unasked then Any else NoRefusal

-- which answers an ask can have whose event isn't there
abbrev pub expected_without : Ask → Expected
expected_without ask = if makes_event ask then Refusal else Any

-- a thread, or none, that was never polled
abbrev pub unpolled : Option ThreadSpec → Known
unpolled plan = record { plan = plan; local = start (program_of plan); last = None; log = [] }

-- what a thread is told that heard this: what it hears at its first poll isn't looked at
abbrev pub told_so : Known → Answer → Answer
told_so t heard = option_map_or (λ w. heard) t.last Begin

-- what a thread asks next that heard this, and where it stands then
abbrev pub next_so : Known → Answer → Ask × Local
next_so t heard = next (steps_of t) t.local (told_so t heard)

-- a log with an entry behind it, if there is one and there is room for it
abbrev pub log_with : List Entry → Option Entry → List Entry
log_with log None = log
log_with log (Some e) = if nat_lt (length log) LOG_LIMIT then (log ++ e ∷ []) else log

-- the log of a thread whose last ask has no answer
abbrev pub log_so : Known → List Entry
log_so t = log_with t.log (entry_so t None)

-- what is known of a thread's last ask, if there is one
abbrev pub awaited : Option Ask → Bool → Expected → Option Awaited
awaited last blocked expected = option_map (λ ask. record { ask = ask; blocked = blocked; expected = expected }) last

-- the thread heard this, which the ask before can have been answered
pub record Hears (heard : Answer) (old new : Known) : Type 0 where
  pub expected : MatchOption old.last (Unit {0}) (λ w. is_expected w.expected (Some heard) ≡ true)
  pub answers : MatchOption old.last (Unit {0}) (λ w. may_answer w.ask heard ≡ true)
  pub logged : new ≡ record { plan = old.plan; local = old.local; last = old.last; log = log_with old.log (entry_so old (Some heard)) }

-- the program of the thread goes on by what the thread heard, to this ask
pub record Moves (heard : Answer) (asked : Ask) (old new : Known) : Type 0 where
  pub plan : is_some old.plan ≡ true
  pub asks : asked ≡ (next_so old heard).0
  pub moved : new ≡ record { plan = old.plan; local = (next_so old heard).1; last = old.last; log = old.log }

-- what is known of a thread once it has asked this
abbrev pub after_asking : Known → Awaited → Known
after_asking t w = record { plan = t.plan; local = t.local; last = Some w; log = t.log }

-- the thread has asked this, by this part of the trace: which answers it can have, exactly, and whether it is blocked
pub record Asks (m : Machine) (asked : Ask) (part : List Event) (old new : Known) : Type 0 where
  pub expected : Expected
  pub noted : new ≡ after_asking old (record { ask = asked; blocked = has_blocked asked part; expected = expected })
  pub makes : (answer : Option Answer) → is_expected expected answer ≡ true → IsPartOf m asked answer part
  pub expects : (answer : Option Answer) → IsPartOf m asked answer part → is_expected expected answer ≡ true
  pub unblocked : expected ≡ Refusal → has_blocked asked part ≡ false

-- what the thread last asked, if anything, can have been answered so
abbrev pub MayHear : Answer → Known → Type 0
MayHear heard t = MatchOption t.last (Unit {0}) (λ w. (is_expected w.expected (Some heard) ≡ true) × (may_answer w.ask heard ≡ true))

-- the thread has this ask next, where it heard this
abbrev pub MayAskNext : Answer → Ask → Known → Type 0
MayAskNext heard asked t = MatchOption t.plan ⊥ (λ plan. asked ≡ (next_so t heard).0)

-- the thread can be polled: told this, asking this, by this part of the trace
pub record MayBePolled (m : Machine) (heard : Answer) (asked : Ask) (part : List Event) (t : Known) : Type 0 where
  pub hears : MayHear heard t
  pub asks : MayAskNext heard asked t
  pub makes : IsPartOf m asked None part

-- the thread was polled, heard this, the answer to the ask before, and asked this: whatever that is answered, if its line bears it
pub record IsPolled (m : Machine) (heard : Answer) (asked : Ask) (part : List Event) (old new : Known) : Type 0 where
  pub asks : MayAskNext heard asked old
  pub came : (answer : Option Answer) → come new answer ≡ progress_after (steps_of old) (come old (Some heard)) (record { ask = asked; answer = answer; blocked = has_blocked asked part })
  pub bears : (answer : Option Answer) (line : ThreadLine) → Bears new answer line → Bears old (Some heard) line
  pub answers : (answer : Option Answer) (line : ThreadLine) → Bears new answer line → MatchOption answer (Unit {0}) (λ a. may_answer asked a ≡ true)
  pub logs : (answer : Option Answer) (line : ThreadLine) → Bears new answer line → IsLogged (steps_of old) line (come old (Some heard)) (record { ask = asked; answer = answer; blocked = false })
  pub makes : (answer : Option Answer) (line : ThreadLine) → Bears new answer line → IsPartOf m asked answer part
  pub allows : (answer : Option Answer) (line : ThreadLine) → Bears old (Some heard) line → MatchOption answer (Unit {0}) (λ a. may_answer asked a ≡ true) → IsLogged (steps_of old) line (come old (Some heard)) (record { ask = asked; answer = answer; blocked = false }) → IsPartOf m asked answer part → Bears new answer line
  pub unblocked : MatchOption new.last (Unit {0}) (λ w. w.expected ≡ Refusal → w.blocked ≡ false)

-- the thread has come as far as before, with no more answers that its last ask can have
pub record IsKept (old new : Known) : Type 0 where
  pub plan : new.plan ≡ old.plan
  pub came : (answer : Option Answer) → come new answer ≡ come old answer
  pub bears : (answer : Option Answer) (line : ThreadLine) → Bears new answer line → Bears old answer line

-- the thread, if it is there, may rest, whatever its last ask is answered, if its line bears that
abbrev pub MayRest : Known → Known → Type 0
MayRest old new = MatchOption old.plan (Unit {0}) (λ plan. (answer : Option Answer) (line : ThreadLine) → Bears new answer line → Rests (come old answer))

-- the thread, if it is there, can have rested: then its last ask was answered so
abbrev pub AllowsRest : Known → Known → Type 0
AllowsRest old new = (answer : Option Answer) (line : Option ThreadLine) → Allows old answer line → MatchOption old.plan (Unit {0}) (λ plan. Rests (come old answer)) → Allows new answer line

-- the thread is there and can't have rested
abbrev pub MayNotRest : Known → Type 0
MayNotRest t = (line : Option ThreadLine) → Allows t None line → ¬ MatchOption t.plan (Unit {0}) (λ plan. Rests (come t None))

-- the thread ends as its line says, if it is there, and its log begins the line's
pub record MayEnd (t : Known) (line : Option ThreadLine) : Type 0 where
  pub ends : EndsAsShown t.plan line (come t None)
  pub logs : MatchOption line (Unit {0}) (λ l. take (length (log_so t)) l.log ≡ log_so t)

-- the thread ends as its line says, if it is there
pub record IsEnded (t : Known) (line : Option ThreadLine) : Type 0 where
  pub bears : MatchOption line (t.plan ≡ None) (Bears t None)
  pub ends : EndsAsShown t.plan line (come t None)

-- what holds of each thread of a table, by its number
abbrev pub AllThreads : (ℕ → Known → Type 0) → List Known → Type 0
AllThreads P table = (k : ℕ) → k < MACHINE_THREADS → MatchOption (slice_get table k) ⊥ (P k)

-- what holds of each thread of a table before and after something, by its number
abbrev pub AllPairs : (ℕ → Known → Known → Type 0) → List Known → List Known → Type 0
AllPairs P old new = (k : ℕ) → k < MACHINE_THREADS → MatchOption (slice_get old k) ⊥ (λ t. MatchOption (slice_get new k) ⊥ (P k t))

-- the threads stay in their places
abbrev pub KeepsPlans : List Known → List Known → Type 0
KeepsPlans old new = (length new ≡ length old) × AllPairs (λ k t u. u.plan ≡ t.plan) old new

-- each thread has come as far as before
abbrev pub AreKept : List Known → List Known → Type 0
AreKept old new = AllPairs (λ k. IsKept) old new

-- each thread of a processor may rest
abbrev pub MayAllRest : ℕ → List Known → List Known → Type 0
MayAllRest cpu old new = AllPairs (λ k t u. k / THREAD_LIMIT ≡ cpu → MayRest t u) old new

-- each thread of a processor can have rested, and no other one changes
abbrev pub AllowAllRest : ℕ → List Known → List Known → Type 0
AllowAllRest cpu old new = AllPairs (λ k t u. (k / THREAD_LIMIT ≡ cpu → AllowsRest t u) × (¬ (k / THREAD_LIMIT ≡ cpu) → u ≡ t)) old new

-- a thread of a processor can't have rested
abbrev pub OneMayNotRest : ℕ → List Known → Type 0
OneMayNotRest cpu table = (n : ℕ) × ((n < THREAD_LIMIT) × MatchOption (slice_get table (THREAD_LIMIT * cpu + n)) ⊥ MayNotRest)
