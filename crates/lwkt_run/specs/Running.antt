-- What the machine of a script does in a run, and how the lines of a report show its threads (own).
use Rattle.std.specs.Prelude.{◌≡◌, ◌⊎◌, ℕ, ◌<◌, Bool, true, false, if◌then◌else◌, List, [], ◌++◌, length, map, All, IsSomeAnd, Option, Some, None, Vec, slice_get}
use Rattle.std.specs.Option.{option_map_or}
use Rattle.std.specs.declared.alloc.Global.{Global}
use Rattle.lwkt_base.specs.declared.entries.Entry.{Entry}
use Rattle.lwkt_core.specs.declared.events.Event.{Event}
use Rattle.lwkt_port.specs.Chains.{Chain}
use Rattle.lwkt_cpu.specs.declared.answers.Turned.{Turned}
use Rattle.lwkt_cpu.specs.declared.answers.Turned.TheVariants.{Ran, Idle, AllExited}
use Rattle.lwkt_cpu.specs.Processors.{Processor}
use Rattle.lwkt_machine.specs.Bodies.{Scripted, IsPolled}
use Rattle.lwkt_machine.specs.Ended.{AreOver}
use Rattle.lwkt_machine.specs.Machines.{Rig, ShowsBody}
use Rattle.lwkt_machine.specs.Statuses.{statuses_of}
use Rattle.lwkt_machine.specs.Turns.{TurnsAt}
use Rattle.lwkt_base.specs.declared.names.ThreadId.{ThreadId}
use Rattle.lwkt_base.specs.declared.threads.ThreadLine.{ThreadLine}
use Rattle.lwkt_base.specs.declared.limits.TheConstants.{THREAD_LIMIT}
use Rattle.lwkt_script.specs.declared.scripts.ThreadSpec.{ThreadSpec}
use Rattle.lwkt_script.specs.Format.{threads_on}
use Rattle.lwkt_verdict.specs.Run.{whose}
use Rattle.lwkt_verdict.specs.Threads.{plan_of_thread}
use Rattle.lwkt_run.specs.declared.polled.Polled.{Polled}
use Rattle.lwkt_run.specs.declared.records.Record.{Record}
use Rattle.lwkt_run.specs.Keeping.{Kept, kept_as, KeepsTurn, Story, story_as}

-- so many processors, each with as many threads as a script has on it
pub record HasThreads (cpus : ℕ) (threads : List ThreadSpec) (processors : List (Processor Scripted)) : Type 0 where
  pub as_many : length processors ≡ cpus
  pub each : (k : ℕ) (p : Processor Scripted) → slice_get processors k ≡ Some p → length p.threads ≡ threads_on k threads

-- the log of a body; an empty one, where there is none
abbrev pub log_in : Option Scripted → List Entry
log_in None = []
log_in (Some body) = body.log

-- a line shows the log of its thread's body
abbrev pub IsLogOf : Rig Scripted → ThreadLine → Type 0
IsLogOf m line = (body : Option Scripted) × (ShowsBody m line.id.cpu.0 line.id.thread body × (line.log ≡ log_in body))

-- whether a thread of a script is a service; one that the script doesn't have is none
abbrev pub is_service : List ThreadSpec → ThreadId → Bool
is_service threads id = option_map_or (λ thread. thread.service) (plan_of_thread id.cpu.0 id.thread threads) false

-- the lines of a script's threads show how a machine's threads stand, each in its place: what it is doing and its references; what its
-- body has logged; and whether it is a service
pub record ShowThreads (threads : List ThreadSpec) (lines : List ThreadLine) (m : Rig Scripted) : Type 0 where
  pub ids : map (λ line. line.id) lines ≡ map (λ s. s.id) (statuses_of m.cpus)
  pub states : map (λ line. line.state) lines ≡ map (λ s. s.state) (statuses_of m.cpus)
  pub lists : map (λ line. line.list) lines ≡ map (λ s. s.list) (statuses_of m.cpus)
  pub logs : All (IsLogOf m) lines
  pub services : All (λ line. line.service ≡ is_service threads line.id) lines

-- what the last poll of a thread was: its body was given this answer to what it asked before, and asked this
pub record IsPolledAt (m : Rig Scripted) (cpu thread : ℕ) (p : Polled) : Type 0 where
  pub id : p.thread ≡ record { cpu = record { 0 = cpu }; thread = thread }
  pub body : Scripted
  pub shown : ShowsBody m cpu thread (Some body)
  pub heard : body.heard ≡ Some p.heard
  pub asked : body.asked ≡ Some p.asked

-- what a turn of a processor asked, by its answer and the machine that it left: nothing where it ran no thread, else what the thread
-- heard and asked that ran
abbrev pub HasBeenAsked : ℕ → Rig Scripted → Turned → Option Polled → Type 0
HasBeenAsked cpu m (Ran thread) None = ⊥
HasBeenAsked cpu m (Ran thread) (Some p) = IsPolledAt m cpu thread p
HasBeenAsked cpu m Idle asks = asks ≡ None
HasBeenAsked cpu m AllExited asks = asks ≡ None

-- a thread that is there was polled; and so was the one that a turn ran, which is one of a processor's 16 threads
abbrev pub WasPolled : Rig Scripted → ℕ → ℕ → Type 0
WasPolled m cpu thread = IsSomeAnd (slice_get m.cpus cpu) (λ q. thread < length q.threads) × ((p : Polled) × IsPolledAt m cpu thread p)

abbrev pub HasPolled : ℕ → Rig Scripted → Turned → Type 0
HasPolled cpu m (Ran thread) = (thread < THREAD_LIMIT) × WasPolled m cpu thread
HasPolled cpu m Idle = Unit {0}
HasPolled cpu m AllExited = Unit {0}

-- a machine, the trace of its events, and what is kept of its turns
pub record Scene : Type 0 where
  pub machine : Rig Scripted
  pub trace : List Event
  pub kept : Kept

abbrev pub scene : Rig Scripted → List Event → Kept → Scene
scene machine trace kept = record { machine = machine; trace = trace; kept = kept }

-- what a record keeps
abbrev pub story_in_record : Record → Story
story_in_record r = story_as r.trace.items (kept_as r.order.items r.turns.items r.polls.items)

-- the processor of this number makes a turn, which says this; its events are traced into an empty room, and are the part by which the
-- trace grows; and it is kept as it was: with its processor, the number of its events, and what it asked
pub record MakesKeptTurn (cpu : ℕ) (turned : Turned) (x y : Scene) : Type 0 where
  pub room : Vec Event Global
  pub part : Vec Event Global
  pub none : room.items ≡ []
  pub makes : TurnsAt IsPolled cpu x.machine y.machine room part turned
  pub grown : y.trace ≡ x.trace ++ part.items
  pub events : ℕ
  pub counted : length part.items ≡ events
  pub asks : Option Polled
  pub has_asked : HasBeenAsked cpu y.machine turned asks
  pub keeps : KeepsTurn cpu events asks x.kept y.kept

-- the processor of this number makes a turn
abbrev pub MakesTurnAt : ℕ → Scene → Scene → Type 0
MakesTurnAt cpu x y = (turned : Turned) × MakesKeptTurn cpu turned x y

-- so many turns are made, each by the processor that an order names
abbrev pub MakesSome : List ℕ → ℕ → Scene → Scene → Type 0
MakesSome order count x y = Chain Scene (λ k. MakesTurnAt (whose order k)) count x y

-- the turns of an order are made, one after another
abbrev pub MakesTurns : List ℕ → Scene → Scene → Type 0
MakesTurns order x y = MakesSome order (length order) x y

-- a scene within a round, and whether every processor that made its turn in it said that all its threads have ended
pub record Going : Type 0 where
  pub at : Scene
  pub over : Bool

abbrev pub going : Scene → Bool → Going
going x over = record { at = x; over = over }

-- whether a turn says that every thread of its processor has ended
abbrev pub says_over : Turned → Bool
says_over (Ran thread) = false
says_over Idle = false
says_over AllExited = true

abbrev pub both : Bool → Bool → Bool
both a b = if a then b else false

-- the processor of this number makes a turn
abbrev pub TakesTurn : ℕ → Going → Going → Type 0
TakesTurn cpu x y = (turned : Turned) × (MakesKeptTurn cpu turned x.at y.at × (y.over ≡ both x.over (says_over turned)))

-- a round: each processor makes one turn, by rising number; it is over exactly if each of these turns says that every thread of its
-- processor has ended
abbrev pub MakesKeptRound : Bool → ℕ → Scene → Scene → Type 0
MakesKeptRound over number x y = Chain Going TakesTurn (length x.machine.cpus) (going x true) (going y over)

-- so many rounds, none of which was over
abbrev pub GoRounds : ℕ → Scene → Scene → Type 0
GoRounds count x y = Chain Scene (MakesKeptRound false) count x y

-- so many rounds that weren't over, and then one that was: every thread of each processor has ended
pub record EndRounds (count : ℕ) (x y : Scene) : Type 0 where
  pub mid : Scene
  pub earlier : GoRounds count x mid
  pub last : MakesKeptRound true count mid y
  pub over : AreOver y.machine.cpus

-- rounds were made up to the first that was over, or so many as the limit says, none of which was over
abbrev pub HasMadeRounds : ℕ → Scene → Scene → Type 0
HasMadeRounds limit x y = ((count : ℕ) × ((count < limit) × EndRounds count x y)) ⊎ GoRounds limit x y
