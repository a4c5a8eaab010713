-- The turns of a machine's processors (own).
use Rattle.std.specs.Prelude.{◌≡◌, ◌≢◌, ◌⊎◌, ℕ, ◌+◌, ◌<◌, ◌≤◌, List, [], ◌∷◌, ◌++◌, length, All, Vec, Some, slice_get, slice_set}
use Rattle.std.specs.declared.alloc.Global.{Global}
use Rattle.lwkt_base.specs.declared.asks.Ask.{Ask}
use Rattle.lwkt_base.specs.declared.asks.Answer.{Answer}
use Rattle.lwkt_base.specs.declared.faults.Fault.{Fault}
use Rattle.lwkt_base.specs.declared.faults.Fault.TheVariants.{Memory, Limits}
use Rattle.lwkt_core.specs.declared.events.Event.{Event}
use Rattle.lwkt_cpu.specs.declared.answers.Turned.{Turned}
use Rattle.lwkt_cpu.specs.declared.answers.Turned.TheVariants.{AllExited}
use Rattle.lwkt_cpu.specs.Processors.{Processor}
use Rattle.lwkt_cpu.specs.Turning.{MakesTurn}
use Rattle.lwkt_drive.specs.declared.driven.Driven.{Driven}
use Rattle.lwkt_machine.specs.Machines.{Rig}
use Rattle.lwkt_machine.specs.Sights.{KeepsLog, SeesSent, AreDelivered}

-- the one of this number does something, and the others are as before
pub record DoesAt {A : Type 0} (R : A → A → Type 0) (cpu : ℕ) (olds news : List A) : Type 0 where
  pub before : A
  pub now : A
  pub at_before : slice_get olds cpu ≡ Some before
  pub does : R before now
  pub cpus : news ≡ slice_set olds cpu now

-- the processor of this number makes a turn: it sees what has been sent to it, and this is received as it takes mail in
pub record TurnsAt {B : Type 0} (polled : B → Answer → Ask → B → Type 0) (cpu : ℕ) (old new : Rig B) (t u : Vec Event Global) (turned : Turned) : Type 0 where
  pub seen : List (Processor B)
  pub sees : SeesSent cpu old.cpus seen
  pub turns : DoesAt (λ p q. MakesTurn polled old.bank p q t u turned) cpu seen new.cpus
  pub delivered : AreDelivered cpu old.cpus turns.does.mail
  pub bank : new.bank ≡ old.bank
  pub book : new.book ≡ old.book

-- a processor made a turn, and these events went behind its trace; what was kept of its driving stays
pub record KeepsPart {B : Type 0} (part : List Event) (old new : Driven B) : Type 0 where
  pub trace : new.trace.items ≡ old.trace.items ++ part
  pub rest : new ≡ record old { cpu = new.cpu; trace = new.trace; room = new.room }

-- these events went behind the trace of the processor of this number, and of the others nothing changed but the processor
pub record KeepsPartAt {B : Type 0} (cpu : ℕ) (part : List Event) (olds news : List (Driven B)) : Type 0 where
  pub as_many : length news ≡ length olds
  pub here : (d e : Driven B) → slice_get olds cpu ≡ Some d → slice_get news cpu ≡ Some e → KeepsPart part d e
  pub others : (k : ℕ) (d e : Driven B) → k ≢ cpu → slice_get olds k ≡ Some d → slice_get news k ≡ Some e → KeepsLog d e

-- the processor of this number makes a turn, whose events are traced into an empty room and go behind its trace from there
pub record TurnsKept {B : Type 0} (polled : B → Answer → Ask → B → Type 0) (cpu : ℕ) (old new : Rig B) (turned : Turned) : Type 0 where
  pub room : Vec Event Global
  pub part : Vec Event Global
  pub none : room.items ≡ []
  pub makes : TurnsAt polled cpu old new room part turned
  pub keeps : KeepsPartAt cpu part.items old.driven new.driven

-- nothing has changed of a processor, whose trace and room may have more capacity; its room may be empty now
pub record StaysPut {B : Type 0} (old new : Driven B) : Type 0 where
  pub cpu : new.cpu ≡ old.cpu
  pub items : new.trace.items ≡ old.trace.items
  pub capacity : old.trace.capacity ≤ new.trace.capacity
  pub rest : new ≡ record old { cpu = new.cpu; trace = new.trace; room = new.room }

-- nothing has changed of a machine, but for this room of the processor of this number
pub record StaysAt {B : Type 0} (cpu : ℕ) (old new : Rig B) : Type 0 where
  pub driven : DoesAt StaysPut cpu old.driven new.driven
  pub cpus : new.cpus ≡ old.cpus
  pub bank : new.bank ≡ old.bank
  pub book : new.book ≡ old.book

-- why no turn of the processor of this number is made: there is no such processor; or out of memory, of which nothing else is claimed.
-- Nothing has changed
abbrev pub DeclinesTurn : {B : Type 0} → ℕ → Rig B → Rig B → Fault → Type 0
DeclinesTurn cpu old new Limits = (length old.cpus ≤ cpu) × (new ≡ old)
DeclinesTurn cpu old new (Memory refused) = StaysAt cpu old new
DeclinesTurn cpu old new _ = ⊥

-- turns of the processors from this number on, by rising number, which return these
abbrev pub TurnsFrom : {B : Type 0} → (B → Answer → Ask → B → Type 0) → ℕ → Rig B → Rig B → List Turned → Type 0
TurnsFrom polled cpu old new [] = new ≡ old
TurnsFrom {B} polled cpu old new (turned ∷ turns) = (mid : Rig B) × (TurnsKept polled cpu old mid turned × TurnsFrom polled (cpu + 1) mid new turns)

-- a round: a turn of each processor, by rising number
pub record MakesRound {B : Type 0} (polled : B → Answer → Ask → B → Type 0) (old new : Rig B) (turns : List Turned) : Type 0 where
  pub as_many : length turns ≡ length old.cpus
  pub made : TurnsFrom polled 0 old new turns

-- each of these turns said that every thread of its processor has ended
abbrev pub IsOver : List Turned → Type 0
IsOver turns = All (λ turned. turned ≡ AllExited) turns

-- rounds one after the other, by what their turns returned
abbrev pub MakesRounds : {B : Type 0} → (B → Answer → Ask → B → Type 0) → Rig B → Rig B → List (List Turned) → Type 0
MakesRounds polled old new [] = new ≡ old
MakesRounds {B} polled old new (round ∷ rounds) = (mid : Rig B) × (MakesRound polled old mid round × MakesRounds polled mid new rounds)

-- a machine runs: so many rounds, none of which was over; or rounds up to the first that was, at most so many
pub record Runs {B : Type 0} (polled : B → Answer → Ask → B → Type 0) (limit : ℕ) (old new : Rig B) : Type 0 where
  pub rounds : List (List Turned)
  pub made : MakesRounds polled old new rounds
  pub stops : (All (λ round. ¬ IsOver round) rounds × (length rounds ≡ limit))
      ⊎ ((earlier : List (List Turned)) × ((last : List Turned) × (All (λ round. ¬ IsOver round) earlier × IsOver last × (rounds ≡ earlier ++ last ∷ []) × (length rounds ≤ limit))))

-- a round up to a turn that is refused: the turns before it stand, and nothing else has changed
pub record MakesRoundShort {B : Type 0} (polled : B → Answer → Ask → B → Type 0) (old new : Rig B) : Type 0 where
  pub turns : List Turned
  pub mid : Rig B
  pub made : TurnsFrom polled 0 old mid turns
  pub stays : StaysAt (length turns) mid new

-- a machine runs until a turn is refused: the rounds before it stand, fewer than so many, none of which was over
pub record RunsShort {B : Type 0} (polled : B → Answer → Ask → B → Type 0) (limit : ℕ) (old new : Rig B) : Type 0 where
  pub rounds : List (List Turned)
  pub mid : Rig B
  pub made : MakesRounds polled old mid rounds
  pub going : All (λ round. ¬ IsOver round) rounds
  pub few : length rounds < limit
  pub last : MakesRoundShort polled mid new
