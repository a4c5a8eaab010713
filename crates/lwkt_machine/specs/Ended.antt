-- The stop and the close of a machine (own).
use Rattle.std.specs.Prelude.{◌≡◌, ℕ, ◌+◌, ◌<◌, ◌≤◌, List, [], length, map, All, Vec, Some, slice_get, vec_len, vec_capacity}
use Rattle.std.specs.declared.alloc.Global.{Global}
use Rattle.lwkt_base.specs.Holding.{holds_nothing}
use Rattle.lwkt_bank.specs.Closing.{IsRoomFor as IsBankRoom}
use Rattle.lwkt_bank.specs.Gathered.{IsClosed}
use Rattle.lwkt_bank.specs.Seats.{BankId, bank_of, holding}
use Rattle.lwkt_core.specs.declared.events.Event.{Event}
use Rattle.lwkt_msg.specs.Desks.{Shelf, AreClosed, IsBookRoom}
use Rattle.lwkt_port.specs.Posts.{IsSamePost}
use Rattle.lwkt_cpu.specs.declared.stops.TheConstants.{STOP_EVENTS}
use Rattle.lwkt_cpu.specs.Processors.{Processor, AllOver}
use Rattle.lwkt_drive.specs.declared.driven.Driven.{Driven}
use Rattle.lwkt_drive.specs.Appending.{AppendsStop}
use Rattle.lwkt_machine.specs.declared.closings.CloseRoom.{CloseRoom}
use Rattle.lwkt_machine.specs.declared.closings.Closed.{Closed}
use Rattle.lwkt_machine.specs.declared.closings.Gathered.{Gathered}
use Rattle.lwkt_machine.specs.Machines.{Rig, processors}
use Rattle.lwkt_machine.specs.Turns.{DoesAt, StaysPut}

-- a processor is still the one that it was: of the same bank and book, with the same number and over the same lanes
pub record IsSameCpu {B : Type 0} (p q : Processor B) : Type 0 where
  pub bank : bank_of q.seat ≡ bank_of p.seat
  pub table : q.post.seat.table ≡ p.post.seat.table
  pub number : q.seat.cpu ≡ p.seat.cpu
  pub ports : IsSamePost p.post q.post

-- the same of each processor of a list
pub record AreSameCpus {B : Type 0} (olds news : List (Processor B)) : Type 0 where
  pub as_many : length news ≡ length olds
  pub each : (k : ℕ) (q : Processor B) → slice_get news k ≡ Some q → (p : Processor B) × ((slice_get olds k ≡ Some p) × IsSameCpu p q)

-- a processor stops, and the events by which its trace grows are what its seats at bank and book did; what was kept of its driving
-- stays
pub record IsStopped {B : Type 0} (old new : Driven B) : Type 0 where
  pub stops : AppendsStop old.cpu new.cpu old.trace.items new.trace.items
  pub rest : new ≡ record old { cpu = new.cpu; trace = new.trace; room = new.room }

-- the processors below this number have stopped, each once, and the others are as before
pub record HaveStopped {B : Type 0} (count : ℕ) (olds news : List (Driven B)) : Type 0 where
  pub as_many : length news ≡ length olds
  pub below : (k : ℕ) (p q : Driven B) → k < count → slice_get olds k ≡ Some p → slice_get news k ≡ Some q → IsStopped p q
  pub above : (k : ℕ) → count ≤ k → slice_get news k ≡ slice_get olds k

-- all of them have
abbrev pub AreStopped : {B : Type 0} → List (Driven B) → List (Driven B) → Type 0
AreStopped olds news = HaveStopped (length olds) olds news

-- some of them have, and the next one is as it was, but for the room of its trace
pub record AreStoppedShort {B : Type 0} (olds news : List (Driven B)) : Type 0 where
  pub count : ℕ
  pub mids : List (Driven B)
  pub stopped : HaveStopped count olds mids
  pub stays : DoesAt StaysPut count mids news

-- an empty list with room for the events of a stop
abbrev pub IsStopRoom : Vec Event Global → Type 0
IsStopRoom stop = (stop.items ≡ []) × (vec_len stop + STOP_EVENTS ≤ vec_capacity stop)

-- a processor stops, and these events are what its seats at bank and book did; its trace and what was kept of its driving stay
pub record EndsWith {B : Type 0} (old new : Driven B) (stop : Vec Event Global) : Type 0 where
  pub stops : AppendsStop old.cpu new.cpu [] stop.items
  pub rest : new ≡ record old { cpu = new.cpu }

-- the processors below this number have stopped so, each once and with its events, and the others are as before
pub record HaveEnded {B : Type 0} (count : ℕ) (olds news : List (Driven B)) (stops : List (Vec Event Global)) : Type 0 where
  pub as_many : length news ≡ length olds
  pub stops_are : length stops ≡ length olds
  pub below : (k : ℕ) (p q : Driven B) (stop : Vec Event Global) → k < count → slice_get olds k ≡ Some p → slice_get news k ≡ Some q → slice_get stops k ≡ Some stop → EndsWith p q stop
  pub above : (k : ℕ) → count ≤ k → slice_get news k ≡ slice_get olds k

-- every thread of every processor has ended
abbrev pub AreOver : {B : Type 0} → List (Processor B) → Type 0
AreOver {B} cpus = (k : ℕ) (p : Processor B) → slice_get cpus k ≡ Some p → AllOver p.threads

-- these processors gave back their seats, which hold nothing, their bodies and their traces, all in order
pub record AreRetired {B : Type 0} (done : List (Driven B)) (all : Gathered B) : Type 0 where
  pub seats : all.seats.items ≡ map (λ (d : Driven B). d.cpu.seat) done
  pub empty : All (λ s. holding s ≡ holds_nothing) all.seats.items
  pub mails : all.mails.items ≡ map (λ (d : Driven B). d.cpu.post.seat) done
  pub bodies : map (λ (v : Vec B Global). v.items) all.bodies.items ≡ map (λ (d : Driven B). d.cpu.bodies) done
  pub traces : all.traces.items ≡ map (λ (d : Driven B). d.trace) done

-- there is room for what so many processors more give back
pub record HasRoom {B : Type 0} (count : ℕ) (all : Gathered B) : Type 0 where
  pub seats : vec_len all.seats + count ≤ vec_capacity all.seats
  pub mails : vec_len all.mails + count ≤ vec_capacity all.mails
  pub bodies : vec_len all.bodies + count ≤ vec_capacity all.bodies
  pub traces : vec_len all.traces + count ≤ vec_capacity all.traces

-- room for the close of a machine of so many processors, at this bank and this book
pub record IsRoomFor {B : Type 0} (bank : BankId) (book : Shelf) (cpus : ℕ) (room : CloseRoom B) : Type 0 where
  pub none : AreRetired {B = B} [] room.gathered
  pub gathered : HasRoom cpus room.gathered
  pub stops_are : length room.stops.items ≡ cpus
  pub stops : All IsStopRoom room.stops.items
  pub tokens : IsBankRoom bank cpus room.tokens
  pub messages : IsBookRoom book room.messages

-- a machine closes: each processor stops, with its events; the closing values are those of bank and book, after they took back the seats
-- of these processors; the bodies and the traces are theirs, in order
pub record IsClosedMachine {B : Type 0} (m : Rig B) (closed : Closed B) : Type 0 where
  pub cpus : m.cpus ≡ processors m.driven
  pub last : List (Driven B)
  pub ended : HaveEnded (length m.driven) m.driven last closed.stops.items
  pub tokens : IsClosed m.bank (length m.cpus) (map (λ (d : Driven B). d.cpu.seat) last) closed.tokens
  pub messages : AreClosed m.book (map (λ (d : Driven B). d.cpu.post.seat) last) closed.messages.items
  pub bodies : map (λ (v : Vec B Global). v.items) closed.bodies.items ≡ map (λ (d : Driven B). d.cpu.bodies) last
  pub traces : closed.traces.items ≡ map (λ (d : Driven B). d.trace) last
