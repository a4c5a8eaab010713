use Rattle.std.specs.Prelude.{◌≡◌, ℕ, ◌+◌, ◌<◌, ◌≤◌, true, List, [], ◌∷◌, ◌++◌, length, All, Vec, vec_len, vec_capacity, count_by, not}
use Rattle.std.specs.declared.alloc.Global.{Global}
use Rattle.lwkt_core.specs.declared.events.Event.{Event}
use Rattle.lwkt_core.specs.declared.events.Event.TheVariants.{Load, Take, Share, Again, Mark, GiveOne, GiveClean, GiveWritten, Read, Write, ReadBlob, WriteBlob, Send, TakeMsg, DropMsg, Reply, Reap, Abort}
use Rattle.lwkt_base.specs.declared.names.CpuId.{CpuId}
use Rattle.lwkt_base.specs.declared.names.MsgId.{MsgId}
use Rattle.lwkt_msg.specs.Hands.{IsOwn}
use Rattle.lwkt_msg.specs.Desks.{Desk, Shelf, desk_cpu, entry, IsSameDesk}
use Rattle.lwkt_port.specs.declared.counters.Counters.{Counters}
use Rattle.lwkt_port.specs.declared.mailrooms.Mailroom.{Mailroom}
use Rattle.lwkt_port.specs.declared.mails.Mail.{Mail}
use Rattle.lwkt_port.specs.declared.queues.Port.{Port}

-- what a step on messages changes: the seat, what is kept of each message, and the trace
pub record Work : Type 0 where
  pub seat : Desk
  pub mails : List Mail
  pub trace : List Event

abbrev pub work : Mailroom → Vec Event Global → Work
work r trace = record { seat = r.seat; mails = r.mails.items; trace = trace.items }

-- an event is one of a message, by this processor
abbrev pub IsOfMessages : CpuId → Event → Type 0
IsOfMessages cpu (Load c t) = ⊥
IsOfMessages cpu (Take c t) = ⊥
IsOfMessages cpu (Share c t) = ⊥
IsOfMessages cpu (Again c t) = ⊥
IsOfMessages cpu (Mark c t) = ⊥
IsOfMessages cpu (GiveOne c t) = ⊥
IsOfMessages cpu (GiveClean c t) = ⊥
IsOfMessages cpu (GiveWritten c t section) = ⊥
IsOfMessages cpu (Read c t i v) = ⊥
IsOfMessages cpu (Write c t i v) = ⊥
IsOfMessages cpu (ReadBlob c t blob) = ⊥
IsOfMessages cpu (WriteBlob c t blob) = ⊥
IsOfMessages cpu (Send c m to r) = c ≡ cpu
IsOfMessages cpu (TakeMsg c m r) = c ≡ cpu
IsOfMessages cpu (DropMsg c m) = c ≡ cpu
IsOfMessages cpu (Reply c m) = c ≡ cpu
IsOfMessages cpu (Reap c m) = c ≡ cpu
IsOfMessages cpu (Abort c m) = c ≡ cpu

-- a trace grew by at most so many events, each one of this processor on a message, and lost no room
pub record Grew (cpu : CpuId) (most : ℕ) (before now : Vec Event Global) : Type 0 where
  pub made : List Event
  pub trace_is : now.items ≡ before.items ++ made
  pub own : All (IsOfMessages cpu) made
  pub few : length made ≤ most
  pub grown : vec_len now ≡ vec_len before + length made
  pub room : vec_capacity before ≤ vec_capacity now

-- an event was put at the end of a trace that had room
pub record HasTraced (event : Event) (before now : Vec Event Global) : Type 0 where
  pub items : now.items ≡ before.items ++ event ∷ []
  pub longer : vec_len now ≡ vec_len before + 1
  pub room : vec_capacity before ≤ vec_capacity now

-- these events, at most one, were put at the end of a trace that had room
pub record HasTracedThese (cpu : CpuId) (events : List Event) (before now : Vec Event Global) : Type 0 where
  pub items : now.items ≡ before.items ++ events
  pub longer : vec_len now ≡ vec_len before + length events
  pub grew : Grew cpu 1 before now

abbrev pub Grown : CpuId → Vec Event Global → Vec Event Global → Type 0
Grown cpu before now = (most : ℕ) × Grew cpu most before now

-- how many messages are not at home
abbrev pub away_count : List Mail → ℕ
away_count mails = count_by (λ (mail : Mail). not mail.home) mails

-- a step on messages can be made: the seat is one at this book, and the trace has room for so many events
pub record CanStep (most : ℕ) (r : Mailroom) (book : Shelf) (trace : Vec Event Global) : Type 0 where
  pub table : r.seat.table ≡ book.table
  pub room : vec_len trace + most ≤ vec_capacity trace

-- the message is there, and the seat has taken it
pub record IsTaken (msg : MsgId) (r : Mailroom) : Type 0 where
  pub there : msg.0 < vec_len r.mails
  pub taken : (entry r.seat msg.0).taken ≡ true

-- the message is there, and belongs to the seat's processor
pub record HasOwn (msg : MsgId) (r : Mailroom) : Type 0 where
  pub there : msg.0 < vec_len r.mails
  pub own : IsOwn r.seat.view (desk_cpu r.seat).0 msg.0

-- the seat is the same one, of as many messages something is kept, and the trace grew by at most so many events of its processor
pub record GrewSo (most : ℕ) (seat : Desk) (mails : Vec Mail Global) (trace : Vec Event Global) (seat' : Desk) (mails' : Vec Mail Global) (trace' : Vec Event Global) : Type 0 where
  pub same : IsSameDesk seat seat'
  pub len : vec_len mails' ≡ vec_len mails
  pub grew : Grew (desk_cpu seat) most trace trace'

-- the same of a mailroom
abbrev pub MailroomGrew : ℕ → Mailroom → Vec Event Global → Mailroom → Vec Event Global → Type 0
MailroomGrew most r trace r' trace' = GrewSo most r.seat r.mails trace r'.seat r'.mails trace'

-- beside ports that are the same a mailroom stands
pub record GrewBeside (most : ℕ) (ports : Vec Port Global) (seat : Desk) (mails : Vec Mail Global) (trace : Vec Event Global) (ports' : Vec Port Global) (seat' : Desk) (mails' : Vec Mail Global) (trace' : Vec Event Global) : Type 0 where
  pub ports_same : ports' ≡ ports
  pub grew_so : GrewSo most seat mails trace seat' mails' trace'

-- the same of counters
abbrev pub KeepsPorts : ℕ → Counters → Vec Event Global → Counters → Vec Event Global → Type 0
KeepsPorts most c trace c' trace' = GrewBeside most c.ports c.room.seat c.room.mails trace c'.ports c'.room.seat c'.room.mails trace'

-- where the work on notes stands
pub record WorkState : Type 0 where
  pub counters : Counters
  pub trace : Vec Event Global

abbrev pub work_state : Counters → Vec Event Global → WorkState
work_state counters trace = record { counters = counters; trace = trace }

-- handling notes keeps things in order: each message that is reaped has its event in the trace, and there are no other events
pub record KeepsSo (seat : Desk) (mails : Vec Mail Global) (trace : Vec Event Global) (seat' : Desk) (mails' : Vec Mail Global) (trace' : Vec Event Global) : Type 0 where
  pub same : IsSameDesk seat seat'
  pub len : vec_len mails' ≡ vec_len mails
  pub grown : Grown (desk_cpu seat) trace trace'
  pub room : vec_capacity trace ≤ vec_capacity trace'
  pub away : away_count mails'.items + vec_len trace' ≡ away_count mails.items + vec_len trace

abbrev pub KeepsWorkState : WorkState → WorkState → Type 0
KeepsWorkState s s' = KeepsSo s.counters.room.seat s.counters.room.mails s.trace s'.counters.room.seat s'.counters.room.mails s'.trace
