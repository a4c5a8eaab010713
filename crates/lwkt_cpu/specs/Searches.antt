-- What a search for a thread to run is: one thread looked at after another, from the cursor on and round once, each with what the
-- seat does in it and the events that the trace grows by.
use Rattle.std.specs.Prelude.{◌≡◌, ◌≢◌, ◌⊎◌, ℕ, ◌+◌, ◌-◌, ◌<◌, ◌≤◌, true, false, List, [], ◌++◌, length, take, IsSomeAnd, Option, Some, None, Vec, slice_get, slice_set}
use Rattle.std.specs.declared.alloc.Global.{Global}
use Rattle.lwkt_base.specs.declared.names.CpuId.{CpuId}
use Rattle.lwkt_base.specs.declared.names.Ref.{Ref}
use Rattle.lwkt_base.specs.declared.faults.Fault.TheVariants.{Worn as WornOut}
use Rattle.lwkt_base.specs.Holding.{Holding, holds_nothing}
use Rattle.lwkt_core.specs.declared.events.Event.{Event}
use Rattle.lwkt_bank.specs.declared.seats.CpuSeat.{CpuSeat}
use Rattle.lwkt_bank.specs.Seats.{holding}
use Rattle.lwkt_hold.specs.declared.answers.Missed.{Missed}
use Rattle.lwkt_hold.specs.declared.answers.Missed.TheVariants.{Busy, Again, Worn}
use Rattle.lwkt_hold.specs.declared.answers.Resumed.{Resumed}
use Rattle.lwkt_hold.specs.declared.answers.Resumed.TheVariants.{All, Passed}
use Rattle.lwkt_hold.specs.Fronts.{IsFront}
use Rattle.lwkt_hold.specs.Runs.{Ran}
use Rattle.lwkt_hold.specs.Rows.{IsAllClean}
use Rattle.lwkt_hold.specs.Misses.{Misses}
use Rattle.lwkt_hold.specs.Stays.{Stays}
use Rattle.lwkt_hold.specs.Holds.{Resumes}
use Rattle.lwkt_core.specs.Takings.{takes_all}
use Rattle.lwkt_hold.specs.Givings.{gives_all}
use Rattle.lwkt_port.specs.Chains.{Chain}
use Rattle.lwkt_cpu.specs.declared.phases.Phase.{Phase}
use Rattle.lwkt_cpu.specs.declared.phases.Phase.TheVariants.{Live, Faulted}
use Rattle.lwkt_cpu.specs.declared.threads.BusyAt.{BusyAt}
use Rattle.lwkt_cpu.specs.declared.threads.Thread.{Thread}

-- a thread after it has ended so
abbrev pub ended_by : Phase → Thread → Thread
ended_by phase t = record t { list = []; phase = phase; busy = None }

-- a thread after a try of its list was missed at this place: a word that refused it is kept, of a lost exchange nothing is, and
-- at a last generation the thread ends (own)
abbrev pub missed_by : ℕ → Missed → Thread → Thread
missed_by place (Busy word) t = record t { busy = Some (record { word = word; at = place }) }
missed_by place Again t = record t { busy = None }
missed_by place Worn t = ended_by (Faulted WornOut) t

-- a try of a thread's list is passed over: the word that refused it is kept, and all that the seat does is one load that finds it
-- again, so that a try would have been refused: that load is the step of a try that is refused by it (own)
abbrev pub IsPassedOver : CpuSeat → CpuSeat → Thread → Type 0
IsPassedOver a b t = (r : BusyAt) × ((t.busy ≡ Some r) × Stays a b t.list r.at r.word true × Misses a b t.list r.at (Busy r.word))

-- a thread's list is tried only if no refusal of it is kept, or one load has shown that the word that is kept isn't the token's any
-- more (own)
abbrev pub MayBeTried : CpuSeat → CpuSeat → Thread → Type 0
MayBeTried a b t = ((t.busy ≡ None) × (b ≡ a)) ⊎ ((r : BusyAt) × ((t.busy ≡ Some r) × Stays a b t.list r.at r.word false))

-- the events of a try of a list: its references are taken in order, and those in front of one that is missed are given back in
-- reverse order (token(9))
abbrev pub tries : CpuId → List Ref → Resumed → List Event
tries cpu refs All = takes_all cpu [] refs
tries cpu refs (Passed place why) = takes_all cpu [] (take place refs) ++ gives_all cpu [] (take place refs)

-- a list is tried: it is held whole, or nothing is and a reference was missed; the events are those of the try, each one of the
-- seat's steps, and of no token that is held a row was changed
pub record TriesToHold (a b : CpuSeat) (t u : Vec Event Global) (refs : List Ref) (answer : Resumed) : Type 0 where
  pub ran : Ran (IsFront refs) 64 a b t u
  pub resumes : Resumes a b refs answer
  pub traced : u.items ≡ t.items ++ tries a.cpu refs answer
  pub clean : IsAllClean b

-- the list of a thread is tried, which it may be
abbrev pub TriesList : CpuSeat → CpuSeat → Vec Event Global → Vec Event Global → Thread → Resumed → Type 0
TriesList a b t u thread answer = (mid : CpuSeat) × (MayBeTried a mid thread × TriesToHold mid b t u thread.list answer)

-- a thread's list is missed: by a word that refused it, by a lost exchange, or at a last generation
abbrev pub IsMissed : CpuSeat → CpuSeat → Vec Event Global → Vec Event Global → Thread → Thread → Type 0
IsMissed a b t u old new = (place : ℕ) × ((why : Missed) × (TriesList a b t u old (Passed place why) × (new ≡ missed_by place why old)))

-- a thread is skipped: it can't run, and nothing is done; or a try of its list is passed over, without an event; or its list is
-- tried and missed (token(9); own)
abbrev pub Skips : CpuSeat → CpuSeat → Vec Event Global → Vec Event Global → Thread → Thread → Type 0
Skips a b t u old new =
    ((old.phase ≢ Live) × (new ≡ old) × (b ≡ a) × (u ≡ t))
    ⊎ ((old.phase ≡ Live) × (new ≡ old) × IsPassedOver a b old × (u ≡ t))
    ⊎ ((old.phase ≡ Live) × IsMissed a b t u old new)

-- seat, threads and trace as a search goes on
pub record Point : Type 0 where
  pub seat : CpuSeat
  pub threads : List Thread
  pub trace : Vec Event Global

abbrev pub point : CpuSeat → List Thread → Vec Event Global → Point
point seat threads trace = record { seat = seat; threads = threads; trace = trace }

-- the thread of a number is skipped, and nothing is held after it; no other thread changes
pub record SkipsAt (number : ℕ) (x y : Point) : Type 0 where
  pub old : Thread
  pub new : Thread
  pub at : slice_get x.threads number ≡ Some old
  pub skips : Skips x.seat y.seat x.trace y.trace old new
  pub changed : y.threads ≡ slice_set x.threads number new
  pub empty : holding y.seat ≡ holds_nothing

-- the thread of a number can run, its list is tried and is held whole from now on; no thread changes
pub record IsUpAt (number : ℕ) (x y : Point) : Type 0 where
  pub found : Thread
  pub at : slice_get x.threads number ≡ Some found
  pub live : found.phase ≡ Live
  pub held : TriesList x.seat y.seat x.trace y.trace found All
  pub same : y.threads ≡ x.threads

-- numbers from one on and below another
abbrev pub IsIn : ℕ → ℕ → ℕ → Type 0
IsIn low high k = (low ≤ k) × (k < high)

-- the threads from one number on and below another are skipped, by rising number; and then one is up
abbrev pub SkipsFrom : ℕ → ℕ → Point → Point → Type 0
SkipsFrom from nth = SkipsAt (from + nth)

abbrev pub SkipsTo : ℕ → ℕ → Point → Point → Type 0
SkipsTo from to x y = Chain Point (SkipsFrom from) (to - from) x y

abbrev pub FindsIn : ℕ → ℕ → Point → Point → Type 0
FindsIn from place x y = (mid : Point) × (SkipsTo from place x mid × IsUpAt place mid y)

-- of so many threads, from the cursor on and round once, the one that comes so many after the first has this number
abbrev pub IsNth : ℕ → ℕ → ℕ → ℕ → Type 0
IsNth cursor count nth number = (number < count) × ((number ≡ cursor + nth) ⊎ (number + count ≡ cursor + nth))

abbrev pub SkipsNth : ℕ → ℕ → ℕ → Point → Point → Type 0
SkipsNth cursor count nth x y = (number : ℕ) × (IsNth cursor count nth number × SkipsAt number x y)

-- so many threads are skipped one after another, from the cursor on and round once
abbrev pub Searches : ℕ → ℕ → Point → Point → Type 0
Searches cursor skipped x y = Chain Point (SkipsNth cursor (length x.threads)) skipped x y

-- a search finds the first thread from the cursor on, round once, that isn't skipped; or all are skipped, and nothing is held
abbrev pub FindsThread : ℕ → Point → Point → Option ℕ → Type 0
FindsThread cursor x y (Some place) = (nth : ℕ) × ((mid : Point) × ((nth < length x.threads) × IsNth cursor (length x.threads) nth place × Searches cursor nth x mid × IsUpAt place mid y))
FindsThread cursor x y None = Searches cursor (length x.threads) x y × (holding y.seat ≡ holds_nothing)

-- a holding is that of a front of some thread's list
abbrev pub IsOfOne : List Thread → Holding → Type 0
IsOfOne threads h = (k : ℕ) × IsSomeAnd (slice_get threads k) (λ t. IsFront t.list h)
