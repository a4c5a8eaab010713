-- What the ports are for, as theorems above the relations of the calls.
use Rattle.std.specs.Prelude.{◌≡◌, ◌≢◌, ◌⊎◌, ℕ, ◌<◌, ◌≤◌, Bool, true, false, if◌then◌else◌, List, [], ◌∷◌, ◌++◌, length, All, Option, Some, None, Result, IsSome, MatchOption, option_to_list, slice_index_or, Vec}
use Rattle.std.specs.declared.alloc.Global.{Global}
use mathlib.Core.List.{IsPrefix}
use Rattle.lwkt_base.specs.declared.asks.Item.{Item}
use Rattle.lwkt_base.specs.declared.asks.Item.TheVariants as item
use Rattle.lwkt_base.specs.declared.faults.Fault.{Fault}
use Rattle.lwkt_base.specs.declared.names.CpuId.{CpuId}
use Rattle.lwkt_base.specs.declared.names.MsgId.{MsgId}
use Rattle.lwkt_base.specs.declared.records.Call.{Call}
use Rattle.lwkt_base.specs.declared.records.Rec.{Rec}
use Rattle.lwkt_core.specs.declared.events.Event.{Event}
use Rattle.lwkt_core.specs.declared.events.Event.TheVariants.{Reply}
use Rattle.lwkt_table.specs.declared.seats.SeatKind.TheVariants.{Of}
use Rattle.lwkt_lane.specs.declared.ins.LaneIn.{LaneIn}
use Rattle.lwkt_lane.specs.declared.notes.Note.{Note}
use Rattle.lwkt_lane.specs.declared.notes.NoteKind.TheVariants.{Request}
use Rattle.lwkt_lane.specs.Lane.{received, seen_notes}
use Rattle.lwkt_msg.specs.declared.answers.Taken.TheVariants as taken
use Rattle.lwkt_msg.specs.Desks.{Desk, desk_cpu, entry}
use Rattle.lwkt_msg.specs.Views.{call_of}
use Rattle.lwkt_port.specs.declared.deeds.Claim.TheVariants as claim
use Rattle.lwkt_port.specs.declared.mails.Mail.{Mail}
use Rattle.lwkt_port.specs.Deeds.{eintr, Takes}
use Rattle.lwkt_port.specs.declared.gets.Served.{Served}
use Rattle.lwkt_port.specs.declared.gets.Served.TheVariants as served
use Rattle.lwkt_port.specs.declared.lines.Lane.{Lane}
use Rattle.lwkt_port.specs.declared.queues.Port.{Port}
use Rattle.lwkt_port.specs.Closings.{PostPays}
use Rattle.lwkt_port.specs.Intakes.{Desks, Handles, HandlesAll, Empties, Payer, Pays, Hall, TakesIn}
use Rattle.lwkt_port.specs.Lines.{WaitsForRoom}
use Rattle.lwkt_port.specs.Mails.{kept_mail_at, AreMails}
use Rattle.lwkt_port.specs.Posts.{Post}
use Rattle.lwkt_port.specs.Queues.{urgent_of, ordinary_of, queue_of, IsQueued, LeavesInOrder}
use Rattle.lwkt_port.specs.Servings.{served_request, Serves, GetMeans, ServesPort}
use Rattle.lwkt_port.specs.Traced.{TracesDeeds}
use Rattle.lwkt_port.specs.Works.{Work}

-- what a lane kept and what was popped from it, in this order, is what was reaped, queued, found stale or foreign, in order, and then
-- what it keeps now
pub record LosesNone (count : ℕ) (line line' : Lane) (x y : Desks) : Type 0 where
  pub popped : List Note
  pub done : List Note
  pub between : Desks
  pub received_is : received line'.into ≡ received line.into ++ popped
  pub as_many : length popped ≡ count
  pub flow : option_to_list line.kept ++ popped ≡ done ++ option_to_list line'.kept
  pub handled : HandlesAll done x between
  pub last : MatchOption line'.kept (y ≡ between) (λ note. Handles note between y None)

abbrev pub LanesLoseNone : Type 0
LanesLoseNone = (most count : ℕ) (line line' : Lane) (x y : Desks) → Empties most count line line' x y → LosesNone count line line' x y

-- each of these notes left a queue: its request was stale or taken, its answer was stale or reaped
abbrev pub AllLeave : ℕ → List Note → Work → Work → Type 0
AllLeave thread [] w w' = w' ≡ w
AllLeave thread (note ∷ notes) w w' = (v : Work) × (outcome : Served) × (outcome ≢ served.Lost) × Serves thread note w v outcome × AllLeave thread notes v w'

-- a thread that looks at its queue takes notes off its front: each as stale, taken or reaped; one whose take was lost stays
pub record LeavesFront (thread : ℕ) (queue queue' : List Note) (w w' : Work) : Type 0 where
  pub gone : List Note
  pub between : Work
  pub queue_is : queue ≡ gone ++ queue'
  pub leave : AllLeave thread gone w between
  pub rest : (w' ≡ between) ⊎ ((note : Note) × (others : List Note) × (queue' ≡ note ∷ others) × Serves thread note between w' served.Lost)

abbrev pub NotesLeaveServed : Type 0
NotesLeaveServed = (thread : ℕ) (queue queue' : List Note) (w w' : Work) (answer : Result (Option Item) Fault) → GetMeans thread queue queue' w w' answer → LeavesFront thread queue queue' w w'

-- the same of a port: of each class notes leave from the front, and an urgent one that is in the port is served before any other
pub record LeavesPort (thread : ℕ) (port port' : Port) (w w' : Work) : Type 0 where
  pub urgent : List Note
  pub ordinary : List Note
  pub between : Work
  pub urgent_is : urgent_of port ≡ urgent ++ urgent_of port'
  pub ordinary_is : ordinary_of port ≡ ordinary ++ ordinary_of port'
  pub urgent_first : (ordinary ≡ []) ⊎ (urgent_of port' ≡ [])
  pub leave : AllLeave thread (urgent ++ ordinary) w between
  pub rest : (w' ≡ between) ⊎ ((note : Note) × (others : List Note) × (queue_of port' ≡ note ∷ others) × Serves thread note between w' served.Lost)

abbrev pub UrgentLeaveFirst : Type 0
UrgentLeaveFirst = (thread : ℕ) (port port' : Port) (w w' : Work) (answer : Result (Option Item) Fault) → ServesPort thread port port' w w' answer → LeavesPort thread port port' w w'

-- what one call takes off a port and then another is what both take off, in order
abbrev pub LeavingChains : Type 0
LeavingChains = (a b c : Port) → LeavesInOrder a b → LeavesInOrder b c → LeavesInOrder a c

-- a note that finds room comes last of its class, and leaves the other class as it is: an urgent one comes before all that aren't
abbrev pub comes : Note → Port → List Note
comes note port = if note.urgent then urgent_of port ++ note ∷ ordinary_of port else queue_of port ++ note ∷ []

abbrev pub NotesComeLast : Type 0
NotesComeLast = (note : Note) (port port' : Port) → IsQueued note port port' true → queue_of port' ≡ comes note port

-- a request that a thread is shown was taken by it just now: before that it was shown to nobody, and then it is shown to this thread
pub record IsShownOnce (thread : ℕ) (note : Note) (w w' : Work) (msg : MsgId) : Type 0 where
  pub is_request : note.kind ≡ Request
  pub message_is : msg ≡ note.msg
  pub to_nobody : (kept_mail_at w.mails msg.0).shown ≡ None
  pub to_thread : (kept_mail_at w'.mails msg.0).shown ≡ Some thread

abbrev pub RequestsAreShownOnce : Type 0
RequestsAreShownOnce = (cpu : CpuId) (thread : ℕ) (note : Note) (w w' : Work) (msg : MsgId) (call : Call) → w.seat.view.kind ≡ Of cpu → AreMails w.seat w.mails → note.msg.0 < length w.mails → Serves thread note w w' (served.Shown (item.Request msg call)) → IsShownOnce thread note w w' msg

-- where nothing is done nothing is traced, and what one call traces and then another is what both trace
abbrev pub NothingIsTraced : Type 0
NothingIsTraced = (d : Desk) (t : List Event) → TracesDeeds d d t t

abbrev pub TracesChain : Type 0
TracesChain = (a b c : Desk) (t u v : List Event) → TracesDeeds a b t u → TracesDeeds b c u v → TracesDeeds a c t v

-- a reply that was owed is made: the trace has it, nothing is owed then, and the seat has the message no more
pub record IsPaid (m : ℕ) (x y : Payer) : Type 0 where
  pub replied : y.work.trace ≡ x.work.trace ++ Reply (desk_cpu x.work.seat) (record { 0 = m }) ∷ []
  pub owes_none : (kept_mail_at y.work.mails m).owed ≡ None
  pub not_taken : (entry y.work.seat m).taken ≡ false

-- an owed reply is made once, or its lane was full and it is owed as before; and where none is owed none is made
abbrev pub OwedIsMadeOnce : Type 0
OwedIsMadeOnce = (m error : ℕ) (x y : Payer) → m < length x.work.mails → (kept_mail_at x.work.mails m).owed ≡ Some error → Pays m x y → IsPaid m x y ⊎ (y.work ≡ x.work)

abbrev pub UnowedIsNotMade : Type 0
UnowedIsNotMade = (m : ℕ) (x y : Payer) → (kept_mail_at x.work.mails m).owed ≡ None → Pays m x y → y ≡ x

-- a request that a thread's port takes is owed EINTR exactly if it was asked to be aborted, and is shown to nobody then; else it is
-- shown to the thread, and nothing is owed that wasn't
pub record IsClaimed (thread : ℕ) (aborted : Bool) (old new : Mail) : Type 0 where
  pub owed : aborted ≡ true → (new.owed ≡ Some eintr) × (new.shown ≡ old.shown)
  pub shown : aborted ≡ false → (new.owed ≡ old.owed) × (new.shown ≡ Some thread)

abbrev pub EintrIfAborted : Type 0
EintrIfAborted = (thread : ℕ) (note : Note) (w w' : Work) (rec : Rec) (aborted priority : Bool) → note.msg.0 < length w.mails → Takes (claim.Thread thread) note w w' (taken.Took rec aborted priority)
    → IsClaimed thread aborted (kept_mail_at w.mails note.msg.0) (kept_mail_at w'.mails note.msg.0) × (served_request note.msg (taken.Took rec aborted priority) ≡ (if aborted then served.Passed else served.Shown (item.Request note.msg (call_of rec))))

-- where notes were taken in, and where the replies that are owed went out alone, a note is in hand at a sending end only if no place
-- of its queue is known to be free
abbrev pub HandsWaitForRoom : Type 0
HandsWaitForRoom = (limit count : ℕ) (x y : Hall) → TakesIn limit x y count → All WaitsForRoom y.lanes

abbrev pub PaidHandsWaitForRoom : Type 0
PaidHandsWaitForRoom = (p p' : Post) (trace trace' : Vec Event Global) → PostPays p p' trace trace' → All WaitsForRoom p'.lanes

-- what a lane's receiving end had seen is received, in order, unless its line keeps a note that found its port's queue full, or as
-- many notes were taken in as are allowed
pub record TakesSeen (limit count : ℕ) (into : LaneIn) (line : Lane) : Type 0 where
  pub popped : List Note
  pub received_is : received line.into ≡ received into ++ popped
  pub rest : IsPrefix (seen_notes into) popped ⊎ (IsSome line.kept ⊎ (limit ≤ count))

-- where notes are taken in this is so of each lane
abbrev pub SeenAreTakenIn : Type 0
SeenAreTakenIn = (limit count : ℕ) (x y : Hall) → TakesIn limit x y count → (k : ℕ) (d : Lane) → k < length x.lanes → TakesSeen limit count (slice_index_or x.lanes k d).into (slice_index_or y.lanes k d)
