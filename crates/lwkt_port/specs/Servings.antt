-- How a thread is served from its port (lwkt_getport and lwkt_waitport of msgport(9)).
use Rattle.std.specs.Prelude.{◌≡◌, ℕ, true, false, List, [], ◌∷◌, ◌++◌, Option, Some, None, Result, Ok, Err, Vec}
use Rattle.std.specs.declared.alloc.Global.{Global}
use Rattle.lwkt_base.specs.declared.asks.Item.{Item}
use Rattle.lwkt_base.specs.declared.asks.Item.TheVariants as item
use Rattle.lwkt_base.specs.declared.faults.Fault.{Fault}
use Rattle.lwkt_base.specs.declared.faults.Fault.TheVariants.{Again}
use Rattle.lwkt_base.specs.declared.names.MsgId.{MsgId}
use Rattle.lwkt_core.specs.declared.events.Event.{Event}
use Rattle.lwkt_lane.specs.declared.notes.Note.{Note}
use Rattle.lwkt_lane.specs.declared.notes.NoteKind.{NoteKind}
use Rattle.lwkt_lane.specs.declared.notes.NoteKind.TheVariants.{Request, Answer}
use Rattle.lwkt_msg.specs.declared.answers.Taken.{Taken}
use Rattle.lwkt_msg.specs.declared.answers.Taken.TheVariants as taken
use Rattle.lwkt_msg.specs.declared.answers.Reaped.{Reaped}
use Rattle.lwkt_msg.specs.declared.answers.Reaped.TheVariants as reaped_
use Rattle.lwkt_msg.specs.Views.{call_of}
use Rattle.lwkt_port.specs.declared.deeds.Claim.TheVariants as claim
use Rattle.lwkt_port.specs.declared.gets.Served.{Served}
use Rattle.lwkt_port.specs.declared.gets.Served.TheVariants as served
use Rattle.lwkt_port.specs.declared.queues.Port.{Port}
use Rattle.lwkt_port.specs.Deeds.{Takes, Reaps}
use Rattle.lwkt_port.specs.Posts.{Post, ChangesOne, work_of}
use Rattle.lwkt_port.specs.Queues.{queue_of, LeavesInOrder}
use Rattle.lwkt_port.specs.Works.{Work}

-- what becomes of a request: one that is stale, or that was aborted before it was seen, is passed over; one whose take lost stays;
-- else it is shown, with its call
abbrev pub served_request : MsgId → Taken → Served
served_request msg (taken.Took rec true priority) = served.Passed
served_request msg (taken.Took rec false priority) = served.Shown (item.Request msg (call_of rec))
served_request msg taken.Stale = served.Passed
served_request msg taken.Again = served.Lost

-- what becomes of an answer: it is shown with its error and result, or passed over if it is stale
abbrev pub served_answer : MsgId → Reaped → Served
served_answer msg (reaped_.Done rec) = served.Shown (item.Answered msg rec.error rec.result)
served_answer msg reaped_.Stale = served.Passed

-- a thread was served with a note of its port: a request is taken in the note's round, an answer is reaped
abbrev pub ServesAs : NoteKind → ℕ → Note → Work → Work → Served → Type 0
ServesAs Request thread note w w' outcome = (answer : Taken) × Takes (claim.Thread thread) note w w' answer × (outcome ≡ served_request note.msg answer)
ServesAs Answer thread note w w' outcome = (answer : Reaped) × Reaps false note w w' answer × (outcome ≡ served_answer note.msg answer)

abbrev pub Serves : ℕ → Note → Work → Work → Served → Type 0
Serves thread note w w' outcome = ServesAs note.kind thread note w w' outcome

-- all these notes were passed over, in order
abbrev pub PassesAll : ℕ → List Note → Work → Work → Type 0
PassesAll thread [] w w' = w' ≡ w
PassesAll thread (note ∷ notes) w w' = (v : Work) × Serves thread note w v served.Passed × PassesAll thread notes v w'

-- a thread was served from its queue: the notes before the served one were passed over, and it left the queue with them
pub record ShowsOne (thread : ℕ) (queue queue' : List Note) (w w' : Work) (it : Item) : Type 0 where
  pub passed : List Note
  pub note : Note
  pub between : Work
  pub queue_is : queue ≡ passed ++ note ∷ queue'
  pub passes : PassesAll thread passed w between
  pub shows : Serves thread note between w' (served.Shown it)

-- a take was lost to another processor's step: its note is the first one now
pub record LosesOne (thread : ℕ) (queue queue' : List Note) (w w' : Work) : Type 0 where
  pub passed : List Note
  pub note : Note
  pub others : List Note
  pub between : Work
  pub queue_is : queue ≡ passed ++ note ∷ others
  pub left : queue' ≡ note ∷ others
  pub passes : PassesAll thread passed w between
  pub loses : Serves thread note between w' served.Lost

-- what each answer to a thread that looks at its queue means; without an item the queue is empty
abbrev pub GetMeans : ℕ → List Note → List Note → Work → Work → Result (Option Item) Fault → Type 0
GetMeans thread queue queue' w w' (Ok (Some it)) = ShowsOne thread queue queue' w w' it
GetMeans thread queue queue' w w' (Ok None) = (queue' ≡ []) × PassesAll thread queue w w'
GetMeans thread queue queue' w w' (Err Again) = LosesOne thread queue queue' w w'
GetMeans thread queue queue' w w' (Err _) = ⊥

-- a thread was served from its port, which is no more and no less closed than before: urgent notes first, and of each class the oldest
abbrev pub ServesPort : ℕ → Port → Port → Work → Work → Result (Option Item) Fault → Type 0
ServesPort thread port port' w w' answer = GetMeans thread (queue_of port) (queue_of port') w w' answer × (port'.closed ≡ port.closed) × LeavesInOrder port port'

-- a thread's call to get did so: its own port changed, and no other
pub record PostGets (thread : ℕ) (p p' : Post) (trace trace' : Vec Event Global) (answer : Result (Option Item) Fault) : Type 0 where
  pub gets : ChangesOne (λ a b. ServesPort thread a b (work_of p trace) (work_of p' trace') answer) thread p.ports p'.ports
  pub lanes_same : p'.lanes ≡ p.lanes
  pub threads_same : p'.threads ≡ p.threads
