-- What a processor does with the notes that came over its lanes. The lanes stand for the inter-processor messages by which
-- msgport(9) reaches another processor's port; owed replies, closed ports and the limits are own.
use Rattle.std.specs.Prelude.{◌≡◌, ◌⊎◌, ℕ, ◌+◌, ◌-◌, ◌<◌, ◌≤◌, Bool, true, false, List, [], ◌∷◌, ◌++◌, length, Option, Some, None, MatchOption, Vec, option_to_list}
use Rattle.std.specs.declared.alloc.Global.{Global}
use mathlib.Core.List.{IsPrefix}
use Rattle.lwkt_core.specs.declared.events.Event.{Event}
use Rattle.lwkt_lane.specs.declared.notes.Note.{Note}
use Rattle.lwkt_lane.specs.declared.notes.NoteKind.{NoteKind}
use Rattle.lwkt_lane.specs.declared.notes.NoteKind.TheVariants.{Request, Answer}
use Rattle.lwkt_lane.specs.Lane.{received, seen_notes, in_lane}
use Rattle.lwkt_msg.specs.declared.answers.Taken.{Taken}
use Rattle.lwkt_msg.specs.declared.answers.Taken.TheVariants as taken
use Rattle.lwkt_msg.specs.declared.answers.Reaped.{Reaped}
use Rattle.lwkt_msg.specs.declared.answers.Reaped.TheVariants as reaped_
use Rattle.lwkt_base.specs.declared.records.Rec.{Rec}
use Rattle.lwkt_port.specs.declared.deeds.Claim.TheVariants as claim
use Rattle.lwkt_port.specs.declared.handlings.Fate.{Fate}
use Rattle.lwkt_port.specs.declared.handlings.Fate.TheVariants as fate
use Rattle.lwkt_port.specs.declared.counters.Counters.{Counters}
use Rattle.lwkt_port.specs.declared.lines.Lane.{Lane}
use Rattle.lwkt_port.specs.declared.mails.Mail.{Mail}
use Rattle.lwkt_port.specs.declared.offices.Office.{Office}
use Rattle.lwkt_port.specs.declared.queues.Port.{Port}
use Rattle.lwkt_port.specs.Chains.{Chain}
use Rattle.lwkt_port.specs.Deeds.{Takes, Reaps}
use Rattle.lwkt_port.specs.Lines.{IsRoomed, HasFoundNote}
use Rattle.lwkt_port.specs.Mails.{kept_mail_at}
use Rattle.lwkt_port.specs.Posts.{Post, ChangesOne, work_of}
use Rattle.lwkt_port.specs.Queues.{NamesBoth, queue_of, IsQueued, LeavesInOrder}
use Rattle.lwkt_port.specs.Sendings.{Answers}
use Rattle.lwkt_port.specs.Works.{Work, work, MailroomGrew}

-- what paying an owed reply changes
pub record Payer : Type 0 where
  pub work : Work
  pub lanes : List Lane

abbrev pub payer : Office → Vec Event Global → Payer
payer o trace = record { work = work o.counters.room trace; lanes = o.lanes.items }

-- the reply that is owed to a message, if one is: it is made, or its lane is full
abbrev pub PaysOwed : Option ℕ → ℕ → Payer → Payer → Type 0
PaysOwed None m x y = y ≡ x
PaysOwed (Some error) m x y = (made : Bool) × Answers (record { 0 = m }) error 0 x.lanes y.lanes x.work y.work made

abbrev pub Pays : ℕ → Payer → Payer → Type 0
Pays m x y = PaysOwed (kept_mail_at x.work.mails m).owed m x y

-- so many messages were gone over, by number, and the replies that are owed to them made as lanes have room, by at most so many
-- events; no port changed
pub record PaysFirst (count most : ℕ) (o : Office) (trace : Vec Event Global) (o' : Office) (trace' : Vec Event Global) : Type 0 where
  pub pays : Chain Payer Pays count (payer o trace) (payer o' trace')
  pub grew_so : MailroomGrew most o.counters.room trace o'.counters.room trace'
  pub ports_same : o'.counters.ports ≡ o.counters.ports

-- what handling a note changes
pub record Desks : Type 0 where
  pub work : Work
  pub ports : List Port

abbrev pub desks : Counters → Vec Event Global → Desks
desks c trace = record { work = work c.room trace; ports = c.ports.items }

-- a note is the answer to this processor's last send of its message, which was synchronous
abbrev pub IsSyncAnswer : Note → List Mail → Type 0
IsSyncAnswer note mails = (note.kind ≡ Answer) × ((kept_mail_at mails note.msg.0).sync ≡ true)

-- what became of a note that came over a lane: it names no message or port, and nothing is done; a synchronous answer is reaped, or
-- is stale; any other is put into its port's queue, or finds that full
abbrev pub Handles : Note → Desks → Desks → Option Fate → Type 0
Handles note x y (Some fate.Foreign) = (NamesBoth (length x.work.mails) note → ⊥) × (y ≡ x)
Handles note x y (Some fate.Reaped) = NamesBoth (length x.work.mails) note × IsSyncAnswer note x.work.mails × ((rec : Rec) × Reaps true note x.work y.work (reaped_.Done rec)) × (y.ports ≡ x.ports)
Handles note x y (Some fate.Stale) = NamesBoth (length x.work.mails) note × IsSyncAnswer note x.work.mails × Reaps true note x.work y.work reaped_.Stale × (y.ports ≡ x.ports)
Handles note x y (Some fate.Queued) = NamesBoth (length x.work.mails) note × (IsSyncAnswer note x.work.mails → ⊥) × (y.work ≡ x.work) × ChangesOne (λ a b. IsQueued note a b true) note.port x.ports y.ports
Handles note x y None = NamesBoth (length x.work.mails) note × (IsSyncAnswer note x.work.mails → ⊥) × (y.work ≡ x.work) × ChangesOne (λ a b. IsQueued note a b false) note.port x.ports y.ports

-- all these notes were handled, in order, and none of them found a queue full
abbrev pub HandlesAll : List Note → Desks → Desks → Type 0
HandlesAll [] x y = y ≡ x
HandlesAll (note ∷ notes) x y = (z : Desks) × (how : Fate) × Handles note x z (Some how) × HandlesAll notes z y

-- so many notes, and at most so many, were popped from a lane with no kept note and handled in order; only the last one may have
-- found its port's queue full, and is kept then. The notes that were seen at the lane's end before come first. With fewer notes than
-- allowed the last was kept, or the lane had no more
pub record Pops (most count : ℕ) (line line' : Lane) (x y : Desks) : Type 0 where
  pub popped : List Note
  pub done : List Note
  pub between : Desks
  pub received_is : received line'.into ≡ received line.into ++ popped
  pub first : IsPrefix (seen_notes line.into) (popped ++ seen_notes line'.into)
  pub as_many : length popped ≡ count
  pub within : count ≤ most
  pub flow : popped ≡ done ++ option_to_list line'.kept
  pub handles : HandlesAll done x between
  pub last : MatchOption line'.kept (y ≡ between) (λ note. Handles note between y None)
  pub emptied : count < most → line'.kept ≡ None → seen_notes line'.into ≡ []
  pub out_same : line'.out ≡ line.out
  pub lane_same : in_lane line'.into ≡ in_lane line.into

-- a lane's kept note comes first: while it finds its port's queue full, the lane isn't popped
abbrev pub EmptiesKept : Option Note → ℕ → ℕ → Lane → Lane → Desks → Desks → Type 0
EmptiesKept None most count line line' x y = Pops most count line line' x y
EmptiesKept (Some note) most count line line' x y = (Handles note x y None × (line' ≡ line) × (count ≡ 0)) ⊎ ((z : Desks) × (how : Fate) × Handles note x z (Some how) × Pops most count (record line { kept = None }) line' z y)

abbrev pub Empties : ℕ → ℕ → Lane → Lane → Desks → Desks → Type 0
Empties most count line line' x y = EmptiesKept line.kept most count line line' x y

-- what emptying the lanes changes, and how many notes were popped so far
pub record Intake : Type 0 where
  pub work : Work
  pub lanes : List Lane
  pub ports : List Port
  pub count : ℕ

abbrev pub intake : Office → Vec Event Global → ℕ → Intake
intake o trace count = record { work = work o.counters.room trace; lanes = o.lanes.items; ports = o.counters.ports.items; count = count }

abbrev pub desks_of : Intake → Desks
desks_of x = record { work = x.work; ports = x.ports }

-- the lane from a processor is emptied, as far as the limit allows
abbrev pub EmptiesFrom : ℕ → ℕ → Intake → Intake → Type 0
EmptiesFrom limit sender x y = (k : ℕ) × ChangesOne (λ a b. Empties (limit - x.count) k a b (desks_of x) (desks_of y)) sender x.lanes y.lanes × (y.count ≡ x.count + k)

-- before any note is handled
abbrev pub untaken : Work → List Port → List Lane → Intake
untaken w ports lanes = record { work = w; lanes = lanes; ports = ports; count = 0 }

-- the lanes before the first one with a note were passed over, and that was looked at
pub record IsFronted (limit first : ℕ) (w : Work) (ports : List Port) (before now : List Lane) : Type 0 where
  pub passed : List Lane
  pub passes : Chain Intake (EmptiesFrom limit) first (untaken w ports before) (untaken w ports passed)
  pub found : ChangesOne HasFoundNote first passed now
  pub as_many : length now ≡ length before

-- a note of a closed port: a request is taken and owed a reply, an answer is reaped; a request whose take was lost stays
abbrev pub is_lost : Taken → Bool
is_lost (taken.Took rec aborted priority) = false
is_lost taken.Stale = false
is_lost taken.Again = true

abbrev pub ClearsAs : NoteKind → Note → Work → Work → Bool → Type 0
ClearsAs Request note w w' stays = (answer : Taken) × Takes claim.Closed note w w' answer × (stays ≡ is_lost answer)
ClearsAs Answer note w w' stays = (answer : Reaped) × Reaps false note w w' answer × (stays ≡ false)

abbrev pub Clears : Note → Work → Work → Bool → Type 0
Clears note w w' stays = ClearsAs note.kind note w w' stays

-- all these notes were taken off a closed port, in order
abbrev pub ClearsAll : List Note → Work → Work → Type 0
ClearsAll [] w w' = w' ≡ w
ClearsAll (note ∷ notes) w w' = (v : Work) × Clears note w v false × ClearsAll notes v w'

-- so many notes, and at most so many, were taken off a closed port, from its front: with fewer the queue is empty, or
-- its first note stays
pub record ClearsQueue (most count : ℕ) (queue queue' : List Note) (w w' : Work) : Type 0 where
  pub done : List Note
  pub between : Work
  pub queue_is : queue ≡ done ++ queue'
  pub as_many : length done ≡ count
  pub within : count ≤ most
  pub clears : ClearsAll done w between
  pub ends : (((count ≡ most) ⊎ (queue' ≡ [])) × (w' ≡ between)) ⊎ ((note : Note) × (others : List Note) × (queue' ≡ note ∷ others) × Clears note between w' true)

-- a port that isn't closed is left alone; of a closed one urgent notes go first, and of each class the oldest
abbrev pub ClearsClosed : Bool → ℕ → ℕ → Port → Port → Work → Work → Type 0
ClearsClosed false most count port port' w w' = (port' ≡ port) × (w' ≡ w) × (count ≡ 0)
ClearsClosed true most count port port' w w' = (port'.closed ≡ true) × ClearsQueue most count (queue_of port) (queue_of port') w w' × LeavesInOrder port port'

abbrev pub ClearsPort : ℕ → ℕ → Port → Port → Work → Work → Type 0
ClearsPort most count port port' w w' = ClearsClosed port.closed most count port port' w w'

-- what clearing the closed ports changes, and how many notes more may be taken off
pub record Clearing : Type 0 where
  pub work : Work
  pub ports : List Port
  pub left : ℕ

abbrev pub clearing : Counters → Vec Event Global → ℕ → Clearing
clearing c trace left = record { work = work c.room trace; ports = c.ports.items; left = left }

abbrev pub ClearsAt : ℕ → Clearing → Clearing → Type 0
ClearsAt port x y = (k : ℕ) × ChangesOne (λ a b. ClearsPort x.left k a b x.work y.work) port x.ports y.ports × (y.left + k ≡ x.left)

-- all that taking notes in changes
pub record Hall : Type 0 where
  pub work : Work
  pub lanes : List Lane
  pub ports : List Port

abbrev pub hall : Office → Vec Event Global → Hall
hall o trace = record { work = work o.counters.room trace; lanes = o.lanes.items; ports = o.counters.ports.items }

abbrev pub hall_of : Post → Vec Event Global → Hall
hall_of p trace = record { work = work_of p trace; lanes = p.lanes; ports = p.ports }

-- the notes that came over the lanes are taken in: first each sending end moves its note in hand on; then the owed replies go out,
-- by message number; then the lanes are emptied, by rising sender, one after another, as far as the limit allows; then the closed
-- ports are cleared, by rising number, of at most 16 notes
pub record TakesIn (limit : ℕ) (x y : Hall) (count : ℕ) : Type 0 where
  pub roomed : List Lane
  pub paid : Payer
  pub emptied : Intake
  pub left : ℕ
  pub rooms : Chain (List Lane) (λ i a b. ChangesOne IsRoomed i a b) (length x.lanes) x.lanes roomed
  pub owed : Chain Payer Pays (length x.work.mails) (record { work = x.work; lanes = roomed }) paid
  pub notes : Chain Intake (EmptiesFrom limit) (length paid.lanes) (record { work = paid.work; lanes = paid.lanes; ports = x.ports; count = 0 }) emptied
  pub closed : Chain Clearing ClearsAt 16 (record { work = emptied.work; ports = emptied.ports; left = 16 }) (record { work = y.work; ports = y.ports; left = left })
  pub lanes_are : y.lanes ≡ emptied.lanes
  pub count_is : count ≡ emptied.count

-- a processor's call to take in did so
pub record PostTakesIn (limit : ℕ) (p p' : Post) (trace trace' : Vec Event Global) (count : ℕ) : Type 0 where
  pub takes : TakesIn limit (hall_of p trace) (hall_of p' trace') count
  pub threads_same : p'.threads ≡ p.threads
