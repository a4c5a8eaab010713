-- What a thread does with a message of its own that is away, and whether it hears of a wish to abort (lwkt_dropmsg and lwkt_abortmsg
-- of msgport(9); that the origin alone may, and the numbers of refusals, are own).
use Rattle.std.specs.Prelude.{◌≡◌, ◌⊎◌, ℕ, ◌<◌, Bool, List, [], ◌∷◌, ◌++◌, length, true, Vec, slice_set}
use Rattle.std.specs.declared.alloc.Global.{Global}
use Rattle.lwkt_base.specs.declared.faults.Fault.{Fault}
use Rattle.lwkt_base.specs.declared.faults.Fault.TheVariants.{NotOwner, NotOut, NotDropable, NotAbortable, NotTaken}
use Rattle.lwkt_base.specs.declared.names.MsgId.{MsgId}
use Rattle.lwkt_base.specs.declared.records.Rec.{Rec}
use Rattle.lwkt_core.specs.declared.events.Event.{Event}
use Rattle.lwkt_core.specs.declared.events.Event.TheVariants.{Abort, DropMsg}
use Rattle.lwkt_msg.specs.Calls.{HasRequested, IsUnrequested, HasDropped, IsUndropped, HasLostDrop, ReadsRequest}
use Rattle.lwkt_msg.specs.Desks.{Desk, desk_cpu, IsSameDesk}
use Rattle.lwkt_port.specs.declared.mails.Mail.{Mail}
use Rattle.lwkt_port.specs.Mails.{kept_mail_at}
use Rattle.lwkt_port.specs.Posts.{Post, work_of}
use Rattle.lwkt_port.specs.Sendings.{IsShownTo, IsElseSame}
use Rattle.lwkt_port.specs.Works.{Work}

-- a message is a thread's own: it is there, and the thread of this processor is its origin
abbrev pub IsOwnOf : ℕ → MsgId → Desk → List Mail → Type 0
IsOwnOf thread msg seat mails = (msg.0 < length mails) × ((kept_mail_at mails msg.0).origin ≡ record { cpu = desk_cpu seat; thread = thread })

-- the message's origin has asked for it to be aborted
pub record Requests (msg : MsgId) (w w' : Work) : Type 0 where
  pub same : IsSameDesk w.seat w'.seat
  pub means : HasRequested (desk_cpu w.seat) w.seat.view w'.seat.view msg.0
  pub mails_same : w'.mails ≡ w.mails
  pub trace_is : w'.trace ≡ w.trace ++ Abort (desk_cpu w.seat) msg ∷ []

-- for what an own message is not asked to be aborted, and for what it is not dropped
abbrev pub MayRefuseAbort : Fault → Type 0
MayRefuseAbort fault = (fault ≡ NotOut) ⊎ (fault ≡ NotAbortable)

abbrev pub MayRefuseDrop : Fault → Type 0
MayRefuseDrop fault = (fault ≡ NotOut) ⊎ (fault ≡ NotDropable)

-- the message's origin has not asked, since its word forbade it: the seat has looked at it, and nothing else changed
pub record IsUnasked (msg : MsgId) (w w' : Work) (fault : Fault) : Type 0 where
  pub same : IsSameDesk w.seat w'.seat
  pub why : IsUnrequested (desk_cpu w.seat) w.seat.view w'.seat.view msg.0 fault
  pub mails_same : w'.mails ≡ w.mails
  pub trace_same : w'.trace ≡ w.trace

-- what is kept of a message that was dropped: it is at home
abbrev pub dropped_mail : Mail → Mail
dropped_mail mail = record mail { home = true }

-- the message was dropped by its origin, before its target took it, and had this record
pub record Drops (msg : MsgId) (w w' : Work) (rec : Rec) : Type 0 where
  pub same : IsSameDesk w.seat w'.seat
  pub means : HasDropped (desk_cpu w.seat) w.seat.view w'.seat.view msg.0 rec
  pub mails_are : w'.mails ≡ slice_set w.mails msg.0 (dropped_mail (kept_mail_at w.mails msg.0))
  pub trace_is : w'.trace ≡ w.trace ++ DropMsg (desk_cpu w.seat) msg ∷ []

-- the message was not dropped, since its word forbade it, or its target took it just before: the seat has looked at it, or lost an
-- exchange, and nothing else changed
pub record IsUntouched (msg : MsgId) (w w' : Work) (fault : Fault) : Type 0 where
  pub same : IsSameDesk w.seat w'.seat
  pub why : IsUndropped (desk_cpu w.seat) w.seat.view w'.seat.view msg.0 fault ⊎ HasLostDrop (desk_cpu w.seat) w.seat.view w'.seat.view msg.0 fault
  pub mails_same : w'.mails ≡ w.mails
  pub trace_same : w'.trace ≡ w.trace

-- whether the message, which the seat has taken, is to be aborted
pub record IsHeard (msg : MsgId) (w w' : Work) (aborted : Bool) : Type 0 where
  pub same : IsSameDesk w.seat w'.seat
  pub means : ReadsRequest w.seat.view w'.seat.view msg.0 aborted
  pub mails_same : w'.mails ≡ w.mails
  pub trace_same : w'.trace ≡ w.trace

-- lanes, ports and threads stay
pub record IsOnlyWork (p p' : Post) : Type 0 where
  pub lanes_same : p'.lanes ≡ p.lanes
  pub else_same : IsElseSame p p'

-- a thread's call to abort did so
pub record PostAborts (thread : ℕ) (msg : MsgId) (p p' : Post) (trace trace' : Vec Event Global) : Type 0 where
  pub own : IsOwnOf thread msg p.seat p.mails
  pub requests : Requests msg (work_of p trace) (work_of p' trace')
  pub only : IsOnlyWork p p'

-- a thread's call to abort came to the message, and was refused for this
pub record PostUnasked (thread : ℕ) (msg : MsgId) (p p' : Post) (trace trace' : Vec Event Global) (fault : Fault) : Type 0 where
  pub own : IsOwnOf thread msg p.seat p.mails
  pub unasked : IsUnasked msg (work_of p trace) (work_of p' trace') fault
  pub only : IsOnlyWork p p'

-- why a thread's call to abort was refused, in the order of the checks: it isn't the thread's message; it is at rest or was replied
-- to; its last send didn't allow it
abbrev pub PostRefusesAbort : ℕ → MsgId → Post → Post → Vec Event Global → Vec Event Global → Fault → Type 0
PostRefusesAbort thread msg p p' trace trace' NotOwner = (IsOwnOf thread msg p.seat p.mails → ⊥) × (p' ≡ p) × (trace' ≡ trace)
PostRefusesAbort thread msg p p' trace trace' NotOut = PostUnasked thread msg p p' trace trace' NotOut
PostRefusesAbort thread msg p p' trace trace' NotAbortable = PostUnasked thread msg p p' trace trace' NotAbortable
PostRefusesAbort thread msg p p' trace trace' _ = ⊥

-- a thread's call to drop did so
pub record PostDrops (thread : ℕ) (msg : MsgId) (p p' : Post) (trace trace' : Vec Event Global) (rec : Rec) : Type 0 where
  pub own : IsOwnOf thread msg p.seat p.mails
  pub drops : Drops msg (work_of p trace) (work_of p' trace') rec
  pub only : IsOnlyWork p p'

-- a thread's call to drop came to the message, and was refused for this
pub record PostUntouched (thread : ℕ) (msg : MsgId) (p p' : Post) (trace trace' : Vec Event Global) (fault : Fault) : Type 0 where
  pub own : IsOwnOf thread msg p.seat p.mails
  pub untouched : IsUntouched msg (work_of p trace) (work_of p' trace') fault
  pub only : IsOnlyWork p p'

-- why a thread's call to drop was refused, in the order of the checks: it isn't the thread's message; it is not on its way; its last
-- send didn't allow it; its target took it just before
abbrev pub PostRefusesDrop : ℕ → MsgId → Post → Post → Vec Event Global → Vec Event Global → Fault → Type 0
PostRefusesDrop thread msg p p' trace trace' NotOwner = (IsOwnOf thread msg p.seat p.mails → ⊥) × (p' ≡ p) × (trace' ≡ trace)
PostRefusesDrop thread msg p p' trace trace' NotOut = PostUntouched thread msg p p' trace trace' NotOut
PostRefusesDrop thread msg p p' trace trace' NotDropable = PostUntouched thread msg p p' trace trace' NotDropable
PostRefusesDrop thread msg p p' trace trace' _ = ⊥

-- a thread heard whether a message that it was shown is to be aborted
pub record PostHears (thread : ℕ) (msg : MsgId) (p p' : Post) (aborted : Bool) : Type 0 where
  pub shown : IsShownTo thread msg p.mails
  pub heard : (events : List Event) → IsHeard msg (record { seat = p.seat; mails = p.mails; trace = events }) (record { seat = p'.seat; mails = p'.mails; trace = events }) aborted
  pub only : IsOnlyWork p p'

-- why a thread didn't hear: it wasn't shown the message, or has replied
abbrev pub PostRefusesHearing : ℕ → MsgId → Post → Post → Fault → Type 0
PostRefusesHearing thread msg p p' NotTaken = (IsShownTo thread msg p.mails → ⊥) × (p' ≡ p)
PostRefusesHearing thread msg p p' _ = ⊥
