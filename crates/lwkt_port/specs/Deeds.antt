-- The steps on messages, in words of the book: what the seat did, what is kept of the message then, and the event of the trace.
use Rattle.std.specs.Prelude.{◌≡◌, ℕ, Bool, true, false, List, [], ◌∷◌, ◌++◌, slice_set, Some, None}
use Rattle.lwkt_base.specs.declared.faults.Fault.TheVariants.{RoundsOut}
use Rattle.lwkt_base.specs.declared.names.CpuId.{CpuId}
use Rattle.lwkt_base.specs.declared.names.MsgId.{MsgId}
use Rattle.lwkt_base.specs.declared.records.Call.{Call}
use Rattle.lwkt_base.specs.declared.records.Flags.{Flags}
use Rattle.lwkt_base.specs.declared.records.Rec.{Rec}
use Rattle.lwkt_core.specs.declared.events.Event.{Event}
use Rattle.lwkt_core.specs.declared.events.Event.TheVariants.{Send, TakeMsg, Reply, Reap}
use Rattle.lwkt_lane.specs.declared.notes.Note.{Note}
use Rattle.lwkt_msg.specs.declared.answers.Taken.{Taken}
use Rattle.lwkt_msg.specs.declared.answers.Taken.TheVariants as taken
use Rattle.lwkt_msg.specs.declared.answers.Reaped.{Reaped}
use Rattle.lwkt_msg.specs.declared.answers.Reaped.TheVariants as reaped_
use Rattle.lwkt_msg.specs.Desks.{desk_cpu, IsSameDesk}
use Rattle.lwkt_msg.specs.Calls.{TakeMeans, ReapMeans, HasSent, IsUnsent, HasReplied}
use Rattle.lwkt_port.specs.declared.mails.Mail.{Mail}
use Rattle.lwkt_port.specs.declared.deeds.Claim.{Claim}
use Rattle.lwkt_port.specs.declared.deeds.Claim.TheVariants as claim
use Rattle.lwkt_port.specs.Mails.{kept_mail_at}
use Rattle.lwkt_port.specs.Works.{Work}

-- the errors that the ports reply themselves: to a request that was aborted before a thread saw it, and to one at a closed port
-- (EINTR of msgport(9); 30 is own)
abbrev pub eintr : ℕ
eintr = 4

abbrev pub no_port : ℕ
no_port = 30

-- what is kept of a message that was taken in a round, with or without priority: a thread is shown it, or it is owed a reply
abbrev pub taken_mail : Claim → Bool → Bool → ℕ → Mail → Mail
taken_mail (claim.Thread thread) true priority round mail = record mail { round = round; urgent = priority; owed = Some eintr }
taken_mail (claim.Thread thread) false priority round mail = record mail { round = round; urgent = priority; shown = Some thread }
taken_mail claim.Closed aborted priority round mail = record mail { round = round; urgent = priority; owed = Some no_port }

abbrev pub mails_taken : Claim → Note → Taken → List Mail → List Mail
mails_taken who note (taken.Took rec aborted priority) mails = slice_set mails note.msg.0 (taken_mail who aborted priority note.round (kept_mail_at mails note.msg.0))
mails_taken who note taken.Stale mails = mails
mails_taken who note taken.Again mails = mails

abbrev pub take_events : CpuId → Note → Taken → List Event
take_events cpu note (taken.Took rec aborted priority) = TakeMsg cpu note.msg note.round ∷ []
take_events cpu note taken.Stale = []
take_events cpu note taken.Again = []

-- the message of a note was tried to be taken in the note's round
pub record Takes (who : Claim) (note : Note) (w w' : Work) (answer : Taken) : Type 0 where
  pub same : IsSameDesk w.seat w'.seat
  pub means : TakeMeans (desk_cpu w.seat) w.seat.view w'.seat.view note.msg.0 note.round answer
  pub mails_are : w'.mails ≡ mails_taken who note answer w.mails
  pub trace_is : w'.trace ≡ w.trace ++ take_events (desk_cpu w.seat) note answer

-- what is kept of a message that was reaped: it is at home, and the record of a synchronous answer is kept
abbrev pub reaped_mail : Bool → Rec → Mail → Mail
reaped_mail true rec mail = record mail { home = true; done = Some rec }
reaped_mail false rec mail = record mail { home = true }

abbrev pub mails_reaped : Bool → Note → Reaped → List Mail → List Mail
mails_reaped keep note (reaped_.Done rec) mails = slice_set mails note.msg.0 (reaped_mail keep rec (kept_mail_at mails note.msg.0))
mails_reaped keep note reaped_.Stale mails = mails

abbrev pub reap_events : CpuId → Note → Reaped → List Event
reap_events cpu note (reaped_.Done rec) = Reap cpu note.msg ∷ []
reap_events cpu note reaped_.Stale = []

-- the message of a note was tried to be reaped in the note's round
pub record Reaps (keep : Bool) (note : Note) (w w' : Work) (answer : Reaped) : Type 0 where
  pub same : IsSameDesk w.seat w'.seat
  pub means : ReapMeans (desk_cpu w.seat) w.seat.view w'.seat.view note.msg.0 note.round answer
  pub mails_are : w'.mails ≡ mails_reaped keep note answer w.mails
  pub trace_is : w'.trace ≡ w.trace ++ reap_events (desk_cpu w.seat) note answer

-- what is kept of a message that was sent: it is away, and a synchronous answer that was not given is discarded
abbrev pub sent_mail : Bool → Mail → Mail
sent_mail sync mail = record mail { home = false; sync = sync; done = None }

-- the message was sent to a processor, in this round
pub record Sends (msg : MsgId) (target : CpuId) (call : Call) (flags : Flags) (sync : Bool) (w w' : Work) (round : ℕ) : Type 0 where
  pub same : IsSameDesk w.seat w'.seat
  pub means : HasSent (desk_cpu w.seat) w.seat.view w'.seat.view msg.0 target call flags sync round
  pub mails_are : w'.mails ≡ slice_set w.mails msg.0 (sent_mail sync (kept_mail_at w.mails msg.0))
  pub trace_is : w'.trace ≡ w.trace ++ Send (desk_cpu w.seat) msg target round ∷ []

-- what is kept of a message that was replied to: no thread has it, and nothing is owed
abbrev pub replied_mail : Mail → Mail
replied_mail mail = record mail { owed = None; shown = None }

-- the message was replied to with this error and result
pub record Replies (msg : MsgId) (error outcome : ℕ) (w w' : Work) : Type 0 where
  pub same : IsSameDesk w.seat w'.seat
  pub means : HasReplied w.seat.view w'.seat.view msg.0 error outcome
  pub mails_are : w'.mails ≡ slice_set w.mails msg.0 (replied_mail (kept_mail_at w.mails msg.0))
  pub trace_is : w'.trace ≡ w.trace ++ Reply (desk_cpu w.seat) msg ∷ []

-- the message was not sent, since it is at its last round: the seat has looked at its word, and nothing else changed
pub record IsRefused (msg : MsgId) (w w' : Work) : Type 0 where
  pub same : IsSameDesk w.seat w'.seat
  pub why : IsUnsent (desk_cpu w.seat) w.seat.view w'.seat.view msg.0 RoundsOut
  pub mails_same : w'.mails ≡ w.mails
  pub trace_same : w'.trace ≡ w.trace
