-- What a send and a reply of a thread do (lwkt_sendmsg, lwkt_domsg and lwkt_replymsg of msgport(9); the numbers of refusals are own).
use Rattle.std.specs.Prelude.{◌≡◌, ℕ, ◌<◌, Bool, true, false, List, length, Some, None, IsSome, Vec}
use Rattle.std.specs.declared.alloc.Global.{Global}
use Rattle.lwkt_base.specs.declared.faults.Fault.{Fault}
use Rattle.lwkt_base.specs.declared.faults.Fault.TheVariants.{NoPort, SelfDo, NotOwner, LaneFull, RoundsOut, NotTaken}
use Rattle.lwkt_base.specs.declared.names.MsgId.{MsgId}
use Rattle.lwkt_base.specs.declared.names.ThreadId.{ThreadId}
use Rattle.lwkt_core.specs.declared.events.Event.{Event}
use Rattle.lwkt_lane.specs.declared.notes.Note.{Note}
use Rattle.lwkt_lane.specs.declared.notes.NoteKind.TheVariants.{Request, Answer}
use Rattle.lwkt_lane.specs.Lane.{in_hand}
use Rattle.lwkt_msg.specs.Desks.{desk_cpu, cpus_of}
use Rattle.lwkt_port.specs.declared.deeds.Sending.{Sending}
use Rattle.lwkt_port.specs.declared.lines.Lane.{Lane}
use Rattle.lwkt_port.specs.declared.mails.Mail.{Mail}
use Rattle.lwkt_port.specs.declared.opened_ports.TheConstants.{PORTS}
use Rattle.lwkt_port.specs.Deeds.{Sends, IsRefused, Replies}
use Rattle.lwkt_port.specs.Lines.{IsRoomed, HasPosted}
use Rattle.lwkt_port.specs.Mails.{kept_mail_at}
use Rattle.lwkt_port.specs.Posts.{Post, ChangesOne, work_of}
use Rattle.lwkt_port.specs.Works.{Work}

-- the note of a request, which is urgent if the message is sent with priority, and of an answer, which is urgent if the
-- message had priority when it was taken
abbrev pub request_note : Sending → ℕ → Note
request_note s round = record { round = round; msg = s.msg; port = s.to.thread; kind = Request; urgent = s.flags.priority }

abbrev pub answer_note : MsgId → Mail → Note
answer_note msg mail = record { round = mail.round; msg = msg; port = mail.origin.thread; kind = Answer; urgent = mail.urgent }

-- there may be such a port: the processor is there, and the thread's number is that of a port
abbrev pub IsPortName : ℕ → ThreadId → Type 0
IsPortName cpus to = (to.cpu.0 < cpus) × (to.thread < PORTS)

-- the thread may send the message: it is its own, and at rest
abbrev pub MaySend : Sending → List Mail → Type 0
MaySend s mails = (s.msg.0 < length mails) × ((kept_mail_at mails s.msg.0).home ≡ true) × ((kept_mail_at mails s.msg.0).origin.thread ≡ s.thread)

-- no note can be sent over a line, whose note in hand found no room
pub record IsFull (line line' : Lane) : Type 0 where
  pub roomed : IsRoomed line line'
  pub full : IsSome (in_hand line'.out)

-- a message was sent over a line: the book's event, and one note
pub record SendsOver (s : Sending) (line line' : Lane) (w w' : Work) : Type 0 where
  pub round : ℕ
  pub sends : Sends s.msg s.to.cpu s.call s.flags s.sync w w' round
  pub posted : HasPosted (request_note s round) line line'

-- why a message was not sent over a line: the line is full; it has room, and the message is at its last round
abbrev pub RefusesOver : Sending → Lane → Lane → Work → Work → Fault → Type 0
RefusesOver s line line' w w' LaneFull = IsFull line line' × (w' ≡ w)
RefusesOver s line line' w w' RoundsOut = IsRoomed line line' × (in_hand line'.out ≡ None) × IsRefused s.msg w w'
RefusesOver s line line' w w' _ = ⊥

-- a message was sent by its thread: the book's event, and one note over the lane to the target
pub record HasSentNote (s : Sending) (lanes lanes' : List Lane) (w w' : Work) : Type 0 where
  pub may : MaySend s w.mails
  pub over : ChangesOne (λ a b. SendsOver s a b w w') s.to.cpu.0 lanes lanes'

-- why a message was not sent by its thread: it is no message of the thread at rest; or as above
abbrev pub WhyUnsent : Sending → List Lane → List Lane → Work → Work → Fault → Type 0
WhyUnsent s lanes lanes' w w' NotOwner = (MaySend s w.mails → ⊥) × (lanes' ≡ lanes) × (w' ≡ w)
WhyUnsent s lanes lanes' w w' LaneFull = MaySend s w.mails × ChangesOne (λ a b. RefusesOver s a b w w' LaneFull) s.to.cpu.0 lanes lanes'
WhyUnsent s lanes lanes' w w' RoundsOut = MaySend s w.mails × ChangesOne (λ a b. RefusesOver s a b w w' RoundsOut) s.to.cpu.0 lanes lanes'
WhyUnsent s lanes lanes' w w' _ = ⊥

-- what isn't said of the ports otherwise stays
pub record IsElseSame (p p' : Post) : Type 0 where
  pub ports_same : p'.ports ≡ p.ports
  pub threads_same : p'.threads ≡ p.threads

-- a thread would wait for its own answer
abbrev pub IsSelfDo : Sending → Post → Type 0
IsSelfDo s p = (s.sync ≡ true) × (s.to ≡ record { cpu = desk_cpu p.seat; thread = s.thread })

-- a thread's call to send did so
pub record PostSends (s : Sending) (p p' : Post) (trace trace' : Vec Event Global) : Type 0 where
  pub there : IsPortName (cpus_of p.seat) s.to
  pub to_other : IsSelfDo s p → ⊥
  pub sent : HasSentNote s p.lanes p'.lanes (work_of p trace) (work_of p' trace')
  pub else_same : IsElseSame p p'

-- a thread's call to send came to the message, and was refused for this
pub record PostRefusesMessage (s : Sending) (p p' : Post) (trace trace' : Vec Event Global) (fault : Fault) : Type 0 where
  pub there : IsPortName (cpus_of p.seat) s.to
  pub to_other : IsSelfDo s p → ⊥
  pub why : WhyUnsent s p.lanes p'.lanes (work_of p trace) (work_of p' trace') fault
  pub else_same : IsElseSame p p'

-- why a thread's call to send was refused, in the order of the checks: there is no such port; the thread would wait for its own
-- answer; and as above
abbrev pub PostRefuses : Sending → Post → Post → Vec Event Global → Vec Event Global → Fault → Type 0
PostRefuses s p p' trace trace' NoPort = (IsPortName (cpus_of p.seat) s.to → ⊥) × (p' ≡ p) × (trace' ≡ trace)
PostRefuses s p p' trace trace' SelfDo = IsPortName (cpus_of p.seat) s.to × IsSelfDo s p × (p' ≡ p) × (trace' ≡ trace)
PostRefuses s p p' trace trace' NotOwner = PostRefusesMessage s p p' trace trace' NotOwner
PostRefuses s p p' trace trace' LaneFull = PostRefusesMessage s p p' trace trace' LaneFull
PostRefuses s p p' trace trace' RoundsOut = PostRefusesMessage s p p' trace trace' RoundsOut
PostRefuses s p p' trace trace' _ = ⊥

-- a message was replied to over a line: the book's event, and one note to the thread that sent it
pub record RepliesOver (msg : MsgId) (error outcome : ℕ) (line line' : Lane) (w w' : Work) : Type 0 where
  pub replies : Replies msg error outcome w w'
  pub posted : HasPosted (answer_note msg (kept_mail_at w.mails msg.0)) line line'

-- a reply was made over a line, or the line is full
abbrev pub ReplyMeans : MsgId → ℕ → ℕ → Lane → Lane → Work → Work → Bool → Type 0
ReplyMeans msg error outcome line line' w w' true = RepliesOver msg error outcome line line' w w'
ReplyMeans msg error outcome line line' w w' false = IsFull line line' × (w' ≡ w)

-- the thread was shown the message as a request, and hasn't replied yet
abbrev pub IsShownTo : ℕ → MsgId → List Mail → Type 0
IsShownTo thread msg mails = (msg.0 < length mails) × ((kept_mail_at mails msg.0).shown ≡ Some thread)

-- a reply over the line to the processor of the message's origin
abbrev pub Answers : MsgId → ℕ → ℕ → List Lane → List Lane → Work → Work → Bool → Type 0
Answers msg error outcome lanes lanes' w w' answer = ChangesOne (λ a b. ReplyMeans msg error outcome a b w w' answer) (kept_mail_at w.mails msg.0).origin.cpu.0 lanes lanes'

-- a thread's call to reply did so
pub record PostReplies (thread : ℕ) (msg : MsgId) (error outcome : ℕ) (p p' : Post) (trace trace' : Vec Event Global) : Type 0 where
  pub shown : IsShownTo thread msg p.mails
  pub answers : Answers msg error outcome p.lanes p'.lanes (work_of p trace) (work_of p' trace') true
  pub else_same : IsElseSame p p'

-- why a thread's call to reply was refused: it wasn't shown the message; the lane is full
abbrev pub PostRefusesReply : ℕ → MsgId → ℕ → ℕ → Post → Post → Vec Event Global → Vec Event Global → Fault → Type 0
PostRefusesReply thread msg error outcome p p' trace trace' NotTaken = (IsShownTo thread msg p.mails → ⊥) × (p' ≡ p) × (trace' ≡ trace)
PostRefusesReply thread msg error outcome p p' trace trace' LaneFull = IsShownTo thread msg p.mails × Answers msg error outcome p.lanes p'.lanes (work_of p trace) (work_of p' trace') false × IsElseSame p p'
PostRefusesReply thread msg error outcome p p' trace trace' _ = ⊥
