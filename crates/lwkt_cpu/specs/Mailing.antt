use Rattle.std.specs.Prelude.{◌≡◌, ℕ, Bool, false, List, length, Option, Some, None, Result, Ok, Err, OnOk, IfOk, IfErr, Vec}
use Rattle.std.specs.declared.alloc.Global.{Global}
use Rattle.lwkt_base.specs.declared.asks.Item.{Item}
use Rattle.lwkt_base.specs.declared.asks.Answer.{Answer}
use Rattle.lwkt_base.specs.declared.asks.Answer.TheVariants.{Dropped, Got, NoMsg, Refused}
use Rattle.lwkt_base.specs.declared.faults.Fault.{Fault}
use Rattle.lwkt_base.specs.declared.names.MsgId.{MsgId}
use Rattle.lwkt_base.specs.declared.names.ThreadId.{ThreadId}
use Rattle.lwkt_base.specs.declared.names.Ref.{Ref}
use Rattle.lwkt_base.specs.declared.records.Call.{Call}
use Rattle.lwkt_base.specs.declared.records.Flags.{Flags}
use Rattle.lwkt_base.specs.declared.records.Rec.{Rec}
use Rattle.lwkt_core.specs.declared.events.Event.{Event}
use Rattle.lwkt_bank.specs.declared.seats.CpuSeat.{CpuSeat}
use Rattle.lwkt_port.specs.declared.deeds.Sending.{Sending}
use Rattle.lwkt_port.specs.Posts.{Post}
use Rattle.lwkt_port.specs.Sendings.{PostSends, PostRefuses, PostReplies, PostRefusesReply}
use Rattle.lwkt_port.specs.Servings.{PostGets}
use Rattle.lwkt_port.specs.Withdrawals.{PostAborts, PostRefusesAbort, PostDrops, PostRefusesDrop, PostHears, PostRefusesHearing}
use Rattle.lwkt_cpu.specs.declared.nexts.Next.{Next}
use Rattle.lwkt_cpu.specs.declared.nexts.Next.TheVariants.{Runs, AwaitsItem, AwaitsReply}
use Rattle.lwkt_cpu.specs.Leaving.{GivesUp}

-- a message of a thread that is to be sent
abbrev pub sending : ℕ → MsgId → ThreadId → Call → Flags → Bool → Sending
sending thread msg to call flags sync = record { thread = thread; msg = msg; to = to; call = call; flags = flags; sync = sync }

-- a send without leave to drop or to abort
abbrev pub plain_flags : Flags
plain_flags = record { dropable = false; abortable = false; priority = false }

-- what a send says, from one state of the ports and trace to the next: `Ports::send` and `Ports::send_sync`
abbrev pub SendsMail : Sending → Post → Post → Vec Event Global → Vec Event Global → Result (Unit {0}) Fault → Type 0
SendsMail s p q t u result = OnOk result (PostSends s p q t u) × IfErr result (λ fault. PostRefuses s p q t u fault)

-- what a reply says: `Ports::reply`
abbrev pub RepliesMail : ℕ → MsgId → ℕ → ℕ → Post → Post → Vec Event Global → Vec Event Global → Result (Unit {0}) Fault → Type 0
RepliesMail thread msg error outcome p q t u result = OnOk result (PostReplies thread msg error outcome p q t u) × IfErr result (λ fault. PostRefusesReply thread msg error outcome p q t u fault)

-- what a request to abort says: `Ports::abort`
abbrev pub AbortsMail : ℕ → MsgId → Post → Post → Vec Event Global → Vec Event Global → Result (Unit {0}) Fault → Type 0
AbortsMail thread msg p q t u result = OnOk result (PostAborts thread msg p q t u) × IfErr result (λ fault. PostRefusesAbort thread msg p q t u fault)

-- what the question whether a message is to be aborted says: `Ports::is_aborted`
abbrev pub HearsMail : ℕ → MsgId → Post → Post → Result Bool Fault → Type 0
HearsMail thread msg p q result = IfOk result (λ aborted. PostHears thread msg p q aborted) × IfErr result (λ fault. PostRefusesHearing thread msg p q fault)

-- what a drop says: `Ports::drop_msg`
abbrev pub DropsMail : ℕ → MsgId → Post → Post → Vec Event Global → Vec Event Global → Result Rec Fault → Type 0
DropsMail thread msg p q t u result = IfOk result (λ rec. PostDrops thread msg p q t u rec) × IfErr result (λ fault. PostRefusesDrop thread msg p q t u fault)

-- the answer for a drop of a message: the message and the record that it was sent with
abbrev pub dropped_or : MsgId → Result Rec Fault → Answer
dropped_or msg (Ok rec) = Dropped msg rec
dropped_or msg (Err fault) = Refused fault

-- the answer for a look at a port
abbrev pub item_or : Result (Option Item) Fault → Answer
item_or (Ok (Some item)) = Got item
item_or (Ok None) = NoMsg
item_or (Err fault) = Refused fault

-- what follows on a synchronous send: the thread gives up everything and waits for the reply, or goes on, refused
abbrev pub WaitsReply : CpuSeat → CpuSeat → List Ref → Vec Event Global → Vec Event Global → MsgId → Next Answer → Result (Unit {0}) Fault → Type 0
WaitsReply a b refs v u msg next (Ok done) = GivesUp a b refs (length refs) v u (AwaitsReply msg) next
WaitsReply a b refs v u msg next (Err fault) = (b ≡ a) × (u ≡ v) × (next ≡ Runs (Refused fault))

-- an ask to send and wait for the reply (lwkt_domsg of msgport(9))
pub record DoesMessage (s : Sending) (p q : Post) (a b : CpuSeat) (refs : List Ref) (t u : Vec Event Global) (next : Next Answer) : Type 0 where
  pub v : Vec Event Global
  pub result : Result (Unit {0}) Fault
  pub sends : SendsMail s p q t v result
  pub goes_on : WaitsReply a b refs v u s.msg next result

-- what follows on a look at the port of a thread that waits: an item is given at once; else, also where another processor's step came
-- between, the thread gives up everything and waits
abbrev pub WaitsItem : CpuSeat → CpuSeat → List Ref → Vec Event Global → Vec Event Global → Next Answer → Result (Option Item) Fault → Type 0
WaitsItem a b refs v u next (Ok (Some item)) = (b ≡ a) × (u ≡ v) × (next ≡ Runs (Got item))
WaitsItem a b refs v u next (Ok None) = GivesUp a b refs (length refs) v u AwaitsItem next
WaitsItem a b refs v u next (Err fault) = GivesUp a b refs (length refs) v u AwaitsItem next

-- an ask to wait for an item (lwkt_waitport of msgport(9))
pub record WaitsPort (thread : ℕ) (p q : Post) (a b : CpuSeat) (refs : List Ref) (t u : Vec Event Global) (next : Next Answer) : Type 0 where
  pub v : Vec Event Global
  pub result : Result (Option Item) Fault
  pub gets : PostGets thread p q t v result
  pub goes_on : WaitsItem a b refs v u next result
