use Rattle.std.specs.Prelude.{◌≡◌, ◌<◌, List, All, length, Result, Ok, Err, Option, ℕ, Bool, false, true, Vec}
use Rattle.std.specs.declared.alloc.Global.{Global}
use Rattle.atomic_table.specs.Seated.{TableId}
use Rattle.lwkt_base.specs.declared.asks.Answer.{Answer}
use Rattle.lwkt_base.specs.declared.names.TokId.{TokId}
use Rattle.lwkt_base.specs.declared.names.Mode.TheVariants.{Shared}
use Rattle.lwkt_base.specs.declared.names.Ref.{Ref}
use Rattle.lwkt_base.specs.declared.faults.Fault.{Fault}
use Rattle.lwkt_base.specs.declared.faults.Fault.TheVariants.{Assertion}
use Rattle.lwkt_base.specs.declared.asks.Ask.{Ask}
use Rattle.lwkt_base.specs.declared.asks.Ask.TheVariants.{Get, GetShared, TryGet, Rel, Swap, Read, Write, Add, ReadBlob, WriteBlob, Send, Do, Reply, Abort, IsAborted, DropMsg, GetPort, WaitPort, Yield, Exit, Fail}
use Rattle.lwkt_base.specs.declared.asks.Answer.TheVariants.{Done, Refused}
use Rattle.lwkt_core.specs.declared.events.Event.{Event}
use Rattle.lwkt_bank.specs.declared.seats.CpuSeat.{CpuSeat}
use Rattle.lwkt_bank.specs.Seats.{BankId, holding}
use Rattle.lwkt_base.specs.declared.names.MsgId.{MsgId}
use Rattle.lwkt_hold.specs.Ready.{IsReady}
use Rattle.lwkt_msg.specs.Desks.{desk_cpu, messages_of}
use Rattle.lwkt_hold.specs.declared.answers.Acquired.{Acquired}
use Rattle.lwkt_hold.specs.declared.answers.Acquired.TheVariants.{Got, MustSwitch}
use Rattle.lwkt_hold.specs.Misses.{exclusive}
use Rattle.lwkt_cpu.specs.declared.nexts.Next.{Next}
use Rattle.lwkt_cpu.specs.declared.nexts.AnswerKept.{AnswerKept}
use Rattle.lwkt_cpu.specs.declared.nexts.Next.TheVariants.{Runs, Readies, AwaitsReply, Exits, Faults}
use Rattle.lwkt_cpu.specs.Nexts.{done_or, value_or, bytes_or, bit_or, HoldsAfter, next_with, KeepsAnswer}
use Rattle.lwkt_cpu.specs.Calls.{Acquires, Tries, Rels, Swaps, Reads, Stores, Adds, ReadsRecord, StoresRecord}
use Rattle.lwkt_cpu.specs.Leaving.{GivesUp}
use Rattle.lwkt_cpu.specs.Mailing.{sending, plain_flags, SendsMail, RepliesMail, AbortsMail, HearsMail, DropsMail, dropped_or, item_or, DoesMessage, WaitsPort}
use Rattle.lwkt_base.specs.declared.asks.Item.{Item}
use Rattle.lwkt_base.specs.declared.records.Rec.{Rec}
use Rattle.lwkt_port.specs.Posts.{Post, IsSamePost}
use Rattle.lwkt_port.specs.Servings.{PostGets}

-- a shared reference to the token
abbrev pub shared : TokId → Ref
shared tok = record { tok = tok; mode = Shared }

-- what follows on an answer for a reference: the thread goes on, with the reference or refused, or it gives up what it held
-- before and is ready, its answer being Done once it is resumed
abbrev pub GoesOnWith : CpuSeat → CpuSeat → List Ref → List Ref → Vec Event Global → Vec Event Global → Next Answer → Result Acquired Fault → Type 0
GoesOnWith mid b refs now v u next (Ok Got) = (b ≡ mid) × (u ≡ v) × (next ≡ Runs Done)
GoesOnWith mid b refs now v u next (Ok (MustSwitch why)) = GivesUp mid b now (length refs) v u (Readies Done) next
GoesOnWith mid b refs now v u next (Err fault) = (b ≡ mid) × (u ≡ v) × (next ≡ Runs (Refused fault))

-- an ask for a reference
pub record Gets (bank : BankId) (a b : CpuSeat) (refs now : List Ref) (new : Ref) (t u : Vec Event Global) (next : Next Answer) : Type 0 where
  pub mid : CpuSeat
  pub v : Vec Event Global
  pub result : Result Acquired Fault
  pub acquires : Acquires bank a mid refs now new t v result
  pub goes_on : GoesOnWith mid b refs now v u next result

-- an ask of a thread and what comes next: from one seat, list and trace to the next, and from one state of the ports to the next, ask
-- by ask, by the call that it makes (token(9), msgport(9); own)
abbrev pub Performs : BankId → ℕ → CpuSeat → CpuSeat → Post → Post → List Ref → List Ref → Vec Event Global → Vec Event Global → Ask → Next Answer → Type 0
Performs bank thread a b p q refs now t u (Get tok) next = (q ≡ p) × Gets bank a b refs now (exclusive tok) t u next
Performs bank thread a b p q refs now t u (GetShared tok) next = (q ≡ p) × Gets bank a b refs now (shared tok) t u next
Performs bank thread a b p q refs now t u (TryGet tok) next = (q ≡ p) × ((result : Result (Unit {0}) Fault) × (Tries bank a b refs now tok t u result × (next ≡ Runs (done_or result))))
Performs bank thread a b p q refs now t u (Rel tok) next = (q ≡ p) × ((result : Result (Unit {0}) Fault) × (Rels a b refs now tok t u result × (next ≡ Runs (done_or result))))
Performs bank thread a b p q refs now t u Swap next = (q ≡ p) × ((result : Result (Unit {0}) Fault) × (Swaps refs now result × (b ≡ a) × (u ≡ t) × (next ≡ Runs (done_or result))))
Performs bank thread a b p q refs now t u (Read tok cell) next = (q ≡ p) × ((result : Result ℕ Fault) × (Reads bank a b refs tok cell t u result × (now ≡ refs) × (next ≡ Runs (value_or result))))
Performs bank thread a b p q refs now t u (Write tok cell value) next = (q ≡ p) × ((result : Result (Unit {0}) Fault) × (Stores bank a b refs tok cell value t u result × (now ≡ refs) × (next ≡ Runs (done_or result))))
Performs bank thread a b p q refs now t u (Add tok k) next = (q ≡ p) × ((result : Result (Unit {0}) Fault) × (Adds bank a b refs tok k t u result × (now ≡ refs) × (next ≡ Runs (done_or result))))
Performs bank thread a b p q refs now t u (ReadBlob tok) next = (q ≡ p) × ((result : Result (List ℕ) Fault) × (ReadsRecord bank a b refs tok t u result × (now ≡ refs) × (next ≡ Runs (bytes_or result))))
Performs bank thread a b p q refs now t u (WriteBlob tok bytes) next = (q ≡ p) × ((result : Result (Unit {0}) Fault) × (StoresRecord bank a b refs tok bytes t u result × (now ≡ refs) × (next ≡ Runs (done_or result))))
Performs bank thread a b p q refs now t u (Send msg to call flags) next = (b ≡ a) × (now ≡ refs) × ((result : Result (Unit {0}) Fault) × (SendsMail (sending thread msg to call flags false) p q t u result × (next ≡ Runs (done_or result))))
Performs bank thread a b p q refs now t u (Do msg to call) next = (now ≡ refs) × DoesMessage (sending thread msg to call plain_flags true) p q a b refs t u next
Performs bank thread a b p q refs now t u (Reply msg error outcome) next = (b ≡ a) × (now ≡ refs) × ((result : Result (Unit {0}) Fault) × (RepliesMail thread msg error outcome p q t u result × (next ≡ Runs (done_or result))))
Performs bank thread a b p q refs now t u (Abort msg) next = (b ≡ a) × (now ≡ refs) × ((result : Result (Unit {0}) Fault) × (AbortsMail thread msg p q t u result × (next ≡ Runs (done_or result))))
Performs bank thread a b p q refs now t u (IsAborted msg) next = (b ≡ a) × (now ≡ refs) × (u ≡ t) × ((result : Result Bool Fault) × (HearsMail thread msg p q result × (next ≡ Runs (bit_or result))))
Performs bank thread a b p q refs now t u (DropMsg msg) next = (b ≡ a) × (now ≡ refs) × ((result : Result Rec Fault) × (DropsMail thread msg p q t u result × (next ≡ Runs (dropped_or msg result))))
Performs bank thread a b p q refs now t u GetPort next = (b ≡ a) × (now ≡ refs) × ((result : Result (Option Item) Fault) × (PostGets thread p q t u result × (next ≡ Runs (item_or result))))
Performs bank thread a b p q refs now t u WaitPort next = (now ≡ refs) × WaitsPort thread p q a b refs t u next
Performs bank thread a b p q refs now t u Yield next = (q ≡ p) × (now ≡ refs) × GivesUp a b refs (length refs) t u (Readies Done) next
Performs bank thread a b p q refs now t u Exit next = (q ≡ p) × (now ≡ refs) × GivesUp a b refs (length refs) t u Exits next
Performs bank thread a b p q refs now t u (Fail number) next = (q ≡ p) × (now ≡ refs) × GivesUp a b refs (length refs) t u (Faults Assertion) next

-- the caller's conditions of an ask: the processor's seat at the bank is ready for so many events of the thread's list, and its ports are
-- of this book and this processor, and have the thread (own)
pub record MayPerform (bank : BankId) (book : TableId) (thread : ℕ) (s : CpuSeat) (post : Post) (refs : List Ref) (trace : Vec Event Global) (events : ℕ) : Type 0 where
  pub ready : IsReady bank s refs trace events
  pub of_book : post.seat.table ≡ book
  pub exists : thread < post.threads
  pub mine : desk_cpu post.seat ≡ s.cpu

-- how an ask leaves what it was performed on: a thread that goes on holds exactly its list, and else nothing is held; the tokens of the
-- list exist as before; the ports are the same ones; a reply that is awaited is to a message that there is; and an answer that was kept
-- before stays, where none comes now (own)
pub record EndsInOrder (b : CpuSeat) (tokens : ℕ) (refs now : List Ref) (p q : Post) (last last' : Answer) (result : Next AnswerKept) : Type 0 where
  pub held : HoldsAfter (next_with result last') (holding b) now
  pub there : All (λ r. r.tok.0 < tokens) refs → All (λ r. r.tok.0 < tokens) now
  pub same : IsSamePost p q
  pub named : (m : MsgId) → next_with result last' ≡ AwaitsReply m → m.0 < messages_of q.seat
  pub kept : KeepsAnswer result last last'
