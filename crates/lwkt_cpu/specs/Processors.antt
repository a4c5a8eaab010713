use Rattle.std.specs.Prelude.{◌≡◌, ℕ, ◌<◌, ◌≤◌, ◌==◌, if◌then◌else◌, Bool, true, false, List, [], length, All, IfSome, IsSomeAnd, Option, Some, None, slice_get}
use Rattle.lwkt_base.specs.declared.threads.ThreadState.{ThreadState}
use Rattle.lwkt_base.specs.declared.threads.ThreadState.TheVariants.{Ready, Waiting, Running, Exited as HasExited, Faulted as WasFaulted}
use Rattle.lwkt_base.specs.Refs.{IsLawfulList}
use Rattle.lwkt_base.specs.Holding.{holding_of, holds_nothing}
use Rattle.lwkt_bank.specs.declared.seats.CpuSeat.{CpuSeat}
use Rattle.lwkt_bank.specs.Seats.{bank_of, tokens_of, holding}
use Rattle.lwkt_hold.specs.Misses.{IsRefusing}
use Rattle.lwkt_base.specs.declared.names.MsgId.{MsgId}
use Rattle.lwkt_base.specs.declared.limits.TheConstants.{THREAD_LIMIT}
use Rattle.lwkt_msg.specs.Desks.{desk_cpu, messages_of}
use Rattle.lwkt_port.specs.Posts.{Post}
use Rattle.lwkt_cpu.specs.declared.phases.Phase.{Phase}
use Rattle.lwkt_cpu.specs.declared.phases.Phase.TheVariants.{Live, AwaitsItem, AwaitsReply, Exited, Faulted}
use Rattle.lwkt_cpu.specs.declared.threads.Thread.{Thread}

-- a processor: its seat, its ports, the bodies and the threads by number, the one that runs if any does, and where the search for the next
-- begins
pub record Processor (B : Type 0) : Type 0 where
  pub seat : CpuSeat
  pub post : Post
  pub bodies : List B
  pub threads : List Thread
  pub running : Option ℕ
  pub cursor : ℕ

-- whether a thread has ended
abbrev pub is_over : Phase → Bool
is_over Live = false
is_over AwaitsItem = false
is_over (AwaitsReply msg) = false
is_over Exited = true
is_over (Faulted fault) = true

-- what a thread is doing, by whether it runs
abbrev pub thread_state : Bool → Phase → ThreadState
thread_state runs Live = if runs then Running else Ready
thread_state runs AwaitsItem = Waiting
thread_state runs (AwaitsReply msg) = Waiting
thread_state runs Exited = HasExited
thread_state runs (Faulted fault) = WasFaulted fault

abbrev pub is_running : Option ℕ → ℕ → Bool
is_running None k = false
is_running (Some i) k = i == k

-- a word that is kept as the one that refused a thread's list is one that `decide` refuses for the reference of that place
abbrev pub KeepsBusyWord : Thread → Type 0
KeepsBusyWord t = IfSome t.busy (λ r. IsRefusing t.list r.at r.word)

-- a thread between two turns: its list is lawful, its list's tokens exist, one that has ended has an empty list, and a word that
-- is kept of a refusal refuses its list
pub record IsSettled (s : CpuSeat) (t : Thread) : Type 0 where
  pub lawful : IsLawfulList t.list
  pub there : All (λ r. r.tok.0 < tokens_of (bank_of s)) t.list
  pub ended : is_over t.phase ≡ true → t.list ≡ []
  pub busy : KeepsBusyWord t

-- a seat holds the list of the thread that runs, in its modes, or nothing if none runs
abbrev pub HoldsFor : CpuSeat → List Thread → Option ℕ → Type 0
HoldsFor s threads None = holding s ≡ holds_nothing
HoldsFor s threads (Some k) = IsSomeAnd (slice_get threads k) (λ t. (t.phase ≡ Live) × (holding s ≡ holding_of t.list))

-- a thread that waits for a reply waits for that to a message that is there
abbrev pub Awaits : ℕ → Thread → Type 0
Awaits messages t = (msg : MsgId) → t.phase ≡ AwaitsReply msg → msg.0 < messages

abbrev pub AllAwait : ℕ → List Thread → Type 0
AllAwait messages threads = (k : ℕ) (t : Thread) → slice_get threads k ≡ Some t → Awaits messages t

-- a processor between two turns (own): at most one thread runs, every list is lawful, and the holding is that of the running
-- thread's list, or nothing
pub record IsAtRest {B : Type 0} (p : Processor B) : Type 0 where
  pub few : length p.threads ≤ THREAD_LIMIT
  pub as_many : length p.bodies ≡ length p.threads
  pub mine : desk_cpu p.post.seat ≡ p.seat.cpu
  pub ported : p.post.threads ≡ length p.threads
  pub awaits : AllAwait (messages_of p.post.seat) p.threads
  pub within : p.cursor ≤ length p.threads
  pub settled : (k : ℕ) (t : Thread) → slice_get p.threads k ≡ Some t → IsSettled p.seat t
  pub held : HoldsFor p.seat p.threads p.running

-- every thread has ended
abbrev pub AllOver : List Thread → Type 0
AllOver threads = (k : ℕ) (t : Thread) → slice_get threads k ≡ Some t → is_over t.phase ≡ true

-- the tokens of each thread's list exist
abbrev pub AreThere : CpuSeat → List Thread → Type 0
AreThere s threads = (k : ℕ) (t : Thread) → slice_get threads k ≡ Some t → All (λ r. r.tok.0 < tokens_of (bank_of s)) t.list

-- what is kept of each thread's refusal refuses its list
abbrev pub AllKeepBusyWords : List Thread → Type 0
AllKeepBusyWords threads = (k : ℕ) (t : Thread) → slice_get threads k ≡ Some t → KeepsBusyWord t

abbrev pub processor_of : {B : Type 0} → CpuSeat → Post → List B → List Thread → Option ℕ → ℕ → Processor B
processor_of seat post bodies threads running cursor = record { seat = seat; post = post; bodies = bodies; threads = threads; running = running; cursor = cursor }
