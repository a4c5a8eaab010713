use Rattle.std.specs.Prelude.{◌≡◌, ◌⊎◌, ℕ, List, length, Option, Some, None, Result, Ok, Err, Vec, slice_get, slice_set}
use Rattle.std.specs.declared.alloc.Global.{Global}
use Rattle.lwkt_base.specs.declared.asks.Item.{Item}
use Rattle.lwkt_base.specs.declared.asks.Item.TheVariants.{Answered}
use Rattle.lwkt_base.specs.declared.asks.Answer.TheVariants.{Got}
use Rattle.lwkt_base.specs.declared.faults.Fault.{Fault}
use Rattle.lwkt_base.specs.declared.names.MsgId.{MsgId}
use Rattle.lwkt_base.specs.declared.records.Rec.{Rec}
use Rattle.lwkt_core.specs.declared.events.Event.{Event}
use Rattle.lwkt_msg.specs.Desks.{desk_cpu}
use Rattle.lwkt_port.specs.Chains.{Chain}
use Rattle.lwkt_port.specs.Mails.{kept_mail_at}
use Rattle.lwkt_port.specs.Posts.{Post, IsSamePost}
use Rattle.lwkt_port.specs.Servings.{PostGets}
use Rattle.lwkt_port.specs.Intakes.{PostTakesIn}
use Rattle.lwkt_port.specs.Traced.{TracesDeeds}
use Rattle.lwkt_port.specs.Works.{Grew}
use Rattle.lwkt_cpu.specs.declared.phases.Phase.{Phase}
use Rattle.lwkt_cpu.specs.declared.phases.Phase.TheVariants.{Live, AwaitsItem, AwaitsReply, Exited, Faulted}
use Rattle.lwkt_cpu.specs.declared.threads.Thread.{Thread}
use Rattle.lwkt_cpu.specs.declared.turns.TheConstants.{TURN_NOTES}
use Rattle.lwkt_cpu.specs.Processors.{Processor}

-- a thread that waits for its port, after a look at it: an item makes it ready, with that item
abbrev pub woken_by : Result (Option Item) Fault → Thread → Thread
woken_by (Ok (Some item)) t = record t { last = Got item; phase = Live }
woken_by (Ok None) t = t
woken_by (Err fault) t = t

-- a thread that waits for a reply, after it was asked for: the reply makes it ready, with its error and result
abbrev pub replied_by : MsgId → Option Rec → Thread → Thread
replied_by msg (Some rec) t = record t { last = Got (Answered msg rec.error rec.result); phase = Live }
replied_by msg None t = t

-- the ports after the reply to a synchronous send was given
abbrev pub given : MsgId → Post → Post
given msg p = record p { mails = slice_set p.mails msg.0 (record (kept_mail_at p.mails msg.0) { done = None }) }

-- a thread is woken, by what it waits for; one that doesn't wait stays as it is (own)
abbrev pub Wakes : Phase → ℕ → Post → Post → Vec Event Global → Vec Event Global → Thread → Thread → Type 0
Wakes Live number p q t u old new = (q ≡ p) × (u ≡ t) × (new ≡ old)
Wakes AwaitsItem number p q t u old new = (came : Result (Option Item) Fault) × (PostGets number p q t u came × (new ≡ woken_by came old))
Wakes (AwaitsReply msg) number p q t u old new = (q ≡ given msg p) × (u ≡ t) × (new ≡ replied_by msg (kept_mail_at p.mails msg.0).done old)
Wakes Exited number p q t u old new = (q ≡ p) × (u ≡ t) × (new ≡ old)
Wakes (Faulted fault) number p q t u old new = (q ≡ p) × (u ≡ t) × (new ≡ old)

-- the ports, threads and trace as the threads are woken by rising number
pub record Ward : Type 0 where
  pub post : Post
  pub threads : List Thread
  pub trace : Vec Event Global

abbrev pub ward : Post → List Thread → Vec Event Global → Ward
ward post threads trace = record { post = post; threads = threads; trace = trace }

abbrev pub WakesAt : ℕ → Ward → Ward → Type 0
WakesAt number x y = (old : Thread) × ((new : Thread) × ((slice_get x.threads number ≡ Some old) × (y.threads ≡ slice_set x.threads number new) × Wakes old.phase number x.post y.post x.trace y.trace old new))

-- each thread in turn is woken
abbrev pub WakesAll : Ward → Ward → Type 0
WakesAll x y = Chain Ward WakesAt (length x.threads) x y

-- the notes that came are taken in, and then each thread that waits is looked after
pub record TakesMail {B : Type 0} (old new : Processor B) (t u : Vec Event Global) : Type 0 where
  pub post : Post
  pub v : Vec Event Global
  pub count : ℕ
  pub takes : PostTakesIn TURN_NOTES old.post post t v count
  pub wakes : WakesAll (ward post old.threads v) (ward new.post new.threads u)
  pub seat : new.seat ≡ old.seat
  pub bodies : new.bodies ≡ old.bodies
  pub running : new.running ≡ old.running
  pub cursor : new.cursor ≡ old.cursor

-- what waking does to a thread: nothing, or it is ready with its list as before, and what refused it
abbrev pub IsWoken : Thread → Thread → Type 0
IsWoken old new = (new ≡ old) ⊎ ((new.phase ≡ Live) × (new.list ≡ old.list) × (new.busy ≡ old.busy))

-- each thread was woken or not; one that can run stays as it is
abbrev pub AreWoken : List Thread → List Thread → Type 0
AreWoken olds news = (length news ≡ length olds) × ((k : ℕ) (new : Thread) → slice_get news k ≡ Some new → (old : Thread) × ((slice_get olds k ≡ Some old) × IsWoken old new × (old.phase ≡ Live → new ≡ old)))

-- a thread was looked after: it is woken by what it waits for, and one that can run stays as it is
pub record LooksAfter (number : ℕ) (p q : Post) (t u : Vec Event Global) (old new : Thread) : Type 0 where
  pub wakes : Wakes old.phase number p q t u old new
  pub woken : IsWoken old new
  pub live : old.phase ≡ Live → new ≡ old
  pub same : IsSamePost p q
  pub grew : Grew (desk_cpu p.seat) 128 t u
  pub traced : TracesDeeds p.seat q.seat t.items u.items
