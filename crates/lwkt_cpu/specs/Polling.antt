use Rattle.std.specs.Prelude.{◌≡◌, Bool, true, false, List, None, Vec, ℕ}
use Rattle.std.specs.declared.alloc.Global.{Global}
use Rattle.lwkt_base.specs.declared.names.Ref.{Ref}
use Rattle.lwkt_base.specs.declared.asks.Ask.{Ask}
use Rattle.lwkt_base.specs.declared.asks.Answer.{Answer}
use Rattle.lwkt_core.specs.declared.events.Event.{Event}
use Rattle.lwkt_bank.specs.declared.seats.CpuSeat.{CpuSeat}
use Rattle.lwkt_bank.specs.Seats.{BankId}
use Rattle.lwkt_port.specs.Posts.{Post}
use Rattle.lwkt_cpu.specs.declared.nexts.Next.{Next}
use Rattle.lwkt_cpu.specs.declared.nexts.Next.TheVariants.{Runs, Readies, AwaitsItem, AwaitsReply, Exits, Faults}
use Rattle.lwkt_cpu.specs.Table.{Performs}
use Rattle.lwkt_cpu.specs.declared.phases.Phase.TheVariants.{AwaitsItem as Awaits, AwaitsReply as AwaitsFor, Exited, Faulted}
use Rattle.lwkt_cpu.specs.declared.threads.Thread.{Thread}
use Rattle.lwkt_cpu.specs.Processors.{is_over}
use Rattle.lwkt_cpu.specs.Searches.{ended_by}
use Rattle.lwkt_cpu.specs.Ending.{ClosesIf}

-- a thread after what came next for it, and whether it goes on running
abbrev pub became : Thread → Next Answer → Thread
became t (Runs answer) = record t { last = answer }
became t (Readies answer) = record t { last = answer }
became t AwaitsItem = record t { phase = Awaits }
became t (AwaitsReply msg) = record t { phase = AwaitsFor msg }
became t Exits = ended_by Exited t
became t (Faults fault) = ended_by (Faulted fault) t

abbrev pub goes_on : Next Answer → Bool
goes_on (Runs answer) = true
goes_on (Readies answer) = false
goes_on AwaitsItem = false
goes_on (AwaitsReply msg) = false
goes_on Exits = false
goes_on (Faults fault) = false

-- a thread's body is polled once, with the answer kept for the thread, and its ask is performed; the answer to it is kept for the
-- thread's next poll, and no refusal of its list is kept any more, or the thread has ended and its port is closed
pub record Polls {B : Type 0} (polled : B → Answer → Ask → B → Type 0) (bank : BankId) (number : ℕ) (a b : CpuSeat) (p q : Post) (body next_body : B) (old new : Thread) (t u : Vec Event Global) (runs : Bool) : Type 0 where
  pub ask : Ask
  pub next : Next Answer
  pub list : List Ref
  pub mid : Post
  pub polled_once : polled body old.last ask next_body
  pub performs : Performs bank number a b p mid old.list list t u ask next
  pub becomes : new ≡ became (record old { list = list; busy = None }) next
  pub runs_on : runs ≡ goes_on next
  pub closes : ClosesIf (is_over new.phase) number mid q
