use Rattle.std.specs.Prelude.{◌≡◌, ℕ, List, [], ◌++◌, take, Vec}
use Rattle.std.specs.declared.alloc.Global.{Global}
use Rattle.lwkt_base.specs.declared.asks.Answer.{Answer}
use Rattle.lwkt_base.specs.declared.names.Ref.{Ref}
use Rattle.lwkt_core.specs.declared.events.Event.{Event}
use Rattle.lwkt_bank.specs.declared.seats.CpuSeat.{CpuSeat}
use Rattle.lwkt_hold.specs.declared.answers.Blocked.{Blocked}
use Rattle.lwkt_hold.specs.Rows.{GivenUp, Blocks}
use Rattle.lwkt_hold.specs.Givings.{ReleasesAll}
use Rattle.lwkt_cpu.specs.declared.nexts.Next.{Next}
use Rattle.lwkt_cpu.specs.Nexts.{unless_broken}

-- what giving up the first few references of a list says: `Hold::block`; and what comes next for the thread
pub record GivesUp (a b : CpuSeat) (refs : List Ref) (held : ℕ) (t u : Vec Event Global) (meant next : Next Answer) : Type 0 where
  pub blocked : Blocked
  pub blocks : Blocks a refs blocked
  pub rows : GivenUp a b
  pub done : List Event
  pub traced : u.items ≡ t.items ++ done
  pub releases : ReleasesAll a [] (take held refs) done
  pub next_is : next ≡ unless_broken meant blocked
