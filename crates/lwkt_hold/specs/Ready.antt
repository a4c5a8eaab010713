use Rattle.std.specs.Prelude.{◌≡◌, ℕ, ◌+◌, ◌≤◌, List, Vec, vec_len, vec_capacity}
use Rattle.std.specs.declared.alloc.Global.{Global}
use Rattle.lwkt_base.specs.declared.names.Ref.{Ref}
use Rattle.lwkt_base.specs.Holding.{holding_of}
use Rattle.lwkt_core.specs.declared.events.Event.{Event}
use Rattle.lwkt_bank.specs.declared.seats.CpuSeat.{CpuSeat}
use Rattle.lwkt_bank.specs.Seats.{BankId, bank_of, holding}

-- the caller's conditions of a call on a list that is held: the seat is one of this bank, it holds exactly what the list says, and
-- the trace has room for so many events (own)
pub record IsReady (bank : BankId) (s : CpuSeat) (refs : List Ref) (trace : Vec Event Global) (events : ℕ) : Type 0 where
  pub of_bank : bank_of s ≡ bank
  pub held : holding s ≡ holding_of refs
  pub room : vec_len trace + events ≤ vec_capacity trace
