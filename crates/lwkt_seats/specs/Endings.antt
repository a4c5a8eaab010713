-- What a close needs, made at the opening (own).
use Rattle.std.specs.Prelude.{◌≡◌, ◌≤◌, [], vec_capacity}
use Rattle.std.specs.Arc.{arc_value}
use Rattle.lwkt_bank.specs.declared.banks.Bank.{Bank}
use Rattle.lwkt_bank.specs.Seats.{id_of, cpus_of}
use Rattle.lwkt_bank.specs.Closing.{IsRoomFor}
use Rattle.lwkt_seats.specs.declared.endings.Ending.{Ending}

-- a share of this bank, no seats and room for all of them, and room for its close
pub record IsEndingOf (bank : Bank) (e : Ending) : Type 0 where
  pub is_bank : arc_value e.bank ≡ bank
  pub no_sitters : e.sitters.items ≡ []
  pub sitters : cpus_of bank ≤ vec_capacity e.sitters
  pub no_seats : e.seats.items ≡ []
  pub seats : cpus_of bank ≤ vec_capacity e.seats
  pub room : IsRoomFor (id_of bank) (cpus_of bank) e.room
