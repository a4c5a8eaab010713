-- Seats and lanes of processors that are still to be made (own).
use Rattle.std.specs.Prelude.{◌≡◌, ℕ, ◌+◌, List, length, Some, slice_get}
use Rattle.lwkt_bank.specs.declared.seats.CpuSeat.{CpuSeat}
use Rattle.lwkt_bank.specs.Seats.{BankId}
use Rattle.lwkt_msg.specs.Desks.{Desk, Shelf, IsOpened}
use Rattle.lwkt_lane.specs.Crossed.{AreLong, IsLeft}
use Rattle.lwkt_machine.specs.Opened.{IsSeat}
use Rattle.lwkt_machine.specs.declared.seatings.Rest.{Rest}

-- seats of the bank for the processors from this number on, in order
abbrev pub SeatsFrom : BankId → ℕ → List CpuSeat → Type 0
SeatsFrom bank first seats = (j : ℕ) (s : CpuSeat) → slice_get seats j ≡ Some s → IsSeat bank (first + j) s

-- the same of seats of the book
abbrev pub DesksFrom : Shelf → ℕ → List Desk → Type 0
DesksFrom book first desks = (j : ℕ) (d : Desk) → slice_get desks j ≡ Some d → IsOpened (first + j) book d

-- what is left for the processors from this number on: a seat at the bank, one at the book, and the lanes' ends, for each, one each
-- way for each processor of the book
pub record IsRest (bank : BankId) (book : Shelf) (first : ℕ) (rest : Rest) : Type 0 where
  pub seats : SeatsFrom bank first rest.seats.items
  pub desks : DesksFrom book first rest.mails.items
  pub mails_are : length rest.mails.items ≡ length rest.seats.items
  pub outs_are : length rest.outs.items ≡ length rest.seats.items
  pub ins_are : length rest.ins.items ≡ length rest.seats.items
  pub outs_long : AreLong book.cpus rest.outs.items
  pub ins_long : AreLong book.cpus rest.ins.items

-- the ends of lanes that are left when those of the first so many processors are gone
pub record AreLeft (count : ℕ) (all left : Rest) : Type 0 where
  pub outs : IsLeft count all.outs.items left.outs.items
  pub ins : IsLeft count all.ins.items left.ins.items
