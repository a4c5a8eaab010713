use Rattle.std.specs.Prelude.{◌≡◌, ℕ, List}
use Rattle.atomic_table.specs.declared.shared.Seat.{Seat}
use Rattle.lwkt_table.specs.declared.seats.SeatKind.TheVariants.{Of}
use Rattle.lwkt_bank.specs.declared.views.View.{View}
use Rattle.lwkt_bank.specs.declared.seats.CpuSeat.{CpuSeat}
use Rattle.lwkt_bank.specs.Views.{at}
use Rattle.lwkt_bank.specs.Hands.{AreHands}
use Rattle.lwkt_bank.specs.Seats.{bank_of, entry, past_of}

-- the kit's seat is that of a seat of the bank: it is at the bank's table, it is the processor's, its view is what the seat
-- knows, holds and has done, and the slots that are out with it are the records in hand
pub record IsSeatOf (s : CpuSeat) (seat : Seat (List ℕ) View) : Type 0 where
  pub table : seat.table_id ≡ (bank_of s).table
  pub plans : seat.me.0.plans ≡ (bank_of s).plans
  pub kind : seat.me.0.kind ≡ Of s.cpu
  pub entries : (tok : ℕ) → at seat.me.0.tokens tok ≡ entry s tok
  pub past : seat.me.0.past ≡ past_of s
  pub hands : AreHands seat.me.0 seat.me.1
