-- What a call on a seat answers (own).
use Rattle.std.specs.Prelude.{◌≡◌, ◌⊎◌, ℕ, ◌<◌, ◌≤◌, Option, MatchOption}
use Rattle.std.specs.Arc.{arc_value}
use Rattle.atomic_table.specs.declared.shared.Seat.{Seat}
use Rattle.lwkt_bank.specs.declared.banks.Bank.{Bank}
use Rattle.lwkt_bank.specs.declared.seats.CpuSeat.{CpuSeat}
use Rattle.lwkt_bank.specs.Seats.{id_of, bank_of}
use Rattle.lwkt_seats.specs.declared.desks.Desk.{Desk}
use Rattle.lwkt_seats.specs.Places.{Share, Slot, HasTaken}

-- how many seats a desk has, and the bank that they are of
abbrev pub seats_of : Desk → ℕ
seats_of desk = desk.places.shared.table_id.slots

abbrev pub bank_at : Desk → Bank
bank_at desk = arc_value desk.places.shared.key

-- who has taken the seat of a number from its place
abbrev pub HasSeat : Desk → ℕ → Seat Slot Share → Type 0
HasSeat desk number hand = (number < seats_of desk) × (hand.table_id ≡ desk.places.shared.table_id) × HasTaken desk.places.shared.key number hand.me

-- the seat of a number: of the desk's bank, and of the processor of that number
abbrev pub IsSeatAt : Desk → ℕ → CpuSeat → Type 0
IsSeatAt desk number s = (number < seats_of desk) × (bank_of s ≡ id_of (bank_at desk)) × (s.cpu.0 ≡ number)

-- there is no seat of this number, 30; or another call has it, 50, the bank is closed, 52, or the seat was given up as lost, 54
abbrev pub IsAbsent : Desk → ℕ → ℕ → Type 0
IsAbsent desk number answer =
    ((answer ≡ 30) × (seats_of desk ≤ number))
    ⊎ (((answer ≡ 50) ⊎ ((answer ≡ 52) ⊎ (answer ≡ 54))) × (number < seats_of desk))

-- a bank of zeros, 52; else the seat wasn't there; or it was so when the call came, and is so when it is over, and the answer says
-- what came of it
abbrev pub IsDeskAnswer : Option Desk → ℕ → (CpuSeat → CpuSeat → ℕ → Type 0) → ℕ → Type 0
IsDeskAnswer bank number Does answer = MatchOption bank (answer ≡ 52) (λ desk.
    IsAbsent desk number answer
    ⊎ ((old : CpuSeat) × ((new : CpuSeat) × (IsSeatAt desk number old × IsSeatAt desk number new × Does old new answer))))

-- a seat that is given up: there is none, 30; else 0, or why not
abbrev pub IsAbandonAnswer : Desk → ℕ → ℕ → Type 0
IsAbandonAnswer desk number answer =
    ((answer ≡ 30) × (seats_of desk ≤ number))
    ⊎ (((answer ≡ 0) ⊎ ((answer ≡ 52) ⊎ ((answer ≡ 54) ⊎ (answer ≡ 55)))) × (number < seats_of desk))
