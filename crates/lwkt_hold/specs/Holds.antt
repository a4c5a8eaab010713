use Rattle.std.specs.Prelude.{◌≡◌, List}
use Rattle.lwkt_base.specs.declared.names.Ref.{Ref}
use Rattle.lwkt_base.specs.Holding.{holding_of, holds_nothing}
use Rattle.lwkt_bank.specs.declared.seats.CpuSeat.{CpuSeat}
use Rattle.lwkt_bank.specs.Seats.{holding}
use Rattle.lwkt_hold.specs.declared.holds.Hold.{Hold}
use Rattle.lwkt_hold.specs.declared.answers.Resumed.{Resumed}
use Rattle.lwkt_hold.specs.declared.answers.Resumed.TheVariants.{All, Passed}
use Rattle.lwkt_hold.specs.Misses.{Misses}

-- the seat under a hold
abbrev pub seat_of : Hold → CpuSeat
seat_of hold = hold.seat

-- what taking a whole list says: all of it is held, or nothing is and the reference of a place was missed (token(9))
abbrev pub Resumes : CpuSeat → CpuSeat → List Ref → Resumed → Type 0
Resumes old new refs All = holding new ≡ holding_of refs
Resumes old new refs (Passed at why) = (holding new ≡ holds_nothing) × Misses old new refs at why
