use Rattle.std.specs.Prelude.{◌≡◌, ℕ, true, false}
use Rattle.lwkt_base.specs.Holding.{is_held}
use Rattle.lwkt_bank.specs.declared.seats.CpuSeat.{CpuSeat}
use Rattle.lwkt_bank.specs.Seats.{holding}
use Rattle.lwkt_hold.specs.Rows.{row, first_row, blob, first_blob, SameRow}

-- what taking references does to rows and records: a token that was held keeps its own, and of one that is held from now on
-- they are the first ones
pub record TakesRows (old new : CpuSeat) : Type 0 where
  pub kept : (tok : ℕ) → is_held (holding old tok) ≡ true → SameRow old new tok
  pub begun : (tok : ℕ) → is_held (holding old tok) ≡ false → is_held (holding new tok) ≡ true → row new tok ≡ first_row new tok
  pub records : (tok : ℕ) → is_held (holding old tok) ≡ false → is_held (holding new tok) ≡ true → blob new tok ≡ first_blob new tok
