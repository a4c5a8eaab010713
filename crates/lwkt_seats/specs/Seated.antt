-- A seat that rests is of the bank of its place and of the processor of its number (own).
use Rattle.std.specs.Prelude.{◌≡◌, ℕ}
use Rattle.std.specs.Arc.{arc_value}
use Rattle.lwkt_bank.specs.declared.banks.Bank.{Bank}
use Rattle.lwkt_seats.specs.declared.sitters.Sitter.{Sitter}
use Rattle.lwkt_seats.specs.Brief.{KeepsBankAndCpu}

abbrev pub IsSeated : Bank → ℕ → Sitter → Type 0
IsSeated bank number s = (arc_value s.bank ≡ bank) × (s.seat.cpu.0 ≡ number)

-- a call leaves it so
pub record StaysSeated (old new : Sitter) : Type 0 where
  pub bank : arc_value new.bank ≡ arc_value old.bank
  pub seat : KeepsBankAndCpu old.seat new.seat
