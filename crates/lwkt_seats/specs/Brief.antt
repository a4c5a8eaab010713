-- The records that a seat knows are short, and it stays that of its bank and processor (own).
use Rattle.std.specs.Prelude.{◌≡◌, ℕ}
use Rattle.lwkt_core.specs.Tokens.{IsShort}
use Rattle.lwkt_bank.specs.declared.seats.CpuSeat.{CpuSeat}
use Rattle.lwkt_bank.specs.declared.views.TokenEntry.{TokenEntry}
use Rattle.lwkt_bank.specs.Seats.{bank_of, entry}

-- record and first record of a token, as far as a seat knows them, have at most 64 bytes; and so have those of every token
abbrev pub IsBrief : TokenEntry → Type 0
IsBrief e = IsShort e.blob × IsShort e.first_blob

abbrev pub AreBrief : CpuSeat → Type 0
AreBrief s = (tok : ℕ) → IsBrief (entry s tok)

-- a call leaves a seat that of its bank and of its processor
abbrev pub KeepsBankAndCpu : CpuSeat → CpuSeat → Type 0
KeepsBankAndCpu old new = (bank_of new ≡ bank_of old) × (new.cpu ≡ old.cpu)
