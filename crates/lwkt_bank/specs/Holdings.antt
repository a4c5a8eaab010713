use Rattle.std.specs.Prelude.{◌≡◌, ℕ, ◌+◌, ◌<◌, List, Bool}
use Rattle.lwkt_base.specs.declared.names.Mode.{Mode}
use Rattle.lwkt_base.specs.declared.names.Mode.TheVariants.{Shared}
use Rattle.lwkt_base.specs.declared.holdings.Held.TheVariants.{Nothing}
use Rattle.lwkt_base.specs.Holding.{Holding, holds_nothing, added, removed}
use Rattle.lwkt_table.specs.declared.seats.Deed.{Deed}
use Rattle.lwkt_bank.specs.declared.views.TokenEntry.{TokenEntry}
use Rattle.lwkt_bank.specs.declared.seats.CpuSeat.{CpuSeat}
use Rattle.lwkt_bank.specs.declared.answers.Given.{Given}
use Rattle.lwkt_bank.specs.Views.{more, count_from}
use Rattle.lwkt_bank.specs.Deeds.{adds_one}
use Rattle.lwkt_bank.specs.Seats.{holding, entry, Changes, Took, Stepped, Gave}

-- a try that took adds one reference in its mode
abbrev pub TakingAdds : Type 0
TakingAdds = (s s' : CpuSeat) (tok generation : ℕ) (mode : Mode) (alone : Bool) → holding s tok ≡ Nothing → Took s s' tok mode alone generation → holding s' ≡ added (holding s) tok mode

-- a further reference is one more
abbrev pub AgainAdds : Type 0
AgainAdds = (s s' : CpuSeat) (tok : ℕ) → Stepped s s' tok (more (entry s tok)) adds_one → holding s' ≡ added (holding s) tok Shared

-- giving back is one less
abbrev pub GivingRemoves : Type 0
GivingRemoves = (s s' : CpuSeat) (tok : ℕ) (given : Given) → Gave s s' tok given → holding s' ≡ removed (holding s) tok

-- a call that keeps what is held of its token keeps what is held
abbrev pub OthersKeep : Type 0
OthersKeep = (s s' : CpuSeat) (tok : ℕ) (e : TokenEntry) (deeds : List Deed) → Changes s s' tok e deeds → e.held ≡ holding s tok → holding s' ≡ holding s

-- who holds nothing has no reference, and one reference more of a token that exists is one more
abbrev pub NothingCounts : Type 0
NothingCounts = (tokens : ℕ) → count_from 0 tokens holds_nothing ≡ 0

abbrev pub AddedCounts : Type 0
AddedCounts = (tokens tok : ℕ) (h : Holding) (mode : Mode) → tok < tokens → count_from 0 tokens (added h tok mode) ≡ count_from 0 tokens h + 1
