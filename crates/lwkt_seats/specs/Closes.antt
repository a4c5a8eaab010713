-- The close of a bank (own).
use Rattle.std.specs.Prelude.{◌≡◌, ◌≢◌, ℕ, ◌<◌, ◌≤◌, List, [], ◌∷◌, length, All, None, Some, slice_get, slice_index_or, vec_capacity}
use Rattle.std.specs.Arc.{arc_value}
use Rattle.lwkt_base.specs.declared.limits.TheConstants.{CELL_LIMIT, CPU_LIMIT}
use Rattle.lwkt_base.specs.Holding.{holds_nothing}
use Rattle.lwkt_base.specs.Law.{Obeys}
use Rattle.lwkt_core.specs.Tokens.{IsShort, length_of}
use Rattle.lwkt_bank.specs.declared.banks.Bank.{Bank}
use Rattle.lwkt_bank.specs.declared.seats.CpuSeat.{CpuSeat}
use Rattle.lwkt_bank.specs.declared.closed.Closed.{Closed}
use Rattle.lwkt_bank.specs.Seats.{id_of, cpus_of, tokens_of, plan_of, holding}
use Rattle.lwkt_bank.specs.Closing.{IsReady, IsRoomFor}
use Rattle.lwkt_bank.specs.Gathered.{IsClosed}
use Rattle.lwkt_seats.specs.declared.taken.Taken.{Taken}
use Rattle.lwkt_seats.specs.declared.desks.Desk.{Desk}
use Rattle.lwkt_seats.specs.declared.endings.Ending.{Ending}
use Rattle.lwkt_seats.specs.Seated.{IsSeated}
use Rattle.lwkt_seats.specs.Desks.{seats_of, bank_at, IsSeatAt}

-- this is the seat of a number, out of its slot
pub record HasOut (desk : Desk) (number : ℕ) (x : Taken) : Type 0 where
  pub there : number < seats_of desk
  pub table : x.hand.table_id ≡ desk.places.shared.table_id
  pub right : x.hand.me ≡ (desk.places.shared.key, (number, None) ∷ [])
  pub seated : IsSeated (bank_at desk) number x.sitter.value

-- and it holds nothing; so do these, from the first place on
abbrev pub IsFreeAt : Desk → ℕ → Taken → Type 0
IsFreeAt desk number x = HasOut desk number x × (holding x.sitter.value.seat ≡ holds_nothing)

abbrev pub AreFree : Desk → List Taken → Type 0
AreFree desk sitters = (number : ℕ) (x : Taken) → slice_get sitters number ≡ Some x → IsFreeAt desk number x

-- a share of the desk's bank, all its seats as they were taken from their places, and room for them and for the close
pub record IsEndingWith (desk : Desk) (e : Ending) : Type 0 where
  pub is_bank : arc_value e.bank ≡ bank_at desk
  pub free : AreFree desk e.sitters.items
  pub all : length e.sitters.items ≡ seats_of desk
  pub no_seats : e.seats.items ≡ []
  pub seats : seats_of desk ≤ vec_capacity e.seats
  pub room : IsRoomFor (id_of (bank_at desk)) (cpus_of (bank_at desk)) e.room

-- a seat of the desk holds a token
abbrev pub SomeHolds : Desk → Type 0
SomeHolds desk = (number : ℕ) × ((s : CpuSeat) × (IsSeatAt desk number s × (holding s ≢ holds_nothing)))

-- the bank has more tokens than there is room for
abbrev pub IsWide : Desk → ℕ → Type 0
IsWide desk room = room < tokens_of (id_of (bank_at desk))

-- the closing values of a token fit what C gets of it
abbrev pub IsSized : Closed → Type 0
IsSized closed = (tok : ℕ) → (length (slice_index_or closed.rows.items tok []) ≤ CELL_LIMIT) × (length (slice_index_or closed.tallies.items tok []) ≤ CPU_LIMIT) × IsShort (slice_index_or closed.blobs.items tok None)

-- each row, with its record, obeys the law of its token
abbrev pub RowsObeyLaws : Bank → Closed → Type 0
RowsObeyLaws bank closed = (tok : ℕ) → tok < tokens_of (id_of bank) → Obeys (plan_of (id_of bank) tok).law (plan_of (id_of bank) tok).param (slice_index_or closed.rows.items tok []) (length_of (slice_index_or closed.blobs.items tok None))

-- the closing values of the desk's bank with its seats, one of each place, which held nothing; there is room for them
pub record ClosesDesk (desk : Desk) (room : ℕ) (closed : Closed) : Type 0 where
  pub seats : List CpuSeat
  pub as_many : length seats ≡ seats_of desk
  pub seated : (number : ℕ) (s : CpuSeat) → slice_get seats number ≡ Some s → IsSeatAt desk number s
  pub ready : All (IsReady (id_of (bank_at desk))) seats
  pub is_closed : IsClosed (id_of (bank_at desk)) (cpus_of (bank_at desk)) seats closed
  pub lawful : RowsObeyLaws (bank_at desk) closed
  pub sized : IsSized closed
  pub fits : tokens_of (id_of (bank_at desk)) ≤ room
