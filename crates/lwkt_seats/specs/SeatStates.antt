-- Where a seat is, by the word of its place and whether the bank is closed, and what is answered where it isn't there (own).
use Rattle.std.specs.Prelude.{◌≡◌, ◌≢◌, ◌⊎◌, ℕ, ◌==◌, Bool, true, false, if◌then◌else◌}
use Rattle.lwkt_seats.specs.declared.desks.SeatState.{SeatState}
use Rattle.lwkt_seats.specs.declared.desks.SeatState.TheVariants.{Rests, Away, Shut}

-- 0 where it rests in its place; else, unless the bank is closed, a call has it, or had it and never came back
abbrev pub seat_state : ℕ → Bool → SeatState
seat_state word closed = if word == 0 then Rests else if closed then Shut else Away

-- another call has the seat, 50; or it was given up as lost, 54
abbrev pub away_number : Bool → ℕ
away_number true = 54
away_number false = 50

-- a seat that rests isn't lost, 55; the bank is closed, 52; a seat that is away is given up, unless it was before, 54
abbrev pub abandon_number : SeatState → Bool → ℕ
abandon_number Rests before = 55
abandon_number Shut before = 52
abandon_number Away true = 54
abandon_number Away false = 0

-- a bank is freed once it is closed, or a seat of it was given up: by the word of its ending, and the seats that were
abbrev pub MayFree : ℕ → ℕ → Type 0
MayFree word lost = (word ≡ 2) ⊎ (lost ≢ 0)
