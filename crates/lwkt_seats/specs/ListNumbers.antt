-- The numbers of answers to calls on lists.
use Rattle.std.specs.Prelude.{◌≡◌, ◌⊎◌, ℕ, Option, None, Some}
use Rattle.lwkt_base.specs.declared.names.TokId.{TokId}
use Rattle.lwkt_seats.specs.declared.list_answers.Unlisted.{Unlisted}
use Rattle.lwkt_seats.specs.declared.list_answers.Unlisted.TheVariants.{NoToken, NoMode, ListFull, Upgrade}
use Rattle.lwkt_seats.specs.declared.list_answers.Missed.{Missed}
use Rattle.lwkt_seats.specs.declared.list_answers.Missed.TheVariants.{Busy, Again, Worn}
use Rattle.lwkt_seats.specs.declared.list_answers.Resumed.{Resumed}
use Rattle.lwkt_seats.specs.declared.list_answers.Resumed.TheVariants as resumed

abbrev pub unlisted_number : Unlisted → ℕ
unlisted_number NoToken = 16
unlisted_number NoMode = 39
unlisted_number ListFull = 10
unlisted_number Upgrade = 11

abbrev pub missed_number : Missed → ℕ
missed_number Busy = 23
missed_number Again = 34
missed_number Worn = 20

abbrev pub resumed_number : Resumed → ℕ
resumed_number resumed.All = 0
resumed_number resumed.Holds = 51
resumed_number (resumed.Unlisted at why) = unlisted_number why
resumed_number (resumed.Missed at why) = missed_number why

-- of giving up all, by the first token whose row and record were restored, if there is one
abbrev pub blocked_number : Option TokId → ℕ
blocked_number None = 0
blocked_number (Some tok) = 19

-- the answers to a list that name no place on it
abbrev pub NamesNoPlace : ℕ → Type 0
NamesNoPlace answer = (answer ≡ 0) ⊎ ((answer ≡ 30) ⊎ ((answer ≡ 50) ⊎ ((answer ≡ 51) ⊎ ((answer ≡ 52) ⊎ (answer ≡ 54)))))
