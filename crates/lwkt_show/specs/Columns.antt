-- Where the columns of a picture stand (own).
use Rattle.std.specs.Prelude.{ℕ, ◌+◌, ◌-◌, ◌||◌, min, nat_le, Bool, if◌then◌else◌}
use Rattle.lwkt_show.specs.declared.columns.Column.{Column}
use Rattle.lwkt_show.specs.declared.columns.Next.{Next}
use Rattle.lwkt_show.specs.Lines.{most}

-- whether so much has room behind what stands in a band, which reaches to 1268 pixels from the left; one column always has
abbrev pub has_room : Next → ℕ → Bool
has_room next width = nat_le next.x next.left || nat_le width (1268 - next.x)

-- where a column stands that is so wide: here, or else at the left of the next band
abbrev pub with_room : Next → ℕ → Next
with_room next width = if has_room next width then next else record { left = next.left; band = min (next.band + 1) most; x = next.left }

-- where the next column stands: not before the end of this one
abbrev pub behind : Next → Column → Next
behind next column = record { left = next.left; band = column.band; x = min (column.x + column.width) most }
