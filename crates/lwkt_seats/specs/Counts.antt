-- How many references a seat has after a call, that had so many before, by the call's answer.
use Rattle.std.specs.Prelude.{ℕ, ◌+◌, ◌-◌}
use Rattle.lwkt_seats.specs.declared.answers.Asked.{Asked}
use Rattle.lwkt_seats.specs.declared.answers.Asked.TheVariants as asked
use Rattle.lwkt_seats.specs.declared.answers.Furthered.{Furthered}
use Rattle.lwkt_seats.specs.declared.answers.Furthered.TheVariants as furthered
use Rattle.lwkt_seats.specs.declared.answers.GaveBack.{GaveBack}
use Rattle.lwkt_seats.specs.declared.answers.GaveBack.TheVariants as gave

abbrev pub count_asked : Asked → ℕ → ℕ
count_asked asked.Taken count = count + 1
count_asked asked.Further count = count + 1
count_asked asked.NoToken count = count
count_asked asked.ListFull count = count
count_asked asked.Upgrade count = count
count_asked asked.Busy count = count
count_asked asked.Again count = count
count_asked asked.Worn count = count

abbrev pub count_furthered : Furthered → ℕ → ℕ
count_furthered furthered.Further count = count + 1
count_furthered furthered.NoToken count = count
count_furthered furthered.NotHeld count = count
count_furthered furthered.ListFull count = count

abbrev pub count_gave : GaveBack → ℕ → ℕ
count_gave gave.Given count = count - 1
count_gave gave.NoToken count = count
count_gave gave.NotHeld count = count
count_gave gave.Broken count = count
