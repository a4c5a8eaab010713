use Rattle.std.specs.Prelude.{◌≡◌, ℕ, ◌+◌, ◌-◌, ◌<◌, ◌≤◌, List, sum_by}
use mathlib.Core.Option.{some}
use lib.ListN.{get_elem?}
use Rattle.lwkt_base.specs.declared.names.CpuId.{CpuId}
use Rattle.lwkt_table.specs.declared.seats.SeatKind.{SeatKind}
use Rattle.lwkt_table.specs.declared.seats.SeatKind.TheVariants.{Clerk, Of, Spent}

-- a number over a column of views: the sum of what each has
abbrev pub total : {A : Type 0} → (A → ℕ) → List A → ℕ
total f views = sum_by f views

-- how many of so many seats a view stands for: the clerk for those not made yet and those taken back
abbrev pub weight : ℕ → SeatKind → ℕ
weight cpus (Clerk made back) = (cpus - made) + back
weight cpus (Of cpu) = 1
weight cpus Spent = 0

-- the clerk has made one seat more, or taken one more back
abbrev pub after_made : SeatKind → SeatKind
after_made (Clerk made back) = Clerk (made + 1) back
after_made (Of cpu) = Of cpu
after_made Spent = Spent

abbrev pub after_back : SeatKind → SeatKind
after_back (Clerk made back) = Clerk made (back + 1)
after_back (Of cpu) = Of cpu
after_back Spent = Spent

-- the next seat that the clerk makes
abbrev pub next_seat : SeatKind → SeatKind
next_seat (Clerk made back) = Of (record { 0 = made })
next_seat (Of cpu) = Spent
next_seat Spent = Spent

-- there is one clerk and one seat for each processor made, and the views stand for all seats together (own)
pub record AreSeated (cpus : ℕ) (kinds : List SeatKind) : Type 0 where
  pub desk : ℕ
  pub made : ℕ
  pub back : ℕ
  pub clerk : get_elem? kinds desk ≡ some (Clerk made back)
  pub one_clerk : (j m b : ℕ) → get_elem? kinds j ≡ some (Clerk m b) → j ≡ desk
  pub within : made ≤ cpus
  pub below : (j : ℕ) (cpu : CpuId) → get_elem? kinds j ≡ some (Of cpu) → cpu.0 < made
  pub one_seat : (j k : ℕ) (cpu : CpuId) → get_elem? kinds j ≡ some (Of cpu) → get_elem? kinds k ≡ some (Of cpu) → j ≡ k
  pub all_seats : total (weight cpus) kinds ≡ cpus
