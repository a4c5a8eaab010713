use Rattle.std.proofs.Common.{ℕ, ◌≡◌, ◌<◌, ◌≤◌, ◌⊎◌, get_or}
use Rattle.lwkt_base.proofs.laws.is_non_decreasing.Given as goal

-- the cells so far don't fall, and the last of them is kept
abbrev pub invariant-loop-cell : goal.invariant-loop-cell
invariant-loop-cell l = ((i j : ℕ) → i ≤ j → j < l.cell-index → get_or l.cells i 0 ≤ get_or l.cells j 0) × ((i : ℕ) → i < l.cell-index → get_or l.cells i 0 ≤ l.last) × (l.last ≡ 0 ⊎ ((i : ℕ) × (i < l.cell-index) × (get_or l.cells i 0 ≡ l.last)))
