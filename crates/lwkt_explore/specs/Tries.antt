-- How much a search or random orders tried (own).
use Rattle.std.specs.Prelude.{ℕ, ◌≤◌, max}
use Rattle.lwkt_explore.specs.declared.searches.Tried.{Tried}
use Rattle.lwkt_explore.specs.declared.searches.Tried.TheVariants.{States, Orders}

-- so many states were kept: the opening at least, and no more than this bound, unless the opening alone is
abbrev pub HasTriedStates : ℕ → Tried → Type 0
HasTriedStates bound (States count) = (1 ≤ count) × (count ≤ max 1 bound)
HasTriedStates bound (Orders count) = ⊥

-- so many random orders were made, at most as many as this
abbrev pub HasTriedOrders : ℕ → Tried → Type 0
HasTriedOrders most (States count) = ⊥
HasTriedOrders most (Orders count) = count ≤ most
