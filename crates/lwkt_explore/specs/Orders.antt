-- Orders of a script's turns (own).
use Rattle.std.specs.Prelude.{ℕ, ◌<◌, ◌≤◌, List, All, length}

-- an order names processors below this number alone, and has at most so many turns
pub record IsOrder (cpus turns : ℕ) (order : List ℕ) : Type 0 where
  pub there : All (λ cpu. cpu < cpus) order
  pub short : length order ≤ turns
