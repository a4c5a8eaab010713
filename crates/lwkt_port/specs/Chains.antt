use Rattle.std.specs.Prelude.{◌≡◌, ℕ}
use Rattle.std.proofs.Common.{zero, suc}

-- the steps of so many numbers, rising, lead from one to the other
unfoldable pub Chain : (A : Type 0) → (ℕ → A → A → Type 0) → ℕ → A → A → Type 0
Chain A Step zero x y = y ≡ x
Chain A Step (suc k) x y = (z : A) × Chain A Step k x z × Step k z y
