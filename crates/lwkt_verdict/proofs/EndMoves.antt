-- The threads of processors by number.
use Rattle.std.proofs.Common.{◌≡◌, ℕ, ◌+◌, ◌*◌, ◌/◌, ◌<◌, arith}

-- a number is that of a thread of a processor
pub slot_cpu : (cpu n : ℕ) → n < 16 → (16 * cpu + n) / 16 ≡ cpu
slot_cpu cpu n few = omega arith
