use Rattle.std.proofs.Common.{◌≡◌, ℕ, List, [], ◌∷◌, ◌++◌, refl}
use Rattle.lwkt_plain.specs.Hashes.{key_of_all}

-- the key of one part more
pub key_push : {P : Type 0} (each : ℕ → P → ℕ) (key : ℕ) (parts : List P) (p : P) → key_of_all each key (parts ++ p ∷ []) ≡ each (key_of_all each key parts) p
key_push each key [] p = refl
key_push each key (q ∷ parts) p = key_push each (each key q) parts p
