use Rattle.std.specs.Prelude.{◌≡◌, ◌⊎◌, ℕ, List, take}
use Rattle.lwkt_base.specs.declared.names.Ref.{Ref}
use Rattle.lwkt_base.specs.Holding.{Holding, holding_of}

-- a holding is that of the first few references of a list
abbrev pub IsFront : List Ref → Holding → Type 0
IsFront refs holding = (n : ℕ) × (holding ≡ holding_of (take n refs))

-- a holding is that of the first few references of one of two lists
abbrev pub IsBetween : List Ref → List Ref → Holding → Type 0
IsBetween refs others holding = IsFront refs holding ⊎ IsFront others holding
