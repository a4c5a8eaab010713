use Rattle.std.specs.Prelude.{◌≡◌, ◌⊎◌, ℕ, List, ◌++◌, length, take, Option, Bool, IsTrue, Result, Err}
use Rattle.std.specs.Io.KnownBytes.{Appends, Consumes}
use Rattle.lwkt_report.specs.declared.streams.RunFault.{RunFault}
use Rattle.lwkt_report.specs.declared.streams.RunFault.TheVariants.{Stream}

-- some bytes have grown by n that known bytes lost at their front
abbrev pub Gains : Option (List ℕ) → Option (List ℕ) → List ℕ → List ℕ → ℕ → Type 0
Gains old new before after n = (piece : List ℕ) × (after ≡ before ++ piece) × (length piece ≡ n) × Consumes old new piece

-- known bytes grow by a front of these
abbrev pub AppendsFront : Option (List ℕ) → Option (List ℕ) → List ℕ → Type 0
AppendsFront old new bytes = (n : ℕ) × Appends old new (take n bytes)

-- a stream is blamed only where the source or the sink has failed
abbrev pub BlamesFailed : {A : Type 0} → Bool → Bool → Result A RunFault → Type 0
BlamesFailed source_failed sink_failed outcome = outcome ≡ Err Stream → IsTrue source_failed ⊎ IsTrue sink_failed
