-- Where everything has ended.
use Rattle.std.specs.Prelude.{ℕ, ◌<◌, List, [], ◌∷◌, length, Bool, true, false, IsTrue, cond, slice_get}
use Rattle.std.specs.Option.{option_map_or}
use Rattle.lwkt_script.specs.declared.scripts.Script.{Script}
use Rattle.lwkt_script.specs.declared.scripts.ThreadSpec.{ThreadSpec}
use Rattle.lwkt_plain.specs.declared.states.Plain.{Plain}
use Rattle.lwkt_plain.specs.declared.states.Processor.{Processor}
use Rattle.lwkt_plain.specs.declared.states.Thread.{Thread}
use Rattle.lwkt_plain.specs.Intakes.{has_ended}
use Rattle.lwkt_plain.specs.Openings.{threads_of}

-- whether the threads of a processor have ended that are no services, by what the script says of each of them in order
abbrev pub are_over : List ThreadSpec → List Thread → Bool
are_over [] threads = true
are_over (spec ∷ specs) [] = true
are_over (spec ∷ specs) (t ∷ threads) = cond (cond spec.service true (has_ended t.phase)) (are_over specs threads) false

-- the threads of a processor of a state
abbrev pub threads_at : Plain → ℕ → List Thread
threads_at p c = option_map_or (λ (cpu : Processor). cpu.threads) (slice_get p.cpus c) []

-- all threads of a script have ended that are no services
abbrev pub HasEnded : Script → Plain → Type 0
HasEnded script p = (c : ℕ) → c < length p.cpus → IsTrue (are_over (threads_of script c) (threads_at p c))
