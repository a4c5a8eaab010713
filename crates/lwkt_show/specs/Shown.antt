-- What is shown of a run (own).
use Rattle.std.specs.Prelude.{◌*◌, ◌≡◌, ◌⊎◌, ℕ}
use Rattle.lwkt_base.specs.declared.faults.Fault.{Fault}
use Rattle.lwkt_base.specs.declared.faults.Fault.TheVariants.{Limits, LawBroken}
use Rattle.lwkt_base.specs.Fault.{no_memory}
use Rattle.lwkt_core.specs.Opening.{AreWithin, AllOpenLawfully}
use Rattle.lwkt_script.specs.declared.scripts.Script.{Script}
use Rattle.lwkt_show.specs.declared.options.Counted.{Counted}
use Rattle.lwkt_show.specs.declared.options.Counted.TheVariants.{Turns, Rounds}

-- the first turn of a range that begins with this turn or round, in a run of so many processors
abbrev pub first_turn : Counted → ℕ → ℕ → ℕ
first_turn Turns first cpus = first
first_turn Rounds first cpus = first * cpus

-- why a run of a script isn't shown: for want of memory, or as the opening of a state of its tokens and messages is refused
abbrev pub MayBeRefused : Script → Fault → Type 0
MayBeRefused script fault = (fault ≡ no_memory) ⊎ (((fault ≡ Limits) × ¬ AreWithin script.cpus script.tokens script.messages) ⊎ ((fault ≡ LawBroken) × (AreWithin script.cpus script.tokens script.messages × ¬ AllOpenLawfully script.tokens)))
