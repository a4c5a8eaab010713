-- The events of a machine's stop are of its processors.
use Rattle.std.proofs.Common.{◌≡◌, ◌∙◌, ℕ, ◌<◌, List, length, ap, sym, subst, arith, Some}
use Rattle.std.specs.Prelude.{All, Bool, Vec, slice_get}
use Rattle.std.specs.declared.alloc.Global.{Global}
use Rattle.std.proofs.lemmas.List.{length-map}
use Rattle.std.proofs.lemmas.List.Elements.{All-weaker}
use Rattle.std.proofs.lemmas.Option.{slice_get_within}
use Rattle.lwkt_base.specs.declared.names.CpuId.{CpuId}
use Rattle.lwkt_core.specs.declared.events.Event.{Event}
use Rattle.lwkt_core.specs.declared.finals.Final.{Final}
use Rattle.lwkt_core.specs.Events.{cpu_of}
use Rattle.lwkt_drive.specs.declared.driven.Driven.{Driven}
use Rattle.lwkt_drive.specs.declared.driven.Limits.{Limits}
use Rattle.lwkt_machine.specs.Bodies.{Scripted, IsPolled}
use Rattle.lwkt_machine.specs.Drives.{IsDrivenMachine}
use Rattle.lwkt_machine.specs.Machines.{Rig}
use Rattle.lwkt_machine.specs.Scripts.{IsOpenedScript}
use Rattle.lwkt_machine.proofs.DrivenMoves.{long_processors}
use Rattle.lwkt_machine.proofs.PartMoves.{driven_many, script_opened, stop_own, by_own_traces}
use Rattle.lwkt_base.specs.declared.threads.ThreadLine.{ThreadLine}
use Rattle.lwkt_script.specs.declared.scripts.Script.{Script}
use Rattle.lwkt_run.specs.Leaving.{Leaves}
use Rattle.lwkt_run.specs.Threaded.{RunsOnThreads}
use Rattle.lwkt_run.proofs.PartMoves.{all_of_stops}

-- of a machine that was driven, and closed, each processor is at its number, and the events of each stop are of its own
pub driven_own : (answers : CpuId → ℕ → Bool → Type 0) (limits : Limits) (script : Script) (opened driven : Rig Scripted) (stops : List Event) (last : Final) → IsOpenedScript script opened → IsDrivenMachine IsPolled answers limits opened driven → (leaves : Leaves driven stops last)
    → (k : ℕ) (stop : Vec Event Global) → slice_get leaves.closed.stops.items k ≡ Some stop → All (λ e. cpu_of e ≡ k) stop.items
driven_own answers limits script opened driven stops last opens drives leaves =
    stop_own driven leaves.closed leaves.closes (λ k p at. (by_own_traces IsPolled answers limits opened driven (script_opened script opened opens) drives k p at).seat)

-- as many processors as stops, and as traces
pub stops_many : (driven : Rig Scripted) (stops : List Event) (last : Final) (leaves : Leaves driven stops last) → length leaves.closed.stops.items ≡ length driven.cpus
stops_many driven stops last leaves = leaves.closes.ended.stops_are ∙ sym (ap length leaves.closes.cpus ∙ long_processors driven.driven)

pub kept_many : (driven : Rig Scripted) (stops : List Event) (last : Final) (leaves : Leaves driven stops last) → length leaves.closed.traces.items ≡ length driven.cpus
kept_many driven stops last leaves =
    ap length leaves.closes.traces ∙ length-map leaves.closes.last (λ (d : Driven Scripted). d.trace) ∙ leaves.closes.ended.as_many ∙ sym (ap length leaves.closes.cpus ∙ long_processors driven.driven)

module _ (answers : CpuId → ℕ → Bool → Type 0) (script : Script) (lines : List ThreadLine) (last : Final) (runs : RunsOnThreads answers script lines last) where
  abbrev limits : Limits
  limits = record { turns = script.turns; idle = script.idle }

  pub traces_many : length runs.traces ≡ length runs.opened.cpus
  traces_many = ap length runs.traces_are ∙ kept_many runs.driven runs.stops last runs.leaves ∙ driven_many IsPolled answers limits runs.opened runs.driven runs.drives

  pub stops_own : All (λ e. cpu_of e < length runs.traces) runs.stops
  stops_own =
      let P : Event → Type 0 = λ e. cpu_of e < length runs.traces in
      let stops = runs.leaves.closed.stops.items in
      let own = driven_own answers limits script runs.opened runs.driven runs.stops last runs.opens runs.drives runs.leaves in
      let many = stops_many runs.driven runs.stops last runs.leaves in
      let kept = ap length runs.traces_are ∙ kept_many runs.driven runs.stops last runs.leaves in
      let F : List Event → Type 0 = λ es. All P es in
      subst F (sym runs.leaves.stops_are) (all_of_stops P stops (λ k stop at. All-weaker (λ (e : Event). cpu_of e ≡ k) P (λ e mine. omega (arith, mine, many, kept, slice_get_within stops k stop at)) stop.items (own k stop at)))
