-- What stands of a run on threads at its end.
use Rattle.std.proofs.Common.{◌≡◌, ℕ, ◌+◌, ◌<◌, List, [], ◌∷◌, ◌++◌, length, map, refl, ap, sym, ◌∙◌, arith, Some}
use Rattle.std.specs.Prelude.{Bool, slice_get}
use Rattle.std.proofs.lemmas.Option.{slice_get_within}
use Rattle.lwkt_drive.specs.declared.driven.Limits.{Limits}
use Rattle.lwkt_base.specs.declared.names.CpuId.{CpuId}
use Rattle.lwkt_base.specs.declared.opening_specs.MsgSpec.{MsgSpec}
use Rattle.lwkt_core.specs.declared.events.Event.{Event}
use Rattle.lwkt_drive.specs.ShortEvents.{KeptTrace}
use Rattle.lwkt_core.specs.declared.finals.Final.{Final}
use Rattle.lwkt_core.specs.declared.messages.Message.{Message}
use Rattle.lwkt_core.specs.Machine.{Machine}
use Rattle.lwkt_core.specs.Opening.{opening, opened_message, AreWithin}
use Rattle.lwkt_bank.specs.declared.views.Plan.{Plan}
use Rattle.lwkt_bank.specs.Opened.{plans_of}
use Rattle.lwkt_bank.specs.Ledger.{first_machine}
use Rattle.lwkt_bank.proofs.LedgerMoves.{first_opening}
use Rattle.lwkt_msg.specs.Steps.{machine_of}
use Rattle.lwkt_msg.specs.Book.{Mail}
use Rattle.lwkt_msg.specs.Ledger.{first_mails}
use Rattle.lwkt_machine.specs.Bodies.{Scripted, IsPolled}
use Rattle.lwkt_machine.specs.Machines.{Rig}
use Rattle.lwkt_machine.specs.Scripts.{IsOpenedScript}
use Rattle.lwkt_base.specs.declared.threads.ThreadLine.{ThreadLine}
use Rattle.lwkt_script.specs.declared.scripts.Script.{Script}
use Rattle.lwkt_machine.specs.Drives.{IsDrivenMachine}
use Rattle.lwkt_run.specs.TraceParts.{of_cpu, parts_from}
use Rattle.lwkt_machine.specs.ProcessorParts.{ArePartsOfRuns}
use Rattle.lwkt_machine.proofs.PartMoves.{closed_are_parts, driven_many, fronts_of, script_opened, by_own_traces, trace_at}
use Rattle.lwkt_run.specs.Leaving.{Leaves}
use Rattle.lwkt_run.specs.Running.{HasThreads, ShowThreads}
use Rattle.lwkt_run.specs.Threaded.{AreTracesOfRun}
use Rattle.lwkt_run.proofs.PartMoves.{of_cpu_stops, parts_at}
use Rattle.lwkt_run.proofs.StopMoves.{driven_own, kept_many}
use Rattle.lwkt_run.proofs.JoinMoves.{one_run}
use Rattle.lwkt_run.proofs.IdMoves.{opened_has}
use Rattle.lwkt_run.proofs.RoundMoves.{has_driven}

-- what was declared to bank and book is the model's opening
pub tokens_from : (script : Script) (m : Rig Scripted) → IsOpenedScript script m → AreWithin script.cpus script.tokens script.messages → first_machine m.bank.plans (length m.cpus) ≡ opening script.cpus script.tokens []
tokens_from script m opens within =
    ap (λ (plans : List Plan). first_machine plans (length m.cpus)) opens.plans ∙ ap (λ (n : ℕ). first_machine (plans_of script.tokens) n) opens.as_many ∙ first_opening script.cpus script.tokens within.each_token

mails_opened : (specs : List MsgSpec) → map (λ (mail : Mail). mail.msg) (first_mails specs) ≡ map opened_message specs
mails_opened [] = refl
mails_opened (spec ∷ specs) = ap (λ (ms : List Message). opened_message spec ∷ ms) (mails_opened specs)

pub messages_from : (script : Script) (m : Rig Scripted) → IsOpenedScript script m → machine_of m.book.cpus (first_mails m.book.specs) ≡ opening script.cpus [] script.messages
messages_from script m opens =
    let F : List Message → Machine = λ ms. record { cpus = script.cpus; tokens = []; messages = ms } in
    ap (λ (specs : List MsgSpec). machine_of m.book.cpus (first_mails specs)) opens.specs ∙ ap (λ (n : ℕ). machine_of n (first_mails script.messages)) opens.desks_are ∙ ap F (mails_opened script.messages)

-- a machine that was driven from its opening on has the script's threads
pub driven_has : (answers : CpuId → ℕ → Bool → Type 0) (script : Script) (opened driven : Rig Scripted) → IsOpenedScript script opened → IsDrivenMachine IsPolled answers (record { turns = script.turns; idle = script.idle }) opened driven → HasThreads script.cpus script.threads driven.cpus
driven_has answers script opened driven opens drives =
    has_driven answers (record { turns = script.turns; idle = script.idle }) script.cpus script.threads opened driven drives (opened_has script opened opens)

-- what the processors of a script's machine did are the parts of one run
driven_are_parts : (answers : CpuId → ℕ → Bool → Type 0) (limits : Limits) (script : Script) (opened driven : Rig Scripted) (traces : List KeptTrace) (stops : List Event) (last : Final) → IsOpenedScript script opened → IsDrivenMachine IsPolled answers limits opened driven → (leaves : Leaves driven stops last) → traces ≡ leaves.closed.traces.items → ArePartsOfRuns opened leaves.closed (parts_from 0 traces stops)
driven_are_parts answers limits script opened driven traces stops last opens drives leaves are =
    let many = driven_many IsPolled answers limits opened driven drives in
    let closed = leaves.closed in
    let kept = kept_many driven stops last leaves in
    let own = driven_own answers limits script opened driven stops last opens drives leaves in
    closed_are_parts opened driven (fronts_of driven.driven) closed (parts_from 0 traces stops) drives.bank drives.book many (by_own_traces IsPolled answers limits opened driven (script_opened script opened opens) drives) leaves.closes (λ k part at.
    let x = parts_at 0 traces stops k part at in
    let z : 0 + k ≡ k = omega arith in
    let here : slice_get closed.traces.items k ≡ Some x.0 = ap (λ (ts : List KeptTrace). slice_get ts k) (sym are) ∙ x.1.0 in
    let less : k < length driven.cpus = omega (arith, kept, slice_get_within closed.traces.items k x.0 here) in (
      omega (arith, less, many),
      λ stop there.
          let mine : of_cpu (0 + k) stops ≡ stop.items = ap (λ (j : ℕ). of_cpu j stops) z ∙ ap (of_cpu k) leaves.stops_are ∙ of_cpu_stops closed.stops.items own k stop there in
          x.1.1 ∙ ap (λ (es : List Event). x.0.items ++ es) mine ∙ ap (λ (es : List Event). es ++ stop.items) (sym (trace_at driven closed leaves.closes k x.0 here less)),
    ))

-- what a run on threads left and traced
pub ended : (answers : CpuId → ℕ → Bool → Type 0) (script : Script) (lines : List ThreadLine) (last : Final) (opened driven : Rig Scripted) (traces : List KeptTrace) (stops : List Event) → IsOpenedScript script opened → AreWithin script.cpus script.tokens script.messages → IsDrivenMachine IsPolled answers (record { turns = script.turns; idle = script.idle }) opened driven → ShowThreads script.threads lines driven → (leaves : Leaves driven stops last) → traces ≡ leaves.closed.traces.items
    → AreTracesOfRun answers script lines last traces stops
ended answers script lines last opened driven traces stops opens within drives shown leaves are =
    let modelled = driven_are_parts answers (record { turns = script.turns; idle = script.idle }) script opened driven traces stops last opens drives leaves are in
    let tokens = tokens_from script opened opens within in
    let messages = messages_from script opened opens in
    record {
      runs = record {
        opened = opened;
        driven = driven;
        traces = traces;
        stops = stops;
        opens = opens;
        drives = drives;
        shown = shown;
        leaves = leaves;
        traces_are = are;
        modelled = modelled;
        tokens_from = tokens;
        messages_from = messages;
        one = one_run script.cpus script.tokens script.messages opened leaves.closed last (parts_from 0 traces stops) modelled tokens messages leaves.rows leaves.gens leaves.tallies leaves.blobs leaves.messages;
      };
      traces_are = refl;
      stops_are = refl;
    }
