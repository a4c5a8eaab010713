-- What a run on threads writes and answers (own).
use Rattle.std.specs.Global.{Global}
use Rattle.std.specs.Prelude.{codes, length, All, string_bytes, String, ◌≡◌, ℕ, Bool, true, List, [], map, is_some, Option, Result, Ok}
use Rattle.lwkt_base.specs.declared.names.CpuId.{CpuId}
use Rattle.lwkt_core.specs.declared.events.Event.{Event}
use Rattle.lwkt_drive.specs.ShortEvents.{KeptTrace}
use Rattle.lwkt_core.specs.declared.finals.Final.{Final}
use Rattle.lwkt_base.specs.declared.opening_specs.TokSpec.{TokSpec}
use Rattle.lwkt_base.specs.declared.sections.Section.{Section}
use Rattle.lwkt_table.specs.History.{events_in}
use Rattle.lwkt_core.specs.RunSections.{sections_in}
use Rattle.lwkt_core.specs.Opening.{opening, AreWithin, AllOpenLawfully}
use Rattle.lwkt_bank.specs.Ledger.{first_machine}
use Rattle.lwkt_msg.specs.Steps.{machine_of}
use Rattle.lwkt_msg.specs.Ledger.{first_mails}
use Rattle.lwkt_machine.specs.Bodies.{Scripted, IsPolled}
use Rattle.lwkt_machine.specs.Machines.{Rig}
use Rattle.lwkt_machine.specs.Scripts.{IsOpenedScript}
use Rattle.lwkt_machine.specs.Drives.{IsDrivenMachine}
use Rattle.lwkt_machine.specs.ProcessorParts.{ArePartsOfRuns}
use Rattle.lwkt_run.specs.TraceParts.{parts_from}
use Rattle.lwkt_report.specs.declared.closings.Closing.{Closing}
use Rattle.lwkt_base.specs.declared.threads.ThreadLine.{ThreadLine}
use Rattle.lwkt_report.specs.declared.closings.Verdict.{Verdict}
use Rattle.lwkt_report.specs.declared.closings.Verdict.TheVariants.{Closed}
use Rattle.lwkt_report.specs.declared.streams.RunFault.{RunFault}
use Rattle.lwkt_report.specs.Report.{report_text}
use Rattle.lwkt_report.specs.Stream.{BlamesFailed}
use Rattle.lwkt_script.specs.declared.scripts.Script.{Script}
use Rattle.lwkt_script.specs.Format.{script_of}
use Rattle.lwkt_run.specs.declared.runs.End.{End}
use Rattle.lwkt_run.specs.declared.threaded.ThreadRecord.{ThreadRecord}
use Rattle.lwkt_run.specs.Chains.{WritesChains}
use Rattle.lwkt_run.specs.Joining.{AreOneRun}
use Rattle.lwkt_run.specs.NamedSections.{NameChains}
use Rattle.lwkt_run.specs.Judging.{ids_of}
use Rattle.lwkt_run.specs.Leaving.{Leaves}
use Rattle.lwkt_run.specs.Running.{ShowThreads}
use Rattle.lwkt_run.specs.Values.{is_tally}
use Rattle.lwkt_run.specs.Run.{ShowsClosing, end_of_closing, ReportsBy, SaysAfterRun, exit_status, AsksTurns}

-- the closing values and lines of threads of a run on threads: the script's machine was opened, and its processors were driven, each
-- making turns where the gate may have said so, until a limit of the script was reached, the gate said no, every thread of its own
-- had ended, or it found that no turn could change anything; the lines show how the threads stood then; the machine stopped, and its bank and its book were closed with these values. What each
-- processor did, in its turns and then in its stop, are the parts of one run of the model on tokens and of one on messages, from the
-- script's opening to these values, and so of one run of the whole machine (own)
pub record RunsOnThreads (answers : CpuId → ℕ → Bool → Type 0) (script : Script) (lines : List ThreadLine) (last : Final) : Type 0 where
  pub opened : Rig Scripted
  pub driven : Rig Scripted
  pub traces : List KeptTrace
  pub stops : List Event
  pub opens : IsOpenedScript script opened
  pub drives : IsDrivenMachine IsPolled answers (record { turns = script.turns; idle = script.idle }) opened driven
  pub shown : ShowThreads script.threads lines driven
  pub leaves : Leaves driven stops last
  pub traces_are : traces ≡ leaves.closed.traces.items
  pub modelled : ArePartsOfRuns opened leaves.closed (parts_from 0 traces stops)
  pub tokens_from : first_machine opened.bank.plans (length opened.cpus) ≡ opening script.cpus script.tokens []
  pub messages_from : machine_of opened.book.cpus (first_mails opened.book.specs) ≡ opening script.cpus [] script.messages
  pub one : AreOneRun script.cpus script.tokens script.messages last (parts_from 0 traces stops)

-- what remains of a run on threads that has these closing values and lines: the traces of its processors, and the events of its stop
pub record AreTracesOfRun (answers : CpuId → ℕ → Bool → Type 0) (script : Script) (lines : List ThreadLine) (last : Final) (traces : List KeptTrace) (stops : List Event) : Type 0 where
  pub runs : RunsOnThreads answers script lines last
  pub traces_are : runs.traces ≡ traces
  pub stops_are : runs.stops ≡ stops

-- what a report shows with these lines of threads, closing values of tokens that are opened so, and verdict
pub record ShowsLeft (specs : List TokSpec) (lines : List ThreadLine) (last : Final) (verdict : Verdict) (closing : Closing) : Type 0 where
  pub kinds : map (λ line. is_some line.tallies) closing.tokens.items ≡ map (λ spec. is_tally spec.law) specs
  pub threads : closing.threads.items ≡ lines
  pub verdict_is : closing.verdict ≡ verdict
  pub shows : ShowsClosing closing last

-- the values may be those of a run of the script on threads: its opening was accepted, a tally line stands exactly under a Tally
-- token, each thread has its line, they are those of such a run, the written sections of that run are chains from the opening rows to
-- those of the token lines; what its traces and its stop name of them, in order, are these, and passes the checker of sections, so the
-- report says that bank and book were closed
pub record MayCloseOnThreads (answers : CpuId → ℕ → Bool → Type 0) (script : Script) (closing : Closing) : Type 0 where
  pub within : AreWithin script.cpus script.tokens script.messages
  pub lawful_opening : AllOpenLawfully script.tokens
  pub kinds : map (λ line. is_some line.tallies) closing.tokens.items ≡ map (λ spec. is_tally spec.law) script.tokens
  pub threads : map (λ line. line.id) closing.threads.items ≡ ids_of script.cpus script.threads
  pub closed : closing.verdict ≡ Closed
  pub last : Final
  pub shows : ShowsClosing closing last
  pub runs : RunsOnThreads answers script closing.threads.items last
  pub chains : WritesChains (opening script.cpus script.tokens []) (events_in runs.modelled.tokens.history) last
  pub sections : List Section
  pub named : NameChains (opening script.cpus script.tokens []) runs.traces runs.stops last sections
  pub written : sections ≡ sections_in (opening script.cpus script.tokens []) (events_in runs.modelled.tokens.history)

-- what was kept of a run of the script on threads: what its report shows, and the written sections that its traces and its stop name,
-- in order
pub record IsThreadRecord (answers : CpuId → ℕ → Bool → Type 0) (script : Script) (kept : ThreadRecord) : Type 0 where
  pub closes : MayCloseOnThreads answers script kept.closing
  pub sections_are : kept.sections.items ≡ closes.sections

-- these bytes are a script, and a run of it on threads may end so, with this report
pub record HasThreadedRun (answers : CpuId → ℕ → Bool → Type 0) (bytes : List ℕ) (end : End) (text : List ℕ) : Type 0 where
  pub script : Script
  pub read : script_of bytes ≡ Ok script
  pub closing : Closing
  pub closes : MayCloseOnThreads answers script closing
  pub is_text : text ≡ report_text closing
  pub is_end : end ≡ end_of_closing closing

-- what a run on threads says by its answer, where a gate may answer so
abbrev pub ReportsOnThreads : (CpuId → ℕ → Bool → Type 0) → Option (List ℕ) → Option (List ℕ) → Option (List ℕ) → Result End RunFault → Type 0
ReportsOnThreads answers left old new answer = ReportsBy (HasThreadedRun answers) left old new answer

-- a gate that never says no
abbrev pub lets_all : CpuId → ℕ → Bool → Type 0
lets_all cpu turn answer = answer ≡ true

-- what the program does where its one argument is `threads`: it runs, answers the status and writes the line; it blames a stream
-- only where one has failed
abbrev pub RunsOnThreadsAs : Bool → Bool → Option (List ℕ) → Option (List ℕ) → Option (List ℕ) → ℕ → Type 0
RunsOnThreadsAs source_failed sink_failed left old new status = (outcome : Result End RunFault) × ((mid : Option (List ℕ)) × (ReportsOnThreads lets_all left old mid outcome × (SaysAfterRun sink_failed mid new outcome × (BlamesFailed source_failed sink_failed outcome × (status ≡ exit_status outcome)))))

-- the arguments are the one word `threads`
abbrev pub AsksThreads : List (String Global) → Type 0
AsksThreads words = (length words ≡ 1) × All (λ word. string_bytes word ≡ codes "threads") words

-- the arguments ask for no run
abbrev pub AsksNoRun : List (String Global) → Type 0
AsksNoRun words = (¬ AsksTurns words) × (¬ AsksThreads words)
