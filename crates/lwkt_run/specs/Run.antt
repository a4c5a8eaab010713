use Rattle.std.specs.Global.{Global}
use Rattle.std.specs.Prelude.{codes, ◌<◌, ◌≤◌, ◌*◌, length, All, string_bytes, String, ◌≡◌, ◌⊎◌, ℕ, Bool, true, false, List, [], ◌++◌, map, take, Option, is_some, unwrap_or, IfSome, Result, Ok, Err}
use Rattle.std.specs.List.{list_all, range_with_len}
use Rattle.std.specs.Io.KnownBytes.{Appends, Keeps}
use Rattle.lwkt_base.specs.declared.faults.Fault.{Fault as Refusal}
use Rattle.lwkt_base.specs.declared.faults.Fault.TheVariants.{Script as ScriptFault, NoPort, Memory, Limits, LawBroken}
use Rattle.lwkt_base.specs.Threads.{is_done}
use Rattle.lwkt_core.specs.declared.events.Event.{Event}
use Rattle.lwkt_core.specs.declared.finals.Final.{Final}
use Rattle.lwkt_core.specs.Machine.{Machine}
use Rattle.lwkt_core.specs.Opening.{opening, AreWithin, AllOpenLawfully}
use Rattle.lwkt_report.specs.declared.closings.Closing.{Closing}
use Rattle.lwkt_base.specs.declared.threads.ThreadLine.{ThreadLine}
use Rattle.lwkt_report.specs.declared.closings.Verdict.{Verdict}
use Rattle.lwkt_report.specs.declared.closings.Verdict.TheVariants.{Closed, Lawful, Unlawful}
use Rattle.lwkt_report.specs.declared.complaints.Program.TheVariants.{Run as RunProgram}
use Rattle.lwkt_report.specs.declared.streams.RunFault.{RunFault}
use Rattle.lwkt_report.specs.declared.streams.RunFault.TheVariants.{Fault, Stream}
use Rattle.lwkt_report.specs.declared.sources.TheConstants.{READ_LIMIT}
use Rattle.lwkt_report.specs.Report.{report_text}
use Rattle.lwkt_report.specs.Stream.{AppendsFront, BlamesFailed}
use Rattle.lwkt_report.specs.Complaint.{fault_line, complaint_of, IsSaid}
use Rattle.lwkt_script.specs.declared.scripts.Script.{Script}
use Rattle.lwkt_script.specs.Format.{script_of}
use Rattle.lwkt_verdict.specs.declared.turns.Poll.{Poll}
use Rattle.lwkt_verdict.specs.declared.turns.Turn.{Turn}
use Rattle.lwkt_verdict.specs.declared.turns.Pace.{Pace}
use Rattle.lwkt_verdict.specs.declared.turns.Pace.TheVariants.{Rounds, Named}
use Rattle.lwkt_verdict.specs.Run.{GoesRound}
use Rattle.lwkt_machine.specs.Bodies.{Scripted}
use Rattle.lwkt_machine.specs.declared.closings.Closed.{Closed as ClosedMachine}
use Rattle.lwkt_machine.specs.Machines.{Rig}
use Rattle.lwkt_machine.specs.Scripts.{IsOpenedScript, DeclinesScript as IsDeclined}
use Rattle.lwkt_machine.specs.ProcessorParts.{ArePartsOfRuns}
use Rattle.lwkt_run.specs.TraceParts.{of_cpu}
use Rattle.lwkt_run.specs.Chains.{WritesChains}
use Rattle.lwkt_run.specs.Joining.{AreOneRun}
use Rattle.lwkt_run.specs.Keeping.{Kept, kept_as, none_kept}
use Rattle.lwkt_run.specs.Values.{is_tally}
use Rattle.lwkt_run.specs.Leaving.{Leaves}
use Rattle.lwkt_run.specs.Running.{ShowThreads, scene, HasMadeRounds, MakesTurns}
use Rattle.lwkt_run.specs.Judging.{ids_of, IsVerdict}
use Rattle.lwkt_run.specs.declared.reports.Done.{Done}
use Rattle.lwkt_run.specs.declared.runs.End.{End}
use Rattle.lwkt_run.specs.declared.runs.TurnsRun.{TurnsRun}
use Rattle.lwkt_run.specs.declared.runs.End.TheVariants.{Ended, TurnsOut, Unlawful as UnlawfulEnd}

-- the machine at the opening of a script
abbrev pub opening_of_script : Script → Machine
opening_of_script script = opening script.cpus script.tokens script.messages

-- the token and message lines of a report show these closing values
pub record ShowsClosing (closing : Closing) (last : Final) : Type 0 where
  pub rows : last.rows.items ≡ map (λ line. line.cells) closing.tokens.items
  pub gens : last.gens.items ≡ map (λ line. line.generation) closing.tokens.items
  pub tallies : last.tallies.items ≡ map (λ line. unwrap_or line.tallies []) closing.tokens.items
  pub blobs : last.blobs.items ≡ map (λ line. line.blob) closing.tokens.items
  pub messages : last.messages.items ≡ closing.messages.items

-- what each of so many processors did of the trace of all of them
abbrev pub parts_in : ℕ → List Event → List (List Event)
parts_in cpus trace = map (λ cpu. of_cpu cpu trace) (range_with_len 0 cpus)

-- what the processors of a machine did from its opening by a script on, of which this is the trace, whatever is said of it: they are
-- the parts of one run of the model on tokens and of one on messages, to the values at the close; and so of one run of the whole
-- machine, from the script's opening to these closing values; and the written sections of that run are chains, of each token one from
-- its opening row to its closing one (own)
pub record IsTraceOfOneRun (script : Script) (opened : Rig Scripted) (closed : ClosedMachine Scripted) (last : Final) (trace : List Event) : Type 0 where
  pub modelled : ArePartsOfRuns opened closed (parts_in script.cpus trace)
  pub one : AreOneRun script.cpus script.tokens script.messages last (parts_in script.cpus trace)
  pub chains : WritesChains (opening_of_script script) one.events last

-- the lines of threads, what was kept, the trace and the closing values of a run in rounds: the script's machine was opened, and made
-- rounds, as many as the script says or until every thread of each processor had ended, and each turn of them was kept, and nothing
-- else; the lines show how its threads stood then; it stopped, and its bank and its book were closed with these values; what its
-- processors did is one run of the model (own)
pub record RunsInRounds (script : Script) (lines : List ThreadLine) (kept : Kept) (trace : List Event) (last : Final) : Type 0 where
  pub opened : Rig Scripted
  pub made : Rig Scripted
  pub traced : List Event
  pub stops : List Event
  pub opens : IsOpenedScript script opened
  pub rounds : HasMadeRounds script.turns (scene opened [] none_kept) (scene made traced kept)
  pub shown : ShowThreads script.threads lines made
  pub leaves : Leaves made stops last
  pub trace_is : trace ≡ traced ++ stops
  pub modelled : IsTraceOfOneRun script opened leaves.closed last trace

-- the same of a run along an order of processors: the script's machine was opened, and made the turn of each processor that the
-- order names, one after another, and each of these turns was kept, and nothing else; the lines show how its threads stood then; it
-- stopped, and its bank and its book were closed with these values; what its processors did is one run of the model (own)
pub record RunsAlong (script : Script) (order : List ℕ) (lines : List ThreadLine) (kept : Kept) (trace : List Event) (last : Final) : Type 0 where
  pub opened : Rig Scripted
  pub made : Rig Scripted
  pub traced : List Event
  pub stops : List Event
  pub opens : IsOpenedScript script opened
  pub along : MakesTurns order (scene opened [] none_kept) (scene made traced kept)
  pub shown : ShowThreads script.threads lines made
  pub leaves : Leaves made stops last
  pub trace_is : trace ≡ traced ++ stops
  pub modelled : IsTraceOfOneRun script opened leaves.closed last trace

-- the same of a run at a pace: in the rounds of the script, or along an order
abbrev pub RunsAt : Pace → Script → List ℕ → List ThreadLine → Kept → List Event → Final → Type 0
RunsAt (Rounds limit) script order lines kept trace last = (limit ≡ script.turns) × RunsInRounds script lines kept trace last
RunsAt Named script order lines kept trace last = RunsAlong script order lines kept trace last

-- the same of a run at a pace that was stopped where a check said no: the turns that were made are those of an order; in rounds of one
-- that goes round the processors, from 0 on, and has no more turns than the script's rounds
abbrev pub StopsAt : Pace → Script → List ℕ → List ThreadLine → Kept → List Event → Final → Type 0
StopsAt (Rounds limit) script order lines kept trace last = (limit ≡ script.turns) × (GoesRound script.cpus 0 order × ((length order ≤ limit * script.cpus) × RunsAlong script order lines kept trace last))
StopsAt Named script order lines kept trace last = RunsAlong script order lines kept trace last

-- the same of a run by its verdict: whole, or stopped where the check said no
abbrev pub RunsBy : Verdict → Pace → Script → List ℕ → List ThreadLine → Kept → List Event → Final → Type 0
RunsBy Closed pace script order lines kept trace last = RunsAt pace script order lines kept trace last
RunsBy Lawful pace script order lines kept trace last = RunsAt pace script order lines kept trace last
RunsBy (Unlawful index) pace script order lines kept trace last = StopsAt pace script order lines kept trace last

-- the turns that were made of an order, by the verdict on them: all, or a front of them, where the check said no
abbrev pub AreMadeOf : Verdict → List ℕ → List ℕ → Type 0
AreMadeOf Closed order made = made ≡ order
AreMadeOf Lawful order made = made ≡ order
AreMadeOf (Unlawful index) order made = (rest : List ℕ) × (order ≡ made ++ rest)

-- a report gives its verdict on this trace and the turns of this order with their polls, which were kept of a run of the script at
-- this pace, from its opening to the values and the threads' ends that it shows. The written sections of that run are chains from the
-- opening rows to those of the token lines, whatever the verdict; where it is lawful, so are those of the trace, in its order (own)
pub record IsJudgedBy (pace : Pace) (script : Script) (closing : Closing) (order : List ℕ) (trace : List Event) (polls : List Poll) (turns : List Turn) : Type 0 where
  pub last : Final
  pub shows : ShowsClosing closing last
  pub runs : RunsBy closing.verdict pace script order closing.threads.items (kept_as order turns polls) trace last
  pub by : IsVerdict closing.verdict (opening_of_script script) pace order script.threads closing.threads.items last trace polls turns
  pub chains : closing.verdict ≡ Lawful → WritesChains (opening_of_script script) trace last

-- there are a trace and turns of an order with their polls on which the report gives its verdict
pub record IsJudged (pace : Pace) (script : Script) (closing : Closing) : Type 0 where
  pub order : List ℕ
  pub trace : List Event
  pub polls : List Poll
  pub turns : List Turn
  pub so : IsJudgedBy pace script closing order trace polls turns

-- the values may be those of a run of the script at this pace: its opening was accepted, a tally line stands exactly under a Tally token, each
-- thread has its line, and the verdict is that on a trace and turns that lead to what is shown (own)
pub record MayClose (pace : Pace) (script : Script) (closing : Closing) : Type 0 where
  pub within : AreWithin script.cpus script.tokens script.messages
  pub lawful_opening : AllOpenLawfully script.tokens
  pub kinds : map (λ line. is_some line.tallies) closing.tokens.items ≡ map (λ spec. is_tally spec.law) script.tokens
  pub threads : map (λ line. line.id) closing.threads.items ≡ ids_of script.cpus script.threads
  pub judged : IsJudged pace script closing

-- how a run ended by what its report says: unlawful, or with every thread ended, or with its turns used up
abbrev pub end_by : Verdict → Bool → End
end_by (Unlawful index) all = UnlawfulEnd
end_by Closed true = Ended
end_by Closed false = TurnsOut
end_by Lawful true = Ended
end_by Lawful false = TurnsOut

abbrev pub end_of_closing : Closing → End
end_of_closing closing = end_by closing.verdict (list_all is_done closing.threads.items)

-- these bytes are a script, and a run of it may end so, with this report
pub record HasRun (bytes : List ℕ) (end : End) (text : List ℕ) : Type 0 where
  pub script : Script
  pub read : script_of bytes ≡ Ok script
  pub closing : Closing
  pub closes : MayClose (Rounds script.turns) script closing
  pub is_text : text ≡ report_text closing
  pub is_end : end ≡ end_of_closing closing

-- a run of the script in rounds, with a trace, turns and polls that the verdict of what is shown is on (own)
pub record IsTurnsRun (script : Script) (run : TurnsRun) : Type 0 where
  pub closes : MayClose (Rounds script.turns) script run.closing
  pub judged : IsJudgedBy (Rounds script.turns) script run.closing run.order.items run.trace.items run.polls.items run.turns.items

-- a run of the script along this order, or along a front of it, where the check said no; with the order, a trace, turns and polls that
-- the verdict of what is shown is on (own)
pub record IsOrderRun (script : Script) (order : List ℕ) (run : TurnsRun) : Type 0 where
  pub made : AreMadeOf run.closing.verdict order run.order.items
  pub closes : MayClose Named script run.closing
  pub judged : IsJudgedBy Named script run.closing run.order.items run.trace.items run.polls.items run.turns.items

-- a run of the script along exactly this order, or along a front of it, where the check said no, may close so: there are a trace, and
-- turns of what was made of the order with their polls, that the verdict of what is shown is on (own)
pub record ClosesAlong (script : Script) (order : List ℕ) (closing : Closing) : Type 0 where
  pub closes : MayClose Named script closing
  pub made : List ℕ
  pub made_of : AreMadeOf closing.verdict order made
  pub trace : List Event
  pub polls : List Poll
  pub turns : List Turn
  pub judged : IsJudgedBy Named script closing made trace polls turns

-- why a run of this script is refused: its machine isn't opened
abbrev pub DeclinesRun : Script → Refusal → Type 0
DeclinesRun script fault = IsDeclined script fault

-- why a run of these bytes is refused
abbrev pub Refuses : List ℕ → Refusal → Type 0
Refuses bytes (ScriptFault place) = script_of bytes ≡ Err place
Refuses bytes (Memory refused) = Unit {0}
Refuses bytes Limits = (script : Script) × ((script_of bytes ≡ Ok script) × DeclinesRun script Limits)
Refuses bytes LawBroken = (script : Script) × ((script_of bytes ≡ Ok script) × DeclinesRun script LawBroken)
Refuses bytes _ = ⊥

-- an order names processors of this script alone
abbrev pub AreThere : Script → List ℕ → Type 0
AreThere script order = All (λ x. x < script.cpus) order

-- why a run of this script along an order is refused: the order names a processor that isn't there; or else its machine isn't opened
abbrev pub DeclinesAlong : Script → List ℕ → Refusal → Type 0
DeclinesAlong script order NoPort = ¬ AreThere script order
DeclinesAlong script order Limits = AreThere script order × DeclinesRun script Limits
DeclinesAlong script order LawBroken = AreThere script order × DeclinesRun script LawBroken
DeclinesAlong script order fault = DeclinesRun script fault

-- these are the bytes that are read of a source that has so many left, where that is known
abbrev pub AreBytesRead : Option (List ℕ) → List ℕ → Type 0
AreBytesRead left bytes = IfSome left (λ all. bytes ≡ take READ_LIMIT all)

-- what a run says by its answer, of what was left to read and of what was written before and after it, where this tells how a run
-- of a script may end and with which report: the report of a run of the script that was read; or nothing written, and why; or,
-- where a stream failed, a front of such a report
abbrev pub ReportsBy : (List ℕ → End → List ℕ → Type 0) → Option (List ℕ) → Option (List ℕ) → Option (List ℕ) → Result End RunFault → Type 0
ReportsBy Run left old new (Ok end) = (bytes : List ℕ) × (AreBytesRead left bytes × ((text : List ℕ) × (Run bytes end text × Appends old new text)))
ReportsBy Run left old new (Err (Fault fault)) = Keeps old new × ((bytes : List ℕ) × (AreBytesRead left bytes × Refuses bytes fault))
ReportsBy Run left old new (Err Stream) = Keeps old new ⊎ ((bytes : List ℕ) × (AreBytesRead left bytes × ((end : End) × ((text : List ℕ) × (Run bytes end text × AppendsFront old new text)))))

-- the same of a run in rounds
abbrev pub ReportsRounds : Option (List ℕ) → Option (List ℕ) → Option (List ℕ) → Result End RunFault → Type 0
ReportsRounds left old new answer = ReportsBy HasRun left old new answer

-- what a run's end says by its answer, of what was written before and after it: its report was written whole, or a front of it where
-- the stream failed; of a refused run nothing
abbrev pub Concludes : Option (List ℕ) → Option (List ℕ) → Result Done Refusal → Result End RunFault → Type 0
Concludes old new (Ok done) (Ok end) = (end ≡ done.end) × Appends old new (string_bytes done.text)
Concludes old new (Ok done) (Err Stream) = AppendsFront old new (string_bytes done.text)
Concludes old new (Err refusal) (Err (Fault fault)) = (fault ≡ refusal) × Keeps old new
Concludes old new _ _ = ⊥

-- the exit status of the program (own)
abbrev pub exit_status : Result End RunFault → ℕ
exit_status (Ok Ended) = 0
exit_status (Ok TurnsOut) = 2
exit_status (Ok UnlawfulEnd) = 4
exit_status (Err (Fault (Memory refused))) = 3
exit_status (Err (Fault _)) = 1
exit_status (Err Stream) = 3

-- what the program writes after a run: nothing more after a whole report, else the fault line
abbrev pub SaysAfterRun : Bool → Option (List ℕ) → Option (List ℕ) → Result End RunFault → Type 0
SaysAfterRun failed old new (Ok end) = Keeps old new
SaysAfterRun failed old new (Err fault) = IsSaid failed old new (fault_line RunProgram (complaint_of fault))

-- what the program does where its one argument is right: it runs, answers the status and writes the line; it blames a stream only
-- where one has failed
abbrev pub RunsAs : Bool → Bool → Option (List ℕ) → Option (List ℕ) → Option (List ℕ) → ℕ → Type 0
RunsAs source_failed sink_failed left old new status = (outcome : Result End RunFault) × ((mid : Option (List ℕ)) × (ReportsRounds left old mid outcome × (SaysAfterRun sink_failed mid new outcome × (BlamesFailed source_failed sink_failed outcome × (status ≡ exit_status outcome)))))

-- the arguments are the one word `turns`
abbrev pub AsksTurns : List (String Global) → Type 0
AsksTurns words = (length words ≡ 1) × All (λ word. string_bytes word ≡ codes "turns") words
