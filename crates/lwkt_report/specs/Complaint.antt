use Rattle.std.specs.Prelude.{◌≡◌, ℕ, Bool, false, List, [], ◌∷◌, ◌++◌, codes, Option}
use Rattle.std.specs.Fmt.{decimal}
use Rattle.std.specs.Io.KnownBytes.{Appends}
use Rattle.lwkt_base.specs.declared.faults.Fault.{Fault as Refusal}
use Rattle.lwkt_base.specs.declared.faults.Fault.TheVariants.{Script}
use Rattle.lwkt_base.specs.Fault.{number_of}
use Rattle.lwkt_report.specs.declared.complaints.Program.{Program}
use Rattle.lwkt_report.specs.declared.complaints.Program.TheVariants.{Run, Check}
use Rattle.lwkt_report.specs.declared.complaints.Complaint.{Complaint}
use Rattle.lwkt_report.specs.declared.complaints.Complaint.TheVariants.{Usage, Fault, Stream}
use Rattle.lwkt_report.specs.declared.streams.RunFault.{RunFault}
use Rattle.lwkt_report.specs.declared.streams.RunFault.TheVariants.{Fault as FaultOfRun, Stream as StreamOfRun}
use Rattle.lwkt_report.specs.Stream.{AppendsFront}

-- what each line of a program begins with
abbrev pub program_name : Program → List ℕ
program_name Run = codes "lwkt_run: "
program_name Check = codes "lwkt_check: "

-- what a program says of arguments that aren't its own
abbrev pub usage_text : Program → List ℕ
usage_text Run = codes "turns or threads"
usage_text Check = codes "no arguments, or lines"

-- ` at PLACE` after the number of what was refused at a place
abbrev pub place_text : Refusal → List ℕ
place_text (Script place) = codes " at " ++ decimal place
place_text _ = []

-- what is complained of
abbrev pub complaint_text : Program → Complaint → List ℕ
complaint_text program Usage = usage_text program
complaint_text program (Fault fault) = codes "fault " ++ decimal (number_of fault) ++ place_text fault
complaint_text program Stream = codes "stream"

-- the line that a program says where there is no whole report, ended by a line feed (own)
abbrev pub fault_line : Program → Complaint → List ℕ
fault_line program complaint = program_name program ++ complaint_text program complaint ++ 10 ∷ []

-- what is complained of where a run ended without a whole report
abbrev pub complaint_of : RunFault → Complaint
complaint_of (FaultOfRun fault) = Fault fault
complaint_of StreamOfRun = Stream

-- some bytes are written: a front of them, and all of them where the sink has not failed
abbrev pub IsSaid : Bool → Option (List ℕ) → Option (List ℕ) → List ℕ → Type 0
IsSaid failed old new bytes = AppendsFront old new bytes × (failed ≡ false → Appends old new bytes)
