-- What the program reads, writes and answers (own).
use Rattle.std.specs.Prelude.{◌≡◌, ◌⊎◌, ℕ, List, Bool, true, false, take, Option, IfSome, Result, Ok, Err}
use Rattle.std.specs.Io.KnownBytes.{Appends, Keeps}
use Rattle.lwkt_base.specs.declared.faults.Fault.TheVariants.{Memory}
use Rattle.lwkt_report.specs.Complaint.{fault_line, complaint_of, IsSaid}
use Rattle.lwkt_report.specs.declared.complaints.Program.TheVariants.{Check}
use Rattle.lwkt_report.specs.declared.streams.RunFault.{RunFault}
use Rattle.lwkt_report.specs.declared.streams.RunFault.TheVariants.{Fault, Stream}
use Rattle.lwkt_report.specs.Stream.{AppendsFront, BlamesFailed}
use Rattle.lwkt_checker.specs.Judgement.{HasFinding, RefusesTrace, finding_text, is_lawful}
use Rattle.lwkt_checker.specs.declared.judges.Finding.{Finding}

-- these are the bytes that are read of a source that has so many left, where that is known
abbrev pub IsTraceRead : Option (List ℕ) → List ℕ → Type 0
IsTraceRead left bytes = IfSome left (λ all. bytes ≡ take 268435457 all)

-- what the writing of a finding says by its answer, of what was written before and after it: its text, and whether it is lawful; or
-- nothing written, for want of memory; or, where the stream failed, a front of its text
abbrev pub WritesFinding : Finding → Option (List ℕ) → Option (List ℕ) → Result Bool RunFault → Type 0
WritesFinding finding old new (Ok lawful) = (lawful ≡ is_lawful finding) × Appends old new (finding_text finding)
WritesFinding finding old new (Err (Fault (Memory refused))) = Keeps old new
WritesFinding finding old new (Err (Fault fault)) = ⊥
WritesFinding finding old new (Err Stream) = AppendsFront old new (finding_text finding)

-- what a check says by its answer, of what was left to read and of what was written before and after it: what was found of
-- the trace that was read; or nothing written, and why; or, where a stream failed, a front of it
abbrev pub ReportsFinding : Option (List ℕ) → Option (List ℕ) → Option (List ℕ) → Result Bool RunFault → Type 0
ReportsFinding left old new (Ok lawful) = (bytes : List ℕ) × (IsTraceRead left bytes × ((text : List ℕ) × (HasFinding bytes lawful text × Appends old new text)))
ReportsFinding left old new (Err (Fault fault)) = Keeps old new × ((bytes : List ℕ) × (IsTraceRead left bytes × RefusesTrace bytes fault))
ReportsFinding left old new (Err Stream) = Keeps old new ⊎ ((bytes : List ℕ) × (IsTraceRead left bytes × ((lawful : Bool) × ((text : List ℕ) × (HasFinding bytes lawful text × AppendsFront old new text)))))

-- what a check leaves of what was left to read, beside its answer: all that it read, if it found something; and if it refuses
-- the trace, bytes that are refused so. Where memory lacked or a stream failed, nothing is said of them
abbrev pub LeavesRead : Option (List ℕ) → List ℕ → Result Bool RunFault → Type 0
LeavesRead left bytes (Ok lawful) = IsTraceRead left bytes
LeavesRead left bytes (Err (Fault (Memory refused))) = Unit {0}
LeavesRead left bytes (Err (Fault fault)) = IsTraceRead left bytes × RefusesTrace bytes fault
LeavesRead left bytes (Err Stream) = Unit {0}

-- the exit status of the program
abbrev pub status_of : Result Bool RunFault → ℕ
status_of (Ok true) = 0
status_of (Ok false) = 4
status_of (Err (Fault (Memory refused))) = 3
status_of (Err (Fault _)) = 1
status_of (Err Stream) = 3

-- what goes to where errors go: nothing beside a finding, else the fault line
abbrev pub Complains : Bool → Option (List ℕ) → Option (List ℕ) → Result Bool RunFault → Type 0
Complains failed old new (Ok lawful) = Keeps old new
Complains failed old new (Err fault) = IsSaid failed old new (fault_line Check (complaint_of fault))

-- what the program does where it has no arguments: it checks, complains if it can't, and answers the status; it blames a stream only
-- where one has failed
abbrev pub ChecksAs : Bool → Bool → Option (List ℕ) → Option (List ℕ) → Option (List ℕ) → Bool → Option (List ℕ) → Option (List ℕ) → ℕ → Type 0
ChecksAs source_failed sink_failed left old new failed before after status = (outcome : Result Bool RunFault) × (ReportsFinding left old new outcome × (Complains failed before after outcome × (BlamesFailed source_failed sink_failed outcome × (status ≡ status_of outcome))))
