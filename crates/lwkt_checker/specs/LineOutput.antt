-- What is read, written and answered (own).
use Rattle.std.specs.Prelude.{◌≡◌, ◌⊎◌, ℕ, List, Bool, Option, None, IfSome, Result, Ok, Err}
use Rattle.std.specs.Io.KnownBytes.{Appends, Keeps}
use Rattle.lwkt_base.specs.declared.faults.Fault.{Fault as Refusal}
use Rattle.lwkt_report.specs.declared.streams.RunFault.{RunFault}
use Rattle.lwkt_report.specs.declared.streams.RunFault.TheVariants.{Fault, Stream}
use Rattle.lwkt_report.specs.Stream.{AppendsFront}
use Rattle.lwkt_trace.specs.declared.traces.Trace.{Trace}
use Rattle.lwkt_checker.specs.Judgement.{IsJudgedTrace, RefusesRead, finding_text, is_lawful}
use Rattle.lwkt_checker.specs.declared.judges.Finding.{Finding}
use Rattle.lwkt_checker.specs.Line.{lines_of}
use Rattle.lwkt_checker.specs.LineFormat.{with_lines, lined_trace_of}
use Rattle.lwkt_checker.specs.LineJudged.{Judges}
use Rattle.lwkt_checker.specs.declared.line_judges.LineJudge.{LineJudge}

-- these bytes are all that was left of a source, where that is known
abbrev pub AreAll : Option (List ℕ) → List ℕ → Type 0
AreAll left bytes = IfSome left (λ all. bytes ≡ all)

-- all that was left of a source was fed to a judge
pub record KnowsAll (left : Option (List ℕ)) (judge : LineJudge) : Type 0 where
  pub bytes : List ℕ
  pub all : AreAll left bytes
  pub trace : Option Trace
  pub reads : with_lines None (lines_of bytes) ≡ Ok trace
  pub judged : Judges judge trace

-- why bytes are refused: for their first bad part, wherever it stands; or for their opening, where they are a whole trace
abbrev pub RefusesLines : List ℕ → Refusal → Type 0
RefusesLines bytes fault = RefusesRead (lined_trace_of bytes) fault

-- these bytes are a trace whose opening isn't refused, and this is found of it
pub record IsFoundOf (bytes : List ℕ) (finding : Finding) : Type 0 where
  pub trace : Trace
  pub read : lined_trace_of bytes ≡ Ok trace
  pub judged : IsJudgedTrace trace finding

-- of all that was left of a source this is found, or it is refused so
abbrev pub FindsInLines : Option (List ℕ) → Finding → Type 0
FindsInLines left finding = (bytes : List ℕ) × (AreAll left bytes × IsFoundOf bytes finding)

abbrev pub Declares : Option (List ℕ) → Refusal → Type 0
Declares left fault = (bytes : List ℕ) × (AreAll left bytes × RefusesLines bytes fault)

-- the same of what ended a run; of a stream that failed nothing is said
abbrev pub DeclaresIn : Option (List ℕ) → RunFault → Type 0
DeclaresIn left (Fault fault) = Declares left fault
DeclaresIn left Stream = Unit {0}

-- a text is what is found of all that was left of a source, and whether it is lawful
pub record HasLinedFinding (left : Option (List ℕ)) (lawful : Bool) (text : List ℕ) : Type 0 where
  pub finding : Finding
  pub finds : FindsInLines left finding
  pub is_text : text ≡ finding_text finding
  pub is_kind : lawful ≡ is_lawful finding

-- what a check says by its answer, of all that was left to read and of what was written before and after it: what was found of
-- the trace; or nothing written, and why; or, where a stream failed, a front of what was found
abbrev pub ReportsLines : Option (List ℕ) → Option (List ℕ) → Option (List ℕ) → Result Bool RunFault → Type 0
ReportsLines left old new (Ok lawful) = (text : List ℕ) × (HasLinedFinding left lawful text × Appends old new text)
ReportsLines left old new (Err (Fault fault)) = Keeps old new × Declares left fault
ReportsLines left old new (Err Stream) = Keeps old new ⊎ ((lawful : Bool) × ((text : List ℕ) × (HasLinedFinding left lawful text × AppendsFront old new text)))
