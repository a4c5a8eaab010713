use Rattle.std.proofs.Common.{Result, inl, inr, ◌≡◌, ◌⊎◌, ℕ, List, [], Bool, take, refl, rules, Option, None, Some, Err, Ok, sym, subst}
use Rattle.std.specs.Io.KnownBytes.{Keeps}
use Rattle.lwkt_base.specs.declared.faults.Fault.{Fault as Refusal}
use Rattle.lwkt_base.specs.declared.faults.Fault.TheVariants.{Memory}
use Rattle.lwkt_base.specs.Fault.{no_memory}
use Rattle.lwkt_report.specs.declared.streams.RunFault.{RunFault}
use Rattle.lwkt_report.specs.declared.streams.RunFault.TheVariants.{Fault, Stream}
use Rattle.lwkt_report.specs.declared.complaints.Complaint.{Complaint}
use Rattle.lwkt_report.specs.declared.complaints.Program.TheVariants.{Check}
use Rattle.lwkt_report.specs.Complaint.{fault_line, complaint_of, IsSaid}
use Rattle.lwkt_trace.specs.declared.traces.Trace.{Trace}
use Rattle.lwkt_trace.specs.Format.{trace_of}
use Rattle.lwkt_checker.specs.Judgement.{HasFinding, IsJudgedTrace, RefusesTrace, finding_text, is_lawful}
use Rattle.lwkt_checker.specs.Output.{IsTraceRead, WritesFinding, ReportsFinding, LeavesRead, Complains}
use Rattle.lwkt_checker.specs.declared.judges.Finding.{Finding}

-- what was written stays what it is
keeps_itself : (o : Option (List ℕ)) → Keeps o o
keeps_itself o = search rules

-- some bytes are those that are read
some_read : (left : Option (List ℕ)) → (bytes : List ℕ) × IsTraceRead left bytes
some_read None = ([], tt)
some_read (Some all) = (take 268435457 all, refl)

-- where reading fails nothing is written
pub reports_unread : (left old : Option (List ℕ)) (fault : RunFault) → (fault ≡ Stream) ⊎ (fault ≡ Fault no_memory) → ReportsFinding left old old (Err fault)
reports_unread left old fault why =
    let T : RunFault → Type 0 = λ f. ReportsFinding left old old (Err f) in
    elim why [
      | inl is ↦ subst T (sym is) (inl (keeps_itself old))
      | inr is ↦ subst T (sym is) (keeps_itself old, ((some_read left).0, ((some_read left).1, tt)))
    ]

-- where the bytes are refused nothing is written
pub reports_refused : (left old : Option (List ℕ)) (bytes read : List ℕ) (fault : Refusal) → read ≡ bytes → IsTraceRead left bytes → RefusesTrace read fault → ReportsFinding left old old (Err (Fault fault))
reports_refused left old bytes read fault same are refuses =
    (keeps_itself old, (bytes, (are, subst (λ b. RefusesTrace b fault) same refuses)))

-- what was found of the bytes is written
has_finding : (bytes : List ℕ) (finding : Finding) (lawful : Bool) → lawful ≡ is_lawful finding → (trace : Trace) × ((trace_of bytes ≡ Ok trace) × IsJudgedTrace trace finding) → HasFinding bytes lawful (finding_text finding)
has_finding bytes finding lawful kind found = record { trace = found.0; read = found.1.0; finding = finding; judged = found.1.1; is_text = refl; is_kind = kind }

written_found : (left old new : Option (List ℕ)) (bytes : List ℕ) (finding : Finding) (outcome : Result Bool RunFault) → IsTraceRead left bytes → (trace : Trace) × ((trace_of bytes ≡ Ok trace) × IsJudgedTrace trace finding) → WritesFinding finding old new outcome → ReportsFinding left old new outcome
written_found left old new bytes finding (Ok lawful) are found written = (bytes, (are, (finding_text finding, (has_finding bytes finding lawful written.0 found, written.1))))
written_found left old new bytes finding (Err (Fault (Memory refused))) are found written = (written, (bytes, (are, tt)))
written_found left old new bytes finding (Err (Fault _)) are found written = absurd written
written_found left old new bytes finding (Err Stream) are found written = inr (bytes, (are, (is_lawful finding, (finding_text finding, (has_finding bytes finding (is_lawful finding) refl found, written)))))

pub reports_found : (left old new : Option (List ℕ)) (bytes read : List ℕ) (finding : Finding) (outcome : Result Bool RunFault) → read ≡ bytes → IsTraceRead left bytes → (trace : Trace) × ((trace_of read ≡ Ok trace) × IsJudgedTrace trace finding) → WritesFinding finding old new outcome → ReportsFinding left old new outcome
reports_found left old new bytes read finding outcome same are found written =
    written_found left old new bytes finding outcome are (subst (λ (b : List ℕ). (trace : Trace) × ((trace_of b ≡ Ok trace) × IsJudgedTrace trace finding)) same found) written

pub leaves_found : (left old new : Option (List ℕ)) (bytes : List ℕ) (finding : Finding) (outcome : Result Bool RunFault) → IsTraceRead left bytes → WritesFinding finding old new outcome → LeavesRead left bytes outcome
leaves_found left old new bytes finding (Ok lawful) are written = are
leaves_found left old new bytes finding (Err (Fault (Memory refused))) are written = tt
leaves_found left old new bytes finding (Err (Fault _)) are written = absurd written
leaves_found left old new bytes finding (Err Stream) are written = tt

-- a line that is said where a check can't be made
pub complains : (failed : Bool) (old new : Option (List ℕ)) (outcome : Result Bool RunFault) (fault : RunFault) (complaint : Complaint) → outcome ≡ Err fault → complaint ≡ complaint_of fault → IsSaid failed old new (fault_line Check complaint) → Complains failed old new outcome
complains failed old new outcome fault complaint is same said =
    subst (λ (o : Result Bool RunFault). Complains failed old new o) (sym is) (subst (λ (k : Complaint). IsSaid failed old new (fault_line Check k)) same said)
