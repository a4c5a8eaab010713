use Rattle.std.proofs.Common.{inl, inr, ◌≡◌, ◌⊎◌, ℕ, List, [], take, refl, rules, Option, None, Some, Result, Err, Ok, sym, subst}
use Rattle.std.specs.Prelude.{string_bytes, IfOk, IfErr}
use Rattle.std.specs.Io.KnownBytes.{Keeps}
use Rattle.lwkt_base.specs.declared.faults.Fault.{Fault as Refusal}
use Rattle.lwkt_base.specs.Fault.{no_memory}
use Rattle.lwkt_report.specs.declared.closings.Closing.{Closing}
use Rattle.lwkt_report.specs.declared.streams.RunFault.{RunFault}
use Rattle.lwkt_report.specs.declared.streams.RunFault.TheVariants.{Fault, Stream}
use Rattle.lwkt_report.specs.declared.sources.TheConstants.{READ_LIMIT}
use Rattle.lwkt_report.specs.Report.{report_text}
use Rattle.lwkt_run.specs.declared.reports.Done.{Done}
use Rattle.lwkt_run.specs.declared.runs.End.{End}
use Rattle.lwkt_run.specs.Run.{AreBytesRead, Refuses, ReportsBy, Concludes, end_of_closing}

-- what was written stays what it is
keeps_itself : (o : Option (List ℕ)) → Keeps o o
keeps_itself o = search rules

-- some bytes are those that are read
some_read : (left : Option (List ℕ)) → (bytes : List ℕ) × AreBytesRead left bytes
some_read None = ([], tt)
some_read (Some all) = (take READ_LIMIT all, refl)

-- where reading fails nothing is written
pub reports_unread : (Run : List ℕ → End → List ℕ → Type 0) (left old : Option (List ℕ)) (fault : RunFault) → (fault ≡ Stream) ⊎ (fault ≡ Fault no_memory) → ReportsBy Run left old old (Err fault)
reports_unread Run left old fault why =
    let T : RunFault → Type 0 = λ f. ReportsBy Run left old old (Err f) in
    elim why [
      | inl is ↦ subst T (sym is) (inl (keeps_itself old))
      | inr is ↦ subst T (sym is) (keeps_itself old, ((some_read left).0, ((some_read left).1, tt)))
    ]

-- what was read, run and concluded
pub reports_concluded : (Run : List ℕ → End → List ℕ → Type 0) (left old new : Option (List ℕ)) (bytes read : List ℕ) (outcome : Result Done Refusal) (answer : Result End RunFault) → read ≡ bytes → AreBytesRead left bytes
    → IfOk outcome (λ done. Run read done.end (string_bytes done.text)) → IfErr outcome (λ fault. Refuses read fault) → Concludes old new outcome answer → ReportsBy Run left old new answer
reports_concluded Run left old new bytes read (Ok done) (Ok end) same are run refused ends =
    (bytes, (are, (string_bytes done.text, (subst (λ e. Run bytes e (string_bytes done.text)) (sym ends.0) (subst (λ b. Run b done.end (string_bytes done.text)) same run), ends.1))))
reports_concluded Run left old new bytes read (Ok done) (Err Stream) same are run refused front =
    inr (bytes, (are, (done.end, (string_bytes done.text, (subst (λ b. Run b done.end (string_bytes done.text)) same run, front)))))
reports_concluded Run left old new bytes read (Ok done) (Err (Fault fault)) same are run refused none = absurd none
reports_concluded Run left old new bytes read (Err refusal) (Ok end) same are run refused none = absurd none
reports_concluded Run left old new bytes read (Err refusal) (Err Stream) same are run refused none = absurd none
reports_concluded Run left old new bytes read (Err refusal) (Err (Fault fault)) same are run refused keeps =
    (keeps.1, (bytes, (are, subst (λ f. Refuses bytes f) (sym keeps.0) (subst (λ b. Refuses b refusal) same refused))))

-- the report of a closing, and how its run ended
pub done_has : (Run : End → List ℕ → Type 0) (closing : Closing) (done : Done) → Run (end_of_closing closing) (report_text closing) → string_bytes done.text ≡ report_text closing → done.end ≡ end_of_closing closing → Run done.end (string_bytes done.text)
done_has Run closing done run is_text is_end = subst (λ end. Run end (string_bytes done.text)) (sym is_end) (subst (λ text. Run (end_of_closing closing) text) (sym is_text) run)
