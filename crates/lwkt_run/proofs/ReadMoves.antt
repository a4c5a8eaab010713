-- What was read of bytes, run.
use Rattle.std.proofs.Common.{◌≡◌, ◌∙◌, inl, inr, ℕ, ◌<◌, List, take, length, Bool, Option, Result, Ok, Err, refl, sym, ap, subst, arith}
use Rattle.std.proofs.lemmas.Bool.{lt-leb}
use Rattle.std.proofs.lemmas.Bool.Decides.{leb_tells}
use Rattle.std.proofs.lemmas.List.{length-take-le, take_all}
use Rattle.lwkt_base.specs.declared.faults.Fault.{Fault as Refusal}
use Rattle.lwkt_report.specs.declared.closings.Closing.{Closing}
use Rattle.lwkt_report.specs.declared.streams.RunFault.{RunFault}
use Rattle.lwkt_report.specs.Report.{report_text}
use Rattle.lwkt_report.specs.Stream.{BlamesFailed}
use Rattle.lwkt_script.specs.declared.scripts.Script.{Script}
use Rattle.lwkt_script.specs.Format.{script_of}
use Rattle.lwkt_script.specs.Outcome.{Gives}
use Rattle.lwkt_run.specs.declared.modes.Mode.{Mode}
use Rattle.lwkt_run.specs.declared.modes.Mode.TheVariants.{Turns, Threads}
use Rattle.lwkt_run.specs.declared.runs.End.{End}
use Rattle.lwkt_run.specs.Modes.{MayCloseBy, HasRunBy, RunsJsonAs}
use Rattle.lwkt_run.specs.Run.{SaysAfterRun, ReportsBy, end_of_closing, exit_status}

-- too many bytes are no script
many_are_none : (bytes : List ℕ) → 1048576 < length bytes → script_of bytes ≡ Err 0
unfolding script_of
many_are_none bytes many = rw (lt-leb (length bytes) 1048576 many) refl

-- what is read of bytes means what they do
front_means : (bytes : List ℕ) → script_of (take 1048577 bytes) ≡ script_of bytes
front_means bytes =
    elim (leb_tells (length bytes) 1048577) [
      | inl few ↦ ap script_of (take_all 1048577 bytes few.1)
      | inr many ↦
          let front = length-take-le 1048577 bytes (omega (arith, many.1)) in
          many_are_none (take 1048577 bytes) (omega (arith, front)) ∙ sym (many_are_none bytes (omega (arith, many.1)))
    ]

pub front_gives : (bytes : List ℕ) (found : Result Script Refusal) → Gives (λ s. s) found (script_of bytes) → Gives (λ s. s) found (script_of (take 1048577 bytes))
front_gives bytes found gives =
    let F : Result Script ℕ → Type 0 = λ r. Gives (λ s. s) found r in
    subst F (sym (front_means bytes)) gives

-- a run that is driven so
pub has_run_by : (mode : Mode) (bytes : List ℕ) (script : Script) (closing : Closing) → script_of bytes ≡ Ok script → MayCloseBy mode script closing → HasRunBy mode bytes (end_of_closing closing) (report_text closing)
has_run_by Turns bytes script closing is closes = record { script = script; read = is; closing = closing; closes = closes; is_text = refl; is_end = refl }
has_run_by Threads bytes script closing is closes = record { script = script; read = is; closing = closing; closes = closes; is_text = refl; is_end = refl }

-- what the program does
pub runs_json : (mode : Mode) (source sink : Bool) (left old mid new : Option (List ℕ)) (outcome : Result End RunFault) (status : ℕ) → ReportsBy (HasRunBy mode) left old mid outcome → SaysAfterRun sink mid new outcome → BlamesFailed source sink outcome → status ≡ exit_status outcome
    → RunsJsonAs mode source sink left old new status
runs_json Turns source sink left old mid new outcome status modelled says blames is = (outcome, (mid, (modelled, (says, (blames, is)))))
runs_json Threads source sink left old mid new outcome status modelled says blames is = (outcome, (mid, (modelled, (says, (blames, is)))))
