-- What the program does with JSON by the name `lwkt_run` is what `run_program` does.
use Rattle.std.proofs.Common.{inl, inr, ◌≡◌, ◌∙◌, ◌⊎◌, ◌&&◌, ◌||◌, ℕ, List, [], take, refl, sym, ap, subst, rules}
use Rattle.std.specs.Prelude.{Bool, true, false, not, IsTrue, Option, Some, None, Result, Ok, Err, if◌then◌else◌}
use Rattle.lwkt_base.specs.declared.faults.Fault.{Fault as Refusal}
use Rattle.lwkt_base.specs.declared.faults.Fault.TheVariants.{Script as ScriptFault, Memory, Limits, LawBroken}
use Rattle.lwkt_explore.specs.Claims.{all_ended}
use Rattle.lwkt_explore.specs.declared.judgements.Judgement.TheVariants.{Met, NotDecided, TurnsOut, Unlawful, Unmet}
use Rattle.lwkt_explore.specs.Judgements.{is_unlawful, judgement_of, status_of_judgement}
use Rattle.lwkt_report.specs.declared.closings.Closing.{Closing}
use Rattle.lwkt_report.specs.declared.closings.Verdict.{Verdict}
use Rattle.lwkt_report.specs.declared.closings.Verdict.TheVariants as verdicts
use Rattle.lwkt_report.specs.declared.sources.TheConstants.{READ_LIMIT}
use Rattle.lwkt_report.specs.declared.streams.RunFault.{RunFault}
use Rattle.lwkt_report.specs.declared.streams.RunFault.TheVariants.{Fault as FaultOfRun, Stream as StreamOfRun}
use Rattle.lwkt_request.specs.declared.requests.Task.TheVariants.{Run}
use Rattle.lwkt_request.specs.declared.requests.Wording.TheVariants.{OldName}
use Rattle.lwkt_run.proofs.ReadMoves.{front_gives, has_run_by, runs_json}
use Rattle.lwkt_run.specs.declared.modes.Mode.{Mode}
use Rattle.lwkt_run.specs.declared.runs.End.{End}
use Rattle.lwkt_run.specs.Modes.{HasRunBy, RunsJsonAs}
use Rattle.lwkt_run.specs.Run.{DeclinesRun, Refuses, end_by, end_of_closing, exit_status}
use Rattle.lwkt_script.specs.declared.scripts.Script.{Script}
use Rattle.lwkt_script.specs.Format.{script_of}
use Rattle.lwkt_script.specs.Outcome.{IsFaultOf}
use Rattle.lwkt_text.specs.declared.claims.Expectation.{Expectation}
use Rattle.lwkt_text.specs.declared.inputs.Input.{Input}
use Rattle.lwkt_text.specs.declared.inputs.Unread.{Unread}
use Rattle.lwkt_text.specs.declared.inputs.Unread.TheVariants.{Json, Wrongs}
use Rattle.lwkt_text.specs.Inputs.{input_of, is_text, json_input, names_text, reading_within, text_input}
use Rattle.lwkt.specs.declared.endings.Ending.{Ending}
use Rattle.lwkt.specs.declared.failures.Failure.{Failure}
use Rattle.lwkt.specs.declared.failures.Failure.TheVariants.{Fault, Past, Long, Stream}
use Rattle.lwkt.specs.Ending.{status_at}
use Rattle.lwkt.specs.Failing.{RefusesInput, ending_of, ending_of_fault}
use Rattle.lwkt.specs.Making.{IsReport, mode_of}
use Rattle.lwkt.specs.Performing.{Answers, IsJson, Performs, RunsByOldName, SaysAfter}

-- where nothing is expected the status is that of how the run ended
status_by : (verdict : Verdict) (all : Bool) → status_of_judgement (if is_unlawful verdict then Unlawful else (if false then Unmet else (if false then NotDecided else (if true && not all then TurnsOut else Met)))) ≡ exit_status (Ok (end_by verdict all))
status_by verdicts.Closed true = refl
status_by verdicts.Closed false = refl
status_by verdicts.Lawful true = refl
status_by verdicts.Lawful false = refl
status_by (verdicts.Unlawful index) true = refl
status_by (verdicts.Unlawful index) false = refl

pub status_unasked : (mode : Mode) (closing : Closing) → status_of_judgement (judgement_of [] mode closing) ≡ exit_status (Ok (end_of_closing closing))
status_unasked mode closing = status_by closing.verdict (all_ended closing)

abbrev input_or : Input → Result Input Unread → Input
input_or input (Ok found) = found
input_or input (Err unread) = input

-- JSON that was read is a script of which nothing is expected
json_read : (read : Result Script ℕ) (input : Input) → json_input read ≡ Ok input → (read ≡ Ok input.script) × (input.expectations ≡ [])
json_read (Ok script) input is =
    let same : record { script = script; names = None; expectations = [] } ≡ input = ap (input_or input) is in
    (ap (λ (i : Input). Ok i.script) same, sym (ap (λ (i : Input). i.expectations) same))
json_read (Err place) input is = let never : ⊥ = cc in absurd never

-- JSON that isn't read is refused as the format says
json_refused : (read : Result Script ℕ) (fault : Refusal) → RefusesInput (json_input read) fault → IsFaultOf fault read
json_refused (Ok script) (ScriptFault place) refuses = elim refuses [ inl is ↦ let never : ⊥ = cc in absurd never | inr is ↦ let wrong = is.1.1 in let never : ⊥ = cc in absurd never ]
json_refused (Err at) (ScriptFault place) refuses = elim refuses [ inl is ↦ cc | inr is ↦ let wrong = is.1.1 in let never : ⊥ = cc in absurd never ]
json_refused read (Memory refused) refuses = tt
json_refused read _ refuses = absurd refuses

fault_refuses : (bytes : List ℕ) (fault : Refusal) → IsFaultOf fault (script_of bytes) → Refuses bytes fault
fault_refuses bytes (ScriptFault place) is = is
fault_refuses bytes (Memory refused) is = tt
fault_refuses bytes _ is = absurd is

-- a script whose run is declined is refused
refused_as : (bytes : List ℕ) (script : Script) (fault : Refusal) → script_of bytes ≡ Ok script → DeclinesRun script fault → Refuses bytes fault
refused_as bytes script (Memory refused) read declines = tt
refused_as bytes script Limits read declines = (script, (read, declines))
refused_as bytes script LawBroken read declines = (script, (read, declines))
refused_as bytes script _ read declines = absurd declines

status_refused : (bytes : List ℕ) (fault : Refusal) → Refuses bytes fault → status_at (ending_of_fault fault) ≡ exit_status (Err (FaultOfRun fault))
status_refused bytes (ScriptFault place) refuses = refl
status_refused bytes (Memory refused) refuses = refl
status_refused bytes Limits refuses = refl
status_refused bytes LawBroken refuses = refl
status_refused bytes _ refuses = absurd refuses

-- what is read of a source that gives these bytes alone
abbrev front : List ℕ → List ℕ
front bytes = take READ_LIMIT bytes

-- a report is that of a run of the JSON
has_run : (mode : Mode) (bytes text : List ℕ) (input : Input) (status : ℕ) (report : IsReport mode OldName input text status) → json_input (script_of bytes) ≡ Ok input → HasRunBy mode (front bytes) (end_of_closing report.closing) text
has_run mode bytes text input status report is =
    let Runs : List ℕ → Type 0 = λ t. HasRunBy mode (front bytes) (end_of_closing report.closing) t in
    subst Runs (sym report.is_text) (has_run_by mode (front bytes) input.script report.closing (front_gives bytes (Ok input.script) (json_read (script_of bytes) input is).0) report.closes)

status_run : (mode : Mode) (bytes text : List ℕ) (input : Input) (status : ℕ) (report : IsReport mode OldName input text status) → json_input (script_of bytes) ≡ Ok input → status ≡ exit_status (Ok (end_of_closing report.closing))
status_run mode bytes text input status report is =
    report.is_status ∙ ap (λ (said : List Expectation). status_of_judgement (judgement_of said mode report.closing)) (json_read (script_of bytes) input is).1 ∙ status_unasked mode report.closing

-- JSON is refused as it is
refused : (bytes : List ℕ) (fault : Refusal) → RefusesInput (json_input (script_of bytes)) fault → Refuses (front bytes) fault
refused bytes fault refuses = fault_refuses (front bytes) fault (front_gives bytes (Err fault) (json_refused (script_of bytes) fault refuses))

-- what is answered of JSON
json_answered : (on_threads : Bool) (order : Option (List ℕ)) (bytes : List ℕ) (source sink : Bool) (old mid new : Option (List ℕ)) (status : ℕ) (answer : Result ℕ Failure)
    → Answers (Run on_threads OldName) order (json_input (script_of bytes)) old mid answer → SaysAfter true sink mid new answer → (answer ≡ Err Stream → IsTrue source ⊎ IsTrue sink) → status ≡ status_at (ending_of answer)
    → RunsJsonAs (mode_of on_threads) source sink (Some bytes) old new status
json_answered on_threads order bytes source sink old mid new status (Ok made) (text, (of, wrote)) says blames is =
    runs_json (mode_of on_threads) source sink (Some bytes) old mid new (Ok (end_of_closing of.1.1.closing)) status
    (front bytes, (refl, (text, (has_run (mode_of on_threads) bytes text of.0 made of.1.1 of.1.0, wrote))))
    says (λ never. let no : ⊥ = cc in absurd no) (is ∙ status_run (mode_of on_threads) bytes text of.0 made of.1.1 of.1.0)
json_answered on_threads order bytes source sink old mid new status (Err (Fault fault)) (keeps, why) says blames is =
    let refuses : Refuses (front bytes) fault = elim why [
      | inl unread ↦ refused bytes fault unread
      | inr (input, (read, declines)) ↦ refused_as (front bytes) input.script fault (front_gives bytes (Ok input.script) (json_read (script_of bytes) input read).0) declines
    ] in
    runs_json (mode_of on_threads) source sink (Some bytes) old mid new (Err (FaultOfRun fault)) status
    (keeps, (front bytes, (refl, refuses)))
    says (λ never. let no : ⊥ = cc in absurd no) (is ∙ status_refused (front bytes) fault refuses)
json_answered on_threads order bytes source sink old mid new status (Err Past) (keeps, why) says blames is = elim why [ inl never ↦ absurd never | inr (input, (read, never)) ↦ absurd never ]
json_answered on_threads order bytes source sink old mid new status (Err Long) (keeps, why) says blames is = elim why [ inl never ↦ absurd never | inr (input, (read, never)) ↦ absurd never ]
json_answered on_threads order bytes source sink old mid new status (Err Stream) stands says blames is =
    runs_json (mode_of on_threads) source sink (Some bytes) old mid new (Err StreamOfRun) status
    (elim stands [
      | inl keeps ↦ inl keeps
      | inr (text, (made, (of, wrote))) ↦ inr (front bytes, (refl, (end_of_closing of.1.1.closing, (text, (has_run (mode_of on_threads) bytes text of.0 made of.1.1 of.1.0, wrote)))))
    ])
    says (λ same. blames refl) is

abbrev form_read : List ℕ → Bool → Result Input Unread
form_read bytes text = if text then text_input (reading_within bytes) else json_input (script_of bytes)

-- by the name `lwkt_run`
pub runs_by_old_name : (on_threads : Bool) (order name : Option (List ℕ)) (source sink : Bool) (flushed : Type 0) (left old new : Option (List ℕ)) (ending : Ending)
    → Performs (Run on_threads OldName) order name source sink flushed left old new ending → RunsByOldName on_threads name source sink left old new (status_at ending)
runs_by_old_name on_threads order name source sink flushed left old new ending performs =
    let bytes = performs.answers.0 in (
      bytes,
      (
        performs.answers.1.0,
        λ json.
            let Of : Result Input Unread → Type 0 = λ read. Answers (Run on_threads OldName) order read old performs.mid performs.answer in
            let read : input_of name bytes ≡ json_input (script_of bytes) = ap (form_read bytes) json in
            json_answered on_threads order bytes source sink old performs.mid new (status_at ending) performs.answer (subst Of read performs.answers.1.1) performs.says performs.blames (ap status_at performs.is_ending),
      ),
    )
