-- How reading, making and writing come together in an answer, and its status.
use Rattle.std.proofs.Common.{inl, inr, ◌≡◌, ◌∙◌, ◌⊎◌, ℕ, List, [], take, refl, sym, subst, rules}
use Rattle.std.proofs.lemmas.Bool.{false≢true}
use Rattle.std.specs.Prelude.{Bool, true, false, IsTrue, Option, Some, None, Result, Ok, Err, OnOk, IfOk}
use Rattle.std.specs.Io.KnownBytes.{Keeps}
use Rattle.lwkt_base.specs.Fault.{no_memory}
use Rattle.lwkt_base.specs.declared.faults.Fault.{Fault as Refusal}
use Rattle.lwkt_report.specs.declared.sources.TheConstants.{READ_LIMIT}
use Rattle.lwkt_request.specs.declared.requests.Form.TheVariants as form
use Rattle.lwkt_request.specs.declared.requests.Task.{Task}
use Rattle.lwkt_request.specs.declared.requests.Task.TheVariants.{Run, Show, Check, Text, Explore}
use Rattle.lwkt_run.specs.Run.{AreBytesRead}
use Rattle.lwkt_script.specs.declared.scripts.Script.{Script}
use Rattle.lwkt_script.specs.Format.{script_of}
use Rattle.lwkt_text.specs.Reading.{IsTextOf}
use Rattle.lwkt_text.specs.declared.inputs.Input.{Input}
use Rattle.lwkt_text.specs.declared.inputs.Unread.{Unread}
use Rattle.lwkt.specs.declared.endings.Ending.{Ending}
use Rattle.lwkt.specs.declared.endings.Ending.TheVariants as endings
use Rattle.lwkt.specs.declared.failures.Failure.{Failure}
use Rattle.lwkt.specs.declared.failures.Failure.TheVariants.{Fault, Past, Long, Stream}
use Rattle.lwkt.specs.Failing.{Declines, IsFailureOf, ending_of}
use Rattle.lwkt.specs.Making.{IsForm, IsMadeOf, IsShort, TakesScript}
use Rattle.lwkt.specs.Performing.{Answers, AnswersRead, Performs, SaysAfter, Writes, complains}

-- what was written stays what it is
pub keeps_itself : (o : Option (List ℕ)) → Keeps o o
keeps_itself o = search rules

-- some bytes are those that are read
pub some_read : (left : Option (List ℕ)) → (bytes : List ℕ) × AreBytesRead left bytes
some_read None = ([], tt)
some_read (Some all) = (take READ_LIMIT all, refl)

-- a task that is no check takes a script
pub takes_script : (task : Task) → ((by_lines : Bool) → task ≡ Check by_lines → ⊥) → TakesScript task
takes_script (Run on_threads wording) none = tt
takes_script (Show on_threads in_numbers options) none = tt
takes_script (Check by_lines) none = absurd (none by_lines refl)
takes_script (Text as_form) none = tt
takes_script (Explore asked) none = tt

-- no task declines a script for a stream
declines_no_stream : (task : Task) (order : Option (List ℕ)) (script : Script) → Declines task order script Stream → ⊥
declines_no_stream (Run on_threads wording) order script never = never
declines_no_stream (Show true in_numbers options) order script never = never
declines_no_stream (Show false in_numbers options) order script never = never
declines_no_stream (Check by_lines) order script never = never
declines_no_stream (Text form.Json) order script never = never
declines_no_stream (Text form.Text) order script never = never
declines_no_stream (Text form.Run) order script never = never
declines_no_stream (Explore asked) order script never = never

no_stream : (task : Task) (order : Option (List ℕ)) (read : Result Input Unread) → IsFailureOf task order read Stream → ⊥
no_stream task order read why = elim why [ inl never ↦ never | inr (input, (is, declines)) ↦ declines_no_stream task order input.script declines ]

pub fails_no_stream : (task : Task) (order : Option (List ℕ)) (read : Result Input Unread) (failure : Failure) → IsFailureOf task order read failure → failure ≡ Stream → ⊥
fails_no_stream task order read failure why is =
    let Why : Failure → Type 0 = λ f. IsFailureOf task order read f in
    no_stream task order read (subst Why is why)

-- where nothing is made, nothing is written
pub fails_so : (task : Task) (order : Option (List ℕ)) (read : Result Input Unread) (old : Option (List ℕ)) (failure : Failure) → IsFailureOf task order read failure → Answers task order read old old (Err failure)
fails_so task order read old (Fault fault) why = (keeps_itself old, why)
fails_so task order read old Past why = (keeps_itself old, why)
fails_so task order read old Long why = (keeps_itself old, why)
fails_so task order read old Stream why = inl (keeps_itself old)

-- what is made is written
pub writes_so : (task : Task) (order : Option (List ℕ)) (read : Result Input Unread) (text : List ℕ) (status : ℕ) (failed : Bool) (old new : Option (List ℕ)) (answer : Result ℕ Failure)
    → IsMadeOf task order read text status → Writes text status failed old new answer → Answers task order read old new answer
writes_so task order read text status failed old new (Ok finished) made wrote =
    let Made : ℕ → Type 0 = λ s. IsMadeOf task order read text s in
    (text, (subst Made (sym wrote.0) made, wrote.1))
writes_so task order read text status failed old new (Err Stream) made wrote = inr (text, (status, (made, wrote.1)))
writes_so task order read text status failed old new (Err (Fault fault)) made never = absurd never
writes_so task order read text status failed old new (Err Past) made never = absurd never
writes_so task order read text status failed old new (Err Long) made never = absurd never

-- a write that fails is the sink's
pub writes_blames : (text : List ℕ) (status : ℕ) (failed : Bool) (old new : Option (List ℕ)) (answer : Result ℕ Failure) → Writes text status failed old new answer → answer ≡ Err Stream → IsTrue failed
writes_blames text status failed old new (Ok finished) wrote is = let never : ⊥ = cc in absurd never
writes_blames text status failed old new (Err Stream) wrote is = wrote.0
writes_blames text status failed old new (Err (Fault fault)) never is = absurd never
writes_blames text status failed old new (Err Past) never is = absurd never
writes_blames text status failed old new (Err Long) never is = absurd never

pub writes_unfailed : (text : List ℕ) (status : ℕ) (failed before after : Bool) (old new : Option (List ℕ)) (answer : Result ℕ Failure) → Writes text status failed old new answer → OnOk answer (after ≡ before) → (answer ≡ Err Stream → ⊥) → after ≡ before
writes_unfailed text status failed before after old new (Ok finished) wrote same none = same
writes_unfailed text status failed before after old new (Err Stream) wrote same none = absurd (none refl)
writes_unfailed text status failed before after old new (Err (Fault fault)) never same none = absurd never
writes_unfailed text status failed before after old new (Err Past) never same none = absurd never
writes_unfailed text status failed before after old new (Err Long) never same none = absurd never

-- a stream that fails is reported
never_failed : (before after : Bool) → after ≡ before → before ≡ false → IsTrue after → ⊥
never_failed before after same was failed = false≢true (sym (same ∙ was) ∙ failed)

pub ends_as_stream : (before after : Bool) (answer : Result ℕ Failure) → ((answer ≡ Err Stream → ⊥) → after ≡ before) → before ≡ false → IsTrue after → ending_of answer ≡ endings.Stream
ends_as_stream before after (Err Stream) same was failed = refl
ends_as_stream before after (Ok status) same was failed = absurd (never_failed before after (same (λ is. let never : ⊥ = cc in never)) was failed)
ends_as_stream before after (Err (Fault fault)) same was failed = absurd (never_failed before after (same (λ is. let never : ⊥ = cc in never)) was failed)
ends_as_stream before after (Err Past) same was failed = absurd (never_failed before after (same (λ is. let never : ⊥ = cc in never)) was failed)
ends_as_stream before after (Err Long) same was failed = absurd (never_failed before after (same (λ is. let never : ⊥ = cc in never)) was failed)

-- where memory is wanted, nothing is said of what was read
pub unread_so : (task : Task) (order : Option (List ℕ)) (read : Result Input Unread) (old : Option (List ℕ)) (fault : Refusal) → fault ≡ no_memory → Answers task order read old old (Err (Fault fault))
unread_so task order read old fault is =
    let OfFault : Refusal → Type 0 = λ f. Answers task order read old old (Err (Fault f)) in
    subst OfFault (sym is) (keeps_itself old, inl tt)

-- by the name `lwkt_run` or not, no more is written of a task than its answer
pub performed : (task : Task) (order name : Option (List ℕ)) (source sink_mid sink : Bool) (flushed_mid flushed : Type 0) (left old mid new : Option (List ℕ)) (answer : Result ℕ Failure) (ending : Ending)
    → AnswersRead task order name left old mid answer → SaysAfter (complains task) sink mid new answer → (answer ≡ Err Stream → IsTrue source ⊎ IsTrue sink_mid) → (IsTrue sink_mid → IsTrue sink) → OnOk answer flushed_mid → OnOk answer (flushed_mid → flushed) → ending ≡ ending_of answer
    → Performs task order name source sink flushed left old new ending
performed task order name source sink_mid sink flushed_mid flushed left old mid new (Ok finished) ending answers says blames still was goes is =
    record { answer = Ok finished; mid = mid; answers = answers; says = says; blames = (λ same. elim (blames same) [ inl s ↦ inl s | inr k ↦ inr (still k) ]); flushes = goes was; is_ending = is }
performed task order name source sink_mid sink flushed_mid flushed left old mid new (Err failure) ending answers says blames still was goes is =
    record { answer = Err failure; mid = mid; answers = answers; says = says; blames = (λ same. elim (blames same) [ inl s ↦ inl s | inr k ↦ inr (still k) ]); flushes = tt; is_ending = is }

-- a form that was written is the text that is made
pub json_made : {A E M F : Type 0} (bytes : A → List ℕ) (text : M → A) (status : M → ℕ) (input : Input) (written : Result A E) (made : Result M F)
    → IfOk written (λ said. script_of (bytes said) ≡ Ok input.script) → IfOk made (λ m. written ≡ Ok (text m)) → IfOk made (λ m. IsShort (bytes (text m))) → IfOk made (λ m. status m ≡ 0)
    → IfOk made (λ m. IsForm form.Json input (bytes (text m)) (status m))
json_made {A} {E} {M} {F} bytes text status input written (Ok m) exact same short is =
    let Exact : Result A E → Type 0 = λ r. IfOk r (λ said. script_of (bytes said) ≡ Ok input.script) in
    (subst Exact same exact, (short, is))
json_made bytes text status input written (Err failure) exact same short is = tt

pub text_made : {A E M F : Type 0} (bytes : A → List ℕ) (text : M → A) (status : M → ℕ) (input : Input) (written : Result A E) (made : Result M F)
    → IfOk written (λ said. IsTextOf input.script (bytes said)) → IfOk made (λ m. written ≡ Ok (text m)) → IfOk made (λ m. IsShort (bytes (text m))) → IfOk made (λ m. status m ≡ 0)
    → IfOk made (λ m. IsForm form.Text input (bytes (text m)) (status m))
text_made {A} {E} {M} {F} bytes text status input written (Ok m) exact same short is =
    let Exact : Result A E → Type 0 = λ r. IfOk r (λ said. IsTextOf input.script (bytes said)) in
    (subst Exact same exact, (short, is))
text_made bytes text status input written (Err failure) exact same short is = tt
