-- The exit status 3 says that memory was refused, or that a file or a stream failed.
use Rattle.std.proofs.Common.{inl, inr, ◌≡◌, ◌∙◌, ℕ, List, refl, sym, subst, arith}
use Rattle.std.specs.Prelude.{Bool, true, false, IsTrue, Option, Some, None, Result, Ok, Err, if◌then◌else◌, is_some, length, ◌==◌, ◌&&◌}
use Rattle.std.specs.List.{list_all, list_any}
use Rattle.lwkt_base.specs.declared.faults.Fault.{Fault as Refusal}
use Rattle.lwkt_base.specs.declared.faults.Fault.TheVariants as refusals
use Rattle.lwkt_explore.specs.Expectations.{holds, status_of_text}
use Rattle.lwkt_explore.specs.Extents.{differs, is_complete}
use Rattle.lwkt_explore.specs.Judgements.{judgement_of, status_of_judgement}
use Rattle.lwkt_explore.specs.Statuses.{is_stuck, status_of_found}
use Rattle.lwkt_explore.specs.declared.judgements.Judgement.{Judgement}
use Rattle.lwkt_explore.specs.declared.judgements.Judgement.TheVariants.{Met, NotDecided, TurnsOut, Unlawful, Unmet}
use Rattle.lwkt_explore.specs.declared.searches.Found.{Found}
use Rattle.lwkt_report.specs.declared.arguments.WordsFault.{WordsFault}
use Rattle.lwkt_report.specs.declared.arguments.WordsFault.TheVariants as words
use Rattle.lwkt_report.specs.declared.closings.Closing.{Closing}
use Rattle.lwkt_report.specs.declared.streams.RunFault.{RunFault}
use Rattle.lwkt_report.specs.declared.streams.RunFault.TheVariants as run
use Rattle.lwkt_request.specs.declared.requests.Asked.{Asked}
use Rattle.lwkt_request.specs.declared.requests.Asked.TheVariants.{Do, Print, Misuse, OldUsage}
use Rattle.lwkt_request.specs.declared.requests.Form.TheVariants as form
use Rattle.lwkt_request.specs.declared.requests.Task.{Task}
use Rattle.lwkt_request.specs.declared.requests.Task.TheVariants.{Run, Show, Check, Text, Explore}
use Rattle.lwkt_request.specs.Wishes.{wish_by}
use Rattle.lwkt_run.specs.declared.modes.Mode.TheVariants.{Turns}
use Rattle.lwkt_run.specs.declared.runs.End.{End}
use Rattle.lwkt_run.specs.declared.runs.End.TheVariants as ends
use Rattle.lwkt_run.specs.Run.{exit_status}
use Rattle.lwkt_text.specs.declared.claims.Expectation.{Expectation}
use Rattle.lwkt_text.specs.declared.inputs.Input.{Input}
use Rattle.lwkt.specs.declared.endings.Ending.{Ending}
use Rattle.lwkt.specs.declared.endings.Ending.TheVariants.{Done, Memory, Stream}
use Rattle.lwkt.specs.declared.failures.Failure.{Failure}
use Rattle.lwkt.specs.declared.failures.Failure.TheVariants as failures
use Rattle.lwkt.specs.Answering.{Does, DoesAsked, Serves, ServesBy, ServesFile, ServesNamed, Streams, names_old_check, takes_folder}
use Rattle.lwkt.specs.Counting.{Counts}
use Rattle.lwkt.specs.Ending.{HasFailed, OwnsThree, WantsMemory, ending_of_check, ending_of_words}
use Rattle.lwkt.specs.Failing.{ending_of, ending_of_fault}
use Rattle.lwkt.specs.Making.{IsMade, mode_of}
use Rattle.lwkt.specs.Performing.{AnswersRead, Performs}

-- the other statuses
no_0 : ◌≡◌ {A = ℕ} 0 3 → ⊥
no_0 is = absurd (omega (arith, is))

no_1 : ◌≡◌ {A = ℕ} 1 3 → ⊥
no_1 is = absurd (omega (arith, is))

no_2 : ◌≡◌ {A = ℕ} 2 3 → ⊥
no_2 is = absurd (omega (arith, is))

no_4 : ◌≡◌ {A = ℕ} 4 3 → ⊥
no_4 is = absurd (omega (arith, is))

no_5 : ◌≡◌ {A = ℕ} 5 3 → ⊥
no_5 is = absurd (omega (arith, is))

-- what is made has another one
end_status : (end : End) → exit_status (Ok end) ≡ 3 → ⊥
end_status ends.Ended is = no_0 is
end_status ends.TurnsOut is = no_2 is
end_status ends.Unlawful is = no_4 is

judged_status : (judgement : Judgement) → status_of_judgement judgement ≡ 3 → ⊥
judged_status Met is = no_0 is
judged_status TurnsOut is = no_2 is
judged_status Unlawful is = no_4 is
judged_status Unmet is = no_5 is
judged_status NotDecided is = no_5 is

status_by_found : (other whole lost stuck : Bool) → ◌≡◌ {A = ℕ} (if other then 4 else if whole then (if lost then 2 else (if stuck then 2 else 0)) else 5) 3 → ⊥
status_by_found true whole lost stuck is = no_4 is
status_by_found false true true stuck is = no_2 is
status_by_found false true false true is = no_2 is
status_by_found false true false false is = no_0 is
status_by_found false false lost stuck is = no_5 is

status_by_text : (unasked differ met : Bool) (status : ℕ) → (status ≡ 3 → ⊥) → (if unasked then status else (if differ then 4 else if met then 0 else 5)) ≡ 3 → ⊥
status_by_text true differ met status other is = other is
status_by_text false true met status other is = no_4 is
status_by_text false false true status other is = no_0 is
status_by_text false false false status other is = no_5 is

text_status : (expectations : List Expectation) (rounds : Option Closing) (found : Found) → status_of_text expectations rounds found ≡ 3 → ⊥
text_status expectations rounds found is =
    status_by_text (length expectations == 0) (differs found) (is_complete found && list_all (holds rounds found) expectations) (status_of_found found)
    (status_by_found (differs found) (is_complete found) (is_some found.lost) (list_any is_stuck found.outcomes.all.items)) is

made_status : (task : Task) (order : Option (List ℕ)) (input : Input) (text : List ℕ) (status : ℕ) → IsMade task order input text status → status ≡ 3 → ⊥
made_status (Run on_threads wording) order input text status made is = judged_status (judgement_of input.expectations (mode_of on_threads) made.closing) (sym made.is_status ∙ is)
made_status (Show false in_numbers options) order input text status (end, (shown, same)) is = end_status end (sym same ∙ is)
made_status (Show true in_numbers options) order input text status (end, (shown, same)) is = end_status end (sym same ∙ is)
made_status (Check by_lines) order input text status made is = absurd made
made_status (Text form.Json) order input text status (exact, (short, same)) is = no_0 (sym same ∙ is)
made_status (Text form.Text) order input text status (exact, (short, same)) is = no_0 (sym same ∙ is)
made_status (Text form.Run) order input text status made is = judged_status (judgement_of input.expectations Turns made.closing) (sym made.is_status ∙ is)
made_status (Explore search) order input text status made is = text_status input.expectations made.is.rounds made.is.found (sym made.is.is_status ∙ is)

-- endings
by_done : (ending : Ending) (status : ℕ) → ending ≡ Done status → (status ≡ 3 → ⊥) → OwnsThree ending
by_done ending status is other = subst OwnsThree (sym is) other

by_stream : (ending : Ending) → ending ≡ Stream → OwnsThree ending
by_stream ending is = subst OwnsThree (sym is) (λ three. tt)

by_failed : (ending : Ending) → HasFailed ending → OwnsThree ending
by_failed (Done status) never = absurd never
by_failed (Memory refused) failed = λ three. tt
by_failed Stream failed = λ three. tt

by_memory : (ending : Ending) → WantsMemory ending → OwnsThree ending
by_memory (Done status) never = absurd never
by_memory (Memory refused) wants = λ three. tt
by_memory Stream never = absurd never

by_fault : (fault : Refusal) → OwnsThree (ending_of_fault fault)
by_fault (refusals.Memory refused) = λ three. tt
by_fault (refusals.Unlawful index) = λ three. no_4 three
by_fault _ = λ three. no_1 three

by_answer : (task : Task) (order name left old new : Option (List ℕ)) (answer : Result ℕ Failure) → AnswersRead task order name left old new answer → OwnsThree (ending_of answer)
by_answer task order name left old new (Ok status) (bytes, (are, (text, ((input, (read, made)), wrote)))) = λ three. made_status task order input text status made three
by_answer task order name left old new (Err (failures.Fault fault)) answers = by_fault fault
by_answer task order name left old new (Err failures.Past) answers = λ three. no_1 three
by_answer task order name left old new (Err failures.Long) answers = λ three. no_1 three
by_answer task order name left old new (Err failures.Stream) answers = λ three. tt

by_performs : (task : Task) (order name : Option (List ℕ)) (source sink : Bool) (flushed : Type 0) (left old new : Option (List ℕ)) (ending : Ending) → Performs task order name source sink flushed left old new ending → OwnsThree ending
by_performs task order name source sink flushed left old new ending performs =
    subst OwnsThree (sym performs.is_ending) (by_answer task order name left old performs.mid performs.answer performs.answers)

by_check : (outcome : Result Bool RunFault) → OwnsThree (ending_of_check outcome)
by_check (Ok true) = λ three. no_0 three
by_check (Ok false) = λ three. no_4 three
by_check (Err (run.Fault (refusals.Memory refused))) = λ three. tt
by_check (Err (run.Fault _)) = λ three. no_1 three
by_check (Err run.Stream) = λ three. tt

by_serves : (task : Task) (order name : Option (List ℕ)) (old source : Bool) (left : Option (List ℕ)) (s : Streams) (ending : Ending) → Serves task order name old source left s ending → OwnsThree ending
by_serves (Run on_threads wording) order name old source left s ending serves = by_performs (Run on_threads wording) order name source s.failed (IsTrue s.flushed) left s.old s.new ending (serves.performs tt)
by_serves (Show on_threads in_numbers options) order name old source left s ending serves = by_performs (Show on_threads in_numbers options) order name source s.failed (IsTrue s.flushed) left s.old s.new ending (serves.performs tt)
by_serves (Check true) order name old source left s ending serves = subst OwnsThree (sym (serves.lines refl).is_ending) (by_check (serves.lines refl).outcome)
by_serves (Check false) order name old source left s ending serves = subst OwnsThree (sym (serves.checks refl).is_ending) (by_check (serves.checks refl).outcome)
by_serves (Text as_form) order name old source left s ending serves = by_performs (Text as_form) order name source s.failed (IsTrue s.flushed) left s.old s.new ending (serves.performs tt)
by_serves (Explore search) order name old source left s ending serves = by_performs (Explore search) order name source s.failed (IsTrue s.flushed) left s.old s.new ending (serves.performs tt)

by_file : (task : Task) (order : Option (List ℕ)) (old : Bool) (name : List ℕ) (s : Streams) (ending : Ending) → ServesFile task order old name s ending → OwnsThree ending
by_file task order old name s ending (inl unopened) = by_stream ending unopened.1
by_file task order old name s ending (inr (inl usage)) = by_done ending 1 usage.1.1 no_1
by_file task order old name s ending (inr (inr (left, (source, serves)))) = by_serves task order (Some name) old source left s ending serves

by_counts : (sink : Bool) (old new : Option (List ℕ)) (ending : Ending) → Counts sink old new ending → OwnsThree ending
by_counts sink old new ending (inl passed) = by_done ending 0 passed.0 no_0
by_counts sink old new ending (inr (inl failed)) = by_done ending 5 failed.0 no_5
by_counts sink old new ending (inr (inr (inl none))) = by_done ending 1 none.0 no_1
by_counts sink old new ending (inr (inr (inr failed))) = by_failed ending failed

by_named : (folder : Bool) (task : Task) (order : Option (List ℕ)) (old : Bool) (name : List ℕ) (s : Streams) (ending : Ending) → ServesNamed folder task order old name s ending → OwnsThree ending
by_named true task order old name s ending counts = by_counts s.failed s.old s.new ending counts
by_named false task order old name s ending serves = by_file task order old name s ending serves

by_path : (path : Option (List ℕ)) (task : Task) (order : Option (List ℕ)) (old source : Bool) (left : Option (List ℕ)) (unread : Type 0) (s : Streams) (ending : Ending) → ServesBy path task order old source left unread s ending → OwnsThree ending
by_path None task order old source left unread s ending serves = by_serves task order None old source left s ending serves
by_path (Some name) task order old source left unread s ending (still, serves) = by_named (takes_folder task) task order old name s ending serves

by_asked : (asked : Asked) (old source : Bool) (left : Option (List ℕ)) (unread unwritten : Type 0) (s : Streams) (ending : Ending) → DoesAsked asked old source left unread unwritten s ending → OwnsThree ending
by_asked (Do request) old source left unread unwritten s ending does = by_path (wish_by request).path request.task (wish_by request).order old source left unread s ending does
by_asked (Print text) old source left unread unwritten s ending (still, inl whole) = by_done ending 0 whole.1.1.1 no_0
by_asked (Print text) old source left unread unwritten s ending (still, inr front) = by_stream ending front.1.1
by_asked (Misuse text) old source left unread unwritten s ending (still, (blank, reports)) = by_done ending 1 reports.1 no_1
by_asked OldUsage old source left unread unwritten s ending (still, reports) = by_done ending 1 reports.1 no_1

pub by_does : (said : List (List ℕ)) (source : Bool) (left : Option (List ℕ)) (unread unwritten : Type 0) (s : Streams) (ending : Ending) → Does said source left unread unwritten s ending → OwnsThree ending
by_does said source left unread unwritten s ending (inl (still, (blank, wants))) = by_memory ending wants
by_does said source left unread unwritten s ending (inr (asked, (answer, (wish, does)))) = by_asked asked (names_old_check said) source left unread unwritten s ending does

pub by_words : (fault : WordsFault) → OwnsThree (ending_of_words fault)
by_words (words.Memory refused) = λ three. tt
by_words words.NotUtf8 = λ three. no_1 three
