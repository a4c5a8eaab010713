-- What the program does with the words of its command line (own).
use Rattle.std.specs.Prelude.{◌≡◌, ◌⊎◌, ◌++◌, ◌∷◌, ℕ, List, [], Bool, false, true, IsTrue, Option, None, Some, codes, string_bytes}
use Rattle.std.specs.List.{flat_map}
use Rattle.std.specs.Str.{bytes_eq}
use Rattle.std.specs.Str.Lines.{lines}
use Rattle.std.specs.Io.KnownBytes.{Appends, Keeps}
use Rattle.std.specs.declared.io.Error.{Error}
use Rattle.lwkt_checker.specs.LineOutput.{ReportsLines}
use Rattle.lwkt_checker.specs.Output.{ReportsFinding}
use Rattle.lwkt_report.specs.declared.complaints.Complaint.TheVariants.{Usage}
use Rattle.lwkt_report.specs.declared.complaints.Program.TheVariants.{Run as RunProgram}
use Rattle.lwkt_report.specs.Complaint.{fault_line, IsSaid}
use Rattle.lwkt_report.specs.Escape.{escaped}
use Rattle.lwkt_report.specs.Stream.{AppendsFront}
use Rattle.lwkt_request.specs.Answers.{IsAnswer, asked_in}
use Rattle.lwkt_request.specs.declared.requests.Asked.{Asked}
use Rattle.lwkt_request.specs.declared.requests.Asked.TheVariants.{Do, Print, Misuse, OldUsage}
use Rattle.lwkt_request.specs.declared.requests.Task.{Task}
use Rattle.lwkt_request.specs.declared.requests.Task.TheVariants.{Run, Check, Explore}
use Rattle.lwkt_request.specs.declared.requests.Wording.TheVariants.{OldName}
use Rattle.lwkt_request.specs.Wishes.{wish_by, wish_of}
use Rattle.lwkt.specs.declared.endings.Ending.{Ending}
use Rattle.lwkt.specs.declared.endings.Ending.TheVariants.{Done, Stream}
use Rattle.lwkt.specs.Checking.{ChecksAloud, IsUnread}
use Rattle.lwkt.specs.Counting.{Counts}
use Rattle.lwkt.specs.Ending.{WantsMemory, status_at}
use Rattle.lwkt.specs.Making.{TakesScript}
use Rattle.lwkt.specs.Performing.{Performs, RunsByOldName}

-- what was written to standard output and to standard error before the program and after it, where that is known; whether a call of either
-- has failed, and by which error one of standard output has; and whether standard output is flushed
pub record Streams : Type 0 where
  pub old : Option (List ℕ)
  pub new : Option (List ℕ)
  pub failed : Bool
  pub error : Option Error
  pub flushed : Bool
  pub before : Option (List ℕ)
  pub after : Option (List ℕ)
  pub lost : Bool

-- what is done for a task with what was left to read of a file of this name, or of standard input: what it makes of a script is written,
-- by the name `lwkt_run` as `run_program` writes that of one in JSON; or what is found of a trace, by the name `lwkt_check` with the fault
-- line of a trace that is refused
pub record Serves (task : Task) (order name : Option (List ℕ)) (by_old_name source_failed : Bool) (left : Option (List ℕ)) (s : Streams) (ending : Ending) : Type 0 where
  pub performs : TakesScript task → Performs task order name source_failed s.failed (IsTrue s.flushed) left s.old s.new ending
  pub as_format : (on_threads : Bool) → task ≡ Run on_threads OldName → RunsByOldName on_threads name source_failed s.failed left s.old s.new (status_at ending)
  pub checks : task ≡ Check false → ChecksAloud by_old_name ReportsFinding source_failed s.failed left s.old s.new (IsUnread s.failed s.error) s.lost s.before s.after ending
  pub lines : task ≡ Check true → ChecksAloud by_old_name ReportsLines source_failed s.failed left s.old s.new (IsUnread s.failed s.error) s.lost s.before s.after ending

-- the usage line of `lwkt_run`, with status 1
abbrev pub PrintsUsage : Streams → Ending → Type 0
PrintsUsage s ending = IsSaid s.failed s.old s.new (fault_line RunProgram Usage) × (ending ≡ Done 1)

-- words for `lwkt_run`
abbrev pub IsByOldName : Task → Type 0
IsByOldName task = (on_threads : Bool) × (task ≡ Run on_threads OldName)

-- what is done with a file of this name: it can't be opened, and nothing is written; or `lwkt_run` is misused, since no such file is there;
-- or what is in it is read
abbrev pub ServesFile : Task → Option (List ℕ) → Bool → List ℕ → Streams → Ending → Type 0
ServesFile task order by_old_name name s ending =
    (Keeps s.old s.new × (ending ≡ Stream))
    ⊎ ((IsByOldName task × PrintsUsage s ending)
    ⊎ ((left : Option (List ℕ)) × ((source_failed : Bool) × Serves task order (Some name) by_old_name source_failed left s ending)))

-- whether all scripts of a folder are tried
abbrev pub takes_folder : Task → Bool
takes_folder (Explore search) = search.all
takes_folder _ = false

-- what is done with what is named: with all scripts of the folder, or with the file
abbrev pub ServesNamed : Bool → Task → Option (List ℕ) → Bool → List ℕ → Streams → Ending → Type 0
ServesNamed true task order by_old_name name s ending = Counts s.failed s.old s.new ending
ServesNamed false task order by_old_name name s ending = ServesFile task order by_old_name name s ending

-- what is done for a request: with what it names, and then nothing is read of standard input; else with what was left of that
abbrev pub ServesBy : Option (List ℕ) → Task → Option (List ℕ) → Bool → Bool → Option (List ℕ) → Type 0 → Streams → Ending → Type 0
ServesBy None task order by_old_name source_failed left unread s ending = Serves task order None by_old_name source_failed left s ending
ServesBy (Some name) task order by_old_name source_failed left unread s ending = unread × ServesNamed (takes_folder task) task order by_old_name name s ending

-- a page is written whole and flushed, with status 0, and no error said; or the sink fails, and a front of it stands
abbrev pub PrintsPage : List ℕ → Streams → Ending → Type 0
PrintsPage text s ending =
    (Appends s.old s.new text × (IsTrue s.flushed × (Keeps s.before s.after × (ending ≡ Done 0))))
    ⊎ (IsTrue s.failed × (AppendsFront s.old s.new text × (ending ≡ Stream)))

-- a line as it is shown, ended by a line feed
abbrev pub line_shown : List ℕ → List ℕ
line_shown line = escaped line ++ 10 ∷ []

-- the lines of a text, as they are shown
abbrev pub lines_shown : List ℕ → List ℕ
lines_shown text = flat_map line_shown (lines text)

-- where errors go the lines of a text are said as they are shown, or where that fails a front of them, with status 1
abbrev pub PrintsMisuse : List ℕ → Bool → Option (List ℕ) → Option (List ℕ) → Ending → Type 0
PrintsMisuse text failed old new ending = IsSaid failed old new (lines_shown text) × (ending ≡ Done 1)

-- what is done for an answer to the words: a request is served, a page written, and for words that ask for nothing said so; of standard
-- input nothing is read but for a request, and to standard output nothing written but for a request, a page and the words of `lwkt_run`
abbrev pub DoesAsked : Asked → Bool → Bool → Option (List ℕ) → Type 0 → Type 0 → Streams → Ending → Type 0
DoesAsked (Do request) by_old_name source_failed left unread unwritten s ending = ServesBy (wish_by request).path request.task (wish_by request).order by_old_name source_failed left unread s ending
DoesAsked (Print text) by_old_name source_failed left unread unwritten s ending = unread × PrintsPage (string_bytes text) s ending
DoesAsked (Misuse text) by_old_name source_failed left unread unwritten s ending = unread × (unwritten × PrintsMisuse (string_bytes text) s.lost s.before s.after ending)
DoesAsked OldUsage by_old_name source_failed left unread unwritten s ending = unread × PrintsUsage s ending

-- whether words are those of `lwkt_check`
abbrev pub names_old_check : List (List ℕ) → Bool
names_old_check [] = false
names_old_check (name ∷ words) = bytes_eq name (codes "lwkt_check")

-- what the program does with these words, where this was left of standard input, and a call of that has failed or not: the request that they
-- ask for, if they ask for one; or memory is refused, and nothing is read or written
abbrev pub Does : List (List ℕ) → Bool → Option (List ℕ) → Type 0 → Type 0 → Streams → Ending → Type 0
Does words source_failed left unread unwritten s ending =
    (unread × (unwritten × WantsMemory ending))
    ⊎ ((asked : Asked) × (IsAnswer words asked × ((wish_of asked ≡ asked_in words) × DoesAsked asked (names_old_check words) source_failed left unread unwritten s ending)))
