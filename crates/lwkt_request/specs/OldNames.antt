-- The old names of the subcommands (own).
use Rattle.std.specs.Prelude.{ℕ, ◌&&◌, ◌||◌, ◌==◌, not, List, [], ◌∷◌, Bool, true, false, Option, None, Some, if◌then◌else◌, codes}
use Rattle.std.specs.Option.{option_copied}
use Rattle.std.specs.Str.{bytes_eq}
use Rattle.clap.specs.Words.{Text}
use Rattle.lwkt_request.specs.declared.old.OldRun.{OldRun}
use Rattle.lwkt_request.specs.declared.old.OldRun.TheVariants.{Direct, Help, Version, Misused}

-- the words of a subcommand, by those behind its old name: `help` and `--version` ask for its help and for the version
abbrev pub named : Text → List Text → List Text
named sub [] = sub ∷ []
named sub (word ∷ words) =
    if bytes_eq word (codes "help") then sub ∷ codes "--help" ∷ []
    else (if bytes_eq word (codes "--version") then codes "--version" ∷ [] else sub ∷ word ∷ words)

-- a run that is shown in numbers
abbrev pub old_show : List Text → List Text
old_show [] = codes "show" ∷ codes "--numbers" ∷ []
old_show (word ∷ words) =
    if bytes_eq word (codes "turns") then codes "show" ∷ codes "--numbers" ∷ words
    else (if bytes_eq word (codes "threads") then codes "show" ∷ codes "--numbers" ∷ codes "--threads" ∷ words
    else (if bytes_eq word (codes "help") || bytes_eq word (codes "--version") then named (codes "show") (word ∷ words)
    else codes "show" ∷ codes "--numbers" ∷ word ∷ words))

abbrev pub old_check : List Text → List Text
old_check [] = named (codes "check") []
old_check (word ∷ words) = if bytes_eq word (codes "lines") then codes "check" ∷ codes "--lines" ∷ words else named (codes "check") (word ∷ words)

-- a search in numbers
abbrev pub old_explore : List Text → List Text
old_explore [] = codes "explore" ∷ codes "--numbers" ∷ []
old_explore (word ∷ words) =
    if bytes_eq word (codes "help") || bytes_eq word (codes "--version") then named (codes "explore") (word ∷ words)
    else codes "explore" ∷ codes "--numbers" ∷ word ∷ words

-- `help` and `help SUBCOMMAND`
abbrev pub help_of : List Text → List Text
help_of [] = codes "--help" ∷ []
help_of (sub ∷ words) = sub ∷ codes "--help" ∷ []

-- the words that stand for these: those behind an old name, or `help`, for words of a subcommand
abbrev pub new_words : Text → List Text → List Text
new_words name words =
    if bytes_eq name (codes "lwkt_show") then old_show words
    else (if bytes_eq name (codes "lwkt_check") then old_check words
    else (if bytes_eq name (codes "lwkt_text") then named (codes "text") words
    else (if bytes_eq name (codes "lwkt_explore") then old_explore words
    else (if bytes_eq name (codes "help") then help_of words else name ∷ words))))

-- words are a run that `lwkt_run` is asked for, with or without a file; no run, which is its misuse; or words for a parse
pub data Call : Type 0 where
  direct : Bool → Option Text → Call
  misused : Call
  parsed : List Text → Call

abbrev pub is_mode : Text → Bool
is_mode word = bytes_eq word (codes "turns") || bytes_eq word (codes "threads")

abbrev pub is_question : Text → Bool
is_question word = bytes_eq word (codes "-h") || bytes_eq word (codes "--help")

-- a word begins with a dash, and isn't one
abbrev pub is_dashed : Text → Bool
is_dashed [] = false
is_dashed (byte ∷ []) = false
is_dashed (byte ∷ next ∷ word) = byte == 45

-- one word behind `lwkt_run`
abbrev pub old_word : Text → Call
old_word word =
    if is_mode word then direct (bytes_eq word (codes "threads")) None
    else (if is_question word then parsed (codes "run" ∷ word ∷ [])
    else (if bytes_eq word (codes "help") then parsed (codes "run" ∷ codes "--help" ∷ [])
    else (if bytes_eq word (codes "--version") then parsed (codes "--version" ∷ []) else misused)))

-- a mode and a file
abbrev pub old_file : Text → Text → Call
old_file mode file = if is_mode mode then direct (bytes_eq mode (codes "threads")) (Some file) else misused

abbrev pub old_pair : Text → Text → Call
old_pair mode file =
    if is_question file && is_mode mode then parsed (codes "run" ∷ file ∷ [])
    else (if is_dashed file then misused else old_file mode file)

abbrev pub old_three : Text → Text → Text → Call
old_three mode dashes file = if bytes_eq dashes (codes "--") then old_file mode file else misused

abbrev pub old_run : List Text → Call
old_run [] = misused
old_run (word ∷ []) = old_word word
old_run (mode ∷ file ∷ []) = old_pair mode file
old_run (mode ∷ dashes ∷ file ∷ []) = old_three mode dashes file
old_run (_ ∷ _ ∷ _ ∷ _ ∷ _) = misused

abbrev pub call_by : OldRun → Call
call_by (Direct on_threads file) = direct on_threads (option_copied file)
call_by (Help question) = parsed (codes "run" ∷ question.now ∷ [])
call_by Version = parsed (codes "--version" ∷ [])
call_by Misused = misused

-- what the words of the program are
abbrev pub call_of : List Text → Call
call_of [] = parsed []
call_of (name ∷ words) = if bytes_eq name (codes "lwkt_run") then old_run words else parsed (new_words name words)
