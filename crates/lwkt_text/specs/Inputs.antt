-- What programs read: a script in JSON, or as a text with its names and expectations (own).
use Rattle.std.specs.Prelude.{◌≡◌, ℕ, ◌<◌, ◌==◌, ◌&&◌, ◌||◌, nat_le, List, [], ◌∷◌, length, codes, Bool, true, false, eqb, if◌then◌else◌, Option, Some, None, Result, Ok, Err}
use Rattle.std.specs.List.{ends_with, list_any}
use Rattle.lwkt_base.specs.declared.limits.TheConstants.{SCRIPT_BYTES}
use Rattle.lwkt_script.specs.declared.scripts.Script.{Script}
use Rattle.lwkt_script.specs.Format.{script_of}
use Rattle.lwkt_text.specs.declared.inputs.Input.{Input}
use Rattle.lwkt_text.specs.declared.inputs.Unread.{Unread}
use Rattle.lwkt_text.specs.declared.inputs.Unread.TheVariants.{Memory, Json, Wrongs}
use Rattle.lwkt_text.specs.declared.readers.Reading.{Reading}
use Rattle.lwkt_text.specs.declared.readers.Refusal.{Refusal}
use Rattle.lwkt_text.specs.declared.readers.Refusal.TheVariants.{Memory as MemoryOfText, Wrongs as WrongsOfText}
use Rattle.lwkt_text.specs.declared.words.Sentence.{Sentence}
use Rattle.lwkt_text.specs.declared.words.Word.{Word}
use Rattle.lwkt_text.specs.declared.wrongs.What.TheVariants.{Length}
use Rattle.lwkt_text.specs.declared.wrongs.Wrong.{Wrong}
use Rattle.lwkt_text.specs.Looking.{is_at}
use Rattle.lwkt_text.specs.Reading.{reading_of}
use Rattle.lwkt_text.specs.Scanning.{sentences_of}

-- a file of this name holds a text
abbrev pub names_text : Option (List ℕ) → Bool
names_text None = false
names_text (Some name) = ends_with eqb name (codes ".lwkt")

-- a sentence that declares a token, a message or a thread
abbrev pub declares : List Word → Bool
declares ws = is_at ws 0 (codes "token") || (is_at ws 0 (codes "message") || is_at ws 0 (codes "thread"))

abbrev pub one_declares : List Sentence → Bool
one_declares sentences = list_any (λ s. declares s.words) sentences

-- refused at its very beginning: no JSON
abbrev pub is_no_json : Result Script ℕ → Bool
is_no_json (Ok script) = false
is_no_json (Err place) = place == 0

-- bytes of no known file that are taken for a text: not too long, no JSON, and a sentence of them declares something
abbrev pub is_text : List ℕ → Bool
is_text bytes = is_no_json (script_of bytes) && (nat_le (length bytes) SCRIPT_BYTES && one_declares (sentences_of bytes))

-- what holds of a text, or else of JSON
abbrev pub ByForm : Bool → Type 0 → Type 0 → Type 0
ByForm true text json = text
ByForm false text json = json

-- a script in JSON gives no names, and expects nothing
abbrev pub json_input : Result Script ℕ → Result Input Unread
json_input (Ok script) = Ok (record { script = script; names = None; expectations = [] })
json_input (Err place) = Err (Json place)

abbrev pub text_input : Result Reading (List Wrong) → Result Input Unread
text_input (Ok reading) = Ok (record { script = reading.script; names = Some reading.names; expectations = reading.expectations })
text_input (Err wrongs) = Err (Wrongs wrongs)

-- a text has at most 1048576 bytes
abbrev pub long_wrong : Wrong
long_wrong = record { at = SCRIPT_BYTES; what = Length }

abbrev pub reading_within : List ℕ → Result Reading (List Wrong)
reading_within bytes = if nat_le (length bytes) SCRIPT_BYTES then reading_of bytes else Err (long_wrong ∷ [])

-- what the bytes of a file of this name mean
abbrev pub input_of : Option (List ℕ) → List ℕ → Result Input Unread
input_of name bytes = if names_text name || is_text bytes then text_input (reading_within bytes) else json_input (script_of bytes)

-- why a text isn't read, said of input
abbrev pub unread_of : Refusal → Unread
unread_of (MemoryOfText refused) = Memory refused
unread_of (WrongsOfText wrongs) = Wrongs wrongs

-- what was read of a text, or why it wasn't, said of input
abbrev pub read_as : Result Reading Refusal → Result Input Unread
read_as (Ok reading) = text_input (Ok reading)
read_as (Err refusal) = Err (unread_of refusal)

-- why input isn't read: the first bad place of JSON, or all that is wrong with a text, and there is some; of a want of memory nothing
-- is said
abbrev pub IsUnread : Unread → Result Input Unread → Type 0
IsUnread (Memory refused) input = Unit {0}
IsUnread (Json place) input = input ≡ Err (Json place)
IsUnread (Wrongs wrongs) input = (input ≡ Err (Wrongs wrongs)) × (0 < length wrongs)
