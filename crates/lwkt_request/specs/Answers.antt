-- What the words of the command line are answered (own).
use Rattle.std.specs.Prelude.{◌≡◌, ◌≢◌, ◌⊎◌, List, [], ◌∷◌, Bool, true, false, Option, None, Some}
use Rattle.clap.specs.Words.{App, IsAmong, Kinds, Row, Text, fault_of, subcommand_of}
use Rattle.clap.specs.declared.error.kind.ErrorKind.{ErrorKind}
use Rattle.clap.specs.declared.error.kind.ErrorKind.TheVariants.{DisplayHelp, DisplayVersion, OutOfMemory}
use Rattle.lwkt_request.specs.declared.requests.Asked.{Asked}
use Rattle.lwkt_request.specs.declared.requests.Asked.TheVariants.{Do, Print, Misuse, OldUsage}
use Rattle.lwkt_request.specs.CommandLine.{command_line}
use Rattle.lwkt_request.specs.OldNames.{Call, call_of, direct, misused, parsed}
use Rattle.lwkt_request.specs.Wishes.{Wish, run_wish, wish_by, wish_in}

-- a wish, if a parse finds no fault
abbrev pub unless : Kinds → Option Wish → Option Wish
unless [] wish = wish
unless (kind ∷ kinds) wish = None

abbrev pub parsed_in : App → List Text → Option Wish
parsed_in app words = unless (fault_of app words) (wish_in (subcommand_of app words))

abbrev pub called_in : Call → Option Wish
called_in (direct on_threads file) = Some (run_wish on_threads file)
called_in misused = None
called_in (parsed words) = parsed_in command_line words

-- the request that the words of the program ask for; none if they ask for none
abbrev pub asked_in : List Text → Option Wish
asked_in words = called_in (call_of words)

-- whether an error of a parse is a text that was asked for
abbrev pub is_asked_text : ErrorKind → Bool
is_asked_text DisplayHelp = true
is_asked_text DisplayVersion = true
is_asked_text _ = false

-- the answer where a parse failed by this kind of error
abbrev pub IsFailed : ErrorKind → Asked → Type 0
IsFailed kind (Print text) = (is_asked_text kind ≡ true) × (kind ≢ OutOfMemory)
IsFailed kind (Misuse text) = (is_asked_text kind ≡ false) × (kind ≢ OutOfMemory)
IsFailed kind _ = ⊥

-- the answer where a parse found this subcommand with its arguments
abbrev pub IsFound : Option (Text × List Row) → Asked → Type 0
IsFound found (Do request) = wish_in found ≡ Some (wish_by request)
IsFound found (Misuse text) = wish_in found ≡ None
IsFound found _ = ⊥

-- the answer to words for a parse: nothing is wrong, and it is what was found; or it is one of the errors that the parse may have
abbrev pub IsParsedBy : App → List Text → Asked → Type 0
IsParsedBy app words asked =
    ((fault_of app words ≡ []) × IsFound (subcommand_of app words) asked)
    ⊎ ((kind : ErrorKind) × IsAmong kind (fault_of app words) × IsFailed kind asked)

abbrev pub IsParsed : List Text → Asked → Type 0
IsParsed words asked = IsParsedBy command_line words asked

abbrev pub IsCalled : Call → Asked → Type 0
IsCalled (direct on_threads file) (Do request) = wish_by request ≡ run_wish on_threads file
IsCalled (direct on_threads file) _ = ⊥
IsCalled misused OldUsage = Unit {0}
IsCalled misused _ = ⊥
IsCalled (parsed words) asked = IsParsed words asked

-- the answer to the words of the program
abbrev pub IsAnswer : List Text → Asked → Type 0
IsAnswer words asked = IsCalled (call_of words) asked
