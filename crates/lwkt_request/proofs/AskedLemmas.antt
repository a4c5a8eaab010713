-- An answer is the request that is asked for, or none is.
use Rattle.std.proofs.Common.{◌≡◌, List, [], ◌∷◌, Some, None, Option, inl, inr, refl, ap, sym, ◌∙◌}
use Rattle.std.specs.Prelude.{◌⊎◌}
use Rattle.clap.specs.Words.{App, IsAmong, Kinds, Row, Text, fault_of, subcommand_of}
use Rattle.clap.specs.declared.error.kind.ErrorKind.{ErrorKind}
use Rattle.lwkt_request.specs.declared.requests.Asked.{Asked}
use Rattle.lwkt_request.specs.declared.requests.Asked.TheVariants.{Do, Print, Misuse, OldUsage}
use Rattle.lwkt_request.specs.Answers.{IsAnswer, IsCalled, IsFailed, IsFound, IsParsedBy, asked_in, called_in, parsed_in, unless}
use Rattle.lwkt_request.specs.CommandLine.{command_line}
use Rattle.lwkt_request.specs.OldNames.{Call, call_of, direct, misused, parsed}
use Rattle.lwkt_request.specs.Wishes.{Wish, wish_in, wish_of}

found_one : (found : Option (Text × List Row)) (asked : Asked) → IsFound found asked → wish_of asked ≡ wish_in found
found_one found (Do request) is = sym is
found_one found (Print text) is = absurd is
found_one found (Misuse text) is = sym is
found_one found OldUsage is = absurd is

no_wish : (kind : ErrorKind) (asked : Asked) → IsFailed kind asked → wish_of asked ≡ None
no_wish kind (Do request) is = absurd is
no_wish kind (Print text) is = refl
no_wish kind (Misuse text) is = refl
no_wish kind OldUsage is = absurd is

some_fault : (kinds : Kinds) (kind : ErrorKind) (wish : Option Wish) → IsAmong kind kinds → None ≡ unless kinds wish
some_fault [] kind wish among = absurd among
some_fault (other ∷ kinds) kind wish among = refl

parsed_one : (app : App) (words : List Text) (asked : Asked) → IsParsedBy app words asked → wish_of asked ≡ parsed_in app words
parsed_one app words asked (inl none) = found_one (subcommand_of app words) asked none.1 ∙ ap (λ (kinds : Kinds). unless kinds (wish_in (subcommand_of app words))) (sym none.0)
parsed_one app words asked (inr fault) = no_wish fault.0 asked fault.2 ∙ some_fault (fault_of app words) fault.0 (wish_in (subcommand_of app words)) fault.1

called_one : (call : Call) (asked : Asked) → IsCalled call asked → wish_of asked ≡ called_in call
called_one (direct on_threads file) (Do request) is = ap (λ (wish : Wish). Some wish) is
called_one (direct on_threads file) (Print text) is = absurd is
called_one (direct on_threads file) (Misuse text) is = absurd is
called_one (direct on_threads file) OldUsage is = absurd is
called_one misused (Do request) is = absurd is
called_one misused (Print text) is = absurd is
called_one misused (Misuse text) is = absurd is
called_one misused OldUsage is = refl
called_one (parsed words) asked is = parsed_one command_line words asked is

pub asked_one : (words : List Text) (asked : Asked) → IsAnswer words asked → wish_of asked ≡ asked_in words
asked_one words asked is = called_one (call_of words) asked is
