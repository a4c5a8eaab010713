-- What a parse by a simple command is answered.
use Rattle.std.proofs.Common.{◌≡◌, List, [], true, inl, inr, refl, ap, subst, sym, ◌∙◌}
use Rattle.std.specs.Prelude.{◌≢◌, Result, Ok, Err, IfOk, IfErr}
use Rattle.clap.specs.Words.{App, FailsBy, HasKind, HasMatchesOf, Text, fault_of, is_simple, is_simple_and_free, kind_of, subcommand_of, subcommand_rows_of}
use Rattle.clap.specs.declared.error.Error.{Error}
use Rattle.clap.specs.declared.error.kind.ErrorKind.{ErrorKind}
use Rattle.clap.specs.declared.error.kind.ErrorKind.TheVariants.{OutOfMemory}
use Rattle.clap.specs.declared.parser.matches.ArgMatches.{ArgMatches}
use Rattle.lwkt_request.specs.declared.requests.Asked.{Asked}
use Rattle.lwkt_request.specs.declared.requests.Asked.TheVariants.{Do, Print, Misuse, OldUsage}
use Rattle.lwkt_request.specs.Answers.{IsFailed, IsFound, IsParsedBy}
use Rattle.lwkt_request.specs.CommandLine.{command_line}

pub is_free : is_simple_and_free command_line ≡ true
is_free = refl

pub is_plain : is_simple command_line ≡ true
is_plain = refl

-- a parse that found nothing wrong
pub found_by : (app whole : App) (words : List Text) (parse : Result ArgMatches Error) (m : ArgMatches) (asked : Asked) → app ≡ whole → is_simple_and_free whole ≡ true → is_simple whole ≡ true → parse ≡ Ok m → (is_simple_and_free app ≡ true → FailsBy (fault_of app words) parse) → IfOk parse (HasMatchesOf app words) → IsFound (subcommand_rows_of m) asked → IsParsedBy whole words asked
found_by app whole words parse m asked is free plain ok fails matches found =
    let Fails : Result ArgMatches Error → Type 0 = λ r. FailsBy (fault_of app words) r in
    let Found : Result ArgMatches Error → Type 0 = λ r. IfOk r (HasMatchesOf app words) in
    let none : fault_of whole words ≡ [] = ap (λ (a : App). fault_of a words) (sym is) ∙ subst Fails ok (fails (ap is_simple_and_free is ∙ free)) in
    let has : HasMatchesOf app words m = subst Found ok matches in
    let sub : subcommand_rows_of m ≡ subcommand_of whole words = (has (ap is_simple is ∙ plain)).1 ∙ ap (λ (a : App). subcommand_of a words) is in
    inl (none, subst (λ rows. IsFound rows asked) sub found)

not_memory : (kind : ErrorKind) (asked : Asked) → IsFailed kind asked → kind ≡ OutOfMemory → ⊥
not_memory kind (Do request) failed is = failed
not_memory kind (Print text) failed is = failed.1 is
not_memory kind (Misuse text) failed is = failed.1 is
not_memory kind OldUsage failed is = failed

-- an error that isn't want of memory
pub is_other : (parse : Result ArgMatches Error) (error : Error) → parse ≡ Err error → IfErr parse (λ e. kind_of e ≢ OutOfMemory) → kind_of error ≢ OutOfMemory
is_other parse error failed other =
    let Other : Result ArgMatches Error → Type 0 = λ r. IfErr r (λ e. kind_of e ≢ OutOfMemory) in
    subst Other failed other

-- a parse that failed
pub failed_by : (app whole : App) (words : List Text) (parse : Result ArgMatches Error) (error : Error) (asked : Asked) → app ≡ whole → is_simple_and_free whole ≡ true → parse ≡ Err error → (is_simple_and_free app ≡ true → FailsBy (fault_of app words) parse) → IsFailed (kind_of error) asked → IsParsedBy whole words asked
failed_by app whole words parse error asked is free err fails failed =
    let Fails : Result ArgMatches Error → Type 0 = λ r. FailsBy (fault_of app words) r in
    let kinds : HasKind (fault_of app words) error = subst Fails err (fails (ap is_simple_and_free is ∙ free)) in
    elim (subst (λ (a : App). HasKind (fault_of a words) error) is kinds) [
      | inl memory ↦ absurd (not_memory (kind_of error) asked failed memory)
      | inr among ↦ inr (kind_of error, among, failed)
    ]
