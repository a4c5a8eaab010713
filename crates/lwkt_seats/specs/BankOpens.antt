-- What C declares of the tokens of a bank (own).
use Rattle.std.specs.Prelude.{ℕ, ◌≤◌, ◌==◌, if◌then◌else◌, List, [], ◌∷◌, map, take, None, Some, All}
use Rattle.lwkt_base.specs.declared.laws.Law.{Law}
use Rattle.lwkt_base.specs.declared.laws.Law.TheVariants.{Any, Sum, Order, Cap, Tally, Len}
use Rattle.lwkt_base.specs.declared.opening_specs.TokSpec.{TokSpec}
use Rattle.lwkt_base.specs.declared.limits.TheConstants.{CELL_LIMIT, RECORD_LIMIT}
use Rattle.lwkt_bank.specs.Views.{RecordOf}
use Rattle.lwkt_seats.specs.declared.tokens.LwktToken.{LwktToken}

-- a token has at most four cells, one of the six laws, at most 64 bytes and at most one record
abbrev pub IsOpenable : LwktToken → Type 0
IsOpenable token = (token.cells ≤ CELL_LIMIT) × (token.law ≤ 5) × (token.length ≤ RECORD_LIMIT) × (token.records ≤ 1)

abbrev pub AreTokens : List LwktToken → Type 0
AreTokens tokens = All IsOpenable tokens

-- the law of a number
abbrev pub law_of_number : ℕ → Law
law_of_number number = if number == 0 then Any else if number == 1 then Sum else if number == 2 then Order else if number == 3 then Cap else if number == 4 then Tally else Len

-- the record that a token guards, if it guards one: its first bytes
abbrev pub record_of : LwktToken → RecordOf
record_of token = if token.records == 0 then None else Some (take token.length token.bytes)

-- what is declared of a token: its first cells, and its record
abbrev pub spec_of : LwktToken → TokSpec
spec_of token = record { cells = take token.cells (token.first ∷ token.second ∷ token.third ∷ token.fourth ∷ []); law = law_of_number token.law; param = token.param; generation = token.generation; blob = record_of token }

abbrev pub specs_of : List LwktToken → List TokSpec
specs_of tokens = map spec_of tokens
