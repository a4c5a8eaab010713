-- Expressions and conditions as words of a sentence (own, version 3).
use Rattle.std.specs.Prelude.{ℕ, zero, suc, ◌+◌, ◌&&◌, ◌||◌, nat_lt, nat_le, List, length, codes, Bool, is_some, bytes_eq, if◌then◌else◌, Option, Some, None, option_and_then, option_map, Result, Ok, Err, ⊤}
use Rattle.lwkt_code.specs.Terms.{Term, number, variable, both, Formula, compare, each_of, one_of, none_of}
use Rattle.lwkt_code.specs.declared.exprs.Operator.{Operator}
use Rattle.lwkt_code.specs.declared.exprs.Operator.TheVariants.{Plus, Minus, Times, Over, Rest}
use Rattle.lwkt_script.specs.Field.{within}
use Rattle.lwkt_script.specs.Formulas.{operator_of, comparison_of}
use Rattle.lwkt_text.specs.declared.phrases.Found.{Found}
use Rattle.lwkt_text.specs.declared.phrases.FoundExpr.{FoundExpr}
use Rattle.lwkt_text.specs.declared.phrases.Phrase.{Phrase}
use Rattle.lwkt_text.specs.declared.phrases.Phrase.TheVariants.{Number, Test}
use Rattle.lwkt_text.specs.declared.phrases.Sign.{Sign}
use Rattle.lwkt_text.specs.declared.phrases.Sign.TheVariants.{Or, And, Compare, Apply}
use Rattle.lwkt_text.specs.declared.words.Word.{Word}
use Rattle.lwkt_text.specs.declared.wrongs.Wanted.{Wanted}
use Rattle.lwkt_text.specs.declared.wrongs.Wanted.TheVariants as wanted
use Rattle.lwkt_text.specs.declared.wrongs.What.TheVariants as whats
use Rattle.lwkt_text.specs.declared.wrongs.Wrong.{Wrong}
use Rattle.lwkt_text.specs.Looking.{text_at, is_at, part_at, demand_at, ends_at, wrong_at, decimal_number}
use Rattle.lwkt_text.specs.Naming.{position, either}
use Rattle.lwkt_text.specs.Outcome.{◌>>=◌, ◌>>◌}

-- how closely an operator binds
abbrev pub level_of : Operator → ℕ
level_of Plus = 5
level_of Minus = 5
level_of Times = 6
level_of Over = 6
level_of Rest = 6

-- how closely a sign binds; `not` binds as 3
abbrev pub level : Sign → ℕ
level Or = 1
level And = 2
level (Compare by) = 4
level (Apply op) = level_of op

-- the sign of a word
abbrev pub sign_of : List ℕ → Option Sign
sign_of text =
    if bytes_eq text (codes "or") then Some Or else (
    if bytes_eq text (codes "and") then Some And else
    either (option_map Compare (comparison_of text)) (option_map Apply (operator_of text)))

-- the sign that word i is, if it binds so closely
abbrev pub sign_at : List Word → ℕ → ℕ → Option Sign
sign_at ws low i = option_and_then (λ sign. if nat_le low (level sign) then Some sign else None) (sign_of (text_at ws i))

-- what a sign makes of the phrases on its sides
abbrev pub joined : Sign → Phrase → Phrase → Option Phrase
joined (Apply op) (Number a) (Number b) = Some (Number (both op a b))
joined (Compare by) (Number a) (Number b) = Some (Test (compare by a b))
joined And (Test a) (Test b) = Some (Test (each_of a b))
joined Or (Test a) (Test b) = Some (Test (one_of a b))
joined _ _ _ = None

abbrev pub joined_at : List Word → ℕ → Sign → Phrase → Phrase → Result Phrase Wrong
joined_at ws i sign a b = part_at ws i whats.Sides (joined sign a b)

-- that a condition doesn't hold
abbrev pub denied_at : List Word → ℕ → Phrase → Result Phrase Wrong
denied_at ws i (Number a) = Err (wrong_at ws i whats.Sides)
denied_at ws i (Test a) = Ok (Test (none_of a))

-- the number or the variable that a word is
abbrev pub atom_of : List (List ℕ) → List ℕ → Option Term
atom_of vars text = either (option_map number (decimal_number text)) (option_map variable (option_and_then (within 0 7) (position vars text)))

-- word i is this bracket
abbrev pub closed_at : List Word → ℕ → List ℕ → Wanted → Result ⊤ Wrong
closed_at ws i text wanted = demand_at ws i (whats.Word wanted) (nat_lt i (length ws) && is_at ws i text)

-- a phrase, and the place behind it
abbrev pub found : Phrase → ℕ → Found
found phrase end = record { phrase = phrase; end = end }

-- the sign at word i, if there is one that binds so, with the phrase behind it
abbrev pub signed : (ℕ → Option Phrase → ℕ → Result Found Wrong) → List Word → ℕ → Phrase → ℕ → Option Sign → Result Found Wrong
signed read ws low left i None = Ok (found left i)
signed read ws low left i (Some sign) = read (level sign + 1) None (i + 1) >>= λ right. joined_at ws i sign left right.phrase >>= λ whole. read low (Some whole) right.end

abbrev pub phrase_behind : (ℕ → Option Phrase → ℕ → Result Found Wrong) → List Word → ℕ → Phrase → ℕ → Result Found Wrong
phrase_behind read ws low left i = signed read ws low left i (sign_at ws low i)

-- a phrase in brackets, of which word i is the first
abbrev pub bracketed : (ℕ → Option Phrase → ℕ → Result Found Wrong) → List Word → ℕ → ℕ → Result Found Wrong
bracketed read ws low i = read 1 None (i + 1) >>= λ inner. closed_at ws inner.end (codes ")") wanted.Close >> read low (Some inner.phrase) (inner.end + 1)

-- the phrase behind the `not` that word i is
abbrev pub negated : (ℕ → Option Phrase → ℕ → Result Found Wrong) → List Word → ℕ → ℕ → Result Found Wrong
negated read ws low i = read 3 None (i + 1) >>= λ inner. denied_at ws i inner.phrase >>= λ whole. read low (Some whole) inner.end

-- the phrase that word i begins
abbrev pub phrase_begun : (ℕ → Option Phrase → ℕ → Result Found Wrong) → List (List ℕ) → List Word → ℕ → ℕ → Result Found Wrong
phrase_begun read vars ws low i =
    if nat_le (length ws) i then Err (wrong_at ws i whats.Expression) else (
    if is_at ws i (codes "(") then bracketed read ws low i else (
    if is_at ws i (codes "not") then negated read ws low i else
    part_at ws i whats.Expression (atom_of vars (text_at ws i)) >>= λ atom. read low (Some (Number atom)) (i + 1)))

abbrev pub phrase_step : (ℕ → Option Phrase → ℕ → Result Found Wrong) → List (List ℕ) → List Word → ℕ → Option Phrase → ℕ → Result Found Wrong
phrase_step read vars ws low None i = phrase_begun read vars ws low i
phrase_step read vars ws low (Some left) i = phrase_behind read ws low left i

-- the same, as far as so many steps of reading go
unfoldable pub phrase_from : ℕ → List (List ℕ) → List Word → ℕ → Option Phrase → ℕ → Result Found Wrong
phrase_from zero vars ws low left i = Err (wrong_at ws i whats.Large)
phrase_from (suc n) vars ws low left i = phrase_step (phrase_from n vars ws) vars ws low left i

-- whether word i begins an expression: a number, a variable or a bracket
abbrev pub begins_phrase : List (List ℕ) → List Word → ℕ → Bool
begins_phrase vars ws i = is_at ws i (codes "(") || is_some (atom_of vars (text_at ws i))

-- the expression that was found
abbrev pub number_at : List Word → ℕ → ℕ → Phrase → Result FoundExpr Wrong
number_at ws i end (Number e) = Ok (record { expr = e; end = end })
number_at ws i end (Test c) = Err (wrong_at ws i whats.Expression)

-- the expression from word i on, as far as its signs bind so closely
abbrev pub expr_at : List (List ℕ) → List Word → ℕ → ℕ → Result FoundExpr Wrong
expr_at vars ws low i = phrase_from 200 vars ws low None i >>= λ f. number_at ws i f.end f.phrase

-- the condition that was found, and nothing more
abbrev pub test_at : List Word → ℕ → ℕ → Phrase → Result Formula Wrong
test_at ws i end (Number e) = Err (wrong_at ws i whats.Condition)
test_at ws i end (Test c) = ends_at ws end >> Ok c

-- the condition from word i on
abbrev pub cond_at : List (List ℕ) → List Word → ℕ → Result Formula Wrong
cond_at vars ws i = phrase_from 200 vars ws 1 None i >>= λ f. test_at ws i f.end f.phrase
