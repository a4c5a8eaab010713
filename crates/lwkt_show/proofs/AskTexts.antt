-- Characters that the texts of asks and steps don't have.
use Rattle.std.proofs.Common.{◌≡◌, ◌≢◌, ◌+◌, ◌/◌, ◌%◌, ◌==◌, ℕ, None, true, not, List, [], ◌∷◌, ◌++◌, refl, arith, length, take, codes, if◌then◌else◌, nat_lt, nat_le}
use Rattle.std.specs.Fmt.{decimal}
use Rattle.std.specs.List.{list_all}
use Rattle.lwkt_base.specs.Hex.{digit_text, byte_text, hex_text}
use Rattle.lwkt_base.specs.declared.asks.Ask.{Ask}
use Rattle.lwkt_base.specs.declared.names.ThreadId.{ThreadId}
use Rattle.lwkt_base.specs.declared.steps.Part.{Part}
use Rattle.lwkt_base.specs.declared.steps.Part.TheVariants as parts
use Rattle.lwkt_base.specs.declared.steps.Verb.{Verb}
use Rattle.lwkt_base.specs.declared.steps.Verb.TheVariants.{Get}
use Rattle.lwkt_base.specs.Step.{step_of, word_of}
use Rattle.lwkt_trace.specs.Written.{comma, blob_text, past_text}
use Rattle.lwkt_show.specs.declared.stories.Step.{Step}
use Rattle.lwkt_show.specs.declared.walks.Way.{Way}
use Rattle.lwkt_show.specs.Computed.{way_text}
use Rattle.lwkt_show.specs.Lines.{time_text, step_text}
use Rattle.lwkt_show.specs.Words.{ask_word, ask_parts, flags_number, part_text, parts_text}
use Rattle.lwkt_show.proofs.Splits.{Each, IsDigit, each_append, each_if, each_flat, none_of, decimal_none}
use Rattle.lwkt_show.proofs.WayTexts.{Before, decimal_before, way_before}

-- a character that isn't a quotation mark
abbrev pub Unquoted : ℕ → Type 0
Unquoted c = c ≢ 34

-- a character that doesn't end the text of an ask
abbrev pub Inside : ℕ → Type 0
Inside c = c ≢ 93

-- no word of a step has such a character
no_quotes : (verb : Verb) → list_all (λ c. not (c == 34)) (word_of verb) ≡ true
no_quotes Get = refl
no_quotes _ = refl

no_ends : (verb : Verb) → list_all (λ c. not (c == 93)) (word_of verb) ≡ true
no_ends Get = refl
no_ends _ = refl

pub word_unquoted : (ask : Ask) → Each Unquoted (ask_word ask)
word_unquoted ask = none_of 34 refl (ask_word ask) (no_quotes (step_of ask).0)

word_inside : (ask : Ask) → Each Inside (ask_word ask)
word_inside ask = none_of 93 refl (ask_word ask) (no_ends (step_of ask).0)

no_digit_closes : IsDigit 93 → ⊥
no_digit_closes digit = omega (arith, digit.1)

comma_inside : (n : ℕ) → Each Inside (comma n)
comma_inside n = each_append Inside (codes ",") (decimal n) (none_of 93 refl (codes ",") refl) (decimal_none 93 n no_digit_closes)

-- texts behind texts
then_inside : (xs ys : List ℕ) → Each Inside xs → Each Inside ys → Each Inside (xs ++ ys)
then_inside xs ys a b = each_append Inside xs ys a b

two_inside : (m n : ℕ) → Each Inside (comma m ++ comma n)
two_inside m n = then_inside (comma m) (comma n) (comma_inside m) (comma_inside n)

digit_inside : (n : ℕ) → Each Inside (digit_text n)
digit_inside n =
    each_if Inside (n == 0) (codes "0") _ (none_of 93 refl (codes "0") refl) (
    each_if Inside (n == 1) (codes "1") _ (none_of 93 refl (codes "1") refl) (
    each_if Inside (n == 2) (codes "2") _ (none_of 93 refl (codes "2") refl) (
    each_if Inside (n == 3) (codes "3") _ (none_of 93 refl (codes "3") refl) (
    each_if Inside (n == 4) (codes "4") _ (none_of 93 refl (codes "4") refl) (
    each_if Inside (n == 5) (codes "5") _ (none_of 93 refl (codes "5") refl) (
    each_if Inside (n == 6) (codes "6") _ (none_of 93 refl (codes "6") refl) (
    each_if Inside (n == 7) (codes "7") _ (none_of 93 refl (codes "7") refl) (
    each_if Inside (n == 8) (codes "8") _ (none_of 93 refl (codes "8") refl) (
    each_if Inside (n == 9) (codes "9") _ (none_of 93 refl (codes "9") refl) (
    each_if Inside (n == 10) (codes "a") _ (none_of 93 refl (codes "a") refl) (
    each_if Inside (n == 11) (codes "b") _ (none_of 93 refl (codes "b") refl) (
    each_if Inside (n == 12) (codes "c") _ (none_of 93 refl (codes "c") refl) (
    each_if Inside (n == 13) (codes "d") _ (none_of 93 refl (codes "d") refl) (
    each_if Inside (n == 14) (codes "e") _ (none_of 93 refl (codes "e") refl) (none_of 93 refl (codes "f") refl)))))))))))))))

byte_inside : (byte : ℕ) → Each Inside (byte_text byte)
byte_inside byte = each_append Inside (digit_text (byte / 16)) (digit_text (byte % 16)) (digit_inside (byte / 16)) (digit_inside (byte % 16))

past_inside : (blob : List ℕ) → Each Inside (past_text blob)
past_inside blob = each_if Inside (nat_lt 64 (length blob)) (codes "00") [] (none_of 93 refl (codes "00") refl) tt

quote_inside : Each Inside (codes "\"")
quote_inside = none_of 93 refl (codes "\"") refl

blob_inside : (blob : List ℕ) → Each Inside (blob_text blob)
unfolding blob_text
blob_inside blob =
    let digits : List ℕ = codes "\"" ++ hex_text (take 64 blob) in
    then_inside (digits ++ past_text blob) (codes "\"")
    (then_inside digits (past_text blob) (then_inside (codes "\"") (hex_text (take 64 blob)) quote_inside (each_flat Inside byte_text byte_inside (take 64 blob))) (past_inside blob)) quote_inside

part_inside : (part : Part) → Each Inside (part_text part)
part_inside (parts.Token tok) = comma_inside tok.0
part_inside (parts.Cell tok cell) = two_inside tok.0 cell
part_inside (parts.Value value) = comma_inside value
part_inside (parts.Record blob) = then_inside (codes ",") (blob_text blob) (none_of 93 refl (codes ",") refl) (blob_inside blob)
part_inside (parts.Message message) = comma_inside message.0
part_inside (parts.Target to) = two_inside to.cpu.0 to.thread
part_inside (parts.Call call) = two_inside call.op call.arg
part_inside (parts.Flags flags) = comma_inside (flags_number flags)
part_inside (parts.Code error) = comma_inside error
part_inside (parts.Outcome outcome) = comma_inside outcome

parts_inside : (found : List Part) → Each Inside (parts_text found)
parts_inside [] = tt
parts_inside (part ∷ more) = then_inside (part_text part) (parts_text more) (part_inside part) (parts_inside more)

-- the text of an ask but for its end
abbrev pub ask_front : Ask → List ℕ
ask_front ask = codes "[\"" ++ ask_word ask ++ codes "\"" ++ ask_parts ask

pub front_inside : (ask : Ask) → Each Inside (ask_front ask)
front_inside ask =
    let word : List ℕ = codes "[\"" ++ ask_word ask in
    let quoted : List ℕ = word ++ codes "\"" in
    then_inside quoted (ask_parts ask)
    (then_inside word (codes "\"") (then_inside (codes "[\"") (ask_word ask) (none_of 93 refl (codes "[\"") refl) (word_inside ask)) quote_inside) (parts_inside (step_of ask).1)

time_before : (step : Step) → Each Before (time_text step)
time_before step =
    each_if Before (nat_lt 1 step.repeat) (codes " of time " ++ decimal (step.polls / step.steps + 1)) []
    (each_append Before (codes " of time ") (decimal (step.polls / step.steps + 1)) (none_of 58 refl (codes " of time ") refl) (decimal_before (step.polls / step.steps + 1))) tt

step_before : (step : Step) → Each Before (step_text step)
step_before step =
    let after : Each Before (codes "after its steps") = none_of 58 refl (codes "after its steps") refl in
    let number : ℕ = step.polls % step.steps in
    each_if Before (step.steps == 0) (codes "after its steps") (if nat_le step.repeat (step.polls / step.steps) then codes "after its steps" else codes "step " ++ decimal number ++ time_text step) after
    (each_if Before (nat_le step.repeat (step.polls / step.steps)) (codes "after its steps") (codes "step " ++ decimal number ++ time_text step) after
    (each_append Before (codes "step " ++ decimal number) (time_text step) (each_append Before (codes "step ") (decimal number) (none_of 58 refl (codes "step ") refl) (decimal_before number)) (time_before step)))

-- all words before an ask: what its thread computed, and its step
abbrev pub ask_before : ThreadId → Way → Step → List ℕ
ask_before id way step = way_text None id way ++ step_text step

pub before_ask : (id : ThreadId) (way : Way) (step : Step) → Each Before (ask_before id way step)
before_ask id way step = each_append Before (way_text None id way) (step_text step) (way_before id way) (step_before step)
