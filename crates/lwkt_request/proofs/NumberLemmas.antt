-- What `parse` reads is the number that a text is.
use Rattle.std.proofs.Common.{◌≡◌, ℕ, List, ◌<◌, ◌^◌, ◌&&◌, nat_lt, length, Bool, true, false, Some, None, Result, Ok, Err, if◌then◌else◌, refl, ap, arith}
use Rattle.std.specs.Result.{OkIff, result_ok}
use Rattle.std.specs.Str.{all_ascii_digits}
use Rattle.std.specs.Str.Parse.{AllDigits, IsNumeral, ParsesUnsigned, digits_value, without_leading_plus}
use Rattle.std.proofs.lemmas.Str.Parse.{IsNumeralModel, numerals_by_value, tells_all_ascii_digits}
use Rattle.std.proofs.lemmas.Grind.{common_steps}
use Rattle.lwkt_request.specs.Texts.{number_of, number_of_digits}

model : IsNumeralModel (λ ds. all_ascii_digits ds ≡ true) (digits_value 10)
model = numerals_by_value _ tells_all_ascii_digits

-- a value that is there exactly where a test holds
by_test : {E : Type 0} (test : Bool) (P : Type 0) (v : ℕ) (r : Result ℕ E) → (P → test ≡ true) → (test ≡ true → P) → OkIff r P v → result_ok r ≡ (if test then Some v else None)
by_test true P v (Ok x) to from is = ap Some is.1
by_test true P v (Err e) to from is = absurd (is (from refl))
by_test false P v (Ok x) to from is = let no : false ≡ true = to is.0 in cc
by_test false P v (Err e) to from is = refl

passes : (digits : List ℕ) → IsNumeral 10 digits × (digits_value 10 digits < 2 ^ 64) → (all_ascii_digits digits && (nat_lt 0 (length digits) && nat_lt (digits_value 10 digits) (2 ^ 64))) ≡ true
passes digits is = let all : all_ascii_digits digits ≡ true = model.from digits is.0.1 in let some : 0 < length digits = is.0.0 in let small : digits_value 10 digits < 2 ^ 64 = is.1 in grind (arith, common_steps)

is_numeral : (digits : List ℕ) → (all_ascii_digits digits && (nat_lt 0 (length digits) && nat_lt (digits_value 10 digits) (2 ^ 64))) ≡ true → IsNumeral 10 digits × (digits_value 10 digits < 2 ^ 64)
is_numeral digits test = let all : all_ascii_digits digits ≡ true = grind (arith, common_steps) in let digital : AllDigits 10 digits = model.to digits all in let some : 0 < length digits = grind (arith, common_steps) in let small : digits_value 10 digits < 2 ^ 64 = grind (arith, common_steps) in ((some, digital), small)

by_digits : {E : Type 0} (digits : List ℕ) (r : Result ℕ E) → OkIff r (IsNumeral 10 digits × (digits_value 10 digits < 2 ^ 64)) (digits_value 10 digits) → result_ok r ≡ number_of_digits digits
by_digits digits r is = by_test (all_ascii_digits digits && (nat_lt 0 (length digits) && nat_lt (digits_value 10 digits) (2 ^ 64))) _ (digits_value 10 digits) r (passes digits) (is_numeral digits) is

pub read_number : {E : Type 0} (text : List ℕ) (r : Result ℕ E) → ParsesUnsigned 64 10 text r → result_ok r ≡ number_of text
read_number text r is = by_digits (without_leading_plus text) r is
