-- Escapes are plain, and a plain text has none.
use Rattle.std.proofs.Common.{◌≡◌, ℕ, ◌/◌, ◌%◌, ◌==◌, List, [], ◌∷◌, ◌++◌, nat_lt, cond, not, Bool, true, false, flat_map, refl, sym, ap, ◌∙◌, append-nil}
use Rattle.std.specs.Char.{encode_utf8}
use Rattle.std.specs.Str.{chars, encode_utf8_all, NonePass, IsUtf8}
use Rattle.std.proofs.lemmas.Str.{NoCharPasses-nil, NoCharPasses-append, encodes_same, encodes-chars}
use Rattle.lwkt_base.specs.Hex.{digit_text, byte_text, hex_text}
use Rattle.lwkt_report.specs.Escape.{is_shown_as_is, code_text, escape, letter_shown, escaped, IsPlain}

abbrev is_escaped : ℕ → Bool
is_escaped c = not (is_shown_as_is c)

none : IsPlain []
none = NoCharPasses-nil is_escaped

both : (xs ys : List ℕ) → IsPlain xs → IsPlain ys → IsPlain (xs ++ ys)
both xs ys x y = NoCharPasses-append is_escaped xs ys x y

one_of : (b : Bool) (xs ys : List ℕ) → IsPlain xs → IsPlain ys → IsPlain (cond b xs ys)
one_of true xs ys x y = x
one_of false xs ys x y = y

digit_plain : (n : ℕ) → IsPlain (digit_text n)
unfolding encode_utf8
digit_plain n =
    one_of (n == 0) _ _ (48 ∷ [], refl, (refl, tt)) (
    one_of (n == 1) _ _ (49 ∷ [], refl, (refl, tt)) (
    one_of (n == 2) _ _ (50 ∷ [], refl, (refl, tt)) (
    one_of (n == 3) _ _ (51 ∷ [], refl, (refl, tt)) (
    one_of (n == 4) _ _ (52 ∷ [], refl, (refl, tt)) (
    one_of (n == 5) _ _ (53 ∷ [], refl, (refl, tt)) (
    one_of (n == 6) _ _ (54 ∷ [], refl, (refl, tt)) (
    one_of (n == 7) _ _ (55 ∷ [], refl, (refl, tt)) (
    one_of (n == 8) _ _ (56 ∷ [], refl, (refl, tt)) (
    one_of (n == 9) _ _ (57 ∷ [], refl, (refl, tt)) (
    one_of (n == 10) _ _ (97 ∷ [], refl, (refl, tt)) (
    one_of (n == 11) _ _ (98 ∷ [], refl, (refl, tt)) (
    one_of (n == 12) _ _ (99 ∷ [], refl, (refl, tt)) (
    one_of (n == 13) _ _ (100 ∷ [], refl, (refl, tt)) (
    one_of (n == 14) _ _ (101 ∷ [], refl, (refl, tt)) (102 ∷ [], refl, (refl, tt))))))))))))))))

hex_plain : (b : ℕ) → IsPlain (hex_text (b ∷ []))
hex_plain b = both (byte_text b) [] (both (digit_text (b / 16)) (digit_text (b % 16)) (digit_plain (b / 16)) (digit_plain (b % 16))) none

code_plain : (c : ℕ) → IsPlain (code_text c)
unfolding code_text
code_plain c =
    both (cond (nat_lt 255 c) (hex_text (c / 256 % 256 ∷ [])) []) (hex_text (c % 256 ∷ [])) (one_of (nat_lt 255 c) _ _ (hex_plain (c / 256 % 256)) none) (hex_plain (c % 256))

escape_plain : (c : ℕ) → IsPlain (escape c)
unfolding encode_utf8
escape_plain c = both (92 ∷ 117 ∷ 123 ∷ []) (code_text c ++ 125 ∷ []) (92 ∷ 117 ∷ 123 ∷ [], refl, (refl, (refl, (refl, tt)))) (both (code_text c) (125 ∷ []) (code_plain c) (125 ∷ [], refl, (refl, tt)))

letter_cases : (c : ℕ) (b : Bool) → is_shown_as_is c ≡ b → IsPlain (cond b (encode_utf8 c) (escape c))
letter_cases c true e = (c ∷ [], append-nil (encode_utf8 c), (ap not e, tt))
letter_cases c false e = escape_plain c

pub all_plain : (cs : List ℕ) → IsPlain (flat_map letter_shown cs)
all_plain [] = none
all_plain (c ∷ cs) = both (letter_shown c) (flat_map letter_shown cs) (letter_cases c (is_shown_as_is c) refl) (all_plain cs)

shown_same : (c : ℕ) (b : Bool) → not b ≡ false → cond b (encode_utf8 c) (escape c) ≡ encode_utf8 c
shown_same c true e = refl
shown_same c false e = absurd (cc)

all_same : (cs : List ℕ) → NonePass is_escaped cs → flat_map letter_shown cs ≡ encode_utf8_all cs
all_same [] _ = refl
all_same (c ∷ cs) (first, rest) = ap (λ xs. xs ++ flat_map letter_shown cs) (shown_same c (is_shown_as_is c) first) ∙ ap (λ xs. encode_utf8 c ++ xs) (all_same cs rest)

pub plain_stays : (text : List ℕ) → IsUtf8 text → IsPlain text → escaped text ≡ text
plain_stays text utf8 (cs, spell, none) =
    ap (flat_map letter_shown) (encodes_same (chars text) cs (encodes-chars text utf8 ∙ sym spell)) ∙ all_same cs none ∙ spell
