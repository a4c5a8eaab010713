-- What the words of a sentence say, by their places (own).
use Rattle.std.specs.Prelude.{ℕ, ◌+◌, ◌-◌, ◌*◌, ◌==◌, ◌&&◌, ◌||◌, nat_le, List, [], ◌∷◌, length, slice_get, codes, Bool, false, bytes_eq, if◌then◌else◌, Option, Some, None, option_map, option_and_then, unwrap_or, Result, Ok, Err, ⊤}
use Rattle.lwkt_script.specs.Field.{within}
use Rattle.lwkt_script.specs.Record.{blob_of}
use Rattle.lwkt_text.specs.declared.words.Word.{Word}
use Rattle.lwkt_text.specs.declared.wrongs.What.{What}
use Rattle.lwkt_text.specs.declared.wrongs.What.TheVariants.{Number, Bytes, Further, Name}
use Rattle.lwkt_text.specs.declared.wrongs.Wrong.{Wrong}

-- the characters of word i, and none behind the last word
abbrev pub text_at : List Word → ℕ → List ℕ
text_at ws i = unwrap_or (option_map (λ w. w.text) (slice_get ws i)) []

-- whether word i is this one
abbrev pub is_at : List Word → ℕ → List ℕ → Bool
is_at ws i text = bytes_eq (text_at ws i) text

-- where the last word ends
abbrev pub sentence_end : List Word → ℕ
sentence_end ws = unwrap_or (option_map (λ w. w.end) (slice_get ws (length ws - 1))) 0

-- where word i begins, or where it is missing
abbrev pub place_of_word : List Word → ℕ → ℕ
place_of_word ws i = unwrap_or (option_map (λ w. w.at) (slice_get ws i)) (sentence_end ws)

-- what is wrong with word i
abbrev pub wrong_at : List Word → ℕ → What → Wrong
wrong_at ws i what = record { at = place_of_word ws i; what = what }

-- what word i is to be
abbrev pub part_at : {A : Type 0} → List Word → ℕ → What → Option A → Result A Wrong
part_at ws i what (Some x) = Ok x
part_at ws i what None = Err (wrong_at ws i what)

-- word i passes a test
abbrev pub demand_at : List Word → ℕ → What → Bool → Result ⊤ Wrong
demand_at ws i what ok = if ok then Ok tt else Err (wrong_at ws i what)

-- nothing stands behind word i
abbrev pub ends_at : List Word → ℕ → Result ⊤ Wrong
ends_at ws i = demand_at ws i Further (nat_le (length ws) i)

-- a number with one more digit, if that is one and 64 bits have room for it
abbrev pub digit_added : ℕ → ℕ → Option ℕ
digit_added n b =
    if nat_le 48 b && nat_le b 57 && nat_le (n * 10 + (b - 48)) 18446744073709551615 then Some (n * 10 + (b - 48)) else None

-- a number with more digits
abbrev pub digits : ℕ → List ℕ → Option ℕ
digits n [] = Some n
digits n (b ∷ bs) = option_and_then (λ m. digits m bs) (digit_added n b)

-- the number that decimal digits are, at least one
abbrev pub decimal_number : List ℕ → Option ℕ
decimal_number text = if length text == 0 then None else digits 0 text

-- word i, a number within limits
abbrev pub number_at : List Word → ℕ → ℕ → ℕ → Result ℕ Wrong
number_at ws i low high = part_at ws i (Number low high) (option_and_then (within low high) (decimal_number (text_at ws i)))

-- the record that a word is: two small hexadecimal digits for each byte, or - for none
abbrev pub bytes_of : ℕ → List ℕ → Option (List ℕ)
bytes_of most text = if length text == 0 then None else (if bytes_eq text (codes "-") then Some [] else blob_of most text)

-- word i, a record of at most so many bytes
abbrev pub bytes_at : List Word → ℕ → ℕ → Result (List ℕ) Wrong
bytes_at ws i most = part_at ws i (Bytes most) (bytes_of most (text_at ws i))

-- the place behind a key and its value, where word i is this key, and else i
abbrev pub past_key : List Word → ℕ → List ℕ → ℕ
past_key ws i key = if is_at ws i key then i + 2 else i

-- the place behind a word that may stand at i
abbrev pub past : List Word → ℕ → List ℕ → ℕ
past ws i text = if is_at ws i text then i + 1 else i

-- the value of the key that word i may be, or what stands for it
abbrev pub optional : List Word → ℕ → List ℕ → ℕ → ℕ → ℕ → Result ℕ Wrong
optional ws i key low high default = if is_at ws i key then number_at ws (i + 1) low high else Ok default

-- a name begins with a letter or _
abbrev pub is_name : List ℕ → Bool
is_name [] = false
is_name (b ∷ bs) = (nat_le 65 b && nat_le b 90) || (nat_le 97 b && nat_le b 122) || b == 95

-- word i, a name
abbrev pub name_at : List Word → ℕ → Result ⊤ Wrong
name_at ws i = demand_at ws i Name (is_name (text_at ws i))
