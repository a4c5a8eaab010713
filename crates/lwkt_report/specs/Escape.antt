-- What is shown of input: escapes stand for the characters that tell a terminal anything, or turn the direction of what is read (own).
use Rattle.std.specs.Prelude.{ℕ, ◌/◌, ◌%◌, ◌&&◌, ◌||◌, not, nat_lt, nat_le, List, [], ◌∷◌, ◌++◌, codes, Bool, if◌then◌else◌}
use Rattle.std.specs.Char.{encode_utf8}
use Rattle.std.specs.Str.{chars, NoCharPasses}
use Rattle.std.specs.List.{flat_map}
use Rattle.lwkt_base.specs.Hex.{hex_text}

abbrev pub lies_between : ℕ → ℕ → ℕ → Bool
lies_between c low high = nat_le low c && nat_le c high

-- C0, U+007F and C1 (ISO/IEC 6429)
abbrev pub is_control : ℕ → Bool
is_control c = lies_between c 0 0x1f || lies_between c 0x7f 0x9f

-- marks of direction, embeddings, overrides and isolates (Unicode Standard Annex 9)
abbrev pub is_direction : ℕ → Bool
is_direction c = lies_between c 0x61c 0x61c || (lies_between c 0x200e 0x200f || (lies_between c 0x202a 0x202e || lies_between c 0x2066 0x2069))

-- the separators of lines and paragraphs
abbrev pub is_separator : ℕ → Bool
is_separator c = lies_between c 0x2028 0x2029

abbrev pub is_shown_as_is : ℕ → Bool
is_shown_as_is c = not (is_control c || (is_direction c || is_separator c))

-- the code of a character below U+10000: two digits, or four from U+0100 on
unfoldable pub code_text : ℕ → List ℕ
code_text c = (if nat_lt 255 c then hex_text (c / 256 % 256 ∷ []) else []) ++ hex_text (c % 256 ∷ [])

-- `9b}`
abbrev pub closed_code : ℕ → List ℕ
closed_code c = code_text c ++ codes "}"

-- `\u{9b}`
abbrev pub escape : ℕ → List ℕ
escape c = 92 ∷ 117 ∷ 123 ∷ [] ++ closed_code c

-- a character, or its escape
abbrev pub letter_shown : ℕ → List ℕ
letter_shown c = if is_shown_as_is c then encode_utf8 c else escape c

-- a text with escapes
abbrev pub escaped : List ℕ → List ℕ
escaped text = flat_map letter_shown (chars text)

-- a text that needs no escape
abbrev pub IsPlain : List ℕ → Type 0
IsPlain text = NoCharPasses (λ c. not (is_shown_as_is c)) text
