-- Texts that stand in other languages (own: HTML 13.1.2.3, JSON by RFC 8259, 7).
use Rattle.std.specs.Prelude.{ℕ, ◌==◌, nat_lt, List, [], ◌∷◌, codes, if◌then◌else◌}

-- a letter of ASCII; what is none is left out
abbrev pub ascii_letter : ℕ → List ℕ
ascii_letter letter = if nat_lt letter 128 then letter ∷ [] else []

-- a letter in SVG and HTML, where `&`, `<` and `>` are told by their names
abbrev pub marked_letter : ℕ → List ℕ
marked_letter letter =
    if letter == 38 then codes "&amp;" else (if letter == 60 then codes "&lt;" else (if letter == 62 then codes "&gt;" else ascii_letter letter))

-- a letter between the quotes of JSON, where a quote and a backslash have a backslash before them
abbrev pub quoted_letter : ℕ → List ℕ
quoted_letter letter = if letter == 34 then codes "\\\"" else (if letter == 92 then codes "\\\\" else ascii_letter letter)
