-- Bytes as text (own).
use Rattle.std.specs.Prelude.{ℕ, ◌/◌, ◌%◌, ◌==◌, List, [], ◌∷◌, ◌++◌, codes, if◌then◌else◌}
use Rattle.std.specs.List.{flat_map}

-- a hexadecimal digit, of which letters are small
abbrev pub digit_text : ℕ → List ℕ
digit_text n =
    if n == 0 then codes "0" else (
    if n == 1 then codes "1" else (
    if n == 2 then codes "2" else (
    if n == 3 then codes "3" else (
    if n == 4 then codes "4" else (
    if n == 5 then codes "5" else (
    if n == 6 then codes "6" else (
    if n == 7 then codes "7" else (
    if n == 8 then codes "8" else (
    if n == 9 then codes "9" else (
    if n == 10 then codes "a" else (
    if n == 11 then codes "b" else (
    if n == 12 then codes "c" else (
    if n == 13 then codes "d" else (
    if n == 14 then codes "e" else codes "f"))))))))))))))

-- a byte by two digits, the higher first
abbrev pub byte_text : ℕ → List ℕ
byte_text byte = digit_text (byte / 16) ++ digit_text (byte % 16)

-- bytes, each by its two digits
abbrev pub hex_text : List ℕ → List ℕ
hex_text bytes = flat_map byte_text bytes

-- the same, or `-` where there are none
abbrev pub bytes_text : List ℕ → List ℕ
bytes_text [] = codes "-"
bytes_text (byte ∷ bytes) = hex_text (byte ∷ bytes)
