-- A text as lines (own).
use Rattle.std.specs.Prelude.{ℕ, ◌==◌, ◌&&◌, nat_le, List, [], ◌∷◌, length, Bool, if◌then◌else◌, Option, None}
use Rattle.std.specs.Str.{is_utf8}
use Rattle.serde_json.specs.Data.{Data}
use Rattle.serde_json.specs.Read.{read}
use Rattle.lwkt_base.specs.declared.limits.TheConstants.{LINE_BYTES}

-- whether a byte is a line feed
abbrev pub is_line_feed : ℕ → Bool
is_line_feed byte = byte == 10

-- lines with a byte put in front of the first, which is a line of its own where there is none
abbrev pub in_front : ℕ → List (List ℕ) → List (List ℕ)
in_front byte [] = (byte ∷ []) ∷ []
in_front byte (line ∷ lines) = (byte ∷ line) ∷ lines

-- the lines of a text: a line feed ends one, and behind the last line feed there is only a line if a byte stands there
abbrev pub lines_of : List ℕ → List (List ℕ)
lines_of [] = []
lines_of (byte ∷ bytes) = if is_line_feed byte then [] ∷ lines_of bytes else in_front byte (lines_of bytes)

-- the value that a line is: one JSON text of at most 1048576 bytes
unfoldable pub value_of : List ℕ → Option Data
value_of line = if nat_le (length line) LINE_BYTES && is_utf8 line then read line else None
