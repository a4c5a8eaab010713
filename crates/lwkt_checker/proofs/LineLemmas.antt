-- How a text begins with a line.
use Rattle.std.proofs.Common.{◌≡◌, ℕ, ◌<◌, ◌≤◌, List, [], ◌∷◌, ◌++◌, length, Bool, true, false, cond, None, Some, le-leb, refl, ap, ◌∙◌, arith}
use Rattle.std.specs.List.{list_any}
use Rattle.std.specs.Str.{is_utf8, IsUtf8}
use Rattle.std.proofs.lemmas.Str.{IsUtf8-from_is_utf8, is_utf8-from_IsUtf8}
use Rattle.serde_json.specs.Read.{read}
use Rattle.std.proofs.lemmas.Bool.{or_parts, lt-leb}
use Rattle.serde_json.specs.Data.{Data}
use Rattle.lwkt_checker.specs.Line.{is_line_feed, in_front, lines_of, value_of}

-- no byte of a line is a line feed
abbrev pub IsLine : List ℕ → Type 0
IsLine line = list_any is_line_feed line ≡ false

-- a byte that is no line feed stands in front of the first line
front_is : (b : ℕ) (rest : List ℕ) → is_line_feed b ≡ false → lines_of (b ∷ rest) ≡ in_front b (lines_of rest)
front_is b rest h = rw h refl

-- a line that a line feed ends is the first
pub lines-fed : (line rest : List ℕ) → IsLine line → lines_of (line ++ 10 ∷ rest) ≡ line ∷ lines_of rest
lines-fed [] rest is = refl
lines-fed (b ∷ line) rest is =
    let both = or_parts (is_line_feed b) (list_any is_line_feed line) is in
    front_is b (line ++ 10 ∷ rest) both.0 ∙ ap (in_front b) (lines-fed line rest both.1)

-- a line without a line feed behind it is the only one
lines-bare_from : (b : ℕ) (line : List ℕ) → IsLine (b ∷ line) → lines_of (b ∷ line) ≡ (b ∷ line) ∷ []
lines-bare_from b [] is = front_is b [] (or_parts (is_line_feed b) (list_any is_line_feed []) is).0
lines-bare_from b (c ∷ line) is =
    let both = or_parts (is_line_feed b) (list_any is_line_feed (c ∷ line)) is in
    front_is b (c ∷ line) both.0 ∙ ap (in_front b) (lines-bare_from c line both.1)

pub lines-bare : (line : List ℕ) → IsLine line → 0 < length line → lines_of line ≡ line ∷ []
lines-bare [] is some = absurd (omega arith)
lines-bare (b ∷ line) is some = lines-bare_from b line is

-- what stands in front of the first line, whatever lines there are
pub record BeginsWith (bytes line : List ℕ) : Type 0 where
  pub more : List ℕ
  pub others : List (List ℕ)
  pub is : lines_of bytes ≡ (line ++ more) ∷ others

front_of_some : (b : ℕ) (lines : List (List ℕ)) → (more : List ℕ) × ((others : List (List ℕ)) × (in_front b lines ≡ (b ∷ more) ∷ others))
front_of_some b [] = ([], ([], refl))
front_of_some b (line ∷ lines) = (line, (lines, refl))

begins_from : (b : ℕ) (line rest : List ℕ) → IsLine (b ∷ line) → BeginsWith ((b ∷ line) ++ rest) (b ∷ line)
begins_from b [] rest is =
    let both = or_parts (is_line_feed b) (list_any is_line_feed []) is in
    let found = front_of_some b (lines_of rest) in
    record { more = found.0; others = found.1.0; is = front_is b rest both.0 ∙ found.1.1 }
begins_from b (c ∷ line) rest is =
    let both = or_parts (is_line_feed b) (list_any is_line_feed (c ∷ line)) is in
    let found : BeginsWith ((c ∷ line) ++ rest) (c ∷ line) = begins_from c line rest both.1 in
    record { more = found.more; others = found.others; is = front_is b ((c ∷ line) ++ rest) both.0 ∙ ap (in_front b) found.is }

pub begins_with : (line rest : List ℕ) → IsLine line → 0 < length line → BeginsWith (line ++ rest) line
begins_with [] rest is some = absurd (omega arith)
begins_with (b ∷ line) rest is some = begins_from b line rest is

-- a line that is too long has no value
pub value-long : (line : List ℕ) → 1048576 < length line → value_of line ≡ None
unfolding value_of
value-long line long = rw (lt-leb (length line) 1048576 long) refl

-- a line that is read
pub value_read : (line : List ℕ) (d : Data) → length line ≤ 1048576 → IsUtf8 line → read line ≡ Some d → value_of line ≡ Some d
unfolding value_of
value_read line d short text h = rw (le-leb (length line) 1048576 short, is_utf8-from_IsUtf8 line text, h) refl

unread : (line : List ℕ) (text : Bool) → is_utf8 line ≡ text → (IsUtf8 line → read line ≡ None) → cond text (read line) None ≡ None
unread line true is refused = refused (IsUtf8-from_is_utf8 line is)
unread line false is refused = refl

-- a line that is not
pub value_unread : (line : List ℕ) → length line ≤ 1048576 → (IsUtf8 line → read line ≡ None) → value_of line ≡ None
unfolding value_of
value_unread line short refused = rw (le-leb (length line) 1048576 short) (unread line (is_utf8 line) refl refused)
