-- The sentences and words of a text (own).
use Rattle.std.specs.Prelude.{ℕ, ◌+◌, ◌==◌, ◌&&◌, ◌||◌, not, nat_lt, nat_le, List, [], ◌∷◌, ◌++◌, length, Bool, true, false, if◌then◌else◌}
use Rattle.lwkt_text.specs.declared.scans.Kind.{Kind}
use Rattle.lwkt_text.specs.declared.scans.Kind.TheVariants.{Blank, End, Remark, Letter, Sign, Point}
use Rattle.lwkt_text.specs.declared.scans.Scan.{Scan}
use Rattle.lwkt_text.specs.declared.words.Sentence.{Sentence}

-- a letter, a digit or _
abbrev pub is_letter : ℕ → Bool
is_letter b = (nat_le 48 b && nat_le b 57) || (nat_le 65 b && nat_le b 90) || (nat_le 97 b && nat_le b 122) || b == 95

-- a blank, a tab, a carriage return, a comma or a colon
abbrev pub is_blank : ℕ → Bool
is_blank b = b == 32 || b == 9 || b == 13 || b == 44 || b == 58

-- a full stop or a bracket
abbrev pub is_point : ℕ → Bool
is_point b = b == 46 || b == 40 || b == 41 || b == 91 || b == 93

-- what a byte is to a text
abbrev pub kind_of : ℕ → Kind
kind_of b =
    if b == 10 || b == 59 then End else (
    if is_blank b then Blank else (
    if b == 35 then Remark else (
    if is_point b then Point else (
    if is_letter b then Letter else Sign))))

-- the character that stands for a byte
abbrev pub shown : ℕ → ℕ
shown b = if nat_lt b 128 then b else 63

-- before the first byte
abbrev pub no_scan : Scan
no_scan = record { sentences = []; words = []; text = []; at = 0; kind = Blank; remark = false }

-- whether a byte of a kind goes on with the word
abbrev pub same_kind : Kind → Kind → Bool
same_kind Letter Letter = true
same_kind Sign Sign = true
same_kind _ _ = false

abbrev pub joins : Kind → Scan → Bool
joins kind s = same_kind s.kind kind

-- the word ends before a place
abbrev pub word_ended : ℕ → Scan → Scan
word_ended end s =
    if length s.text == 0 then record s { kind = Blank }
    else record s { words = s.words ++ (record { at = s.at; end = end; text = s.text }) ∷ []; text = []; kind = Blank }

-- the sentence ends before a place; one without words is none
abbrev pub gathered : Scan → Scan
gathered s = if length s.words == 0 then s else record s { sentences = s.sentences ++ (record { words = s.words; rounds = [] }) ∷ []; words = [] }

abbrev pub sentence_ended : ℕ → Scan → Scan
sentence_ended end s = gathered (word_ended end s)

-- where a byte goes to: on with the word, or into one that begins with it
abbrev pub word_begun : ℕ → Kind → Scan → Scan
word_begun at kind s = if joins kind s then s else record (word_ended at s) { at = at; kind = kind }

abbrev pub written : ℕ → Scan → Scan
written byte s = record s { text = s.text ++ (shown byte) ∷ [] }

abbrev pub put : ℕ → Kind → ℕ → Scan → Scan
put at kind byte s = written byte (word_begun at kind s)

-- what a byte of a kind does
abbrev pub fed_kind : ℕ → ℕ → Kind → Scan → Scan
fed_kind at byte End s = sentence_ended at s
fed_kind at byte Blank s = word_ended at s
fed_kind at byte Remark s = sentence_ended at (record s { remark = true })
fed_kind at byte Letter s = put at Letter byte s
fed_kind at byte Sign s = put at Sign byte s
fed_kind at byte Point s = put at Point byte s

-- what a byte does; a comment goes on to the line's end
unfoldable pub fed : ℕ → ℕ → Scan → Scan
fed at byte s = if s.remark then record s { remark = not (byte == 10) } else fed_kind at byte (kind_of byte) s

-- what bytes do, the first of which stands at a place
abbrev pub fed_all : ℕ → List ℕ → Scan → Scan
fed_all at [] s = s
fed_all at (b ∷ bs) s = fed_all (at + 1) bs (fed at b s)

-- the sentences of a text
unfoldable pub sentences_of : List ℕ → List Sentence
sentences_of bytes = (sentence_ended (length bytes) (fed_all 0 bytes no_scan)).sentences
