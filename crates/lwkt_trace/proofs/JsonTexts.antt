-- Texts of values of JSON, and how they are put together.
use Rattle.std.proofs.Common.{◌≡◌, ℕ, zero, suc, ◌+◌, ◌<◌, ◌≤◌, ◌^◌, List, [], ◌∷◌, ◌++◌, Bool, true, false, ◌&&◌, ◌==◌, not, nat_lt, nat_le, Option, Some, IsAscii, decimal, refl, sym, ap, ap₂, ◌∙◌, subst, arith, append_assoc, ne_eqb}
use Rattle.std.specs.Prelude.{codes, option_map, if◌then◌else◌}
use Rattle.std.proofs.lemmas.Bool.{and_parts, leb-true, ltb-true, not-true, eqb-false}
use Rattle.std.proofs.lemmas.Str.{IsAscii-append}
use Rattle.std.proofs.lemmas.Fmt.{IsAscii-decimal}
use Rattle.json.specs.Token.{Token}
use Rattle.json.specs.Word.{ends_word, word}
use Rattle.json.specs.Lex.{Lexeme, token, comma, colon, string_token, between, lex}
use Rattle.json.specs.Json as json
use Rattle.json.specs.Print.{escape_byte, escape}
use Rattle.json.specs.Tree.{depth, items_depth, members_depth}
use Rattle.json.proofs.Printed.Decimals.{IsNumber-decimal}
use Rattle.json.proofs.Printed.Numbers.{lex-number, in_word-ended}
use Rattle.json.proofs.Printed.Strings.{content-escape, lex-escape, escape_byte_plain}
use Rattle.serde_json.proofs.Numbers.{number_of-decimal}
use Rattle.serde_json.specs.Data.{Num, Data, null, number, string, array, object, Items, no_items, item, Members, no_members, put}
use Rattle.serde_json.specs.Read.{of_json, of_items, of_members}
use Rattle.lwkt_trace.specs.Written.{member_name, comma_at, line_at, parted}
use Rattle.lwkt_trace.specs.Readback.{number_data, items_as}
use Rattle.lwkt_trace.specs.Printed.{HasWords, ItemsHaveWords}
use Rattle.lwkt_trace.proofs.Lexemes.{value_onto, items_onto, members_onto}

-- ---- bytes

abbrev all_ascii : List ℕ → Bool
all_ascii [] = true
all_ascii (x ∷ xs) = nat_lt x 128 && all_ascii xs

ascii_none : IsAscii []
ascii_none i = omega arith

ascii_more : (x : ℕ) (xs : List ℕ) → x < 128 → IsAscii xs → IsAscii (x ∷ xs)
ascii_more x xs small rest zero = small
ascii_more x xs small rest (suc i) = rest i

pub ascii_from : (s : List ℕ) → all_ascii s ≡ true → IsAscii s
ascii_from [] h = ascii_none
ascii_from (x ∷ xs) h = let both = and_parts (nat_lt x 128) (all_ascii xs) h in ascii_more x xs (ltb-true x 128 both.0) (ascii_from xs both.1)

-- bytes that stand for themselves in a string
abbrev pub is_plain_text : List ℕ → Bool
is_plain_text [] = true
is_plain_text (x ∷ xs) = (nat_le 32 x && (nat_lt x 128 && (not (x == 34) && not (x == 92)))) && is_plain_text xs

pub record IsPlain (s : List ℕ) : Type 0 where
  pub same : escape s ≡ s
  pub ascii : IsAscii s

plain_none : IsPlain []
plain_none = record { same = refl; ascii = ascii_none }

plain_byte : (x : ℕ) (xs : List ℕ) → 32 ≤ x → x < 128 → (x == 34) ≡ false → (x == 92) ≡ false → IsPlain xs → IsPlain (x ∷ xs)
plain_byte x xs low high quote backslash rest = record {
  same = ap₂ (λ (a b : List ℕ). a ++ b) (escape_byte_plain x (eqb-false x 34 quote) (eqb-false x 92 backslash) low) rest.same;
  ascii = ascii_more x xs high rest.ascii;
}

pub plain_from : (s : List ℕ) → is_plain_text s ≡ true → IsPlain s
plain_from [] h = plain_none
plain_from (x ∷ xs) h =
    let both = and_parts (nat_le 32 x && (nat_lt x 128 && (not (x == 34) && not (x == 92)))) (is_plain_text xs) h in
    let low = and_parts (nat_le 32 x) (nat_lt x 128 && (not (x == 34) && not (x == 92))) both.0 in
    let high = and_parts (nat_lt x 128) (not (x == 34) && not (x == 92)) low.1 in
    let marks = and_parts (not (x == 34)) (not (x == 92)) high.1 in
    plain_byte x xs (leb-true 32 x low.0) (ltb-true x 128 high.0) (not-true (x == 34) marks.0) (not-true (x == 92) marks.1) (plain_from xs both.1)

escape_both : (a b : List ℕ) → escape (a ++ b) ≡ escape a ++ escape b
escape_both [] b = refl
escape_both (x ∷ a) b = ap (λ (l : List ℕ). escape_byte x ++ l) (escape_both a b) ∙ sym (append_assoc (escape_byte x) (escape a) (escape b))

pub plain_both : (a b : List ℕ) → IsPlain a → IsPlain b → IsPlain (a ++ b)
plain_both a b p q = record { same = escape_both a b ∙ ap₂ (λ (x y : List ℕ). x ++ y) p.same q.same; ascii = IsAscii-append a b p.ascii q.ascii }

-- ---- values

-- a text of a value, which nothing that goes on with a word follows
pub record Spells (text : List ℕ) (d : Data) (deep : ℕ) : Type 0 where
  pub value : json.Json
  pub is : of_json value ≡ Some d
  pub shallow : depth value ≤ deep
  pub reads : (rest : List ℕ) → ends_word rest ≡ true → lex between (text ++ rest) ≡ value_onto value (lex between rest)
  pub ascii : IsAscii text

pub deeper : {text : List ℕ} {d : Data} {deep : ℕ} (more : ℕ) → deep ≤ more → Spells text d deep → Spells text d more
deeper {text} {d} {deep} more within is =
    let shallow = is.shallow in record { value = is.value; is = is.is; shallow = omega (arith, shallow, within); reads = is.reads; ascii = is.ascii }

pub number_spells : (n deep : ℕ) → n < 2 ^ 64 → Spells (decimal n) (number_data n) deep
number_spells n deep h = record {
  value = json.number (decimal n);
  is = ap (λ (o : Option Num). option_map number o) (number_of-decimal n h);
  shallow = omega arith;
  reads = λ rest ends. lex-number (decimal n) rest (IsNumber-decimal n h) ends;
  ascii = IsAscii-decimal n h;
}

pub null_spells : (deep : ℕ) → Spells (codes "null") null deep
unfolding lex word
null_spells deep = record {
  value = json.null;
  is = refl;
  shallow = omega arith;
  reads = λ rest ends. ap₂ (λ (b : Bool) (ls : List Lexeme). token (if b then Token.null else Token.bad) ∷ ls) ends (in_word-ended rest ends);
  ascii = ascii_from (codes "null") refl;
}

-- a string in quotes
abbrev pub in_quotes : List ℕ → List ℕ
in_quotes s = codes "\"" ++ (s ++ codes "\"")

quotes_read : (s rest : List ℕ) → escape s ≡ s → lex between (in_quotes s ++ rest) ≡ token (Token.string s) ∷ lex between rest
unfolding lex
quotes_read s rest same =
    let closed : (s ++ codes "\"") ++ rest ≡ escape s ++ 34 ∷ rest = append_assoc s (codes "\"") rest ∙ ap (λ (l : List ℕ). l ++ 34 ∷ rest) (sym same) in
    ap (λ (l : List ℕ). lex between (34 ∷ l)) closed ∙ ap₂ (λ (o : Option (List ℕ)) (ls : List Lexeme). token (string_token o) ∷ ls) (content-escape s rest) (lex-escape s rest)

quotes_ascii : (s : List ℕ) → IsAscii s → IsAscii (in_quotes s)
quotes_ascii s h = IsAscii-append (codes "\"") (s ++ codes "\"") (ascii_from (codes "\"") refl) (IsAscii-append s (codes "\"") h (ascii_from (codes "\"") refl))

pub string_spells : (s : List ℕ) (deep : ℕ) → IsPlain s → Spells (in_quotes s) (string s) deep
string_spells s deep plain = record {
  value = json.string s;
  is = refl;
  shallow = omega arith;
  reads = λ rest ends. quotes_read s rest plain.same;
  ascii = quotes_ascii s plain.ascii;
}

-- ---- items

-- what stands between two parts, and what before the first
pub record IsComma (gap : List ℕ) : Type 0 where
  pub reads : (rest : List ℕ) → lex between (gap ++ rest) ≡ comma ∷ lex between rest
  pub ends : (rest : List ℕ) → ends_word (gap ++ rest) ≡ true
  pub ascii : IsAscii gap

pub record IsBlank (gap : List ℕ) : Type 0 where
  pub reads : (rest : List ℕ) → lex between (gap ++ rest) ≡ lex between rest
  pub ascii : IsAscii gap

pub comma_is : IsComma (codes ",")
unfolding lex
comma_is = record { reads = λ rest. refl; ends = λ rest. refl; ascii = ascii_from (codes ",") refl }

pub line_is : IsComma (codes ",\n")
unfolding lex
line_is = record { reads = λ rest. refl; ends = λ rest. refl; ascii = ascii_from (codes ",\n") refl }

pub nothing_is : IsBlank []
nothing_is = record { reads = λ rest. refl; ascii = ascii_none }

pub break_is : IsBlank (codes "\n")
unfolding lex
break_is = record { reads = λ rest. refl; ascii = ascii_from (codes "\n") refl }

-- a text of items with the closing bracket
pub record ItemsSpell (later : Bool) (text : List ℕ) (ds : Items) (deep : ℕ) : Type 0 where
  pub items : json.Items
  pub is : of_items items ≡ Some ds
  pub shallow : items_depth items ≤ deep
  pub reads : (rest : List ℕ) → lex between (text ++ rest) ≡ items_onto later items (lex between rest)
  pub ends : later ≡ true → (rest : List ℕ) → ends_word (text ++ rest) ≡ true
  pub ascii : IsAscii text

pub no_more_items : (later : Bool) (deep : ℕ) → ItemsSpell later (codes "]") no_items deep
unfolding lex
no_more_items later deep = record {
  items = json.no_items;
  is = refl;
  shallow = omega arith;
  reads = λ rest. refl;
  ends = λ e rest. refl;
  ascii = ascii_from (codes "]") refl;
}

three_parts : (a b c rest : List ℕ) → (a ++ (b ++ c)) ++ rest ≡ a ++ (b ++ (c ++ rest))
three_parts a b c rest = append_assoc a (b ++ c) rest ∙ ap (λ (l : List ℕ). a ++ l) (append_assoc b c rest)

-- the same from the left
pub left_parts : (a b c rest : List ℕ) → ((a ++ b) ++ c) ++ rest ≡ a ++ (b ++ (c ++ rest))
left_parts a b c rest = append_assoc (a ++ b) c rest ∙ append_assoc a b (c ++ rest)

item_of : (j : json.Json) (js : json.Items) (d : Data) (ds : Items) → of_json j ≡ Some d → of_items js ≡ Some ds → of_items (json.item j js) ≡ Some (item d ds)
item_of j js d ds first behind = rw (first, behind) refl

module _ {text rest_text : List ℕ} {d : Data} {ds : Items} {deep : ℕ} (first : Spells text d deep) (behind : ItemsSpell true rest_text ds deep) where
  both_read : (rest : List ℕ) → lex between (text ++ (rest_text ++ rest)) ≡ value_onto first.value (items_onto true behind.items (lex between rest))
  both_read rest = first.reads (rest_text ++ rest) (behind.ends refl rest) ∙ ap (λ (ls : List Lexeme). value_onto first.value ls) (behind.reads rest)

  deepest : items_depth (json.item first.value behind.items) ≤ deep
  deepest = let a = first.shallow in let b = behind.shallow in omega (arith, a, b)

  pub item_first : (gap : List ℕ) → IsBlank gap → ItemsSpell false (gap ++ (text ++ rest_text)) (item d ds) deep
  item_first gap blank = record {
    items = json.item first.value behind.items;
    is = item_of first.value behind.items d ds first.is behind.is;
    shallow = deepest;
    reads = λ rest. ap (lex between) (three_parts gap text rest_text rest) ∙ blank.reads (text ++ (rest_text ++ rest)) ∙ both_read rest;
    ends = λ e rest. absurd (cc);
    ascii = IsAscii-append gap (text ++ rest_text) blank.ascii (IsAscii-append text rest_text first.ascii behind.ascii);
  }

  pub item_more : (gap : List ℕ) → IsComma gap → ItemsSpell true (gap ++ (text ++ rest_text)) (item d ds) deep
  item_more gap mark = record {
    items = json.item first.value behind.items;
    is = item_of first.value behind.items d ds first.is behind.is;
    shallow = deepest;
    reads = λ rest. ap (lex between) (three_parts gap text rest_text rest) ∙ mark.reads (text ++ (rest_text ++ rest)) ∙ ap (λ (ls : List Lexeme). comma ∷ ls) (both_read rest);
    ends = λ e rest. ap ends_word (three_parts gap text rest_text rest) ∙ mark.ends (text ++ (rest_text ++ rest));
    ascii = IsAscii-append gap (text ++ rest_text) mark.ascii (IsAscii-append text rest_text first.ascii behind.ascii);
  }

pub array_spells : {text : List ℕ} {ds : Items} (deep : ℕ) → ItemsSpell false text ds deep → Spells (codes "[" ++ text) (array ds) (deep + 1)
unfolding lex
array_spells {text} {ds} deep inside = record {
  value = json.array inside.items;
  is = ap (λ (o : Option Items). option_map array o) inside.is;
  shallow = (let a = inside.shallow in omega (arith, a));
  reads = λ rest ends. ap (λ (ls : List Lexeme). token Token.begin_array ∷ ls) (inside.reads rest);
  ascii = IsAscii-append (codes "[") text (ascii_from (codes "[") refl) inside.ascii;
}

-- ---- members

-- a text of members with the closing brace: they go into others as `puts` says
pub record MembersSpell (later : Bool) (text : List ℕ) (puts : Members → Members) (deep : ℕ) : Type 0 where
  pub members : json.Members
  pub is : (found : Members) → of_members members found ≡ Some (puts found)
  pub shallow : members_depth members ≤ deep
  pub reads : (rest : List ℕ) → lex between (text ++ rest) ≡ members_onto later members (lex between rest)
  pub ends : later ≡ true → (rest : List ℕ) → ends_word (text ++ rest) ≡ true
  pub ascii : IsAscii text

pub no_more_members : (later : Bool) (deep : ℕ) → MembersSpell later (codes "}") (λ found. found) deep
unfolding lex
no_more_members later deep = record {
  members = json.no_members;
  is = λ found. refl;
  shallow = omega arith;
  reads = λ rest. refl;
  ends = λ e rest. refl;
  ascii = ascii_from (codes "}") refl;
}

named_read : (name rest : List ℕ) → escape name ≡ name → lex between (member_name name ++ rest) ≡ token (Token.string name) ∷ colon ∷ lex between rest
unfolding member_name lex
named_read name rest same =
    let closed : (name ++ codes "\":") ++ rest ≡ escape name ++ 34 ∷ 58 ∷ rest = append_assoc name (codes "\":") rest ∙ ap (λ (l : List ℕ). l ++ 34 ∷ 58 ∷ rest) (sym same) in
    ap (λ (l : List ℕ). lex between (34 ∷ l)) closed ∙ ap₂ (λ (o : Option (List ℕ)) (ls : List Lexeme). token (string_token o) ∷ ls) (content-escape name (58 ∷ rest)) (lex-escape name (58 ∷ rest))

named_ascii : (name : List ℕ) → IsAscii name → IsAscii (member_name name)
unfolding member_name
named_ascii name h = IsAscii-append (codes "\"") (name ++ codes "\":") (ascii_from (codes "\"") refl) (IsAscii-append name (codes "\":") h (ascii_from (codes "\":") refl))

member_of : (k : List ℕ) (j : json.Json) (ms : json.Members) (d : Data) (puts : Members → Members) → of_json j ≡ Some d → ((found : Members) → of_members ms found ≡ Some (puts found))
    → (found : Members) → of_members (json.member k j ms) found ≡ Some (puts (put k d found))
member_of k j ms d puts first behind found = rw first (behind (put k d found))

module _ {text rest_text : List ℕ} {d : Data} {puts : Members → Members} {deep : ℕ} (name : List ℕ) (plain : IsPlain name) (first : Spells text d deep) (behind : MembersSpell true rest_text puts deep) where
  member_read : (rest : List ℕ) → lex between (member_name name ++ (text ++ (rest_text ++ rest))) ≡ token (Token.string name) ∷ colon ∷ value_onto first.value (members_onto true behind.members (lex between rest))
  member_read rest =
      named_read name (text ++ (rest_text ++ rest)) plain.same
      ∙ ap (λ (ls : List Lexeme). token (Token.string name) ∷ colon ∷ ls) (first.reads (rest_text ++ rest) (behind.ends refl rest) ∙ ap (λ (ls : List Lexeme). value_onto first.value ls) (behind.reads rest))

  member_deepest : members_depth (json.member name first.value behind.members) ≤ deep
  member_deepest = let a = first.shallow in let b = behind.shallow in omega (arith, a, b)

  member_ascii : IsAscii (member_name name ++ (text ++ rest_text))
  member_ascii = IsAscii-append (member_name name) (text ++ rest_text) (named_ascii name plain.ascii) (IsAscii-append text rest_text first.ascii behind.ascii)

  pub member_first : MembersSpell false (member_name name ++ (text ++ rest_text)) (λ found. puts (put name d found)) deep
  member_first = record {
    members = json.member name first.value behind.members;
    is = member_of name first.value behind.members d puts first.is behind.is;
    shallow = member_deepest;
    reads = λ rest. ap (lex between) (three_parts (member_name name) text rest_text rest) ∙ member_read rest;
    ends = λ e rest. absurd (cc);
    ascii = member_ascii;
  }

  pub member_more : (gap : List ℕ) → IsComma gap → MembersSpell true (gap ++ (member_name name ++ (text ++ rest_text))) (λ found. puts (put name d found)) deep
  member_more gap mark = record {
    members = json.member name first.value behind.members;
    is = member_of name first.value behind.members d puts first.is behind.is;
    shallow = member_deepest;
    reads = λ rest.
        ap (lex between) (append_assoc gap (member_name name ++ (text ++ rest_text)) rest ∙ ap (λ (l : List ℕ). gap ++ l) (three_parts (member_name name) text rest_text rest))
        ∙ mark.reads (member_name name ++ (text ++ (rest_text ++ rest))) ∙ ap (λ (ls : List Lexeme). comma ∷ ls) (member_read rest);
    ends = λ e rest. ap ends_word (append_assoc gap (member_name name ++ (text ++ rest_text)) rest) ∙ mark.ends ((member_name name ++ (text ++ rest_text)) ++ rest);
    ascii = IsAscii-append gap (member_name name ++ (text ++ rest_text)) mark.ascii member_ascii;
  }

pub object_spells : {text : List ℕ} {puts : Members → Members} (deep : ℕ) → MembersSpell false text puts deep → Spells (codes "{" ++ text) (object (puts no_members)) (deep + 1)
unfolding lex
object_spells {text} {puts} deep inside = record {
  value = json.object inside.members;
  is = ap (λ (o : Option Members). option_map object o) (inside.is no_members);
  shallow = (let a = inside.shallow in omega (arith, a));
  reads = λ rest ends. ap (λ (ls : List Lexeme). token Token.begin_object ∷ ls) (inside.reads rest);
  ascii = IsAscii-append (codes "{") text (ascii_from (codes "{") refl) inside.ascii;
}

-- ---- numbered parts

-- what stands before numbered parts
pub record IsBreak (before : ℕ → List ℕ) : Type 0 where
  pub first : IsBlank (before 0)
  pub next : (n : ℕ) → (n == 0) ≡ false → IsComma (before n)

pub comma_breaks : IsBreak comma_at
comma_breaks = record { first = nothing_is; next = λ n e. rw e comma_is }

pub line_breaks : IsBreak line_at
line_breaks = record { first = break_is; next = λ n e. rw e line_is }

module _ {A : Type 0} (before : ℕ → List ℕ) (breaks : IsBreak before) (text : A → List ℕ) (value : A → Data) (deep : ℕ) (spells : (x : A) → HasWords (value x) → Spells (text x) (value x) deep) where
  pub more_spell : (n : ℕ) (xs : List A) → (n == 0) ≡ false → ItemsHaveWords (items_as value xs) → ItemsSpell true (parted before text n xs ++ codes "]") (items_as value xs) deep
  more_spell n [] e words = no_more_items true deep
  more_spell n (x ∷ xs) e words =
      subst (λ (t : List ℕ). ItemsSpell true t (items_as value (x ∷ xs)) deep) (sym (left_parts (before n) (text x) (parted before text (n + 1) xs) (codes "]")))
      (item_more (spells x words.0) (more_spell (n + 1) xs (ne_eqb (n + 1) 0 (λ z. omega arith)) words.1) (before n) (breaks.next n e))

  pub parts_spell : (xs : List A) → ItemsHaveWords (items_as value xs) → ItemsSpell false (parted before text 0 xs ++ codes "]") (items_as value xs) deep
  parts_spell [] words = no_more_items false deep
  parts_spell (x ∷ xs) words =
      subst (λ (t : List ℕ). ItemsSpell false t (items_as value (x ∷ xs)) deep) (sym (left_parts (before 0) (text x) (parted before text 1 xs) (codes "]")))
      (item_first (spells x words.0) (more_spell 1 xs refl words.1) (before 0) breaks.first)
