-- The text of a trace is a text of its value, and is read as the trace.
use Rattle.std.proofs.Common.{◌≡◌, ℕ, ◌<◌, ◌≤◌, ◌^◌, List, [], ◌++◌, length, Bool, true, false, Option, Some, None, decimal, IsAscii, refl, sym, ap, ◌∙◌, subst, arith, append_assoc}
use Rattle.std.specs.Prelude.{codes, if◌then◌else◌}
use Rattle.std.specs.List.{list_any}
use Rattle.std.proofs.lemmas.Fmt.{decimal_digit}
use Rattle.std.proofs.lemmas.Str.{IsUtf8-from_ascii, IsAscii-append}
use Rattle.json.specs.Lex.{lex}
use Rattle.serde_json.specs.Data.{Data, array, object, Members, no_members, member, put}
use Rattle.serde_json.specs.Read.{read}
use Rattle.lwkt_base.specs.declared.owners.MsgEnd.{MsgEnd}
use Rattle.lwkt_core.specs.declared.events.Event.{Event}
use Rattle.lwkt_report.specs.declared.closings.Closing as report
use Rattle.lwkt_report.specs.declared.closings.TokenLine.{TokenLine}
use Rattle.lwkt_script.specs.declared.scripts.Script.{Script}
use Rattle.lwkt_trace.specs.Format.{trace, trace_of}
use Rattle.lwkt_trace.specs.Written.{member_name, parted, comma_at, line_at, row_text, generation_text, tally_text, last_record_text, has_record, token_text, message_text, event_text, end_text, listed_text, cpus_text, tokens_text, messages_text, events_text, rows_text, generations_text, all_tallies_text, ends_text, closing_text, trace_text, front_text, back_text}
use Rattle.lwkt_trace.specs.Readback.{number_data, items_as, event_data, events_data, end_data, ends_data, message_data, messages_data}
use Rattle.lwkt_trace.specs.Values.{token_data, row_data, generation_data, tally_data, record_data, closing_data, last_data, trace_data}
use Rattle.lwkt_trace.specs.Printed.{HasWords, ItemsHaveWords, TextIsOfValue, WrittenIsReadBack}
use Rattle.lwkt_trace.proofs.ClosingValues.{closing_by}
use Rattle.lwkt_trace.proofs.JsonTexts.{deeper, plain_from, ascii_from, Spells, number_spells, null_spells, comma_is, line_is, array_spells, MembersSpell, no_more_members, member_first, member_more, object_spells, comma_breaks, line_breaks, parts_spell}
use Rattle.lwkt_trace.proofs.Lexemes.{text_is}
use Rattle.lwkt_trace.proofs.PartTexts.{numbers_spell, token_spells, message_spells, end_spells, event_spells, tallies_spell, last_blob_spells}
use Rattle.lwkt_trace.proofs.TraceTexts.{text_read}
use Rattle.lwkt_trace.proofs.WholeTraces.{trace_read_back}

-- a list of numbered parts
abbrev listed : {A : Type 0} → (ℕ → List ℕ) → (A → List ℕ) → List A → List ℕ
listed before text xs = codes "[" ++ (parted before text 0 xs ++ codes "]")

-- ---- the closing values

rows_spell : (lines : List TokenLine) → ItemsHaveWords (items_as row_data lines) → Spells (listed comma_at row_text lines) (array (items_as row_data lines)) 3
rows_spell lines words = array_spells 2 (parts_spell comma_at comma_breaks row_text row_data 2 (λ line w. numbers_spell line.cells 1 w) lines words)

generations_spell : (lines : List TokenLine) → ItemsHaveWords (items_as generation_data lines) → Spells (listed comma_at generation_text lines) (array (items_as generation_data lines)) 3
generations_spell lines words = array_spells 2 (parts_spell comma_at comma_breaks generation_text generation_data 2 (λ line w. number_spells line.generation 2 w) lines words)

tallies_of_all_spell : (lines : List TokenLine) → ItemsHaveWords (items_as tally_data lines) → Spells (listed comma_at tally_text lines) (array (items_as tally_data lines)) 3
tallies_of_all_spell lines words = array_spells 2 (parts_spell comma_at comma_breaks tally_text tally_data 2 (λ line w. tallies_spell line.tallies w) lines words)

records_spell : (lines : List TokenLine) → ItemsHaveWords (items_as record_data lines) → Spells (listed comma_at last_record_text lines) (array (items_as record_data lines)) 3
records_spell lines words = array_spells 2 (parts_spell comma_at comma_breaks last_record_text record_data 2 (λ line w. last_blob_spells line.blob) lines words)

ends_spell : (ends : List MsgEnd) → ItemsHaveWords (ends_data ends) → Spells (listed line_at end_text ends) (array (ends_data ends)) 3
ends_spell ends words = array_spells 2 (parts_spell line_at line_breaks end_text (λ e. end_data e.state e.round) 2 end_spells ends words)

-- the records and the ends of messages, up to the closing brace
abbrev behind_text : Bool → List TokenLine → List MsgEnd → List ℕ
behind_text true lines ends =
    codes ",\n" ++ (member_name (codes "records") ++ (listed comma_at last_record_text lines ++ (
    codes ",\n" ++ (member_name (codes "messages") ++ (listed line_at end_text ends ++ codes "}")))))
behind_text false lines ends = codes ",\n" ++ (member_name (codes "messages") ++ (listed line_at end_text ends ++ codes "}"))

abbrev behind_puts : Bool → List TokenLine → List MsgEnd → Members → Members
behind_puts true lines ends found = put (codes "messages") (array (ends_data ends)) (put (codes "records") (array (items_as record_data lines)) found)
behind_puts false lines ends found = put (codes "messages") (array (ends_data ends)) found

last_member : (ends : List MsgEnd) → ItemsHaveWords (ends_data ends) → MembersSpell true (behind_text false [] ends) (λ found. put (codes "messages") (array (ends_data ends)) found) 3
last_member ends words = member_more (codes "messages") (plain_from (codes "messages") refl) (ends_spell ends words) (no_more_members true 3) (codes ",\n") line_is

behind_spells : (recorded : Bool) (lines : List TokenLine) (ends : List MsgEnd) → HasWords (closing_by recorded lines ends) → MembersSpell true (behind_text recorded lines ends) (λ found. behind_puts recorded lines ends found) 3
behind_spells true lines ends words =
    member_more (codes "records") (plain_from (codes "records") refl) (records_spell lines words.1.1.0) (last_member ends words.1.0) (codes ",\n") line_is
behind_spells false lines ends words = last_member ends words.1.0

-- the words of the rows and the tallies
rows_words : (recorded : Bool) (lines : List TokenLine) (ends : List MsgEnd) → HasWords (closing_by recorded lines ends) → ItemsHaveWords (items_as row_data lines) × ItemsHaveWords (items_as tally_data lines)
rows_words true lines ends words = (words.1.1.1.0, words.1.1.1.1.0)
rows_words false lines ends words = (words.1.1.0, words.1.1.1.0)

abbrev closing_members : Bool → List TokenLine → List MsgEnd → List ℕ
closing_members recorded lines ends =
    member_name (codes "rows") ++ (listed comma_at row_text lines ++ (codes ",\n" ++ (
    member_name (codes "gens") ++ (listed comma_at generation_text lines ++ (codes ",\n" ++ (
    member_name (codes "tallies") ++ (listed comma_at tally_text lines ++ behind_text recorded lines ends)))))))

-- the members by name
closing_put : (recorded : Bool) (lines : List TokenLine) (ends : List MsgEnd)
    → object (behind_puts recorded lines ends (put (codes "tallies") (array (items_as tally_data lines)) (put (codes "gens") (array (items_as generation_data lines)) (put (codes "rows") (array (items_as row_data lines)) no_members)))) ≡ closing_by recorded lines ends
closing_put true lines ends = refl
closing_put false lines ends = refl

closing_spells_by : (recorded : Bool) (lines : List TokenLine) (ends : List MsgEnd) → HasWords (closing_by recorded lines ends) → Spells (codes "{" ++ closing_members recorded lines ends) (closing_by recorded lines ends) 4
closing_spells_by recorded lines ends words =
    let others = rows_words recorded lines ends words in
    let tallies = member_more (codes "tallies") (plain_from (codes "tallies") refl) (tallies_of_all_spell lines others.1) (behind_spells recorded lines ends words) (codes ",\n") line_is in
    let gens = member_more (codes "gens") (plain_from (codes "gens") refl) (generations_spell lines words.0) tallies (codes ",\n") line_is in
    let rows = member_first (codes "rows") (plain_from (codes "rows") refl) (rows_spell lines others.0) gens in
    subst (λ (d : Data). Spells (codes "{" ++ closing_members recorded lines ends) d 4) (closing_put recorded lines ends) (object_spells 3 rows)

-- the same text as it is written
abbrev closing_inside : Bool → List TokenLine → List MsgEnd → List ℕ
closing_inside recorded lines ends =
    codes "{" ++ (rows_text lines ++ (generations_text lines ++ (all_tallies_text lines ++ ((if recorded then listed_text lines else []) ++ (ends_text ends ++ codes "}")))))

closing_grouped : (recorded : Bool) (lines : List TokenLine) (ends : List MsgEnd) → closing_inside recorded lines ends ≡ codes "{" ++ closing_members recorded lines ends
unfolding rows_text generations_text all_tallies_text listed_text ends_text
closing_grouped true lines ends = simp append_assoc
closing_grouped false lines ends = simp append_assoc

closing_spells : (c : report.Closing) → HasWords (closing_data c) → Spells (closing_inside (list_any has_record c.tokens.items) c.tokens.items c.messages.items) (closing_data c) 4
closing_spells c words =
    let recorded : Bool = list_any has_record c.tokens.items in
    subst (λ (t : List ℕ). Spells t (closing_data c) 4) (sym (closing_grouped recorded c.tokens.items c.messages.items)) (closing_spells_by recorded c.tokens.items c.messages.items words)

-- the closing values as they are written, or null
abbrev pub last_inside : Option report.Closing → List ℕ
last_inside None = codes "null"
last_inside (Some c) = closing_inside (list_any has_record c.tokens.items) c.tokens.items c.messages.items

last_spells : (last : Option report.Closing) → HasWords (last_data last) → Spells (last_inside last) (last_data last) 4
last_spells None words = null_spells 4
last_spells (Some c) words = closing_spells c words

-- ---- the whole trace

-- the value of a trace, with that of its closing values
abbrev pub data_with : Script → List Event → Data → Data
data_with script events last =
    object (member (codes "cpus") (number_data script.cpus) (
    member (codes "events") (array (events_data events)) (
    member (codes "last") last (
    member (codes "messages") (array (messages_data script.messages)) (
    member (codes "tokens") (array (items_as token_data script.tokens)) (
    member (codes "version") (number_data 1) no_members))))))

abbrev trace_members : Script → List Event → List ℕ → List ℕ
trace_members script events last =
    member_name (codes "version") ++ (decimal 1 ++ (codes "," ++ (
    member_name (codes "cpus") ++ (decimal script.cpus ++ (codes ",\n" ++ (
    member_name (codes "tokens") ++ (listed line_at token_text script.tokens ++ (codes ",\n" ++ (
    member_name (codes "messages") ++ (listed line_at message_text script.messages ++ (codes ",\n" ++ (
    member_name (codes "events") ++ (listed line_at event_text events ++ (codes ",\n" ++ (
    member_name (codes "last") ++ (last ++ codes "}"))))))))))))))))

trace_spells : (script : Script) (events : List Event) (text : List ℕ) (last : Data) → Spells text last 4 → HasWords (data_with script events last) → Spells (codes "{" ++ trace_members script events text) (data_with script events last) 5
trace_spells script events text last spells words =
    let four : 3 ≤ 4 = omega arith in
    let one : 1 < 2 ^ 64 = omega arith in
    let event_list = deeper 4 four (array_spells 2 (parts_spell line_at line_breaks event_text event_data 2 event_spells events words.1.0)) in
    let message_list = deeper 4 four (array_spells 2 (parts_spell line_at line_breaks message_text message_data 2 message_spells script.messages words.1.1.1.0)) in
    let token_list = deeper 4 four (array_spells 2 (parts_spell line_at line_breaks token_text token_data 2 token_spells script.tokens words.1.1.1.1.0)) in
    let last_member = member_more (codes "last") (plain_from (codes "last") refl) spells (no_more_members true 4) (codes ",\n") line_is in
    let event_member = member_more (codes "events") (plain_from (codes "events") refl) event_list last_member (codes ",\n") line_is in
    let message_member = member_more (codes "messages") (plain_from (codes "messages") refl) message_list event_member (codes ",\n") line_is in
    let token_member = member_more (codes "tokens") (plain_from (codes "tokens") refl) token_list message_member (codes ",\n") line_is in
    let cpus = member_more (codes "cpus") (plain_from (codes "cpus") refl) (number_spells script.cpus 4 words.0) token_member (codes ",") comma_is in
    object_spells 4 (member_first (codes "version") (plain_from (codes "version") refl) (number_spells 1 4 one) cpus)

one_digit : decimal 1 ≡ codes "1"
one_digit = decimal_digit 1 (omega arith)

-- the text of a trace in three parts
abbrev pub framed : Script → List Event → Option report.Closing → List ℕ
framed script events last = front_text script.cpus script.tokens script.messages ++ (parted line_at event_text 0 events ++ back_text last)

-- as it is written: a line feed stands behind the object
framed_grouped : (script : Script) (events : List Event) (last : Option report.Closing) → framed script events last ≡ (codes "{" ++ trace_members script events (last_inside last)) ++ codes "\n"
unfolding front_text back_text cpus_text tokens_text messages_text closing_text
framed_grouped script events None = simp (one_digit, append_assoc)
framed_grouped script events (Some c) = simp (one_digit, append_assoc)

grouped : (a n b p e c z : List ℕ) → ((a ++ (((n ++ b) ++ p) ++ e)) ++ c) ++ z ≡ ((a ++ n) ++ b) ++ (p ++ ((e ++ c) ++ z))
grouped a n b p e c z = simp append_assoc

whole_text : (script : Script) (events : List Event) (c : report.Closing) → trace_text script events c ≡ framed script events (Some c)
unfolding trace_text front_text back_text events_text
whole_text script events c =
    grouped (codes "{" ++ cpus_text script.cpus ++ tokens_text script.tokens ++ messages_text script.messages) (member_name (codes "events")) (codes "[") (parted line_at event_text 0 events) (codes "],\n") (closing_text c) (codes "}\n")

text_ends : (text : List ℕ) (d : Data) → Spells text d 5 → read (text ++ codes "\n") ≡ Some d
unfolding lex
text_ends text d is =
    let shallow = is.shallow in text_is (text ++ codes "\n") is.value d (is.reads (codes "\n") refl) (omega (arith, shallow)) is.is

pub text_is_of_value : TextIsOfValue
text_is_of_value script events c words =
    ap read (whole_text script events c ∙ framed_grouped script events (Some c))
    ∙ text_ends (codes "{" ++ trace_members script events (last_inside (Some c))) (trace_data script events c) (trace_spells script events (last_inside (Some c)) (closing_data c) (last_spells (Some c) words.1.1.0) words)

-- at most 268435456 bytes that a trace is written as are read as their value is
pub framed_read : (script : Script) (events : List Event) (last : Option report.Closing) → HasWords (data_with script events (last_data last)) → length (framed script events last) ≤ 268435456
    → trace_of (framed script events last) ≡ trace (data_with script events (last_data last))
framed_read script events last words short =
    let inside = trace_spells script events (last_inside last) (last_data last) (last_spells last words.1.1.0) words in
    let text : List ℕ = codes "{" ++ trace_members script events (last_inside last) in
    let same = framed_grouped script events last in
    let ascii : IsAscii (text ++ codes "\n") = IsAscii-append text (codes "\n") inside.ascii (ascii_from (codes "\n") refl) in
    ap trace_of same ∙ text_read (text ++ codes "\n") (data_with script events (last_data last)) (subst (λ (l : List ℕ). length l ≤ 268435456) same short) (IsUtf8-from_ascii (text ++ codes "\n") ascii) (text_ends text (data_with script events (last_data last)) inside)

pub written_read_back : WrittenIsReadBack
written_read_back script events c is words short =
    let same = whole_text script events c in
    ap trace_of same ∙ framed_read script events (Some c) words (subst (λ (l : List ℕ). length l ≤ 268435456) same short) ∙ trace_read_back script events c is
