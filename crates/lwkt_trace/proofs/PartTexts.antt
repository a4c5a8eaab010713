-- The texts of the parts of a trace are texts of their values.
use Rattle.std.proofs.Common.{◌≡◌, ℕ, ◌+◌, ◌/◌, ◌%◌, ◌<◌, ◌^◌, List, [], ◌∷◌, ◌++◌, Bool, true, false, ◌==◌, nat_lt, length, take, Option, Some, None, decimal, refl, sym, subst, append_assoc}
use Rattle.std.specs.Prelude.{codes, if◌then◌else◌}
use Rattle.serde_json.specs.Data.{Data, string, array, object, Items, item, Members, no_members, member, put}
use Rattle.lwkt_base.specs.Hex.{digit_text, byte_text, hex_text}
use Rattle.lwkt_base.specs.declared.laws.Law.{Law}
use Rattle.lwkt_base.specs.declared.laws.Law.TheVariants.{Any, Sum, Order, Cap, Tally, Len}
use Rattle.lwkt_base.specs.declared.opening_specs.MsgSpec.{MsgSpec}
use Rattle.lwkt_base.specs.declared.opening_specs.TokSpec.{TokSpec}
use Rattle.lwkt_base.specs.declared.owners.Owner.{Owner}
use Rattle.lwkt_base.specs.declared.owners.Owner.TheVariants.{Rest, Out, With, Back}
use Rattle.lwkt_base.specs.declared.owners.MsgEnd.{MsgEnd}
use Rattle.lwkt_core.specs.Events.{cpu_of}
use Rattle.lwkt_core.specs.declared.events.Event.{Event}
use Rattle.lwkt_core.specs.declared.events.Event.TheVariants.{Load, Take, Share, Again, Mark, GiveOne, GiveClean, GiveWritten, Read, Write, ReadBlob, WriteBlob, Send, TakeMsg, DropMsg, Reply, Reap, Abort}
use Rattle.lwkt_trace.specs.Written.{member_name, comma, comma_at, list_text, past_text, blob_text, law_text, guard_text, cells_text, law_member_text, param_text, gen_text, token_text, message_text, word_of_event, rest_text, event_text, owner_json, end_text, tallies_text, last_blob_text}
use Rattle.lwkt_trace.specs.Readback.{number_data, blob_data, one_item, two_items, three_items, rest_data, event_data, end_data, message_data}
use Rattle.lwkt_trace.specs.Values.{numbers_data, guard_data, token_data, tallies_data, last_blob_data}
use Rattle.lwkt_trace.specs.Printed.{HasWords, ItemsHaveWords}
use Rattle.lwkt_trace.proofs.JsonTexts.{IsPlain, plain_from, plain_both, in_quotes, Spells, number_spells, null_spells, string_spells, comma_is, nothing_is, ItemsSpell, no_more_items, item_first, item_more, array_spells, MembersSpell, no_more_members, member_first, member_more, object_spells, comma_breaks, parts_spell, left_parts}

-- ---- words and digits

law_plain : (law : Law) → IsPlain (law_text law)
law_plain Any = plain_from (codes "any") refl
law_plain Sum = plain_from (codes "sum") refl
law_plain Order = plain_from (codes "order") refl
law_plain Cap = plain_from (codes "cap") refl
law_plain Tally = plain_from (codes "tally") refl
law_plain Len = plain_from (codes "len") refl

word_plain : (e : Event) → IsPlain (word_of_event e)
word_plain (Load cpu tok) = plain_from (codes "load") refl
word_plain (Take cpu tok) = plain_from (codes "take") refl
word_plain (Share cpu tok) = plain_from (codes "share") refl
word_plain (Again cpu tok) = plain_from (codes "again") refl
word_plain (Mark cpu tok) = plain_from (codes "mark") refl
word_plain (GiveOne cpu tok) = plain_from (codes "give_one") refl
word_plain (GiveClean cpu tok) = plain_from (codes "give_clean") refl
word_plain (GiveWritten cpu tok section) = plain_from (codes "give_written") refl
word_plain (Read cpu tok cell value) = plain_from (codes "read") refl
word_plain (Write cpu tok cell value) = plain_from (codes "write") refl
word_plain (ReadBlob cpu tok blob) = plain_from (codes "read_record") refl
word_plain (WriteBlob cpu tok blob) = plain_from (codes "write_record") refl
word_plain (Send cpu msg to round) = plain_from (codes "send") refl
word_plain (TakeMsg cpu msg round) = plain_from (codes "take_msg") refl
word_plain (DropMsg cpu msg) = plain_from (codes "drop") refl
word_plain (Reply cpu msg) = plain_from (codes "reply") refl
word_plain (Reap cpu msg) = plain_from (codes "reap") refl
word_plain (Abort cpu msg) = plain_from (codes "abort") refl

either_plain : (b : Bool) (x y : List ℕ) → IsPlain x → IsPlain y → IsPlain (if b then x else y)
either_plain true x y p q = p
either_plain false x y p q = q

digit_plain : (n : ℕ) → IsPlain (digit_text n)
digit_plain n =
    either_plain (n == 0) (codes "0") _ (plain_from (codes "0") refl) (either_plain (n == 1) (codes "1") _ (plain_from (codes "1") refl)
    (either_plain (n == 2) (codes "2") _ (plain_from (codes "2") refl) (either_plain (n == 3) (codes "3") _ (plain_from (codes "3") refl)
    (either_plain (n == 4) (codes "4") _ (plain_from (codes "4") refl) (either_plain (n == 5) (codes "5") _ (plain_from (codes "5") refl)
    (either_plain (n == 6) (codes "6") _ (plain_from (codes "6") refl) (either_plain (n == 7) (codes "7") _ (plain_from (codes "7") refl)
    (either_plain (n == 8) (codes "8") _ (plain_from (codes "8") refl) (either_plain (n == 9) (codes "9") _ (plain_from (codes "9") refl)
    (either_plain (n == 10) (codes "a") _ (plain_from (codes "a") refl) (either_plain (n == 11) (codes "b") _ (plain_from (codes "b") refl)
    (either_plain (n == 12) (codes "c") _ (plain_from (codes "c") refl) (either_plain (n == 13) (codes "d") _ (plain_from (codes "d") refl)
    (either_plain (n == 14) (codes "e") (codes "f") (plain_from (codes "e") refl) (plain_from (codes "f") refl)))))))))))))))

hex_plain : (bytes : List ℕ) → IsPlain (hex_text bytes)
hex_plain [] = plain_from [] refl
hex_plain (b ∷ bytes) = plain_both (byte_text b) (hex_text bytes) (plain_both (digit_text (b / 16)) (digit_text (b % 16)) (digit_plain (b / 16)) (digit_plain (b % 16))) (hex_plain bytes)

past_plain : (blob : List ℕ) → IsPlain (past_text blob)
past_plain blob = either_plain (nat_lt 64 (length blob)) (codes "00") [] (plain_from (codes "00") refl) (plain_from [] refl)

-- ---- records and lists of numbers

pub blob_spells : (blob : List ℕ) (deep : ℕ) → Spells (blob_text blob) (blob_data blob) deep
unfolding blob_text
blob_spells blob deep =
    let digits : List ℕ = hex_text (take 64 blob) in
    string_spells (digits ++ past_text blob) deep (plain_both digits (past_text blob) (hex_plain (take 64 blob)) (past_plain blob))

pub numbers_spell : (numbers : List ℕ) (deep : ℕ) → HasWords (numbers_data numbers) → Spells (list_text numbers) (numbers_data numbers) (deep + 1)
unfolding list_text
numbers_spell numbers deep words = array_spells deep (parts_spell comma_at comma_breaks decimal number_data deep (λ n h. number_spells n deep h) numbers words)

-- ---- tokens

abbrev guard_puts : Option (List ℕ) → Members → Members
guard_puts None found = found
guard_puts (Some blob) found = put (codes "record") (blob_data blob) found

guard_spells : (blob : Option (List ℕ)) → MembersSpell true (guard_text blob ++ codes "}") (λ found. guard_puts blob found) 1
guard_spells None = no_more_members true 1
guard_spells (Some blob) =
    subst (λ (t : List ℕ). MembersSpell true t (λ found. put (codes "record") (blob_data blob) found) 1) (sym (left_parts (codes ",") (member_name (codes "record")) (blob_text blob) (codes "}")))
    (member_more (codes "record") (plain_from (codes "record") refl) (blob_spells blob 1) (no_more_members true 1) (codes ",") comma_is)

-- the members of a token by name
token_put : (blob : Option (List ℕ)) (cells law param generation : Data)
    → guard_puts blob (put (codes "gen") generation (put (codes "param") param (put (codes "law") law (put (codes "cells") cells no_members))))
    ≡ member (codes "cells") cells (member (codes "gen") generation (member (codes "law") law (member (codes "param") param (guard_data blob))))
token_put None cells law param generation = refl
token_put (Some blob) cells law param generation = refl

abbrev token_members : TokSpec → List ℕ
token_members t =
    member_name (codes "cells") ++ (list_text t.cells ++ (codes "," ++ (
    member_name (codes "law") ++ (in_quotes (law_text t.law) ++ (codes "," ++ (
    member_name (codes "param") ++ (decimal t.param ++ (codes "," ++ (
    member_name (codes "gen") ++ (decimal t.generation ++ (guard_text t.blob ++ codes "}")))))))))))

token_grouped : (t : TokSpec) → token_text t ≡ codes "{" ++ token_members t
unfolding cells_text law_member_text param_text gen_text
token_grouped t = simp append_assoc

pub token_spells : (t : TokSpec) → HasWords (token_data t) → Spells (token_text t) (token_data t) 2
token_spells t words =
    let generation = member_more (codes "gen") (plain_from (codes "gen") refl) (number_spells t.generation 1 words.1.0) (guard_spells t.blob) (codes ",") comma_is in
    let param = member_more (codes "param") (plain_from (codes "param") refl) (number_spells t.param 1 words.1.1.1.0) generation (codes ",") comma_is in
    let law = member_more (codes "law") (plain_from (codes "law") refl) (string_spells (law_text t.law) 1 (law_plain t.law)) param (codes ",") comma_is in
    let cells = member_first (codes "cells") (plain_from (codes "cells") refl) (numbers_spell t.cells 0 words.0) law in
    let whole = object_spells 1 cells in
    subst (λ (x : List ℕ). Spells x (token_data t) 2) (sym (token_grouped t))
    (subst (λ (ms : Members). Spells (codes "{" ++ token_members t) (object ms) 2) (token_put t.blob (numbers_data t.cells) (string (law_text t.law)) (number_data t.param) (number_data t.generation)) whole)

-- ---- messages and their ends

abbrev message_members : MsgSpec → List ℕ
message_members m =
    member_name (codes "of") ++ ((codes "[" ++ (decimal m.origin.cpu.0 ++ (codes "," ++ (decimal m.origin.thread ++ codes "]")))) ++ (codes "," ++ (member_name (codes "round") ++ (decimal m.round ++ codes "}"))))

message_grouped : (m : MsgSpec) → message_text m ≡ codes "{" ++ message_members m
unfolding member_name
message_grouped m = simp append_assoc

pub message_spells : (m : MsgSpec) → HasWords (message_data m) → Spells (message_text m) (message_data m) 2
message_spells m words =
    let thread = item_more (number_spells m.origin.thread 0 words.0.1.0) (no_more_items true 0) (codes ",") comma_is in
    let origin = array_spells 0 (item_first (number_spells m.origin.cpu.0 0 words.0.0) thread [] nothing_is) in
    let round = member_more (codes "round") (plain_from (codes "round") refl) (number_spells m.round 1 words.1.0) (no_more_members true 1) (codes ",") comma_is in
    subst (λ (x : List ℕ). Spells x (message_data m) 2) (sym (message_grouped m)) (object_spells 1 (member_first (codes "of") (plain_from (codes "of") refl) origin round))

-- numbers behind others, up to the closing bracket
one_spells : (a : ℕ) → a < 2 ^ 64 → ItemsSpell true (comma a ++ codes "]") (one_item (number_data a)) 1
one_spells a h = item_more (number_spells a 1 h) (no_more_items true 1) (codes ",") comma_is

two_spell : (a b : ℕ) → a < 2 ^ 64 → b < 2 ^ 64 → ItemsSpell true (comma a ++ comma b ++ codes "]") (two_items (number_data a) (number_data b)) 1
two_spell a b h i =
    subst (λ (t : List ℕ). ItemsSpell true t (two_items (number_data a) (number_data b)) 1) (sym (append_assoc (comma a) (comma b) (codes "]")))
    (item_more (number_spells a 1 h) (one_spells b i) (codes ",") comma_is)

three_spell : (a b c : ℕ) → a < 2 ^ 64 → b < 2 ^ 64 → c < 2 ^ 64 → ItemsSpell true (comma a ++ comma b ++ comma c ++ codes "]") (three_items (number_data a) (number_data b) (number_data c)) 1
three_spell a b c h i j =
    subst (λ (t : List ℕ). ItemsSpell true t (three_items (number_data a) (number_data b) (number_data c)) 1) (sym (left_parts (comma a) (comma b) (comma c) (codes "]")))
    (item_more (number_spells a 1 h) (item_more (number_spells b 1 i) (one_spells c j) (codes ",") comma_is) (codes ",") comma_is)

record_spells : (tok : ℕ) (blob : List ℕ) → tok < 2 ^ 64 → ItemsSpell true (comma tok ++ codes "," ++ blob_text blob ++ codes "]") (two_items (number_data tok) (blob_data blob)) 1
record_spells tok blob h =
    subst (λ (t : List ℕ). ItemsSpell true t (two_items (number_data tok) (blob_data blob)) 1) (sym (left_parts (comma tok) (codes ",") (blob_text blob) (codes "]")))
    (item_more (number_spells tok 1 h) (item_more (blob_spells blob 1) (no_more_items true 1) (codes ",") comma_is) (codes ",") comma_is)

abbrev end_items : List ℕ → List ℕ → List ℕ
end_items word numbers = codes "[" ++ (in_quotes word ++ (numbers ++ codes "]"))

worded : {ds : Items} (numbers word : List ℕ) → IsPlain word → ItemsSpell true (numbers ++ codes "]") ds 1 → Spells (end_items word numbers) (array (item (string word) ds)) 2
worded numbers word plain rest = array_spells 1 (item_first (string_spells word 1 plain) rest [] nothing_is)

pub end_spells : (e : MsgEnd) → HasWords (end_data e.state e.round) → Spells (end_text e) (end_data e.state e.round) 2
end_spells e words = place_spells e.state e.round words
  where
    place_spells : (o : Owner) (round : ℕ) → HasWords (end_data o round) → Spells (owner_json o ++ comma round ++ codes "]") (end_data o round) 2
    place_spells (Rest origin) round w = worded (comma origin.0 ++ comma round) (codes "rest") (plain_from (codes "rest") refl) (two_spell origin.0 round w.1.0 w.1.1.0)
    place_spells (Out origin target) round w = worded (comma origin.0 ++ comma target.0 ++ comma round) (codes "out") (plain_from (codes "out") refl) (three_spell origin.0 target.0 round w.1.0 w.1.1.0 w.1.1.1.0)
    place_spells (With origin target) round w = worded (comma origin.0 ++ comma target.0 ++ comma round) (codes "with") (plain_from (codes "with") refl) (three_spell origin.0 target.0 round w.1.0 w.1.1.0 w.1.1.1.0)
    place_spells (Back origin target) round w = worded (comma origin.0 ++ comma target.0 ++ comma round) (codes "back") (plain_from (codes "back") refl) (three_spell origin.0 target.0 round w.1.0 w.1.1.0 w.1.1.1.0)

-- ---- events

rest_spells : (e : Event) → ItemsHaveWords (rest_data e) → ItemsSpell true (rest_text e ++ codes "]") (rest_data e) 1
rest_spells (Load cpu tok) w = one_spells tok.0 w.0
rest_spells (Take cpu tok) w = one_spells tok.0 w.0
rest_spells (Share cpu tok) w = one_spells tok.0 w.0
rest_spells (Again cpu tok) w = one_spells tok.0 w.0
rest_spells (Mark cpu tok) w = one_spells tok.0 w.0
rest_spells (GiveOne cpu tok) w = one_spells tok.0 w.0
rest_spells (GiveClean cpu tok) w = one_spells tok.0 w.0
rest_spells (GiveWritten cpu tok section) w = one_spells tok.0 w.0
rest_spells (Read cpu tok cell value) w = three_spell tok.0 cell value w.0 w.1.0 w.1.1.0
rest_spells (Write cpu tok cell value) w = three_spell tok.0 cell value w.0 w.1.0 w.1.1.0
rest_spells (ReadBlob cpu tok blob) w = record_spells tok.0 blob w.0
rest_spells (WriteBlob cpu tok blob) w = record_spells tok.0 blob w.0
rest_spells (Send cpu msg to round) w = three_spell msg.0 to.0 round w.0 w.1.0 w.1.1.0
rest_spells (TakeMsg cpu msg round) w = two_spell msg.0 round w.0 w.1.0
rest_spells (DropMsg cpu msg) w = one_spells msg.0 w.0
rest_spells (Reply cpu msg) w = one_spells msg.0 w.0
rest_spells (Reap cpu msg) w = one_spells msg.0 w.0
rest_spells (Abort cpu msg) w = one_spells msg.0 w.0

event_grouped : (word cpu rest : List ℕ) → codes "[" ++ (in_quotes word ++ (codes "," ++ (cpu ++ (rest ++ codes "]")))) ≡ codes "[\"" ++ word ++ codes "\"," ++ cpu ++ rest ++ codes "]"
event_grouped word cpu rest = simp append_assoc

pub event_spells : (e : Event) → HasWords (event_data e) → Spells (event_text e) (event_data e) 2
event_spells e words =
    subst (λ (t : List ℕ). Spells t (event_data e) 2) (event_grouped (word_of_event e) (decimal (cpu_of e)) (rest_text e))
    (array_spells 1 (item_first (string_spells (word_of_event e) 1 (word_plain e)) (item_more (number_spells (cpu_of e) 1 words.1.0) (rest_spells e words.1.1) (codes ",") comma_is) [] nothing_is))

-- ---- closing values of a token

pub tallies_spell : (tallies : Option (List ℕ)) → HasWords (tallies_data tallies) → Spells (tallies_text tallies) (tallies_data tallies) 2
tallies_spell None words = array_spells 1 (no_more_items false 1)
tallies_spell (Some tallies) words = numbers_spell tallies 1 words

pub last_blob_spells : (blob : Option (List ℕ)) → Spells (last_blob_text blob) (last_blob_data blob) 2
last_blob_spells None = null_spells 2
last_blob_spells (Some blob) = blob_spells blob 2
