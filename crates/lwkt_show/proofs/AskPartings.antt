-- Asks that have the same text.
use Rattle.std.proofs.Common.{◌≡◌, ◌<◌, ◌/◌, ◌%◌, ◌==◌, ℕ, Bool, true, false, List, [], ◌∷◌, ◌++◌, Option, Some, refl, sym, ap, ap₂, ◌∙◌, arith, codes, append_assoc, append-nil, if◌then◌else◌, bytes_eq, get_or, drop, flat_map, ◌||◌, rules}
use Rattle.std.specs.Fmt.{decimal}
use Rattle.std.specs.List.{list_any}
use Rattle.std.proofs.lemmas.Grind.{flat_map-append}
use Rattle.std.proofs.lemmas.Bool.{false≢true}
use Rattle.std.proofs.lemmas.List.{append_cancel_left}
use Rattle.lwkt_base.specs.declared.asks.Ask.{Ask}
use Rattle.lwkt_base.specs.declared.asks.Ask.TheVariants.{Get, WriteBlob, Send}
use Rattle.lwkt_base.specs.declared.records.Flags.{Flags}
use Rattle.lwkt_base.specs.declared.steps.Part.{Part}
use Rattle.lwkt_base.specs.declared.steps.Part.TheVariants as parts
use Rattle.lwkt_base.specs.declared.steps.PartKind.{PartKind}
use Rattle.lwkt_base.specs.declared.steps.PartKind.TheVariants as kinds
use Rattle.lwkt_base.specs.declared.steps.Verb.{Verb}
use Rattle.lwkt_base.specs.declared.steps.Verb.TheVariants as verbs
use Rattle.lwkt_base.specs.Step.{step_of, part_kinds, verb_named, ask_of, is_of_kind, WordsNameVerbs}
use Rattle.lwkt_script.specs.Step.{width_of}
use Rattle.lwkt_trace.specs.Written.{comma}
use Rattle.lwkt_show.specs.Apart.{part_numbers, numbers_of, AreAllWords, ask_writes_record, TextsDecideAsks}
use Rattle.lwkt_show.specs.Words.{ask_text, ask_word, ask_parts, flags_number, part_text, parts_text}
use Rattle.lwkt_show.proofs.AskTexts.{Unquoted, word_unquoted}
use Rattle.lwkt_show.proofs.Splits.{IsDigit, same_split, same_number}

-- an ask's text, from its front on
text_is : (ask : Ask) → ask_text ask ≡ codes "[\"" ++ (ask_word ask ++ (codes "\"" ++ (ask_parts ask ++ codes "]")))
text_is ask = simp append_assoc

-- two texts in a row, from the front on
row_of_two : (a b : List ℕ) → a ++ b ≡ a ++ (b ++ [])
row_of_two a b = simp append-nil

-- neither of two
or_false : (a b : Bool) → (a || b) ≡ false → (a ≡ false) × (b ≡ false)
or_false a b is = search rules

-- whether a step writes a record
abbrev writes_record : Verb → Bool
writes_record verbs.WriteBlob = true
writes_record _ = false

record_is : (ask : Ask) → ask_writes_record ask ≡ writes_record (step_of ask).0
record_is (Get tok) = refl
record_is _ = refl

-- whether a part is a record
abbrev is_record : Part → Bool
is_record part = is_of_kind kinds.Record part

-- a part that is no record is its numbers
numbered : (part : Part) → is_record part ≡ false → part_text part ≡ flat_map comma (part_numbers part)
numbered (parts.Token tok) never = sym (append-nil (comma tok.0))
numbered (parts.Cell tok cell) never = row_of_two (comma tok.0) (comma cell)
numbered (parts.Value value) never = sym (append-nil (comma value))
numbered (parts.Record blob) never = absurd (false≢true (sym never))
numbered (parts.Message message) never = sym (append-nil (comma message.0))
numbered (parts.Target to) never = row_of_two (comma to.cpu.0) (comma to.thread)
numbered (parts.Call call) never = row_of_two (comma call.op) (comma call.arg)
numbered (parts.Flags flags) never = sym (append-nil (comma (flags_number flags)))
numbered (parts.Code error) never = sym (append-nil (comma error))
numbered (parts.Outcome outcome) never = sym (append-nil (comma outcome))

-- and so are parts of which none is one
all_numbered : (found : List Part) → list_any is_record found ≡ false → parts_text found ≡ flat_map comma (flat_map part_numbers found)
all_numbered [] never = refl
all_numbered (part ∷ more) never =
    let first = or_false (is_record part) (list_any is_record more) never in
    ap₂ (λ (text : List ℕ) (behind : List ℕ). text ++ behind) (numbered part first.0) (all_numbered more first.1) ∙ sym (flat_map-append comma (part_numbers part) (flat_map part_numbers more))

-- an ask that writes no record has none among its parts
no_record_part : (ask : Ask) → ask_writes_record ask ≡ false → list_any is_record (step_of ask).1 ≡ false
no_record_part (WriteBlob tok blob) never = absurd (false≢true (sym never))
no_record_part _ never = refl

parts_are : (ask : Ask) → ask_writes_record ask ≡ false → ask_parts ask ≡ flat_map comma (numbers_of ask)
parts_are ask never = all_numbered (step_of ask).1 (no_record_part ask never)

-- flags by their number
abbrev flags_of : ℕ → Flags
flags_of n = record { dropable = n % 2 == 1; abortable = n / 2 % 2 == 1; priority = n / 4 == 1 }

flags_kept : (d a p : Bool) → flags_of (flags_number (record { dropable = d; abortable = a; priority = p })) ≡ record { dropable = d; abortable = a; priority = p }
flags_kept true true true = refl
flags_kept true true false = refl
flags_kept true false true = refl
flags_kept true false false = refl
flags_kept false true true = refl
flags_kept false true false = refl
flags_kept false false true = refl
flags_kept false false false = refl

-- numbers of a list by their place
abbrev at : ℕ → List ℕ → ℕ
at place numbers = get_or numbers place 0

-- a part of a kind by its numbers, the first of these
abbrev part_by : PartKind → List ℕ → Part
part_by kinds.Token ns = parts.Token (record { 0 = at 0 ns })
part_by kinds.Cell ns = parts.Cell (record { 0 = at 0 ns }) (at 1 ns)
part_by kinds.Value ns = parts.Value (at 0 ns)
part_by kinds.Record ns = parts.Record []
part_by kinds.Message ns = parts.Message (record { 0 = at 0 ns })
part_by kinds.Target ns = parts.Target (record { cpu = record { 0 = at 0 ns }; thread = at 1 ns })
part_by kinds.Call ns = parts.Call (record { op = at 0 ns; arg = at 1 ns })
part_by kinds.Flags ns = parts.Flags (flags_of (at 0 ns))
part_by kinds.Code ns = parts.Code (at 0 ns)
part_by kinds.Outcome ns = parts.Outcome (at 0 ns)

-- parts of kinds by their numbers
abbrev parts_by : List PartKind → List ℕ → List Part
parts_by [] ns = []
parts_by (kind ∷ more) ns = part_by kind ns ∷ parts_by more (drop (width_of kind) ns)

-- an ask by its kind and its numbers
abbrev ask_by : Verb → List ℕ → Option Ask
ask_by verb ns = ask_of verb (parts_by (part_kinds verb) ns)

ask_kept : (ask : Ask) → ask_writes_record ask ≡ false → ask_by (step_of ask).0 (numbers_of ask) ≡ Some ask
ask_kept (WriteBlob tok blob) never = absurd (false≢true (sym never))
ask_kept (Send message to call flags) never = ap (λ (fs : Flags). Some (Send message to call fs)) (flags_kept flags.dropable flags.abortable flags.priority)
ask_kept _ never = refl

-- what is there once
same_some : {A : Type 0} (a b : A) → Some a ≡ Some b → a ≡ b
same_some a b e = cc

-- each kind of step has a word of its own
words_name : WordsNameVerbs
words_name verbs.Get = refl
words_name _ = refl

-- asks of one word are of one kind
same_verb : (one other : Ask) → ask_word one ≡ ask_word other → (step_of one).0 ≡ (step_of other).0
same_verb one other same =
    same_some (step_of one).0 (step_of other).0 (sym (words_name (step_of one).0) ∙ ap verb_named same ∙ words_name (step_of other).0)

-- an ask whose word is that of one that writes no record writes none
no_record : (one other : Ask) → ask_writes_record one ≡ false → (step_of one).0 ≡ (step_of other).0 → ask_writes_record other ≡ false
no_record one other never same = record_is other ∙ ap writes_record (sym same) ∙ sym (record_is one) ∙ never

-- what stands behind a number: a comma or the end of the ask
record Ends (numbers : List ℕ) : Type 0 where
  first : ℕ
  behind : List ℕ
  never : IsDigit first → ⊥
  is : flat_map comma numbers ++ codes "]" ≡ first ∷ behind

ends : (numbers : List ℕ) → Ends numbers
ends [] = record { first = 93; behind = []; never = λ digit. omega (arith, digit.1); is = refl }
ends (n ∷ ns) = record { first = 44; behind = decimal n ++ flat_map comma ns ++ codes "]"; never = λ digit. omega (arith, digit.0); is = refl }

numbers_are : (n : ℕ) (ns : List ℕ) → flat_map comma (n ∷ ns) ++ codes "]" ≡ codes "," ++ (decimal n ++ (flat_map comma ns ++ codes "]"))
numbers_are n ns = simp append_assoc

first_same : (xs ys : List ℕ) → xs ≡ ys → get_or xs 0 0 ≡ get_or ys 0 0
first_same xs ys e = ap (λ (l : List ℕ). get_or l 0 0) e

apart : (a b : ℕ) → a < b → a ≡ b → ⊥
apart a b less same = omega arith

-- lists of numbers that have the same text are the same
same_numbers : (ms ns : List ℕ) → AreAllWords ms → AreAllWords ns → flat_map comma ms ++ codes "]" ≡ flat_map comma ns ++ codes "]" → ms ≡ ns
same_numbers [] [] a b e = refl
same_numbers [] (n ∷ ns) a b e =
    absurd (apart 44 93 (omega arith) (sym (first_same (codes "]") (flat_map comma (n ∷ ns) ++ codes "]") e)))
same_numbers (m ∷ ms) [] a b e =
    absurd (apart 44 93 (omega arith) (first_same (flat_map comma (m ∷ ms) ++ codes "]") (codes "]") e))
same_numbers (m ∷ ms) (n ∷ ns) a b e =
    let here = ends ms in
    let there = ends ns in
    let whole = append_cancel_left (codes ",") _ _ (sym (numbers_are m ms) ∙ e ∙ numbers_are n ns) in
    let cut = same_number m n here.first there.first here.behind there.behind a.0 b.0 here.never there.never
    (ap (λ (more : List ℕ). decimal m ++ more) (sym here.is) ∙ whole ∙ ap (λ (more : List ℕ). decimal n ++ more) there.is) in
    ap₂ (λ (x : ℕ) (xs : List ℕ). x ∷ xs) cut.0 (same_numbers ms ns a.1 b.1 (here.is ∙ cut.1 ∙ sym there.is))

pub texts_apart : TextsDecideAsks
texts_apart one other never small small' e =
    let whole = append_cancel_left (codes "[\"") _ _ (sym (text_is one) ∙ e ∙ text_is other) in
    let stop : Unquoted 34 → ⊥ = λ unquoted. unquoted refl in
    let cut = same_split Unquoted (ask_word one) (ask_word other) 34 34 (ask_parts one ++ codes "]") (ask_parts other ++ codes "]") (word_unquoted one) (word_unquoted other) stop stop whole in
    let kinds = same_verb one other cut.0 in
    let never' = no_record one other never kinds in
    let behind = append_cancel_left (codes "\"") _ _ cut.1 in
    let numbers = same_numbers (numbers_of one) (numbers_of other) small small'
    (ap (λ (more : List ℕ). more ++ codes "]") (sym (parts_are one never)) ∙ behind ∙ ap (λ (more : List ℕ). more ++ codes "]") (parts_are other never')) in
    same_some one other (sym (ask_kept one never) ∙ ap₂ ask_by kinds numbers ∙ ask_kept other never')
