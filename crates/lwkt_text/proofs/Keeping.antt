-- What is said keeps the limits of the format.
use Rattle.std.proofs.Common.{◌≡◌, ℕ, suc, ◌+◌, ◌<◌, ◌≤◌, List, [], ◌∷◌, ◌++◌, length, nat_lt, ◌==◌, ◌&&◌, ◌||◌, cond, Bool, true, false, not, refl, sym, ap, subst, arith, Option, Some, None, is_some, is_none, Result, Ok, Err, OnOk}
use Rattle.std.specs.Prelude.{All, ⊤, codes, slice_set}
use Rattle.std.proofs.lemmas.List.{length-append}
use Rattle.std.proofs.lemmas.List.Elements.{All-push}
use Rattle.std.proofs.lemmas.List.Sums.{sum_by_push}
use Rattle.std.proofs.lemmas.Bool.Decides.{nat_tests}
use Rattle.lwkt_base.specs.declared.opening_specs.MsgSpec.{MsgSpec}
use Rattle.lwkt_base.specs.declared.opening_specs.TokSpec.{TokSpec}
use Rattle.lwkt_code.specs.Programs.{Program, listed_program}
use Rattle.lwkt_code.specs.Firsts.{first_flaw, first_circle}
use Rattle.lwkt_code.specs.declared.steps.Jump.TheVariants.{Else}
use Rattle.lwkt_code.specs.declared.steps.Step.{Step}
use Rattle.lwkt_code.specs.declared.steps.Step.TheVariants.{Goto}
use Rattle.lwkt_script.specs.declared.scripts.ThreadSpec.{ThreadSpec}
use Rattle.lwkt_script.specs.Format.{threads_on}
use Rattle.lwkt_script.specs.Limits.{IsToken, IsMessage, IsThread, is_sentence, sentences_in, AreCounted}
use Rattle.lwkt_script.proofs.Sayings.{said_one, said_none}
use Rattle.lwkt_text.specs.declared.blocks.Block.{Block}
use Rattle.lwkt_text.specs.declared.blocks.Line.{Line}
use Rattle.lwkt_text.specs.declared.blocks.Opened.{Opened}
use Rattle.lwkt_text.specs.declared.blocks.Opened.TheVariants as kinds
use Rattle.lwkt_text.specs.declared.drafts.Draft.{Draft}
use Rattle.lwkt_text.specs.declared.declarations.Head.{Head}
use Rattle.lwkt_text.specs.declared.sayings.Act.{Act}
use Rattle.lwkt_text.specs.declared.sayings.Act.TheVariants as acts
use Rattle.lwkt_text.specs.declared.sayings.Said.{Said}
use Rattle.lwkt_text.specs.declared.sayings.Said.TheVariants as saids
use Rattle.lwkt_text.specs.declared.words.Word.{Word}
use Rattle.lwkt_text.specs.declared.wrongs.Wrong.{Wrong}
use Rattle.lwkt_text.specs.declared.wrongs.What.{What}
use Rattle.lwkt_text.specs.declared.wrongs.What.TheVariants as whats
use Rattle.lwkt_text.specs.Blocks.{is_if, round_in, numbered, block_of, ending, end_of, linked}
use Rattle.lwkt_text.specs.Drafting.{no_draft, blamed, crowded, line_at, none_wrong, checked_program, program_of, thread_read, thread_put, unended, cleared, closed_by, closed, thread_begun, blamed_first, var_put, with_step, leaves, misplaced, placed, begun, opened_by, innermost, left, turned_over, ended, acted, in_thread, put, begun_wrong, put_or_blamed}
use Rattle.lwkt_text.specs.Looking.{text_at, is_at, place_of_word, wrong_at}
use Rattle.lwkt_text.specs.Outcome.{◌>>◌}
use Rattle.lwkt_text.proofs.Linking.{linked_length, linked_sentences}
use Rattle.lwkt_text.specs.Within.{IsHead, MayBeSaid, HasRoomBehind, IsDraft}

-- nothing was said
pub none_within : (cpus : ℕ) (faults : List Wrong) → IsDraft cpus (no_draft faults)
none_within cpus faults = record {
  some_turns = omega arith;
  few_turns = omega arith;
  some_idle = omega arith;
  few_idle = omega arith;
  few_tokens = omega arith;
  tokens = λ k d h. absurd (omega arith);
  few_messages = omega arith;
  messages = λ k d h. absurd (omega arith);
  threads = λ k d h. absurd (omega arith);
  few_threads = λ cpu. omega arith;
  head = tt;
  said = (omega arith, omega arith);
}

-- a fault changes nothing else
pub blamed_within : (cpus : ℕ) (wrong : Wrong) (d : Draft) → IsDraft cpus d → IsDraft cpus (blamed wrong d)
blamed_within cpus wrong d i = record {
  some_turns = i.some_turns;
  few_turns = i.few_turns;
  some_idle = i.some_idle;
  few_idle = i.few_idle;
  few_tokens = i.few_tokens;
  tokens = i.tokens;
  few_messages = i.few_messages;
  messages = i.messages;
  threads = i.threads;
  few_threads = i.few_threads;
  head = i.head;
  said = i.said;
}

crowded_within : (cpus : ℕ) (ws : List Word) (d : Draft) → IsDraft cpus d → IsDraft cpus (crowded ws d)
crowded_within cpus ws d i = blamed_within cpus (wrong_at ws 0 whats.Crowd) d i

less : (n m : ℕ) → nat_lt n m ≡ true → n < m
less n m h = grind (arith, nat_tests)

longer : {A : Type 0} (xs : List A) (x : A) (n : ℕ) → nat_lt (length xs) n ≡ true → length (xs ++ x ∷ []) ≤ n
longer xs x n h = let few : length xs < n = less (length xs) n h in omega (arith, length-append xs (x ∷ []))

turned : (cpus n : ℕ) (d : Draft) → 1 ≤ n → n ≤ 1000000 → IsDraft cpus d → IsDraft cpus (record d { turns = n })
turned cpus n d some few i = record {
  some_turns = some;
  few_turns = few;
  some_idle = i.some_idle;
  few_idle = i.few_idle;
  few_tokens = i.few_tokens;
  tokens = i.tokens;
  few_messages = i.few_messages;
  messages = i.messages;
  threads = i.threads;
  few_threads = i.few_threads;
  head = i.head;
  said = i.said;
}

idled : (cpus n : ℕ) (d : Draft) → 1 ≤ n → n ≤ 100000000 → IsDraft cpus d → IsDraft cpus (record d { idle = n })
idled cpus n d some few i = record {
  some_turns = i.some_turns;
  few_turns = i.few_turns;
  some_idle = some;
  few_idle = few;
  few_tokens = i.few_tokens;
  tokens = i.tokens;
  few_messages = i.few_messages;
  messages = i.messages;
  threads = i.threads;
  few_threads = i.few_threads;
  head = i.head;
  said = i.said;
}

token_put : (cpus : ℕ) (ws : List Word) (t : TokSpec) (d : Draft) → IsToken t → IsDraft cpus d → (b : Bool) → nat_lt (length d.tokens) 64 ≡ b
    → IsDraft cpus (cond b (record d { tokens = d.tokens ++ t ∷ [] }) (crowded ws d))
token_put cpus ws t d is i true e = record {
  some_turns = i.some_turns;
  few_turns = i.few_turns;
  some_idle = i.some_idle;
  few_idle = i.few_idle;
  few_tokens = longer d.tokens t 64 e;
  tokens = All-push IsToken d.tokens t i.tokens is;
  few_messages = i.few_messages;
  messages = i.messages;
  threads = i.threads;
  few_threads = i.few_threads;
  head = i.head;
  said = i.said;
}
token_put cpus ws t d is i false e = crowded_within cpus ws d i

message_put : (cpus : ℕ) (ws : List Word) (m : MsgSpec) (d : Draft) → IsMessage cpus m → IsDraft cpus d → (b : Bool) → nat_lt (length d.messages) 64 ≡ b
    → IsDraft cpus (cond b (record d { messages = d.messages ++ m ∷ [] }) (crowded ws d))
message_put cpus ws m d is i true e = record {
  some_turns = i.some_turns;
  few_turns = i.few_turns;
  some_idle = i.some_idle;
  few_idle = i.few_idle;
  few_tokens = i.few_tokens;
  tokens = i.tokens;
  few_messages = longer d.messages m 64 e;
  messages = All-push (IsMessage cpus) d.messages m i.messages is;
  threads = i.threads;
  few_threads = i.few_threads;
  head = i.head;
  said = i.said;
}
message_put cpus ws m d is i false e = crowded_within cpus ws d i

-- 1 for what is counted
abbrev mark : ℕ → ThreadSpec → ℕ
mark cpu t = cond (t.cpu.0 == cpu) 1 0

mark_cases : (cpu other count count_other : ℕ) → (cpu ≡ other → count ≡ count_other) → count_other < 16 → count ≤ 16 → count + cond (other == cpu) 1 0 ≤ 16
mark_cases cpu other count count_other same free few = grind (arith, nat_tests)

one_more : (cpu : ℕ) (threads : List ThreadSpec) (t : ThreadSpec) → threads_on t.cpu.0 threads < 16 → threads_on cpu threads ≤ 16 → threads_on cpu (threads ++ t ∷ []) ≤ 16
one_more cpu threads t free few =
    let one : threads_on cpu threads + mark cpu t ≤ 16 = mark_cases cpu t.cpu.0 (threads_on cpu threads) (threads_on t.cpu.0 threads) (λ e. cc) free few in
    omega (arith, sum_by_push (mark cpu) threads t)

-- what is beside the thread that is being said
record IsLike (d e : Draft) : Type 0 where
  turns : e.turns ≡ d.turns
  idle : e.idle ≡ d.idle
  tokens : e.tokens ≡ d.tokens
  messages : e.messages ≡ d.messages
  threads : e.threads ≡ d.threads
  head : e.head ≡ d.head
  said : AreCounted d.steps d.said → AreCounted e.steps e.said

like_kept : (cpus : ℕ) (d e : Draft) → IsLike d e → IsDraft cpus d → IsDraft cpus e
like_kept cpus d e like i = record {
  some_turns = subst (λ n. 1 ≤ n) (sym like.turns) i.some_turns;
  few_turns = subst (λ n. n ≤ 1000000) (sym like.turns) i.few_turns;
  some_idle = subst (λ n. 1 ≤ n) (sym like.idle) i.some_idle;
  few_idle = subst (λ n. n ≤ 100000000) (sym like.idle) i.few_idle;
  few_tokens = subst (λ (ts : List TokSpec). length ts ≤ 64) (sym like.tokens) i.few_tokens;
  tokens = subst (λ (ts : List TokSpec). All IsToken ts) (sym like.tokens) i.tokens;
  few_messages = subst (λ (ms : List MsgSpec). length ms ≤ 64) (sym like.messages) i.few_messages;
  messages = subst (λ (ms : List MsgSpec). All (IsMessage cpus) ms) (sym like.messages) i.messages;
  threads = subst (λ (ts : List ThreadSpec). All (IsThread cpus) ts) (sym like.threads) i.threads;
  few_threads = λ cpu. subst (λ (ts : List ThreadSpec). threads_on cpu ts ≤ 16) (sym like.threads) (i.few_threads cpu);
  head = subst (λ (ts : List ThreadSpec). HasRoomBehind cpus ts e.head) (sym like.threads) (subst (λ (h : Option Head). HasRoomBehind cpus d.threads h) (sym like.head) i.head);
  said = like.said i.said;
}

like_self : (d : Draft) → IsLike d d
like_self d = record { turns = refl; idle = refl; tokens = refl; messages = refl; threads = refl; head = refl; said = λ so. so }

like_if : (b : Bool) (d x y : Draft) → IsLike d x → IsLike d y → IsLike d (cond b x y)
like_if true d x y p q = p
like_if false d x y p q = q

-- a program that a thread of this head may have
record IsCodeOf (h : Head) (code : Program) : Type 0 where
  repeat : code.repeat ≡ h.repeat
  few_steps : length code.steps ≤ 768
  few_sentences : sentences_in code.steps ≤ 256

-- one more thread, where its processor has room
thread_put_within : (cpus : ℕ) (h : Head) (code : Program) (threads : List ThreadSpec) → IsHead cpus h → IsCodeOf h code → All (IsThread cpus) threads
    → All (IsThread cpus) (threads ++ (record { cpu = h.cpu; service = h.service; code = code }) ∷ [])
thread_put_within cpus h code threads is may all =
    All-push (IsThread cpus) threads (record { cpu = h.cpu; service = h.service; code = code }) all
    (record { cpu = is.cpu; some_repeats = subst (λ n. 1 ≤ n) (sym may.repeat) is.some_repeats; few_repeats = subst (λ n. n ≤ 1000000) (sym may.repeat) is.few_repeats; few_steps = may.few_steps; few_sentences = may.few_sentences })

-- a thread is put behind the others
put_with : (cpus : ℕ) (h : Head) (code : Program) (d e : Draft) → IsHead cpus h → IsCodeOf h code → threads_on h.cpu.0 d.threads < 16 → IsLike (record d { head = None }) e → IsDraft cpus d
    → IsDraft cpus (record e { threads = e.threads ++ (record { cpu = h.cpu; service = h.service; code = code }) ∷ [] })
put_with cpus h code d e is may room like i =
    let t : ThreadSpec = record { cpu = h.cpu; service = h.service; code = code } in
    record {
      some_turns = subst (λ n. 1 ≤ n) (sym like.turns) i.some_turns;
      few_turns = subst (λ n. n ≤ 1000000) (sym like.turns) i.few_turns;
      some_idle = subst (λ n. 1 ≤ n) (sym like.idle) i.some_idle;
      few_idle = subst (λ n. n ≤ 100000000) (sym like.idle) i.few_idle;
      few_tokens = subst (λ (ts : List TokSpec). length ts ≤ 64) (sym like.tokens) i.few_tokens;
      tokens = subst (λ (ts : List TokSpec). All IsToken ts) (sym like.tokens) i.tokens;
      few_messages = subst (λ (ms : List MsgSpec). length ms ≤ 64) (sym like.messages) i.few_messages;
      messages = subst (λ (ms : List MsgSpec). All (IsMessage cpus) ms) (sym like.messages) i.messages;
      threads = subst (λ (ts : List ThreadSpec). All (IsThread cpus) (ts ++ t ∷ [])) (sym like.threads) (thread_put_within cpus h code d.threads is may i.threads);
      few_threads = λ cpu. subst (λ (ts : List ThreadSpec). threads_on cpu (ts ++ t ∷ []) ≤ 16) (sym like.threads) (one_more cpu d.threads t room (i.few_threads cpu));
      head = subst (λ (x : Option Head). HasRoomBehind cpus (e.threads ++ t ∷ []) x) (sym like.head) tt;
      said = like.said i.said;
    }

-- what is told of steps, or the program of these
checked_is : (lines : List Line) (steps : List Step) (repeat : ℕ) (vars : List ℕ) (p : Program) (a b : Result ⊤ Wrong) → (a >> b >> Ok (record { steps = steps; repeat = repeat; vars = vars })) ≡ Ok p → (p.steps ≡ steps) × (p.repeat ≡ repeat)
checked_is lines steps repeat vars p (Ok x) (Ok y) e =
    let made : Program = record { steps = steps; repeat = repeat; vars = vars } in
    let is : made ≡ p = cc in
    (sym (ap (λ (q : Program). q.steps) is), sym (ap (λ (q : Program). q.repeat) is))
checked_is lines steps repeat vars p (Ok x) (Err w) e = absurd (cc)
checked_is lines steps repeat vars p (Err w) b e = absurd (cc)

not_more : (n m : ℕ) → nat_lt n m ≡ false → m ≤ n
not_more n m h = grind (arith, nat_tests)

-- a program without steps
none_good : (h : Head) → IsCodeOf h (listed_program [] h.repeat)
none_good h = record { repeat = refl; few_steps = omega arith; few_sentences = omega arith }

program_cases : (h : Head) (d : Draft) (p : Program) (b : Bool) (w : Wrong) → AreCounted d.steps d.said → nat_lt 768 (length d.steps) ≡ b → cond b (Err w) (checked_program d.lines (linked 0 d.steps) h.repeat d.held) ≡ Ok p → IsCodeOf h p
program_cases h d p true w so many e = absurd (cc)
program_cases h d p false w so few e =
    let is : (p.steps ≡ linked 0 d.steps) × (p.repeat ≡ h.repeat) = checked_is d.lines (linked 0 d.steps) h.repeat d.held p (none_wrong whats.Deep (λ l. l.at) d.lines (first_flaw (linked 0 d.steps))) (none_wrong whats.Silent (λ l. l.round) d.lines (first_circle (linked 0 d.steps))) e in
    let short : length d.steps ≤ 768 = not_more 768 (length d.steps) few in
    let said : sentences_in d.steps ≤ 256 = let all = so.0 in let most = so.1 in omega arith in
    record {
      repeat = is.1;
      few_steps = subst (λ (ss : List Step). length ss ≤ 768) (sym is.0) (subst (λ n. n ≤ 768) (sym (linked_length 0 d.steps)) short);
      few_sentences = subst (λ (ss : List Step). sentences_in ss ≤ 256) (sym is.0) (subst (λ n. n ≤ 256) (sym (linked_sentences 0 d.steps)) said);
    }

-- the thread that was said, or one that stands for it
ended_with : (cpus : ℕ) (h : Head) (read : Result Program Wrong) (d e : Draft) → IsHead cpus h → threads_on h.cpu.0 d.threads < 16 → ((p : Program) → read ≡ Ok p → IsCodeOf h p) → IsLike (record d { head = None }) e → IsDraft cpus d
    → IsDraft cpus (thread_put h read e)
ended_with cpus h (Ok p) d e is room good like i = put_with cpus h p d e is (good p refl) room like i
ended_with cpus h (Err wrong) d e is room good like i = blamed_within cpus wrong (record e { threads = e.threads ++ (record { cpu = h.cpu; service = h.service; code = listed_program [] h.repeat }) ∷ [] }) (put_with cpus h (listed_program [] h.repeat) d e is (none_good h) room like i)

-- what is read of a thread keeps the limits
read_good : (h : Head) (d : Draft) (b : Bool) (p : Program) → AreCounted d.steps d.said → cond b (program_of h d) (Ok (listed_program [] h.repeat)) ≡ Ok p → IsCodeOf h p
read_good h d true p so e = program_cases h d p (nat_lt 768 (length d.steps)) (record { at = (line_at d.lines 768).at; what = whats.Crowd }) so refl e
read_good h d false p so e = let is : listed_program [] h.repeat ≡ p = cc in subst (IsCodeOf h) is (none_good h)

closed_cases : (cpus : ℕ) (head : Option Head) (d : Draft) → HasRoomBehind cpus d.threads head → IsDraft cpus d → IsDraft cpus (closed_by head d)
closed_cases cpus None d room i = i
closed_cases cpus (Some h) d room i =
    ended_with cpus h (thread_read h d) d (record (cleared d) { faults = d.faults ++ unended d.blocks }) room.0 room.1
    (λ p e. read_good h d (length d.faults == 0 && length d.blocks == 0) p i.said e)
    (record { turns = refl; idle = refl; tokens = refl; messages = refl; threads = refl; head = refl; said = λ so. (omega arith, omega arith) }) i

pub closed_within : (cpus : ℕ) (d : Draft) → IsDraft cpus d → IsDraft cpus (closed d)
closed_within cpus d i = closed_cases cpus d.head d i.head i

opened_cases : (cpus : ℕ) (ws : List Word) (h : Head) (d : Draft) → IsHead cpus h → IsDraft cpus d → (b : Bool) → nat_lt (threads_on h.cpu.0 d.threads) 16 ≡ b
    → IsDraft cpus (cond b (record d { head = Some h }) (crowded ws d))
opened_cases cpus ws h d is i true e = record {
  some_turns = i.some_turns;
  few_turns = i.few_turns;
  some_idle = i.some_idle;
  few_idle = i.few_idle;
  few_tokens = i.few_tokens;
  tokens = i.tokens;
  few_messages = i.few_messages;
  messages = i.messages;
  threads = i.threads;
  few_threads = i.few_threads;
  head = (is, less (threads_on h.cpu.0 d.threads) 16 e);
  said = i.said;
}
opened_cases cpus ws h d is i false e = crowded_within cpus ws d i

opened_within : (cpus : ℕ) (ws : List Word) (h : Head) (d : Draft) → IsHead cpus h → IsDraft cpus d → IsDraft cpus (thread_begun h ws d)
opened_within cpus ws h d is i = opened_cases cpus ws h d is i (nat_lt (threads_on h.cpu.0 d.threads) 16) refl

blamed_like : (wrong : Wrong) (d e : Draft) → IsLike d e → IsLike d (blamed wrong e)
blamed_like wrong d e like = record { turns = like.turns; idle = like.idle; tokens = like.tokens; messages = like.messages; threads = like.threads; head = like.head; said = like.said }

first_like : (what : What) (ws : List Word) (d : Draft) → IsLike d (blamed_first what ws d)
first_like what ws d = like_if (length d.faults == 0) d (blamed (wrong_at ws 0 what) d) d (blamed_like (wrong_at ws 0 what) d d (like_self d)) (like_self d)

var_like : (ws : List Word) (n : ℕ) (d : Draft) → IsLike d (var_put ws n d)
var_like ws n d =
    let new : Draft = record d { vars = d.vars ++ (text_at ws 1) ∷ []; held = slice_set d.held (length d.vars) n } in
    like_if (nat_lt (length d.vars) 8) d (cond (length d.steps == 0) new (blamed_first whats.Late ws d)) (crowded ws d)
    (like_if (length d.steps == 0) d new (blamed_first whats.Late ws d) (record { turns = refl; idle = refl; tokens = refl; messages = refl; threads = refl; head = refl; said = λ so. so }) (first_like whats.Late ws d))
    (blamed_like (wrong_at ws 0 whats.Crowd) d d (like_self d))

-- one step more, where fewer than 256 count
placed_like : (o : Option What) (ws : List Word) (step : Step) (d e : Draft) → (o ≡ None → e.said < 256) → IsLike d e → IsLike d (placed o ws step e)
placed_like None ws step d e room like = record { turns = like.turns; idle = like.idle; tokens = like.tokens; messages = like.messages; threads = like.threads; head = like.head; said = λ so. said_one e.steps step e.said (room refl) (like.said so) }
placed_like (Some what) ws step d e room like = blamed_like (wrong_at ws 0 what) d e like

room_by : (b : Bool) (rest : Option What) → cond (not b) (Some whats.Crowd) rest ≡ None → b ≡ true
room_by true rest e = refl
room_by false rest e = absurd (cc)

room_of : (step : Step) (d : Draft) → misplaced step d ≡ None → d.said < 256
room_of step d e = less d.said 256 (room_by (nat_lt d.said 256) (cond (nat_lt 8 (length d.blocks)) (Some whats.Deep) (cond (leaves step && is_none (round_in d.blocks)) (Some whats.NoLoop) None)) e)

end_is_none : (kind : Opened) (back : ℕ) → is_sentence (ending kind back) ≡ false
end_is_none kinds.If back = refl
end_is_none kinds.Else back = refl
end_is_none kinds.Round back = refl
end_is_none (kinds.Times k) back = refl

turned_like : (o : Option Block) (ws : List Word) (d : Draft) → IsLike d (turned_over o ws d)
turned_like None ws d = blamed_like (wrong_at ws 0 whats.Unopened) d d (like_self d)
turned_like (Some b) ws d =
    like_if (is_if b) d (begun (record b { kind = kinds.Else }) (left (with_step (Goto Else 0) ws d))) (blamed (wrong_at ws 0 whats.Unopened) d)
    (record { turns = refl; idle = refl; tokens = refl; messages = refl; threads = refl; head = refl; said = λ so. said_none d.steps (Goto Else 0) d.said refl so }) (blamed_like (wrong_at ws 0 whats.Unopened) d d (like_self d))

ended_like : (o : Option Block) (ws : List Word) (d : Draft) → IsLike d (ended o ws d)
ended_like None ws d = blamed_like (wrong_at ws 0 whats.Unopened) d d (like_self d)
ended_like (Some b) ws d = record { turns = refl; idle = refl; tokens = refl; messages = refl; threads = refl; head = refl; said = λ so. said_none d.steps (end_of b) d.said (end_is_none b.kind b.back) so }

thread_like : (ws : List Word) (d e : Draft) → IsLike d e → IsLike d (in_thread ws e d)
thread_like ws d e like = like_if (is_some d.head) d e (blamed_first whats.NoThread ws d) like (first_like whats.NoThread ws d)

opened_like : (ws : List Word) (whole : Step) (d : Draft) → IsLike d (opened_by whole ws d)
opened_like ws whole d = placed_like (misplaced whole d) ws whole d (begun (block_of (length d.steps) (place_of_word ws 0) whole) d) (room_of whole d) (record { turns = refl; idle = refl; tokens = refl; messages = refl; threads = refl; head = refl; said = λ so. so })

acted_like : (ws : List Word) (act : Act) (d : Draft) → IsLike d (acted ws act d)
acted_like ws (acts.Var n) d = var_like ws n d
acted_like ws (acts.Step step) d = placed_like (misplaced step d) ws (numbered d.blocks d.steps step) d d (room_of step d) (like_self d)
acted_like ws (acts.Open step) d = opened_like ws (numbered d.blocks d.steps step) d
acted_like ws acts.Else d = turned_like (innermost d) ws d
acted_like ws acts.End d = ended_like (innermost d) ws d

wrong_like : (ws : List Word) (d : Draft) → IsLike d (begun_wrong ws d)
wrong_like ws d =
    let first : Draft = begun (record { back = 0; at = place_of_word ws 0; kind = kinds.If }) d in
    let other : Draft = begun (record { back = 0; at = place_of_word ws 0; kind = kinds.Round }) d in
    let same : IsLike d first = record { turns = refl; idle = refl; tokens = refl; messages = refl; threads = refl; head = refl; said = λ so. so } in
    let alike : IsLike d other = record { turns = refl; idle = refl; tokens = refl; messages = refl; threads = refl; head = refl; said = λ so. so } in
    like_if (is_at ws 0 (codes "if")) d first (cond (is_at ws 0 (codes "while") || is_at ws 0 (codes "times") || is_at ws 0 (codes "loop")) other d) same
    (like_if (is_at ws 0 (codes "while") || is_at ws 0 (codes "times") || is_at ws 0 (codes "loop")) d other d alike (like_self d))

-- a wrong sentence changes nothing else
pub wrong_within : (cpus : ℕ) (wrong : Wrong) (ws : List Word) (d : Draft) → IsDraft cpus d → IsDraft cpus (put_or_blamed (Err wrong) ws d)
wrong_within cpus wrong ws d i =
    like_kept cpus d (put_or_blamed (Err wrong) ws d) (blamed_like wrong d (cond (is_some d.head) (begun_wrong ws d) d) (like_if (is_some d.head) d (begun_wrong ws d) d (wrong_like ws d) (like_self d))) i

pub wrong_kept : {E : Type 0} (out : Result ⊤ E) (cpus : ℕ) (wrong : Wrong) (ws : List Word) (d e : Draft) → OnOk out (e ≡ put_or_blamed (Err wrong) ws d) → OnOk out (IsDraft cpus d → IsDraft cpus e)
wrong_kept (Ok ok) cpus wrong ws d e is = λ i. subst (IsDraft cpus) (sym is) (wrong_within cpus wrong ws d i)
wrong_kept (Err refused) cpus wrong ws d e is = tt

-- what is said keeps the limits where it keeps its own
pub put_within : (cpus : ℕ) (ws : List Word) (s : Said) (d : Draft) → MayBeSaid cpus s → IsDraft cpus d → IsDraft cpus (put ws s d)
put_within cpus ws (saids.Turns n) d is i = turned cpus n d is.0 is.1 i
put_within cpus ws (saids.Idle n) d is i = idled cpus n d is.0 is.1 i
put_within cpus ws saids.Cpus d is i = i
put_within cpus ws (saids.Token t) d is i = token_put cpus ws t d is i (nat_lt (length d.tokens) 64) refl
put_within cpus ws (saids.Message m) d is i = message_put cpus ws m d is i (nat_lt (length d.messages) 64) refl
put_within cpus ws (saids.Thread h) d is i = opened_within cpus ws h (closed d) is (closed_within cpus d i)
put_within cpus ws (saids.Do act) d is i = like_kept cpus d (in_thread ws (acted ws act d) d) (thread_like ws d (acted ws act d) (acted_like ws act d)) i
put_within cpus ws (saids.Expect e) d is i = record {
  some_turns = i.some_turns;
  few_turns = i.few_turns;
  some_idle = i.some_idle;
  few_idle = i.few_idle;
  few_tokens = i.few_tokens;
  tokens = i.tokens;
  few_messages = i.few_messages;
  messages = i.messages;
  threads = i.threads;
  few_threads = i.few_threads;
  head = i.head;
  said = i.said;
}
