-- Runs of the tokens alone and of the messages alone are one run of both.
use Rattle.std.proofs.Common.{◌≡◌, ℕ, suc, ◌==◌, Bool, true, false, not, cond, List, [], ◌∷◌, ◌++◌, length, map, filter, refl, ap, sym, ◌∙◌, subst, inl, inr, ◌⊎◌, arith, append-nil, Option, Some, true≢false}
use Rattle.std.specs.Prelude.{slice_get, slice_index_or, Vec}
use Rattle.std.specs.declared.alloc.Global.{Global}
use Rattle.std.proofs.lemmas.List.{length-map, length-set}
use Rattle.std.proofs.lemmas.List.Elements.{filter-append}
use Rattle.lwkt_base.specs.declared.opening_specs.MsgSpec.{MsgSpec}
use Rattle.lwkt_base.specs.declared.opening_specs.TokSpec.{TokSpec}
use Rattle.lwkt_base.specs.declared.owners.MsgEnd.{MsgEnd}
use Rattle.lwkt_core.specs.declared.events.Event.{Event}
use Rattle.lwkt_core.specs.declared.events.Event.TheVariants.{Load, Take, Share, Again, Mark, GiveOne, GiveClean, GiveWritten, Read, Write, ReadBlob, WriteBlob, Send, TakeMsg, DropMsg, Reply, Reap, Abort}
use Rattle.lwkt_core.specs.declared.events.Place.{Place}
use Rattle.lwkt_core.specs.declared.events.Place.TheVariants.{AtToken, AtMessage}
use Rattle.lwkt_core.specs.declared.finals.Final.{Final}
use Rattle.lwkt_core.specs.declared.messages.Message.{Message}
use Rattle.lwkt_table.specs.declared.seats.Deed.{Deed}
use Rattle.lwkt_core.specs.declared.tokens.Token.{Token}
use Rattle.lwkt_core.specs.Events.{cpu_of, place_of, adds_reference}
use Rattle.lwkt_table.specs.History.{Passes, events_in, events_by}
use Rattle.lwkt_core.specs.Machine.{Machine, machine, Needs, PlaceNeeds, changed}
use Rattle.lwkt_core.specs.Messages.{message_after}
use Rattle.lwkt_core.specs.Opening.{opening, opened_token, opened_message}
use Rattle.lwkt_core.specs.Tokens.{token_after}
use Rattle.lwkt_core.specs.Trace.{Run, end_of, shown_tallies}
use Rattle.lwkt_core.proofs.MachineMoves.{after_token, after_message}
use Rattle.lwkt_cpu.specs.Traced.{is_of_message}
use Rattle.lwkt_bank.specs.Ledger.{IsDone, first_machine}
use Rattle.lwkt_hold.specs.Steps.{is_of_token, AreTraced}
use Rattle.lwkt_msg.specs.Book.{Mail, no_mail, opened_mail}
use Rattle.lwkt_msg.specs.Steps.{machine_of}
use Rattle.lwkt_msg.specs.Ledger.{IsDone as IsMailDone, first_mails}
use Rattle.lwkt_machine.specs.Bodies.{Scripted}
use Rattle.lwkt_machine.specs.declared.closings.Closed.{Closed}
use Rattle.lwkt_machine.specs.Machines.{Rig}
use Rattle.lwkt_machine.specs.ProcessorParts.{ArePartsOfRuns}
use Rattle.lwkt_run.specs.TraceParts.{of_cpu}
use Rattle.lwkt_run.specs.Joining.{AreOneRun, RunsJoin}

-- an event is at a token, or at a message
IsAtToken : Event → Type 0
IsAtToken e = (is_of_token e ≡ true) × ((i : ℕ) × (place_of e ≡ AtToken i))

record IsAtMessage (e : Event) : Type 0 where
  other : is_of_token e ≡ false
  index : ℕ
  at : place_of e ≡ AtMessage index
  none : adds_reference e ≡ false

place_cases : (e : Event) → IsAtToken e ⊎ IsAtMessage e
unfolding IsAtToken
place_cases (Load cpu tok) = inl (refl, (tok.0, refl))
place_cases (Take cpu tok) = inl (refl, (tok.0, refl))
place_cases (Share cpu tok) = inl (refl, (tok.0, refl))
place_cases (Again cpu tok) = inl (refl, (tok.0, refl))
place_cases (Mark cpu tok) = inl (refl, (tok.0, refl))
place_cases (GiveOne cpu tok) = inl (refl, (tok.0, refl))
place_cases (GiveClean cpu tok) = inl (refl, (tok.0, refl))
place_cases (GiveWritten cpu tok section) = inl (refl, (tok.0, refl))
place_cases (Read cpu tok cell value) = inl (refl, (tok.0, refl))
place_cases (Write cpu tok cell value) = inl (refl, (tok.0, refl))
place_cases (ReadBlob cpu tok blob) = inl (refl, (tok.0, refl))
place_cases (WriteBlob cpu tok blob) = inl (refl, (tok.0, refl))
place_cases (Send cpu msg to round) = inr (record { other = refl; index = msg.0; at = refl; none = refl })
place_cases (TakeMsg cpu msg round) = inr (record { other = refl; index = msg.0; at = refl; none = refl })
place_cases (DropMsg cpu msg) = inr (record { other = refl; index = msg.0; at = refl; none = refl })
place_cases (Reply cpu msg) = inr (record { other = refl; index = msg.0; at = refl; none = refl })
place_cases (Reap cpu msg) = inr (record { other = refl; index = msg.0; at = refl; none = refl })
place_cases (Abort cpu msg) = inr (record { other = refl; index = msg.0; at = refl; none = refl })

-- what an event at a token needs and leaves, beside whatever messages
token_needs : (cpus : ℕ) (tokens : List Token) (messages others : List Message) (e : Event) (i : ℕ) → place_of e ≡ AtToken i → Needs (machine cpus tokens messages) e → Needs (machine cpus tokens others) e
token_needs cpus tokens messages others e i at n = record {
  processor = n.processor;
  place = subst (λ (p : Place). PlaceNeeds (machine cpus tokens others) e p) (sym at) (subst (λ (p : Place). PlaceNeeds (machine cpus tokens messages) e p) at n.place);
  room = n.room;
}

-- and one at a message, beside whatever tokens
message_needs : (cpus : ℕ) (tokens others : List Token) (messages : List Message) (e : Event) → IsAtMessage e → Needs (machine cpus tokens messages) e → Needs (machine cpus others messages) e
message_needs cpus tokens others messages e is n = record {
  processor = n.processor;
  place = subst (λ (p : Place). PlaceNeeds (machine cpus others messages) e p) (sym is.at) (subst (λ (p : Place). PlaceNeeds (machine cpus tokens messages) e p) is.at n.place);
  room = λ adds. absurd (true≢false (sym adds ∙ is.none));
}

-- one event more, at a token
token_first : (cpus : ℕ) (tokens tokens' : List Token) (e : Event) (i : ℕ) (events : List Event) → place_of e ≡ AtToken i → Run (machine cpus tokens []) (e ∷ events) (machine cpus tokens' [])
    → Needs (machine cpus tokens []) e × Run (machine cpus (changed (λ tok. token_after tok e) tokens i) []) events (machine cpus tokens' [])
token_first cpus tokens tokens' e i events at run =
    let same : machine cpus (changed (λ tok. token_after tok e) tokens i) [] ≡ run.0 = after_token (machine cpus tokens []) e i (changed (λ tok. token_after tok e) tokens i) at refl ∙ sym run.1.0.1 in
    (run.1.0.0, subst (λ (m : Machine). Run m events (machine cpus tokens' [])) (sym same) run.1.1)

message_first : (cpus : ℕ) (messages messages' : List Message) (e : Event) (i : ℕ) (events : List Event) → place_of e ≡ AtMessage i → Run (machine cpus [] messages) (e ∷ events) (machine cpus [] messages')
    → Needs (machine cpus [] messages) e × Run (machine cpus [] (changed (λ msg. message_after msg e) messages i)) events (machine cpus [] messages')
message_first cpus messages messages' e i events at run =
    let same : machine cpus [] (changed (λ msg. message_after msg e) messages i) ≡ run.0 = after_message (machine cpus [] messages) e i (changed (λ msg. message_after msg e) messages i) at refl ∙ sym run.1.0.1 in
    (run.1.0.0, subst (λ (m : Machine). Run m events (machine cpus [] messages')) (sym same) run.1.1)

pub joined : RunsJoin
unfolding IsAtToken
joined cpus tokens tokens' messages messages' [] on_tokens on_messages =
    ap (λ (m : Machine). machine cpus m.tokens messages') on_tokens ∙ ap (λ (m : Machine). machine cpus tokens m.messages) on_messages
joined cpus tokens tokens' messages messages' (e ∷ events) on_tokens on_messages =
    let T : Bool → Type 0 = λ b. Run (machine cpus tokens []) (cond b (e ∷ filter is_of_token events) (filter is_of_token events)) (machine cpus tokens' []) in
    let M : Bool → Type 0 = λ b. Run (machine cpus [] messages) (cond (not b) (e ∷ filter is_of_message events) (filter is_of_message events)) (machine cpus [] messages') in
    elim (place_cases e) [
      | inl is ↦
          let i = is.1.0 in
          let more : List Token = changed (λ tok. token_after tok e) tokens i in
          let first = token_first cpus tokens tokens' e i (filter is_of_token events) is.1.1 (subst T is.0 on_tokens) in (
            machine cpus more messages,
            (
              (token_needs cpus tokens [] messages e i is.1.1 first.0, after_token (machine cpus tokens messages) e i more is.1.1 refl),
              joined cpus more tokens' messages messages' events first.1 (subst M is.0 on_messages),
            ),
          )
      | inr is ↦
          let i = is.index in
          let more : List Message = changed (λ msg. message_after msg e) messages i in
          let first = message_first cpus messages messages' e i (filter is_of_message events) is.at (subst M is.other on_messages) in (
            machine cpus tokens more,
            (
              (message_needs cpus [] tokens messages e is first.0, after_message (machine cpus tokens messages) e i more is.at refl),
              joined cpus tokens tokens' more messages' events (subst T is.other on_tokens) first.1,
            ),
          )
    ]

-- what there is of events of one kind alone
record AreOnTokens (events : List Event) : Type 0 where
  kept : filter is_of_token events ≡ events
  none : filter is_of_message events ≡ []

record AreOnMessages (events : List Event) : Type 0 where
  kept : filter is_of_message events ≡ events
  none : filter is_of_token events ≡ []

one_token : (e : Event) (events : List Event) → is_of_token e ≡ true → AreOnTokens events → AreOnTokens (e ∷ events)
one_token e events is are = record {
  kept = ap (λ (b : Bool). cond b (e ∷ filter is_of_token events) (filter is_of_token events)) is ∙ ap (λ l. e ∷ l) are.kept;
  none = ap (λ (b : Bool). cond (not b) (e ∷ filter is_of_message events) (filter is_of_message events)) is ∙ are.none;
}

one_message : (e : Event) (events : List Event) → is_of_token e ≡ false → AreOnMessages events → AreOnMessages (e ∷ events)
one_message e events is are = record {
  kept = ap (λ (b : Bool). cond (not b) (e ∷ filter is_of_message events) (filter is_of_message events)) is ∙ ap (λ l. e ∷ l) are.kept;
  none = ap (λ (b : Bool). cond b (e ∷ filter is_of_token events) (filter is_of_token events)) is ∙ are.none;
}

-- a run of a machine without messages has none of messages, and one of a machine without tokens none of tokens; both keep the number
-- of processors
record StaysTokens (cpus : ℕ) (events : List Event) (n : Machine) : Type 0 where
  are : AreOnTokens events
  cpus_are : n.cpus ≡ cpus

on_tokens : (cpus : ℕ) (tokens : List Token) (events : List Event) (n : Machine) → Run (machine cpus tokens []) events n → StaysTokens cpus events n
unfolding IsAtToken
on_tokens cpus tokens [] n run = record { are = record { kept = refl; none = refl }; cpus_are = ap (λ (m : Machine). m.cpus) run }
on_tokens cpus tokens (e ∷ events) n run =
    elim (place_cases e) [
      | inl is ↦
          let i = is.1.0 in
          let more : List Token = changed (λ tok. token_after tok e) tokens i in
          let same : machine cpus more [] ≡ run.0 = after_token (machine cpus tokens []) e i more is.1.1 refl ∙ sym run.1.0.1 in
          let rest = on_tokens cpus more events n (subst (λ (m : Machine). Run m events n) (sym same) run.1.1) in
          record { are = one_token e events is.0 rest.are; cpus_are = rest.cpus_are }
      | inr is ↦ absurd (subst (λ (p : Place). PlaceNeeds (machine cpus tokens []) e p) is.at run.1.0.0.place)
    ]

on_messages : (cpus : ℕ) (messages : List Message) (events : List Event) (n : Machine) → Run (machine cpus [] messages) events n → AreOnMessages events
unfolding IsAtToken
on_messages cpus messages [] n run = record { kept = refl; none = refl }
on_messages cpus messages (e ∷ events) n run =
    elim (place_cases e) [
      | inl is ↦ absurd (subst (λ (p : Place). PlaceNeeds (machine cpus [] messages) e p) is.1.1 run.1.0.0.place)
      | inr is ↦
          let more : List Message = changed (λ msg. message_after msg e) messages is.index in
          let same : machine cpus [] more ≡ run.0 = after_message (machine cpus [] messages) e is.index more is.at refl ∙ sym run.1.0.1 in
          one_message e events is.other (on_messages cpus more events n (subst (λ (m : Machine). Run m events n) (sym same) run.1.1))
    ]

-- a deed has no event, or one of its processor
IsOwn : Deed → Type 0
IsOwn d = (d.events ≡ []) ⊎ ((e : Event) × ((d.events ≡ e ∷ []) × (cpu_of e ≡ d.cpu.0)))

own_of_cpu : (cpu : ℕ) (d : Deed) → IsOwn d → of_cpu cpu d.events ≡ cond (d.cpu.0 == cpu) d.events []
unfolding IsOwn
own_of_cpu cpu d own = elim own [
  | inl none ↦
      let F : Bool → Type 0 = λ b. of_cpu cpu d.events ≡ cond b d.events [] in
      elim (d.cpu.0 == cpu) as F [ true ↦ ap (of_cpu cpu) none ∙ sym none | false ↦ ap (of_cpu cpu) none ]
  | inr one ↦
      let e = one.0 in
      ap (of_cpu cpu) one.1.0 ∙ ap (λ (n : ℕ). cond (n == cpu) (e ∷ []) []) one.1.1 ∙ ap (λ (es : List Event). cond (d.cpu.0 == cpu) es []) (sym one.1.0)
]

-- so a processor's events in a history are its own
events_own : {S : Type 0} (Done : S → Deed → S → Type 0) → ((m n : S) (d : Deed) → Done m d n → IsOwn d) → (cpu : ℕ) (history : List Deed) (m n : S) → Passes Done m history n → of_cpu cpu (events_in history) ≡ events_by cpu history
events_own Done own cpu [] m n passes = refl
events_own Done own cpu (d ∷ history) m n passes =
    filter-append (λ (e : Event). cpu_of e == cpu) d.events (events_in history)
    ∙ ap (λ l. l ++ of_cpu cpu (events_in history)) (own_of_cpu cpu d (own m passes.0 d passes.1.0))
    ∙ ap (λ l. cond (d.cpu.0 == cpu) d.events [] ++ l) (events_own Done own cpu history passes.0 n passes.1.1)

token_own : (m n : Machine) (d : Deed) → IsDone m d n → IsOwn d
unfolding IsOwn
token_own m n d is = inr (is.event, (is.events, is.own))

mail_own : (cpus : ℕ) (m n : List Mail) (d : Deed) → IsMailDone cpus m d n → IsOwn d
unfolding IsOwn
mail_own cpus m n d is = elim is.what [ inl look ↦ inl look.events | inr event ↦ inr (event.event, (event.events, event.own)) ]

mails_long : (cpus : ℕ) (history : List Deed) (m n : List Mail) → Passes (IsMailDone cpus) m history n → length n ≡ length m
mails_long cpus [] m n passes = ap length passes
mails_long cpus (d ∷ history) m n passes =
    mails_long cpus history passes.0 n passes.1.1 ∙ ap length passes.1.0.leaves ∙ length-set m passes.1.0.step.at passes.1.0.after

-- owner states and rounds, all of them
pub ends_all : (ends : List MsgEnd) (mails : List Mail) → length ends ≡ length mails → ((m : ℕ) (end : MsgEnd) → slice_get ends m ≡ Some end → end ≡ end_of (slice_index_or mails m no_mail).msg) → ends ≡ map end_of (map (λ (mail : Mail). mail.msg) mails)
ends_all [] [] long each = refl
ends_all [] (x ∷ mails) long each = absurd (omega (arith, long))
ends_all (end ∷ ends) [] long each = absurd (omega (arith, long))
ends_all (end ∷ ends) (x ∷ mails) long each =
    ap (λ (e : MsgEnd). e ∷ ends) (each 0 end refl) ∙ ap (λ l. end_of x.msg ∷ l) (ends_all ends mails (omega (arith, long)) (λ m e at. each (suc m) e at))

-- what two tests keep, in either order
both_tests : (p q : Event → Bool) (e : Event) (xs ys : List Event) (a b : Bool) → p e ≡ a → q e ≡ b → filter p xs ≡ filter q ys → filter p (cond b (e ∷ xs) xs) ≡ filter q (cond a (e ∷ ys) ys)
both_tests p q e xs ys true true pe qe rest = ap (λ (b : Bool). cond b (e ∷ filter p xs) (filter p xs)) pe ∙ ap (λ l. e ∷ l) rest ∙ sym (ap (λ (b : Bool). cond b (e ∷ filter q ys) (filter q ys)) qe)
both_tests p q e xs ys true false pe qe rest = rest ∙ sym (ap (λ (b : Bool). cond b (e ∷ filter q ys) (filter q ys)) qe)
both_tests p q e xs ys false true pe qe rest = ap (λ (b : Bool). cond b (e ∷ filter p xs) (filter p xs)) pe ∙ rest
both_tests p q e xs ys false false pe qe rest = rest

filter_both : (p q : Event → Bool) (events : List Event) → filter p (filter q events) ≡ filter q (filter p events)
filter_both p q [] = refl
filter_both p q (e ∷ events) = both_tests p q e (filter q events) (filter p events) (p e) (q e) refl refl (filter_both p q events)

-- two histories, of tokens and of messages, one behind the other
record AreApart (tokens messages : List Event) : Type 0 where
  on_tokens : filter is_of_token (tokens ++ messages) ≡ tokens
  on_messages : filter is_of_message (tokens ++ messages) ≡ messages

apart : (tokens messages : List Event) → AreOnTokens tokens → AreOnMessages messages → AreApart tokens messages
apart tokens messages are others = record {
  on_tokens = filter-append is_of_token tokens messages ∙ ap (λ l. l ++ filter is_of_token messages) are.kept ∙ ap (λ l. tokens ++ l) others.none ∙ append-nil tokens;
  on_messages = filter-append is_of_message tokens messages ∙ ap (λ l. l ++ filter is_of_message messages) are.none ∙ others.kept;
}

-- what a processor has of both
part_kept : (p : Event → Bool) (cpu : ℕ) (events own : List Event) → filter p events ≡ own → filter p (of_cpu cpu events) ≡ of_cpu cpu own
part_kept p cpu events own is = filter_both p (λ (e : Event). cpu_of e == cpu) events ∙ ap (of_cpu cpu) is

-- two runs of a machine's halves, and what the processors' parts have of them, are one run of it
pub one_run : (cpus : ℕ) (tokens : List TokSpec) (messages : List MsgSpec) (opened : Rig Scripted) (closed : Closed Scripted) (last : Final) (parts : List (List Event))
    → ArePartsOfRuns opened closed parts → first_machine opened.bank.plans (length opened.cpus) ≡ opening cpus tokens [] → machine_of opened.book.cpus (first_mails opened.book.specs) ≡ opening cpus [] messages
    → last.rows ≡ closed.tokens.rows → last.gens ≡ closed.tokens.gens → last.tallies ≡ closed.tokens.tallies → last.blobs ≡ closed.tokens.blobs → last.messages ≡ closed.messages → AreOneRun cpus tokens messages last parts
one_run cpus tokens messages opened closed last parts modelled tokens_from messages_from rows gens tallies blobs mails =
    let t = modelled.tokens in
    let m = modelled.messages in
    let first : List Token = map opened_token tokens in
    let others : List Message = map opened_message messages in
    let es : List Event = events_in t.history in
    let fs : List Event = events_in m.history in
    let token_run : Run (machine cpus first []) es t.last = subst (λ (x : Machine). Run x es t.last) tokens_from t.run in
    let stays = on_tokens cpus first es t.last token_run in
    let token_end : t.last ≡ machine cpus t.last.tokens [] = ap (λ (n : ℕ). machine n t.last.tokens t.last.messages) stays.cpus_are ∙ ap (λ (ms : List Message). machine cpus t.last.tokens ms) t.ends.messages in
    let ends : List Message = map (λ (mail : Mail). mail.msg) m.last in
    let book_cpus : opened.book.cpus ≡ cpus = ap (λ (x : Machine). x.cpus) messages_from in
    let mail_run : Run (machine cpus [] others) fs (machine cpus [] ends) = subst (λ (n : ℕ). Run (machine cpus [] others) fs (machine n [] ends)) book_cpus (subst (λ (x : Machine). Run x fs (machine_of opened.book.cpus m.last)) messages_from m.run) in
    let halves = apart es fs stays.are (on_messages cpus others fs (machine cpus [] ends) mail_run) in
    let whole : Run (machine cpus first others) (es ++ fs) (machine cpus t.last.tokens ends) = joined cpus first t.last.tokens others ends (es ++ fs)
    (subst (λ l. Run (machine cpus first []) l (machine cpus t.last.tokens [])) (sym halves.on_tokens) (subst (λ (x : Machine). Run (machine cpus first []) es x) token_end token_run))
    (subst (λ l. Run (machine cpus [] others) l (machine cpus [] ends)) (sym halves.on_messages) mail_run) in
    let first_long : length (first_mails opened.book.specs) ≡ length opened.book.specs = length-map opened.book.specs opened_mail in
    let long : length closed.messages.items ≡ length m.last = m.as_many ∙ sym first_long ∙ sym (mails_long opened.book.cpus m.history (first_mails opened.book.specs) m.last m.passes) in
    let all : closed.messages.items ≡ map end_of ends = ends_all closed.messages.items m.last long m.ends_are in
    record {
      events = es ++ fs;
      lawful = (
        machine cpus t.last.tokens ends,
        (
          whole,
          record {
            free = t.ends.free;
            rows = ap (λ (v : Vec (List ℕ) Global). v.items) rows ∙ t.ends.rows;
            gens = ap (λ (v : Vec ℕ Global). v.items) gens ∙ t.ends.gens;
            tallies = ap (λ (v : Vec (List ℕ) Global). v.items) tallies ∙ t.ends.tallies ∙ ap (λ (n : ℕ). map (λ (tok : Token). shown_tallies tok.law n tok.tallies) t.last.tokens) stays.cpus_are;
            blobs = ap (λ (v : Vec (Option (List ℕ)) Global). v.items) blobs ∙ t.ends.blobs;
            messages = ap (λ (v : Vec MsgEnd Global). v.items) mails ∙ all;
          },
        ),
      );
      on_tokens = λ cpu part at.
          let own : of_cpu cpu es ≡ events_by cpu t.history = events_own IsDone token_own cpu t.history (first_machine opened.bank.plans (length opened.cpus)) t.last t.passes in
          subst (λ l. AreTraced l (filter is_of_token part)) (sym (part_kept is_of_token cpu (es ++ fs) es halves.on_tokens ∙ own)) (t.traced cpu part at).0;
      on_messages = λ cpu part at.
          let own : of_cpu cpu fs ≡ events_by cpu m.history = events_own (IsMailDone opened.book.cpus) (mail_own opened.book.cpus) cpu m.history (first_mails opened.book.specs) m.last m.passes in
          m.traced cpu part at ∙ sym (part_kept is_of_message cpu (es ++ fs) fs halves.on_messages ∙ own);
    }
