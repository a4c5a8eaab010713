-- A written trace whose events are read one after another.
use Rattle.std.proofs.Common.{◌≡◌, ℕ, ◌+◌, ◌≤◌, List, [], ◌++◌, length, map, Bool, Option, Some, None, Result, Ok, Err, refl, sym, ap, ap₂, ◌∙◌, subst, arith, append_assoc}
use Rattle.std.specs.Prelude.{codes, IfOk, IfSome, IsTrue}
use Rattle.std.proofs.lemmas.List.{length-append}
use Rattle.serde_json.specs.Data.{Data, object, no_members, member}
use Rattle.lwkt_base.specs.declared.opening_specs.MsgSpec.{MsgSpec}
use Rattle.lwkt_base.specs.declared.opening_specs.TokSpec.{TokSpec}
use Rattle.lwkt_core.specs.declared.events.Event.{Event}
use Rattle.lwkt_script.specs.declared.scripts.Script.{Script}
use Rattle.lwkt_script.specs.Field.{number_in}
use Rattle.lwkt_script.specs.Outcome.{◌>>=◌, part, each}
use Rattle.lwkt_trace.specs.Format.{event, message_behind, closing, cpus_in, trace_of_parts, trace, trace_of}
use Rattle.lwkt_trace.specs.Guard.{guarded}
use Rattle.lwkt_trace.specs.Printed.{HasWords, ItemsHaveWords}
use Rattle.lwkt_trace.specs.Readback.{number_data, items_as, events_data, messages_data, stated_alone, AreWritable}
use Rattle.lwkt_trace.specs.Recognised.{AreWritten, IsBack, with_events, Frames}
use Rattle.lwkt_trace.specs.Values.{token_data, last_data}
use Rattle.lwkt_trace.specs.Written.{front_text}
use Rattle.lwkt_trace.specs.declared.traces.Closing.{Closing}
use Rattle.lwkt_trace.specs.declared.traces.Stated.{Stated}
use Rattle.lwkt_trace.specs.declared.traces.Trace.{Trace}
use Rattle.lwkt_trace.proofs.EventLists.{lists_read_back}
use Rattle.lwkt_trace.proofs.WrittenTexts.{data_with, framed, framed_read}

-- ---- the value of a trace, with events put in

-- a trace of what its parts are read as
abbrev assembled : Result ℕ ℕ → Result (List TokSpec) ℕ → (ℕ → Result (List MsgSpec) ℕ) → Result (List Stated) ℕ → Result (Option Closing) ℕ → Result Trace ℕ
assembled a b f e l = a >>= λ cpus. b >>= λ tokens. f cpus >>= λ messages. e >>= λ events. l >>= λ last. Ok (record { cpus = cpus; tokens = tokens; messages = messages; events = events; last = last })

-- a trace with these events, where it is one
abbrev put_in : List Stated → Result Trace ℕ → Result Trace ℕ
put_in stated r = r >>= λ t. Ok (with_events t stated)

put_last : (cpus : ℕ) (tokens : List TokSpec) (messages : List MsgSpec) (l : Result (Option Closing) ℕ) (stated : List Stated)
    → assembled (Ok cpus) (Ok tokens) (λ n. Ok messages) (Ok stated) l ≡ put_in stated (assembled (Ok cpus) (Ok tokens) (λ n. Ok messages) (Ok []) l)
put_last cpus tokens messages (Ok last) stated = refl
put_last cpus tokens messages (Err place) stated = refl

put_messages : (cpus : ℕ) (tokens : List TokSpec) (m : Result (List MsgSpec) ℕ) (l : Result (Option Closing) ℕ) (stated : List Stated)
    → assembled (Ok cpus) (Ok tokens) (λ n. m) (Ok stated) l ≡ put_in stated (assembled (Ok cpus) (Ok tokens) (λ n. m) (Ok []) l)
put_messages cpus tokens (Ok messages) l stated = put_last cpus tokens messages l stated
put_messages cpus tokens (Err place) l stated = refl

put_tokens : (cpus : ℕ) (b : Result (List TokSpec) ℕ) (m : Result (List MsgSpec) ℕ) (l : Result (Option Closing) ℕ) (stated : List Stated)
    → assembled (Ok cpus) b (λ n. m) (Ok stated) l ≡ put_in stated (assembled (Ok cpus) b (λ n. m) (Ok []) l)
put_tokens cpus (Ok tokens) m l stated = put_messages cpus tokens m l stated
put_tokens cpus (Err place) m l stated = refl

put_events : (a : Result ℕ ℕ) (b : Result (List TokSpec) ℕ) (f : ℕ → Result (List MsgSpec) ℕ) (l : Result (Option Closing) ℕ) (stated : List Stated)
    → assembled a b f (Ok stated) l ≡ put_in stated (assembled a b f (Ok []) l)
put_events (Ok cpus) b f l stated = put_tokens cpus b (f cpus) l stated
put_events (Err place) b f l stated = refl

-- the parts of the value of a trace
abbrev of_parts : Script → Data → Result (List Stated) ℕ → Result Trace ℕ
of_parts script last events =
    assembled (part 3 (number_in (codes "cpus") 1 8 (object (member (codes "cpus") (number_data script.cpus) no_members)))) (each guarded [] (items_as token_data script.tokens)) (λ cpus. each (message_behind cpus) [] (messages_data script.messages)) events (closing last)

value_parts : (script : Script) (events : List Event) (last : Data) → trace (data_with script events last) ≡ of_parts script last (each event [] (events_data events))
unfolding trace cpus_in trace_of_parts
value_parts script events last = refl

-- a value without events is a trace: with events it is this trace with these events
value_with : (script : Script) (events : List Event) (last : Data) (t : Trace) → AreWritable events → length events ≤ 50000000 → trace (data_with script [] last) ≡ Ok t
    → trace (data_with script events last) ≡ Ok (with_events t (map stated_alone events))
value_with script events last t are few is =
    let stated : List Stated = map stated_alone events in
    value_parts script events last ∙ ap (of_parts script last) (lists_read_back events are few)
    ∙ put_events (part 3 (number_in (codes "cpus") 1 8 (object (member (codes "cpus") (number_data script.cpus) no_members)))) (each guarded [] (items_as token_data script.tokens)) (λ cpus. each (message_behind cpus) [] (messages_data script.messages)) (closing last) stated
    ∙ ap (put_in stated) (sym (value_parts script [] last) ∙ is)

-- ---- the text of a trace, in three parts

-- a script with this opening
abbrev script_of : Trace → Script
script_of t = record { turns = 1; idle = 1; cpus = t.cpus; tokens = t.tokens; messages = t.messages; threads = [] }

parts_equal : (a b c x y z : List ℕ) → a ≡ x → b ≡ y → c ≡ z → a ++ (b ++ c) ≡ x ++ (y ++ z)
parts_equal a b c x y z p q r = ap₂ (λ (l m : List ℕ). l ++ m) p (ap₂ (λ (l m : List ℕ). l ++ m) q r)

shorter : (a b c : List ℕ) (most : ℕ) → length (a ++ (b ++ c)) ≤ most → length (a ++ c) ≤ most
shorter a b c most h =
    let one = length-append a (b ++ c) in let two = length-append b c in let three = length-append a c in omega (arith, h, one, two, three)

-- what is written round events frames them
pub frames : (front back : List ℕ) (t : Trace) → trace_of (front ++ back) ≡ Ok t → front ≡ front_text t.cpus t.tokens t.messages → IsBack back
    → HasWords (number_data t.cpus) → ItemsHaveWords (items_as token_data t.tokens) → ItemsHaveWords (messages_data t.messages) → Frames front back t
frames front back t is front_is behind cpus tokens messages = λ text events are few short.
    let script : Script = script_of t in
    let last = behind.last in
    let one : HasWords (number_data 1) = omega arith in
    let bare : front ++ back ≡ framed script [] last = ap₂ (λ (l m : List ℕ). l ++ m) front_is behind.text_is in
    let whole : front ++ (text ++ back) ≡ framed script events last = parts_equal front text back _ _ _ front_is are.text_is behind.text_is in
    let bare_short : length (framed script [] last) ≤ 268435456 = subst (λ (l : List ℕ). length l ≤ 268435456) bare (shorter front text back 268435456 short) in
    let whole_short : length (framed script events last) ≤ 268435456 = subst (λ (l : List ℕ). length l ≤ 268435456) whole short in
    let bare_read : trace (data_with script [] (last_data last)) ≡ Ok t = sym (framed_read script [] last (cpus, (tt, (behind.words, (messages, (tokens, (one, tt)))))) bare_short) ∙ ap trace_of (sym bare) ∙ is in
    ap trace_of whole ∙ framed_read script events last (cpus, (are.words, (behind.words, (messages, (tokens, (one, tt)))))) whole_short ∙ value_with script events (last_data last) t are.writable few bare_read

-- what was looked at, if memory sufficed: the front, the numbers, and then the back
pub framed_so : {E : Type 0} (r : Result Bool E) (front back : List ℕ) (t : Trace) → front ≡ front_text t.cpus t.tokens t.messages → HasWords (number_data t.cpus) → ItemsHaveWords (items_as token_data t.tokens) → ItemsHaveWords (messages_data t.messages)
    → IfOk r (λ is. IsTrue is → IsBack back) → IfOk r (λ is. IsTrue is → trace_of (front ++ back) ≡ Ok t → Frames front back t)
framed_so {E} (Ok b) front back t front_is cpus tokens messages behind = λ so read. frames front back t read front_is (behind so) cpus tokens messages
framed_so {E} (Err e) front back t front_is cpus tokens messages behind = tt

-- a trace that is kept only where it is framed
pub kept_so : (found : Option Trace) (t : Trace) (is : Bool) (front back : List ℕ) → IfSome found (λ kept. (kept ≡ t) × IsTrue is) → (IsTrue is → trace_of (front ++ back) ≡ Ok t → Frames front back t) → trace_of (front ++ back) ≡ Ok t → IfSome found (Frames front back)
kept_so None t is front back so framed_if read = tt
kept_so (Some kept) t is front back so framed_if read = subst (λ (u : Trace). Frames front back u) (sym so.0) (framed_if so.1 read)
