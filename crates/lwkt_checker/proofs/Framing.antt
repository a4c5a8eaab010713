-- What a judge knows of the events of a text.
use Rattle.std.proofs.Common.{◌≡◌, ℕ, ◌+◌, ◌-◌, ◌<◌, ◌≤◌, List, [], ◌∷◌, ◌++◌, length, map, take, drop, Option, None, Some, Result, Ok, Err, false, refl, sym, ap, ◌∙◌, subst, arith}
use Rattle.std.specs.Prelude.{IfOk, IfSome}
use Rattle.std.proofs.lemmas.List.{take_all, take-append-drop, length-append, length-map, length-take-le, length-drop}
use Rattle.std.proofs.Math.Seq.{take-append-add}
use Rattle.lwkt_base.specs.declared.faults.Fault.{Fault as Refusal}
use Rattle.lwkt_core.specs.declared.events.Event.{Event}
use Rattle.lwkt_trace.specs.Format.{trace_of}
use Rattle.lwkt_trace.specs.Readback.{stated_alone}
use Rattle.lwkt_trace.specs.Recognised.{AreWritten, IsNextWritten, with_events}
use Rattle.lwkt_trace.specs.declared.traces.Closing.{Closing}
use Rattle.lwkt_trace.specs.declared.traces.Stated.{Stated}
use Rattle.lwkt_trace.specs.declared.traces.Trace.{Trace}
use Rattle.lwkt_trace.proofs.NextTexts.{none_written, written_more}
use Rattle.lwkt_checker.specs.Judgement.{DeclinesTrace, RefusesTrace}
use Rattle.lwkt_checker.specs.Knows.{Knows, KnowsWritten}
use Rattle.lwkt_checker.specs.Stages.{with_stated, opening_alone, closed_so}
use Rattle.lwkt_checker.specs.declared.judges.Judge.{Judge}
use Rattle.lwkt_checker.proofs.Knowing.{nothing_known, open_so, whole_known}
use Rattle.lwkt_checker.proofs.Stops.{refuses_declined}

-- a longer front of a text
front_more : (text : List ℕ) (from size : ℕ) → from ≤ length text → take (from + size) text ≡ take from text ++ take size (drop from text)
front_more text from size within =
    let long : length (take from text) ≡ from = length-take-le from text within in
    ap (take (from + size)) (sym (take-append-drop from text))
    ∙ ap (λ (n : ℕ). take (n + size) (take from text ++ drop from text)) (sym long) ∙ take-append-add (take from text) (drop from text) size

map_more : {A B : Type 0} (f : A → B) (xs : List A) (x : A) → map f (xs ++ x ∷ []) ≡ map f xs ++ f x ∷ []
map_more {A} {B} f [] x = refl
map_more {A} {B} f (y ∷ xs) x = ap (λ (l : List B). f y ∷ l) (map_more f xs x)

-- nothing is read yet
pub begins : (opening : Trace) (judge : Judge) (text : List ℕ) → opening.events ≡ [] → Knows opening judge → KnowsWritten opening (take 0 text) judge
begins opening judge text nothing knows = record { events = []; written = none_written; few = omega arith; knows = nothing_known opening judge nothing knows }

-- as many events were read as the judge knows
counted_so : (opening : Trace) (judge : Judge) (text : List ℕ) (so : KnowsWritten opening text judge) → judge.count ≡ length so.events
counted_so opening judge text so = so.knows.counted ∙ length-map so.events stated_alone

-- one event more
pub goes_on : (opening : Trace) (judge after : Judge) (text : List ℕ) (from size : ℕ) (e : Event) (x : Stated) → x ≡ stated_alone e → from ≤ length text → judge.count < 50000000 → KnowsWritten opening (take from text) judge → IsNextWritten (drop from text) judge.count e size
    → ((trace : Trace) → Knows trace judge → Knows (with_stated trace x) after) → KnowsWritten opening (take (from + size) text) after
goes_on opening judge after text from size e x stated within room so is more =
    let count : judge.count ≡ length so.events = counted_so opening judge (take from text) so in
    record {
      events = so.events ++ e ∷ [];
      written = subst (λ (t : List ℕ). AreWritten t (so.events ++ e ∷ [])) (sym (front_more text from size within)) (written_more (take from text) (drop from text) so.events e size judge.count so.written count is);
      few = omega (arith, count, room, length-append so.events (e ∷ []));
      knows =
          subst (λ (all : List Stated). Knows (with_events opening all) after) (ap (λ (y : Stated). map stated_alone so.events ++ y ∷ []) stated ∙ sym (map_more stated_alone so.events e))
          (more (with_events opening (map stated_alone so.events)) so.knows);
    }

-- it stays within the text
pub stays_within : (text : List ℕ) (from size number : ℕ) (e : Event) → from ≤ length text → IsNextWritten (drop from text) number e size → from + size ≤ length text
stays_within text from size number e within is = let inside = is.within in omega (arith, inside, length-drop from text)

-- the whole text was read, and the closing values came
pub ends_with : (trace opening : Trace) (last : Option Closing) (judge after : Judge) (text : List ℕ) → opening ≡ opening_alone trace → last ≡ trace.last → KnowsWritten opening text judge → ((t : Trace) → Knows t judge → Knows (closed_so t last) after)
    → KnowsWritten trace text after
ends_with trace opening last judge after text is_opening is_last so closes =
    let stated : List Stated = map stated_alone so.events in
    record { events = so.events; written = so.written; few = so.few; knows = whole_known (with_events trace stated) opening stated last judge after is_opening refl is_last so.knows closes }

-- an opening is refused
pub refuses : (bytes : List ℕ) (judge : Judge) (fault : Refusal) → (t : Trace) × ((trace_of bytes ≡ Ok t) × Knows t judge) → ((t : Trace) → Knows t judge → DeclinesTrace t fault) → RefusesTrace bytes fault
refuses bytes judge fault found declines = refuses_declined (trace_of bytes) found.0 fault found.1.0 (declines found.0 found.1.1)

-- the rest of a text, as it is sliced
rest_of : (text : List ℕ) (from : ℕ) → take (length text - from) (drop from text) ≡ drop from text
rest_of text from = let long = length-drop from text in take_all (length text - from) (drop from text) (omega (arith, long))

pub next_in_rest : (text : List ℕ) (from number size : ℕ) (e : Event) → IsNextWritten (take (length text - from) (drop from text)) number e size → IsNextWritten (drop from text) number e size
next_in_rest text from number size e is = subst (λ (t : List ℕ). IsNextWritten t number e size) (rest_of text from) is

-- what is said of what is there
pub at_some : {A : Type 0} (P : A → Type 0) (o : Option A) (x : A) → o ≡ Some x → IfSome o P → P x
at_some {A} P o x is h = subst (λ (p : Option A). IfSome p P) is h

-- the closing values of a judge that was fed an opening and a text haven't come
pub still_open : (found : Option Judge) (opening trace : Trace) (text : List ℕ) → opening ≡ opening_alone trace → IfSome found (KnowsWritten opening text) → IfSome found (λ j. j.closed ≡ false)
still_open None opening trace text is so = tt
still_open (Some judge) opening trace text is so = open_so (with_events opening (map stated_alone so.events)) judge (ap (λ (t : Trace). t.last) is) so.knows

-- the closing values came, if memory sufficed
pub closes_written : {E : Type 0} (r : Result (Option Judge) E) (judge : Option Judge) (trace opening : Trace) (last : Option Closing) (text : List ℕ) → opening ≡ opening_alone trace → last ≡ trace.last → IfSome judge (KnowsWritten opening text)
    → IfOk r (λ found. IfSome found (λ after. (before : Judge) × ((judge ≡ Some before) × ((t : Trace) → Knows t before → Knows (closed_so t last) after)))) → IfOk r (λ found. IfSome found (KnowsWritten trace text))
closes_written (Ok None) judge trace opening last text is_opening is_last so closes = tt
closes_written (Ok (Some after)) judge trace opening last text is_opening is_last so closes =
    ends_with trace opening last closes.0 after text is_opening is_last (at_some (KnowsWritten opening text) judge closes.0 closes.1.0 so) closes.1.1
closes_written (Err refused) judge trace opening last text is_opening is_last so closes = tt
