-- A list of events is read as these events.
use Rattle.std.proofs.Common.{◌≡◌, ℕ, ◌+◌, ◌≤◌, ◌<◌, List, [], ◌∷◌, ◌++◌, length, map, Result, Ok, sym, ap, ◌∙◌, arith, lt-ltb, append_assoc, append-nil, refl}
use Rattle.std.proofs.lemmas.List.{length-append}
use Rattle.lwkt_core.specs.declared.events.Event.{Event}
use Rattle.lwkt_script.specs.Outcome.{◌>>=◌, each}
use Rattle.lwkt_trace.specs.Format.{event}
use Rattle.lwkt_trace.specs.declared.traces.Stated.{Stated}
use Rattle.lwkt_trace.specs.Readback.{event_data, events_data, stated_alone, IsWritable, AreWritable, EventListsAreReadBack}
use Rattle.lwkt_trace.proofs.EventData.{events_read_back}

next_read : (before : List Stated) (e : Event) → IsWritable e → length before < 50000000 → event before (event_data e) ≡ Ok (stated_alone e)
next_read before e is room = rw (lt-ltb (length before) 50000000 room, events_read_back e is) refl

all_read : (before : List Stated) (es : List Event) → AreWritable es → length before + length es ≤ 50000000 → each event before (events_data es) ≡ Ok (before ++ map stated_alone es)
all_read before [] are room = ap (λ (ts : List Stated). Ok ts) (sym (append-nil before))
all_read before (e ∷ es) are room =
    let t : Stated = stated_alone e in
    let more : length (before ++ stated_alone e ∷ []) ≡ length before + 1 = length-append before (stated_alone e ∷ []) in
    ap (λ (r : Result Stated ℕ). r >>= λ x. each event (before ++ x ∷ []) (events_data es)) (next_read before e are.0 (omega (arith, room)))
    ∙ all_read (before ++ stated_alone e ∷ []) es are.1 (omega (arith, more, room)) ∙ ap (λ (ts : List Stated). Ok ts) (append_assoc before (stated_alone e ∷ []) (map stated_alone es))

pub lists_read_back : EventListsAreReadBack
lists_read_back es are room = all_read [] es are (omega (arith, room))
