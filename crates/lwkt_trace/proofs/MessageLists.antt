-- Messages and where they are at the close are read as they are written.
use Rattle.std.proofs.Common.{◌≡◌, ℕ, ◌+◌, ◌-◌, ◌≤◌, ◌<◌, List, [], ◌∷◌, ◌++◌, length, Result, Ok, Some, refl, sym, ap, ◌∙◌, arith, le-leb, lt-ltb, append_assoc, append-nil}
use Rattle.std.proofs.lemmas.List.{length-append}
use Rattle.lwkt_base.specs.declared.opening_specs.MsgSpec.{MsgSpec}
use Rattle.lwkt_base.specs.declared.owners.Owner.{Owner}
use Rattle.lwkt_base.specs.declared.owners.Owner.TheVariants.{Rest, Out, With, Back}
use Rattle.lwkt_base.specs.declared.owners.MsgEnd.{MsgEnd}
use Rattle.lwkt_script.specs.Format.{message_at}
use Rattle.lwkt_script.specs.Limits.{IsMessage}
use Rattle.lwkt_script.specs.Member.{thread_of}
use Rattle.lwkt_script.specs.Outcome.{◌>>=◌, each}
use Rattle.lwkt_trace.specs.Format.{end, message_behind}
use Rattle.lwkt_trace.specs.Words.{message_end_of}
use Rattle.lwkt_trace.specs.Readback.{end_data, IsWritablePlace, ends_data, AreWritableEnds, EndsAreReadBack, message_data, messages_data, AreMessages, MessagesAreReadBack}

end_is : (o : Owner) (round : ℕ) → IsWritablePlace o → message_end_of (end_data o round) ≡ Some (record { round = round; state = o })
end_is (Rest origin) round h = rw (le-leb 0 origin.0 (omega arith), le-leb origin.0 255 h) refl
end_is (Out origin target) round h = rw (le-leb 0 origin.0 (omega arith), le-leb origin.0 255 h.0, le-leb 0 target.0 (omega arith), le-leb target.0 255 h.1) refl
end_is (With origin target) round h = rw (le-leb 0 origin.0 (omega arith), le-leb origin.0 255 h.0, le-leb 0 target.0 (omega arith), le-leb target.0 255 h.1) refl
end_is (Back origin target) round h = rw (le-leb 0 origin.0 (omega arith), le-leb origin.0 255 h.0, le-leb 0 target.0 (omega arith), le-leb target.0 255 h.1) refl

next_end : (before : List MsgEnd) (e : MsgEnd) → IsWritablePlace e.state → length before < 64 → end before (end_data e.state e.round) ≡ Ok e
next_end before e is room = rw (lt-ltb (length before) 64 room, end_is e.state e.round is) refl

all_ends : (before es : List MsgEnd) → AreWritableEnds es → length before + length es ≤ 64 → each end before (ends_data es) ≡ Ok (before ++ es)
all_ends before [] are room = ap (λ (l : List MsgEnd). Ok l) (sym (append-nil before))
all_ends before (e ∷ es) are room =
    let more : length (before ++ e ∷ []) ≡ length before + 1 = length-append before (e ∷ []) in
    ap (λ (r : Result MsgEnd ℕ). r >>= λ x. each end (before ++ x ∷ []) (ends_data es)) (next_end before e are.0 (omega (arith, room)))
    ∙ all_ends (before ++ e ∷ []) es are.1 (omega (arith, more, room)) ∙ ap (λ (l : List MsgEnd). Ok l) (append_assoc before (e ∷ []) es)

pub ends_read_back : EndsAreReadBack
ends_read_back es are room = all_ends [] es are (omega (arith, room))

message_is : (cpus place : ℕ) (m : MsgSpec) → IsMessage cpus m → message_at cpus place (message_data m) ≡ Ok m
unfolding message_at thread_of
message_is cpus place m is =
    let cpu : m.origin.cpu.0 ≤ cpus - 1 = (let c = is.origin.cpu in omega (arith, c)) in
    rw (le-leb 0 m.origin.cpu.0 (omega arith), le-leb m.origin.cpu.0 (cpus - 1) cpu, le-leb 0 m.origin.thread (omega arith), le-leb m.origin.thread 15 is.origin.thread, le-leb 0 m.round (omega arith), le-leb m.round 2251799813685247 is.round) refl

next_message : (cpus : ℕ) (before : List MsgSpec) (m : MsgSpec) → IsMessage cpus m → length before < 64 → message_behind cpus before (message_data m) ≡ Ok m
next_message cpus before m is room = rw (lt-ltb (length before) 64 room, message_is cpus (2000 + length before) m is) refl

all_messages : (cpus : ℕ) (before ms : List MsgSpec) → AreMessages cpus ms → length before + length ms ≤ 64 → each (message_behind cpus) before (messages_data ms) ≡ Ok (before ++ ms)
all_messages cpus before [] are room = ap (λ (l : List MsgSpec). Ok l) (sym (append-nil before))
all_messages cpus before (m ∷ ms) are room =
    let more : length (before ++ m ∷ []) ≡ length before + 1 = length-append before (m ∷ []) in
    ap (λ (r : Result MsgSpec ℕ). r >>= λ x. each (message_behind cpus) (before ++ x ∷ []) (messages_data ms)) (next_message cpus before m are.0 (omega (arith, room)))
    ∙ all_messages cpus (before ++ m ∷ []) ms are.1 (omega (arith, more, room)) ∙ ap (λ (l : List MsgSpec). Ok l) (append_assoc before (m ∷ []) ms)

pub messages_read_back : MessagesAreReadBack
messages_read_back cpus ms are room = all_messages cpus [] ms are (omega (arith, room))
