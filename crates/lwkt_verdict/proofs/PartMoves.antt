use Rattle.std.proofs.Common.{zero, suc, ◌≡◌, ℕ, ◌+◌, ◌-◌, ◌<◌, ◌≤◌, List, [], ◌∷◌, length, drop, take, get_or, refl, sym, ap, ◌∙◌, subst, arith, length-drop}
use Rattle.std.specs.Prelude.{◌↔◌, IsTrue, Bool, true, false, if◌then◌else◌}
use Rattle.std.proofs.lemmas.Bool.{false≢true, le-ltb}
use Rattle.std.proofs.lemmas.List.{drop_more, take_all}
use Rattle.lwkt_base.specs.declared.asks.Ask.{Ask}
use Rattle.lwkt_base.specs.declared.asks.Ask.TheVariants.{Get, GetShared, TryGet, Rel, Swap, Read as ReadAsk, Write as WriteAsk, Add as AddAsk, ReadBlob as ReadBlobAsk, WriteBlob as WriteBlobAsk, Send as SendAsk, Do as DoAsk, Reply as ReplyAsk, Abort as AbortAsk, IsAborted, DropMsg as DropAsk, GetPort, WaitPort, Yield, Exit, Fail}
use Rattle.lwkt_core.specs.declared.events.Event.{Event}
use Rattle.lwkt_core.specs.declared.events.Event.TheVariants.{Load, Take, Share, Again, Mark, GiveOne, GiveClean, GiveWritten, Read, Write, ReadBlob, WriteBlob, Send, TakeMsg, DropMsg, Reply, Reap, Abort}
use Rattle.lwkt_core.specs.Machine.{Machine, Needs, after}
use Rattle.lwkt_verdict.specs.Asks.{makes_event}
use Rattle.lwkt_verdict.specs.Owns.{IsQuiet, is_send, first_send, own_place, has_blocked}
use Rattle.lwkt_verdict.specs.TurnParts.{after_all, GoesQuietly}

-- after a quiet event the rest decides
pub quiet_on : (m n : Machine) (P : Type 0) (events : List Event) (i : ℕ) (d : Event) → i < length events → Needs m (get_or events i d) × IsQuiet m (get_or events i d) → n ≡ after m (get_or events i d) → P ↔ GoesQuietly m (drop i events) → P ↔ GoesQuietly n (drop (i + 1) events)
quiet_on m n P events i d inside fits next so_far =
    let here : P ↔ GoesQuietly m (get_or events i d ∷ drop (i + 1) events) = subst (λ (es : List Event). P ↔ GoesQuietly m es) (drop_more events i d inside) so_far in
    let from : P → GoesQuietly n (drop (i + 1) events) = λ p. subst (λ (k : Machine). GoesQuietly k (drop (i + 1) events)) (sym next) (here.0 p).1.1 in
    let to : GoesQuietly n (drop (i + 1) events) → P = λ q. here.1 (fits.0, (fits.1, subst (λ (k : Machine). GoesQuietly k (drop (i + 1) events)) next q)) in
    (from, to)

-- what the rest leaves of a machine, after an event
pub after_on : (m n end : Machine) (events : List Event) (i : ℕ) (d : Event) → i < length events → n ≡ after m (get_or events i d) → end ≡ after_all m (drop i events) → end ≡ after_all n (drop (i + 1) events)
after_on m n end events i d inside next so_far =
    so_far ∙ ap (λ (es : List Event). after_all m es) (drop_more events i d inside) ∙ ap (λ (k : Machine). after_all k (drop (i + 1) events)) (sym next)

-- an event that can't happen or may not happen unasked refutes the rest
pub quiet_stops : (m : Machine) (P : Type 0) (events : List Event) (i : ℕ) (d : Event) → i < length events → (Needs m (get_or events i d) × IsQuiet m (get_or events i d) → ⊥) → P ↔ GoesQuietly m (drop i events) → P → ⊥
quiet_stops m P events i d inside unfit so_far p =
    let here : GoesQuietly m (get_or events i d ∷ drop (i + 1) events) = subst (λ (es : List Event). GoesQuietly m es) (drop_more events i d inside) (so_far.0 p) in
    unfit (here.0, here.1.0)

-- what is refuted is decided by false
pub never : {P : Type 0} → (P → ⊥) → IsTrue false ↔ P
never refuted = ((λ f. absurd (false≢true f)), (λ p. absurd (refuted p)))

-- what a part leaves is what the rest leaves after its front
pub after_cut : (m : Machine) (events : List Event) (i : ℕ) → after_all m events ≡ after_all (after_all m (take i events)) (drop i events)
after_cut m [] zero = refl
after_cut m [] (suc i) = refl
after_cut m (e ∷ es) zero = refl
after_cut m (e ∷ es) (suc i) = after_cut (after m e) es i

-- a send doesn't happen unasked
send_loud : (m : Machine) (e : Event) → is_send e ≡ true → IsQuiet m e → ⊥
send_loud m (Load cpu t) is quiet = false≢true is
send_loud m (Take cpu t) is quiet = false≢true is
send_loud m (Share cpu t) is quiet = false≢true is
send_loud m (Again cpu t) is quiet = false≢true is
send_loud m (Mark cpu t) is quiet = false≢true is
send_loud m (GiveOne cpu t) is quiet = false≢true is
send_loud m (GiveClean cpu t) is quiet = false≢true is
send_loud m (GiveWritten cpu t section) is quiet = false≢true is
send_loud m (Read cpu t c value) is quiet = false≢true is
send_loud m (Write cpu t c value) is quiet = false≢true is
send_loud m (ReadBlob cpu t blob) is quiet = false≢true is
send_loud m (WriteBlob cpu t blob) is quiet = false≢true is
send_loud m (Send cpu msg to round) is quiet = quiet
send_loud m (TakeMsg cpu msg round) is quiet = false≢true is
send_loud m (DropMsg cpu msg) is quiet = false≢true is
send_loud m (Reply cpu msg) is quiet = false≢true is
send_loud m (Reap cpu msg) is quiet = false≢true is
send_loud m (Abort cpu msg) is quiet = false≢true is

-- what may happen unasked from the first send on has none
no_send : (m : Machine) (es : List Event) → GoesQuietly m (drop (first_send es) es) → length es ≤ first_send es
no_send m [] quiet = omega arith
no_send m (e ∷ es) quiet = go (is_send e) refl (no_send m es)
  where
    go : (b : Bool) → is_send e ≡ b → (GoesQuietly m (drop (first_send es) es) → length es ≤ first_send es) → length (e ∷ es) ≤ first_send (e ∷ es)
    go true is rest =
        let n : first_send (e ∷ es) ≡ 0 = ap (λ b. if b then 0 else (first_send es + 1)) is in
        let all : GoesQuietly m (e ∷ es) = subst (λ k. GoesQuietly m (drop k (e ∷ es))) n quiet in
        absurd (send_loud m e is all.1.0)
    go false is rest =
        let up : first_send es + 1 ≡ suc (first_send es) = omega arith in
        let n : first_send (e ∷ es) ≡ suc (first_send es) = ap (λ b. if b then 0 else (first_send es + 1)) is ∙ up in
        let less : GoesQuietly m (drop (first_send es) es) = subst (λ k. GoesQuietly m (drop k (e ∷ es))) n quiet in
        let so_far = rest less in
        let long : length (e ∷ es) ≡ length es + 1 = omega arith in
        omega (arith, n, so_far, long)

-- an ask that makes an event, where only what may happen unasked is left from its place on, hasn't blocked
pub is_unblocked : (m : Machine) (ask : Ask) (part : List Event) → makes_event ask ≡ true → GoesQuietly m (drop (own_place ask part) part) → has_blocked ask part ≡ false
is_unblocked m (Get tok) part makes quiet = absurd (false≢true makes)
is_unblocked m (GetShared tok) part makes quiet = absurd (false≢true makes)
is_unblocked m (TryGet tok) part makes quiet = absurd (false≢true makes)
is_unblocked m (Rel tok) part makes quiet = absurd (false≢true makes)
is_unblocked m Swap part makes quiet = absurd (false≢true makes)
is_unblocked m (ReadAsk tok cell) part makes quiet = refl
is_unblocked m (WriteAsk tok cell v) part makes quiet = refl
is_unblocked m (AddAsk tok more) part makes quiet = refl
is_unblocked m (ReadBlobAsk tok) part makes quiet = refl
is_unblocked m (WriteBlobAsk tok b) part makes quiet = refl
is_unblocked m (SendAsk m2 to call flags) part makes quiet = refl
is_unblocked m (DoAsk m2 to call) part makes quiet = le-ltb (first_send part) (length part) (no_send m part quiet)
is_unblocked m (ReplyAsk m2 error outcome) part makes quiet = refl
is_unblocked m (AbortAsk m2) part makes quiet = refl
is_unblocked m (IsAborted m2) part makes quiet = absurd (false≢true makes)
is_unblocked m (DropAsk m2) part makes quiet = refl
is_unblocked m GetPort part makes quiet = absurd (false≢true makes)
is_unblocked m WaitPort part makes quiet = absurd (false≢true makes)
is_unblocked m Yield part makes quiet = absurd (false≢true makes)
is_unblocked m Exit part makes quiet = absurd (false≢true makes)
is_unblocked m (Fail number) part makes quiet = absurd (false≢true makes)

-- the front and the back of a part, as they are cut
pub cut_back : (part : List Event) (place : ℕ) → take (length part - place) (drop place part) ≡ drop place part
cut_back part place =
    let short : length (drop place part) ≤ length part - place = simp length-drop (omega arith) in
    take_all (length part - place) (drop place part) short
