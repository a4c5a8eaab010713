-- Events that are kept short stand for the same, whatever sections, wide events and long events come behind.
use Rattle.std.proofs.Common.{zero, suc, ◌≡◌, ◌∙◌, ℕ, ◌<◌, ◌≤◌, ◌+◌, ◌-◌, List, [], ◌∷◌, ◌++◌, length, take, drop, get_or, refl, sym, ap, arith, length-append}
use Rattle.std.specs.Prelude.{slice_get, Option, Some, option_map}
use Rattle.std.specs.Option.{option_map_or}
use Rattle.std.specs.List.{All}
use Rattle.std.proofs.lemmas.List.{map-append, length-map, length-drop, take_more, get_or-drop, get_or-map}
use Rattle.std.proofs.lemmas.List.Elements.{All-weaker}
use Rattle.std.proofs.lemmas.Option.{slice_get-map, slice_get-get_or}
use Rattle.lwkt_core.specs.declared.events.Event.{Event}
use Rattle.lwkt_core.specs.declared.events.Event.TheVariants.{Load}
use Rattle.lwkt_drive.specs.declared.short_events.CellSection.{CellSection}
use Rattle.lwkt_drive.specs.declared.short_events.ShortEvent.{ShortEvent}
use Rattle.lwkt_drive.specs.declared.short_events.ShortEvent.TheVariants.{Load as ShortLoad, Take as ShortTake, Share as ShortShare, Again as ShortAgain, Mark as ShortMark, GiveOne as ShortGiveOne, GiveClean as ShortGiveClean, GaveCell, Read as ShortRead, Write as ShortWrite, Send as ShortSend, TakeMsg as ShortTakeMsg, DropMsg as ShortDropMsg, Reply as ShortReply, Reap as ShortReap, Abort as ShortAbort, Wide as WideAt, Long as LongAt}
use Rattle.lwkt_drive.specs.declared.wide_events.WideEvent.{WideEvent}
use Rattle.lwkt_drive.specs.declared.gives.Give.{Give}
use Rattle.lwkt_drive.specs.Gives.{give_of}
use Rattle.lwkt_drive.specs.ShortEvents.{GrowsBehind}
use Rattle.lwkt_drive.specs.ShortEvents.{gave_cell, wide_event, no_event, long_event, IsEventIn, events_in}

-- an element of a list is there still, where more come behind
get_left : {A : Type 0} (xs ys : List A) (k : ℕ) → k < length xs → slice_get (xs ++ ys) k ≡ slice_get xs k
get_left [] ys k less = absurd (omega (arith, less))
get_left (x ∷ xs) ys zero less = refl
get_left (x ∷ xs) ys (suc k) less = get_left xs ys k (omega (arith, less))

-- an event, where more sections, wide events and long events come behind
event_longer : (cells more : List CellSection) (wides wider : List WideEvent) (longs others : List Event) (short : ShortEvent) → IsEventIn (length cells) (length wides) (length longs) short → long_event (cells ++ more) (wides ++ wider) (longs ++ others) short ≡ long_event cells wides longs short
event_longer cells more wides wider longs others (ShortLoad cpu tok) inside = refl
event_longer cells more wides wider longs others (ShortTake cpu tok) inside = refl
event_longer cells more wides wider longs others (ShortShare cpu tok) inside = refl
event_longer cells more wides wider longs others (ShortAgain cpu tok) inside = refl
event_longer cells more wides wider longs others (ShortMark cpu tok) inside = refl
event_longer cells more wides wider longs others (ShortGiveOne cpu tok) inside = refl
event_longer cells more wides wider longs others (ShortGiveClean cpu tok) inside = refl
event_longer cells more wides wider longs others (GaveCell cpu tok place) inside =
    ap (λ (o : Option CellSection). option_map_or (gave_cell cpu tok) o (Load cpu tok)) (get_left cells more place inside)
event_longer cells more wides wider longs others (ShortRead cpu tok cell value) inside = refl
event_longer cells more wides wider longs others (ShortWrite cpu tok cell value) inside = refl
event_longer cells more wides wider longs others (ShortSend cpu msg to round) inside = refl
event_longer cells more wides wider longs others (ShortTakeMsg cpu msg round) inside = refl
event_longer cells more wides wider longs others (ShortDropMsg cpu msg) inside = refl
event_longer cells more wides wider longs others (ShortReply cpu msg) inside = refl
event_longer cells more wides wider longs others (ShortReap cpu msg) inside = refl
event_longer cells more wides wider longs others (ShortAbort cpu msg) inside = refl
event_longer cells more wides wider longs others (WideAt place) inside =
    ap (λ (o : Option WideEvent). option_map_or wide_event o no_event) (get_left wides wider place inside)
event_longer cells more wides wider longs others (LongAt place) inside =
    ap (λ (o : Option Event). option_map_or (λ e. e) o no_event) (get_left longs others place inside)

event_stays : (few many thin wide less most : ℕ) (short : ShortEvent) → few ≤ many → thin ≤ wide → less ≤ most → IsEventIn few thin less short → IsEventIn many wide most short
event_stays few many thin wide less most (ShortLoad cpu tok) one two three inside = tt
event_stays few many thin wide less most (ShortTake cpu tok) one two three inside = tt
event_stays few many thin wide less most (ShortShare cpu tok) one two three inside = tt
event_stays few many thin wide less most (ShortAgain cpu tok) one two three inside = tt
event_stays few many thin wide less most (ShortMark cpu tok) one two three inside = tt
event_stays few many thin wide less most (ShortGiveOne cpu tok) one two three inside = tt
event_stays few many thin wide less most (ShortGiveClean cpu tok) one two three inside = tt
event_stays few many thin wide less most (GaveCell cpu tok place) one two three inside = omega arith
event_stays few many thin wide less most (ShortRead cpu tok cell value) one two three inside = tt
event_stays few many thin wide less most (ShortWrite cpu tok cell value) one two three inside = tt
event_stays few many thin wide less most (ShortSend cpu msg to round) one two three inside = tt
event_stays few many thin wide less most (ShortTakeMsg cpu msg round) one two three inside = tt
event_stays few many thin wide less most (ShortDropMsg cpu msg) one two three inside = tt
event_stays few many thin wide less most (ShortReply cpu msg) one two three inside = tt
event_stays few many thin wide less most (ShortReap cpu msg) one two three inside = tt
event_stays few many thin wide less most (ShortAbort cpu msg) one two three inside = tt
event_stays few many thin wide less most (WideAt place) one two three inside = omega arith
event_stays few many thin wide less most (LongAt place) one two three inside = omega arith

grown_long : {A : Type 0} (xs ys : List A) → GrowsBehind xs ys → length xs ≤ length ys
grown_long xs ys grows =
    let e : length ys ≡ length xs + length grows.more = ap length grows.is ∙ length-append xs grows.more in
    omega arith

events_longer : (cells more : List CellSection) (wides wider : List WideEvent) (longs others : List Event) (rows : List ShortEvent) → All (IsEventIn (length cells) (length wides) (length longs)) rows → events_in (cells ++ more) (wides ++ wider) (longs ++ others) rows ≡ events_in cells wides longs rows
events_longer cells more wides wider longs others [] all = refl
events_longer cells more wides wider longs others (row ∷ rows) all =
    ap (λ (e : Event). e ∷ events_in (cells ++ more) (wides ++ wider) (longs ++ others) rows) (event_longer cells more wides wider longs others row (all 0 row (omega arith))) ∙ ap (λ (es : List Event). long_event cells wides longs row ∷ es) (events_longer cells more wides wider longs others rows (λ k d inside. all (suc k) d (omega arith)))

-- lists that have grown
pub events_grown : (cells cells' : List CellSection) (wides wides' : List WideEvent) (longs longs' : List Event) (rows : List ShortEvent) → GrowsBehind cells cells' → GrowsBehind wides wides' → GrowsBehind longs longs' → All (IsEventIn (length cells) (length wides) (length longs)) rows → events_in cells' wides' longs' rows ≡ events_in cells wides longs rows
events_grown cells cells' wides wides' longs longs' rows one two three all =
    ap (λ (xs : List CellSection). events_in xs wides' longs' rows) one.is ∙ ap (λ (ws : List WideEvent). events_in (cells ++ one.more) ws longs' rows) two.is ∙ ap (λ (ys : List Event). events_in (cells ++ one.more) (wides ++ two.more) ys rows) three.is ∙ events_longer cells one.more wides two.more longs three.more rows all

pub inside_grown : (cells cells' : List CellSection) (wides wides' : List WideEvent) (longs longs' : List Event) (rows : List ShortEvent) → GrowsBehind cells cells' → GrowsBehind wides wides' → GrowsBehind longs longs' → All (IsEventIn (length cells) (length wides) (length longs)) rows → All (IsEventIn (length cells') (length wides') (length longs')) rows
inside_grown cells cells' wides wides' longs longs' rows one two three all =
    All-weaker (IsEventIn (length cells) (length wides) (length longs)) (IsEventIn (length cells') (length wides') (length longs')) (λ row is. event_stays (length cells) (length cells') (length wides) (length wides') (length longs) (length longs') row (grown_long cells cells' one) (grown_long wides wides' two) (grown_long longs longs' three) is) rows all

-- one event more
pub events_pushed : (cells : List CellSection) (wides : List WideEvent) (longs : List Event) (rows new : List ShortEvent) (row : ShortEvent) (es : List Event) (e : Event) → new ≡ rows ++ row ∷ [] → events_in cells wides longs rows ≡ es → long_event cells wides longs row ≡ e → events_in cells wides longs new ≡ es ++ e ∷ []
events_pushed cells wides longs rows new row es e is before one =
    ap (events_in cells wides longs) is ∙ map-append (long_event cells wides longs) rows (row ∷ []) ∙ ap (λ (xs : List Event). xs ++ long_event cells wides longs row ∷ []) before ∙ ap (λ (x : Event). es ++ x ∷ []) one

-- a short event that needs no list is in any
pub anywhere : (cells wides longs : ℕ) (short : ShortEvent) → IsEventIn 0 0 0 short → IsEventIn cells wides longs short
anywhere cells wides longs short inside = event_stays 0 cells 0 wides 0 longs short (omega arith) (omega arith) (omega arith) inside

-- one more of those that are copied
pub copied_more : (cells : List CellSection) (wides : List WideEvent) (longs : List Event) (rows : List ShortEvent) (es : List Event) (first i : ℕ) (d : ShortEvent) (room new : List Event) (e : Event) → events_in cells wides longs rows ≡ es → first + i < length rows → room ≡ take i (drop first es) → e ≡ long_event cells wides longs (get_or rows (first + i) d) → new ≡ room ++ e ∷ [] → new ≡ take (i + 1) (drop first es)
copied_more cells wides longs rows es first i d room new e view within so_far is pushed =
    let long : length es ≡ length rows = sym (ap length view) ∙ length-map rows (long_event cells wides longs) in
    let rest : length (drop first es) ≡ length es - first = length-drop first es in
    let inside : i < length (drop first es) = omega (arith, long, rest, within) in
    let here : get_or (drop first es) i e ≡ e =
    get_or-drop first es i e ∙ ap (λ (xs : List Event). get_or xs (first + i) e) (sym view) ∙ get_or-map (long_event cells wides longs) rows (first + i) d e within ∙ sym is in
    pushed ∙ ap (λ (xs : List Event). xs ++ e ∷ []) so_far ∙ ap (λ (x : Event). take i (drop first es) ++ x ∷ []) (sym here) ∙ sym (take_more (drop first es) i e inside)

-- what holds of one holds of each of a list of it alone
pub all_one : {A : Type 0} (P : A → Type 0) (x : A) → P x → All P (x ∷ [])
all_one P x p zero d inside = p
all_one P x p (suc k) d inside = absurd (omega arith)

-- the written give at a place
pub give_at : (cells : List CellSection) (wides : List WideEvent) (longs : List Event) (rows : List ShortEvent) (es : List Event) (place : ℕ) (d : ShortEvent) (give : Option Give) → events_in cells wides longs rows ≡ es → place < length rows → give ≡ give_of (long_event cells wides longs (get_or rows place d)) → option_map give_of (slice_get es place) ≡ Some give
give_at cells wides longs rows es place d give view within is =
    ap (λ (xs : List Event). option_map give_of (slice_get xs place)) (sym view) ∙ ap (option_map give_of) (slice_get-map (long_event cells wides longs) rows place ∙ ap (option_map (long_event cells wides longs)) (slice_get-get_or rows place d within)) ∙ ap Some (sym is)
