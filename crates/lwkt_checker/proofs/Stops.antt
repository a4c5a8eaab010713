-- Where a judge stands after an event more, or with the closing values.
use Rattle.std.proofs.Common.{◌≡◌, ◌<◌, ℕ, List, [], ◌∷◌, ◌++◌, length, get_or, take, Option, None, Some, Result, Ok, refl, ap, sym, ◌∙◌, subst, arith, length-append}
use Rattle.std.specs.Prelude.{slice_get, MatchOption, IfSome, String, string_bytes}
use Rattle.std.specs.Global.{Global}
use Rattle.std.proofs.Math.Seq.{take-append_seam, get_or-append_seam}
use Rattle.std.proofs.lemmas.List.{take-append-le, get_or_append_left}
use Rattle.std.proofs.lemmas.Option.{slice_get-get_or, slice_get_past, MatchOption-at_some}
use Rattle.lwkt_base.specs.declared.faults.Fault.{Fault as Refusal}
use Rattle.lwkt_base.specs.declared.faults.Fault.TheVariants.{Memory, Limits, LawBroken}
use Rattle.lwkt_core.specs.declared.events.Event.{Event}
use Rattle.lwkt_core.specs.declared.finals.Final.{Final}
use Rattle.lwkt_core.specs.Machine.{Machine, Needs, Happens, after}
use Rattle.lwkt_core.specs.Trace.{Run, Closes, StopsAt, FailsAt}
use Rattle.lwkt_core.proofs.TraceLemmas.{Run-push, StopsAt-event, FailsAt-stop, FailsAt-close}
use Rattle.lwkt_trace.specs.declared.traces.Closing.{Closing}
use Rattle.lwkt_trace.specs.declared.traces.Stated.{Stated}
use Rattle.lwkt_trace.specs.declared.traces.Trace.{Trace}
use Rattle.lwkt_checker.specs.Stated.{event_stated, events_stated}
use Rattle.lwkt_checker.specs.Said.{IsReason, IsDifference, IsDifferenceOf, SaysWhy}
use Rattle.lwkt_checker.specs.Judgement.{opening_of, AreValues, AreClosing, Finds, IsFound, OpensTrace, IsJudgedTrace, DeclinesTrace, RefusesRead}
use Rattle.lwkt_checker.specs.declared.judges.Finding.{Finding}
use Rattle.lwkt_checker.specs.declared.judges.Finding.TheVariants.{Lawful, Unlawful}
use Rattle.lwkt_checker.proofs.StatedRuns.{length-events_stated, ran_whole}
use Rattle.lwkt_checker.specs.Stages.{with_stated, with_last, ClosesSo, IsStageOf}
use Rattle.lwkt_checker.specs.declared.stages.Stage.{Stage}
use Rattle.lwkt_checker.specs.declared.stages.Stage.TheVariants.{Plays, Fails, Declined}

-- the events of one that is stated behind others are theirs and its own
events_stated-more : (m : Machine) (stated : List Stated) (x : Stated) (mid : Machine) → Run m (events_stated m stated) mid → events_stated m (stated ++ x ∷ []) ≡ events_stated m stated ++ event_stated mid x ∷ []
events_stated-more m [] x mid run = ap (λ (k : Machine). event_stated k x ∷ []) (sym run)
events_stated-more m (y ∷ ys) x mid run =
    let next = after m (event_stated m y) in
    ap (λ (es : List Event). event_stated m y ∷ es) (events_stated-more next ys x mid (subst (λ (k : Machine). Run k (events_stated next ys) mid) run.1.0.1 run.1.1))

-- the events of some that are stated begin with those of their front
events_stated-front : (m : Machine) (stated others : List Stated) → (more : List Event) × (events_stated m (stated ++ others) ≡ events_stated m stated ++ more)
events_stated-front m [] others = (events_stated m others, refl)
events_stated-front m (y ∷ ys) others =
    let rest = events_stated-front (after m (event_stated m y)) ys others in
    (rest.0, ap (λ (es : List Event). event_stated m y ∷ es) rest.1)

-- an event that can happen
pub run_more : (m : Machine) (stated : List Stated) (x : Stated) (mid n : Machine) → Run m (events_stated m stated) mid → Happens mid (event_stated mid x) n → Run m (events_stated m (stated ++ x ∷ [])) n
run_more m stated x mid n run step =
    subst (λ (es : List Event). Run m es n) (sym (events_stated-more m stated x mid run)) (Run-push m (events_stated m stated) mid (event_stated mid x) n run step)

-- the element at an index inside the front of a list
get_front : {A : Type 0} (xs ys : List A) (i : ℕ) (d : A) → i < length xs → slice_get (xs ++ ys) i ≡ slice_get xs i
get_front {A} xs ys i d inside =
    let wide : i < length (xs ++ ys) = omega (arith, inside, length-append xs ys) in
    slice_get-get_or (xs ++ ys) i d wide ∙ ap (λ (x : A). Some x) (get_or_append_left xs ys d i inside) ∙ sym (slice_get-get_or xs i d inside)

slice_get_front : {A : Type 0} (xs ys : List A) (i : ℕ) → i < length xs → slice_get (xs ++ ys) i ≡ slice_get xs i
slice_get_front [] ys i inside = absurd (omega arith)
slice_get_front (x ∷ xs) ys i inside = get_front (x ∷ xs) ys i x inside

some_inside : {A : Type 0} (xs : List A) (i : ℕ) → i < length xs → (x : A) × (slice_get xs i ≡ Some x)
some_inside [] i inside = absurd (omega arith)
some_inside (x ∷ xs) i inside = (get_or (x ∷ xs) i x, slice_get-get_or (x ∷ xs) i x inside)

-- the one behind the front
get_next : {A : Type 0} (xs : List A) (x : A) → slice_get (xs ++ x ∷ []) (length xs) ≡ Some x
get_next {A} xs x = slice_get-get_or (xs ++ x ∷ []) (length xs) x (omega (arith, length-append xs (x ∷ []))) ∙ ap (λ (y : A). Some y) (get_or-append_seam xs x [] x)

-- the events before one behind others are theirs
taken : (m : Machine) (stated : List Stated) (x : Stated) (mid : Machine) → Run m (events_stated m stated) mid → take (length stated) (events_stated m (stated ++ x ∷ [])) ≡ events_stated m stated
taken m stated x mid run =
    let es = events_stated m stated in
    ap (take (length stated)) (events_stated-more m stated x mid run) ∙ ap (λ (n : ℕ). take n (es ++ event_stated mid x ∷ [])) (sym (length-events_stated m stated)) ∙ take-append_seam es (event_stated mid x ∷ [])

stops_more : (m : Machine) (stated : List Stated) (x : Stated) (mid : Machine) → Run m (events_stated m stated) mid → (Needs mid (event_stated mid x) → ⊥) → StopsAt m (events_stated m (stated ++ x ∷ [])) (length stated) mid
stops_more m stated x mid run fails =
    let es = events_stated m stated in
    let e = event_stated mid x in
    let long : length (events_stated m (stated ++ x ∷ [])) ≡ length (stated ++ x ∷ []) = length-events_stated m (stated ++ x ∷ []) in
    let same : get_or (events_stated m (stated ++ x ∷ [])) (length stated) e ≡ e =
    ap (λ (fs : List Event). get_or fs (length stated) e) (events_stated-more m stated x mid run) ∙ ap (λ (n : ℕ). get_or (es ++ e ∷ []) n e) (sym (length-events_stated m stated)) ∙ get_or-append_seam es e [] e in
    StopsAt-event m (events_stated m (stated ++ x ∷ [])) (length stated) mid e (omega (arith, long, length-append stated (x ∷ []))) (subst (λ (fs : List Event). Run m fs mid) (sym (taken m stated x mid run)) run)
    (subst (λ (f : Event). Needs mid f → ⊥) (sym same) fails)

-- where events alone stop, and what is said of it
pub record Stopped (m : Machine) (stated : List Stated) (index : ℕ) (text : List ℕ) : Type 0 where
  pub mid : Machine
  pub stops : StopsAt m (events_stated m stated) index mid
  pub at : Machine
  pub ran : Run m (take index (events_stated m stated)) at
  pub stated_at : Stated
  pub is : slice_get stated index ≡ Some stated_at
  pub says : IsReason at index stated_at text

-- where closing values aren't given, none are compared
alone : (o : Option Closing) (last : Option Final) → o ≡ None → AreClosing o last → last ≡ None
alone o None is are = refl
alone o (Some last) is are = absurd (subst (λ (p : Option Closing). AreClosing p (Some last)) is are)

inside_stated : (m : Machine) (stated : List Stated) (index : ℕ) (mid : Machine) → StopsAt m (events_stated m stated) index mid → index < length stated
inside_stated m stated index mid stops =
    let inside = stops.inside in
    let long = length-events_stated m stated in
    omega arith

stopped_alone : (m : Machine) (stated : List Stated) (index : ℕ) (why : String Global) → Finds m (events_stated m stated) None (Unlawful index why) → SaysWhy m stated None (Unlawful index why) → Stopped m stated index (string_bytes why)
stopped_alone m stated index why finds says =
    let some = some_inside stated index (inside_stated m stated index finds.0 finds.1) in
    record {
      mid = finds.0;
      stops = finds.1;
      at = says.0;
      ran = says.1.0;
      stated_at = some.0;
      is = some.1;
      says = MatchOption-at_some (Unit {0}) (λ (t : Stated). IsReason says.0 index t (string_bytes why)) some.0 some.1 says.1.1;
    }

stopped_of : (trace : Trace) (index : ℕ) (why : String Global) → trace.last ≡ None → IsFound trace (Unlawful index why) → Stopped (opening_of trace) trace.events index (string_bytes why)
stopped_of trace index why open_still found =
    let m = opening_of trace in
    let none = alone trace.last found.0 open_still found.1.0 in
    stopped_alone m trace.events index why (subst (λ (o : Option Final). Finds m (events_stated m trace.events) o (Unlawful index why)) none found.1.1.0) (subst (λ (o : Option Final). SaysWhy m trace.events o (Unlawful index why)) none found.1.1.1)

-- what is said where there is an event
said_of : (m : Machine) (stated : List Stated) (index : ℕ) (text : List ℕ) (last : Option Final) (s : Stopped m stated index text) → MatchOption (slice_get stated index) (IsDifferenceOf s.at last text) (λ t. IsReason s.at index t text)
said_of m stated index text last s =
    subst (λ (o : Option Stated). MatchOption o (IsDifferenceOf s.at last text) (λ t. IsReason s.at index t text)) (sym s.is) s.says

-- so it is found of the events alone, and of them with closing values
found_alone : (trace : Trace) (index : ℕ) (why : String Global) → trace.last ≡ None → Stopped (opening_of trace) trace.events index (string_bytes why) → IsFound trace (Unlawful index why)
found_alone trace index why open_still s =
    (None, (subst (λ (o : Option Closing). AreClosing o None) (sym open_still) tt, ((s.mid, s.stops), (s.at, (s.ran, said_of (opening_of trace) trace.events index (string_bytes why) None s)))))

found_closed : (trace : Trace) (closing : Closing) (last : Final) (index : ℕ) (why : String Global) → AreValues closing last → Stopped (opening_of trace) trace.events index (string_bytes why) → IsFound (with_last trace closing) (Unlawful index why)
found_closed trace closing last index why values s =
    let m = opening_of trace in
    (Some last, (values, (FailsAt-stop m (events_stated m trace.events) last index s.mid s.stops, (s.at, (s.ran, said_of m trace.events index (string_bytes why) (Some last) s)))))

-- where events stop they do so too with others behind them
fails_front : (es more : List Event) (i : ℕ) (mid : Machine) → i < length es → IfSome (slice_get es i) (λ e. ¬ Needs mid e) → IfSome (slice_get (es ++ more) i) (λ e. ¬ Needs mid e)
fails_front es more i mid inside fails =
    subst (λ (o : Option Event). IfSome o (λ e. ¬ Needs mid e)) (sym (slice_get_front es more i inside)) fails

stops_front : (m : Machine) (es more : List Event) (i : ℕ) (mid : Machine) → StopsAt m es i mid → StopsAt m (es ++ more) i mid
stops_front m es more i mid stops = record {
  inside = (let inside = stops.inside in omega (arith, inside, length-append es more));
  before = subst (λ (fs : List Event). Run m fs mid) (sym (take-append-le i es more (let inside = stops.inside in omega arith))) stops.before;
  fails = fails_front es more i mid stops.inside stops.fails;
}

stopped_more : (m : Machine) (stated others : List Stated) (index : ℕ) (text : List ℕ) → Stopped m stated index text → Stopped m (stated ++ others) index text
stopped_more m stated others index text s =
    let es = events_stated m stated in
    let front = events_stated-front m stated others in
    let inside = s.stops.inside in
    record {
      mid = s.mid;
      stops = subst (λ (fs : List Event). StopsAt m fs index s.mid) (sym front.1) (stops_front m es front.0 index s.mid s.stops);
      at = s.at;
      ran = subst (λ (fs : List Event). Run m fs s.at) (sym (ap (take index) front.1 ∙ take-append-le index es front.0 (omega arith))) s.ran;
      stated_at = s.stated_at;
      is = slice_get_front stated others index (inside_stated m stated index s.mid s.stops) ∙ s.is;
      says = s.says;
    }

-- an opening keeps the limits and the laws, whatever events and closing values stand behind it
opens_with : (trace : Trace) (events : List Stated) (last : Option Closing) → OpensTrace trace → OpensTrace (record { cpus = trace.cpus; tokens = trace.tokens; messages = trace.messages; events = events; last = last })
opens_with trace events last opens = record { within = opens.within; lawful = opens.lawful }

judged_with : (trace : Trace) (events : List Stated) (last : Option Closing) (finding : Finding) → OpensTrace trace → IsFound (record { cpus = trace.cpus; tokens = trace.tokens; messages = trace.messages; events = events; last = last }) finding
    → IsJudgedTrace (record { cpus = trace.cpus; tokens = trace.tokens; messages = trace.messages; events = events; last = last }) finding
judged_with trace events last finding opens found = record { opens = opens_with trace events last opens; found = found }

-- where a judge stands with one event more: the event can happen
pub plays_more : (trace : Trace) (x : Stated) (mid n : Machine) → trace.last ≡ None → IsStageOf trace (Plays mid) → Happens mid (event_stated mid x) n → IsStageOf (with_stated trace x) (Plays n)
plays_more trace x mid n open_still so step =
    (opens_with trace (trace.events ++ x ∷ []) trace.last so.0, (run_more (opening_of trace) trace.events x mid n so.1.0 step, subst (λ (o : Option Closing). ClosesSo o n) (sym open_still) tt))

-- it can't
pub fails_more : (trace : Trace) (x : Stated) (mid : Machine) (index : ℕ) (why : String Global) → trace.last ≡ None → index ≡ length trace.events → IsStageOf trace (Plays mid) → (Needs mid (event_stated mid x) → ⊥) → IsReason mid index x (string_bytes why)
    → IsStageOf (with_stated trace x) (Fails index why)
fails_more trace x mid index why open_still counted so fails reason =
    let m = opening_of trace in
    let all = trace.events ++ x ∷ [] in
    let stops : StopsAt m (events_stated m all) index mid = subst (λ (n : ℕ). StopsAt m (events_stated m all) n mid) (sym counted) (stops_more m trace.events x mid so.1.0 fails) in
    let s : Stopped m all index (string_bytes why) = record { mid = mid; stops = stops; at = mid; ran = stops.before; stated_at = x; is = ap (slice_get all) counted ∙ get_next trace.events x; says = reason } in
    judged_with trace all trace.last (Unlawful index why) so.0 (found_alone (with_stated trace x) index why open_still s)

-- one before it couldn't
failed_more : (trace : Trace) (x : Stated) (index : ℕ) (why : String Global) → trace.last ≡ None → IsStageOf trace (Fails index why) → IsStageOf (with_stated trace x) (Fails index why)
failed_more trace x index why open_still judged =
    judged_with trace (trace.events ++ x ∷ []) trace.last (Unlawful index why) judged.opens
    (found_alone (with_stated trace x) index why open_still (stopped_more (opening_of trace) trace.events (x ∷ []) index (string_bytes why) (stopped_of trace index why open_still judged.found)))

-- no events are played any more
pub stays_more : (trace : Trace) (x : Stated) (s : Stage) → ((mid : Machine) → s ≡ Plays mid → ⊥) → trace.last ≡ None → IsStageOf trace s → IsStageOf (with_stated trace x) s
stays_more trace x (Plays mid) ended open_still so = absurd (ended mid refl)
stays_more trace x (Fails index why) ended open_still so = failed_more trace x index why open_still so
stays_more trace x (Declined (Memory why)) ended open_still so = tt
stays_more trace x (Declined Limits) ended open_still so = so
stays_more trace x (Declined LawBroken) ended open_still so = so
stays_more trace x (Declined _) ended open_still so = absurd so

-- where it stands with closing values: the machine closes so
pub plays_last : (trace : Trace) (closing : Closing) (last : Final) (mid : Machine) → AreValues closing last → IsStageOf trace (Plays mid) → Closes mid last → IsStageOf (with_last trace closing) (Plays mid)
plays_last trace closing last mid values so closes = (opens_with trace trace.events (Some closing) so.0, (so.1.0, (last, (values, closes))))

-- it doesn't
pub fails_last : (trace : Trace) (closing : Closing) (last : Final) (mid : Machine) (count : ℕ) (why : String Global) → count ≡ length trace.events → AreValues closing last → IsStageOf trace (Plays mid) → (Closes mid last → ⊥) → IsDifference mid last (string_bytes why)
    → IsStageOf (with_last trace closing) (Fails count why)
fails_last trace closing last mid count why counted values so differs difference =
    let m = opening_of trace in
    let es = events_stated m trace.events in
    let same : length es ≡ count = length-events_stated m trace.events ∙ sym counted in
    let none : slice_get trace.events count ≡ None = slice_get_past trace.events count (omega (arith, counted)) in
    let ran : Run m (take count es) mid = subst (λ (n : ℕ). Run m (take n es) mid) (sym counted) (ran_whole m trace.events mid so.1.0) in
    judged_with trace trace.events (Some closing) (Unlawful count why) so.0
    (Some last, (values, (subst (λ (n : ℕ). FailsAt m es last n) same (FailsAt-close m es last mid so.1.0 differs), (mid, (ran, subst (λ (o : Option Stated). MatchOption o (IsDifferenceOf mid (Some last) (string_bytes why)) (λ t. IsReason mid count t (string_bytes why))) (sym none) difference)))))

-- an event before them couldn't happen
failed_last : (trace : Trace) (closing : Closing) (last : Final) (index : ℕ) (why : String Global) → trace.last ≡ None → AreValues closing last → IsStageOf trace (Fails index why) → IsStageOf (with_last trace closing) (Fails index why)
failed_last trace closing last index why open_still values judged =
    judged_with trace trace.events (Some closing) (Unlawful index why) judged.opens (found_closed trace closing last index why values (stopped_of trace index why open_still judged.found))

-- no events are played any more
pub stays_last : (trace : Trace) (closing : Closing) (last : Final) (s : Stage) → ((mid : Machine) → s ≡ Plays mid → ⊥) → trace.last ≡ None → AreValues closing last → IsStageOf trace s → IsStageOf (with_last trace closing) s
stays_last trace closing last (Plays mid) ended open_still values so = absurd (ended mid refl)
stays_last trace closing last (Fails index why) ended open_still values so = failed_last trace closing last index why open_still values so
stays_last trace closing last (Declined (Memory why)) ended open_still values so = tt
stays_last trace closing last (Declined Limits) ended open_still values so = so
stays_last trace closing last (Declined LawBroken) ended open_still values so = so
stays_last trace closing last (Declined _) ended open_still values so = absurd so

-- all events could happen, and the machine closes as the closing values say, where they are given
lawful_so : (trace : Trace) (o : Option Closing) (mid : Machine) → trace.last ≡ o → Run (opening_of trace) (events_stated (opening_of trace) trace.events) mid → ClosesSo o mid → IsFound trace Lawful
lawful_so trace None mid is run so = (None, (subst (λ (o : Option Closing). AreClosing o None) (sym is) tt, ((mid, run), tt)))
lawful_so trace (Some closing) mid is run so = (Some so.0, (subst (λ (o : Option Closing). AreClosing o (Some so.0)) (sym is) so.1.0, ((mid, (run, so.1.1)), tt)))

pub lawful : (trace : Trace) (mid : Machine) → IsStageOf trace (Plays mid) → IsJudgedTrace trace Lawful
lawful trace mid so = record { opens = so.0; found = lawful_so trace trace.last mid refl so.1.0 so.1.1 }

-- a trace whose opening is refused is refused
pub refuses_declined : (read : Result Trace ℕ) (trace : Trace) (fault : Refusal) → read ≡ Ok trace → DeclinesTrace trace fault → RefusesRead read fault
refuses_declined read trace (Memory why) is declines = tt
refuses_declined read trace Limits is declines = (trace, (is, declines))
refuses_declined read trace LawBroken is declines = (trace, (is, declines))
refuses_declined read trace _ is declines = absurd declines
