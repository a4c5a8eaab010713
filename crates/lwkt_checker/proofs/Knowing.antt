-- What a judge knows after a piece more, and at the end.
use Rattle.std.proofs.Common.{◌≡◌, ℕ, ◌+◌, ◌<◌, List, [], ◌∷◌, ◌++◌, length, get_or, take, Option, None, Some, Result, Ok, Err, false, true, refl, sym, ap, ◌∙◌, subst, arith}
use Rattle.std.specs.Prelude.{IfOk, IfErr}
use Rattle.std.specs.Option.{is_some as has_some}
use Rattle.std.proofs.lemmas.List.{length-append, take_more}
use Rattle.lwkt_base.specs.declared.faults.Fault.{Fault as Refusal}
use Rattle.lwkt_core.specs.declared.finals.Final.{Final}
use Rattle.lwkt_core.specs.Machine.{Machine}
use Rattle.lwkt_trace.specs.Recognised.{with_events}
use Rattle.lwkt_trace.specs.declared.traces.Closing.{Closing}
use Rattle.lwkt_trace.specs.declared.traces.Stated.{Stated}
use Rattle.lwkt_trace.specs.declared.traces.Trace.{Trace}
use Rattle.lwkt_checker.specs.Judgement.{AreValues, IsJudgedTrace, DeclinesTrace}
use Rattle.lwkt_checker.specs.Knows.{Knows}
use Rattle.lwkt_checker.specs.Stages.{IsStageOf, opening_alone, with_stated, with_last, closed_so}
use Rattle.lwkt_checker.specs.declared.judges.Finding.{Finding}
use Rattle.lwkt_checker.specs.declared.judges.Finding.TheVariants.{Lawful}
use Rattle.lwkt_checker.specs.declared.judges.Judge.{Judge}
use Rattle.lwkt_checker.specs.declared.stages.Stage.{Stage}
use Rattle.lwkt_checker.specs.declared.stages.Stage.TheVariants.{Plays}
use Rattle.lwkt_checker.proofs.Stops.{lawful}

-- all events could happen
pub plays_found : (trace : Trace) (s : Stage) (mid : Machine) → s ≡ Plays mid → IsStageOf trace s → IsJudgedTrace trace Lawful
plays_found trace s mid is so = lawful trace mid (subst (λ (x : Stage). IsStageOf trace x) is so)

-- no closing values have come
none_of : (o : Option Closing) → has_some o ≡ false → o ≡ None
none_of None h = refl
none_of (Some closing) h = absurd (cc)

pub none_yet : (trace : Trace) (judge : Judge) → judge.closed ≡ false → Knows trace judge → trace.last ≡ None
none_yet trace judge open_still knows = none_of trace.last (sym knows.closed ∙ open_still)

pub open_so : (trace : Trace) (judge : Judge) → trace.last ≡ None → Knows trace judge → judge.closed ≡ false
open_so trace judge none knows = knows.closed ∙ ap has_some none

-- an opening
pub opening_known : (opening : Trace) (s : Stage) → opening.events ≡ [] → opening.last ≡ None → IsStageOf opening s → Knows opening (record { count = 0; closed = false; stage = s })
opening_known opening s nothing none so = record { counted = sym (ap length nothing); closed = sym (ap has_some none); stage_is = so }

-- one event more
pub event_known : (trace : Trace) (x : Stated) (judge : Judge) (s : Stage) → judge.closed ≡ false → Knows trace judge → ((t : Trace) → t.last ≡ None → judge.count ≡ length t.events → IsStageOf t judge.stage → IsStageOf (with_stated t x) s)
    → Knows (with_stated trace x) (record { count = judge.count + 1; closed = false; stage = s })
event_known trace x judge s open_still knows more =
    let counted = knows.counted in
    record {
      counted = omega (arith, counted, length-append trace.events (x ∷ []));
      closed = sym open_still ∙ knows.closed;
      stage_is = more trace (none_yet trace judge open_still knows) knows.counted knows.stage_is;
    }

-- closing values
pub closing_known : (trace : Trace) (closing : Closing) (last : Final) (judge : Judge) (s : Stage) → judge.closed ≡ false → AreValues closing last → Knows trace judge
    → ((t : Trace) (c : Closing) → t.last ≡ None → judge.count ≡ length t.events → AreValues c last → IsStageOf t judge.stage → IsStageOf (with_last t c) s) → Knows (with_last trace closing) (record { count = judge.count; closed = true; stage = s })
closing_known trace closing last judge s open_still values knows more =
    record { counted = knows.counted; closed = refl; stage_is = more trace closing (none_yet trace judge open_still knows) knows.counted values knows.stage_is }

-- none
pub none_known : (trace : Trace) (last : Option Closing) (judge : Judge) → last ≡ None → judge.closed ≡ false → Knows trace judge → Knows (closed_so trace last) judge
none_known trace last judge none open_still knows = subst (λ (l : Option Closing). Knows (closed_so trace l) judge) (none_yet trace judge open_still knows ∙ sym none) knows

pub some_known : (trace : Trace) (last : Option Closing) (closing : Closing) (judge : Judge) → last ≡ Some closing → Knows (with_last trace closing) judge → Knows (closed_so trace last) judge
some_known trace last closing judge is knows = subst (λ (l : Option Closing). Knows (closed_so trace l) judge) (sym is) knows

-- what is found
pub found_known : (r : Result Finding Refusal) (judge : Judge) → IfOk r (λ finding. (trace : Trace) → IsStageOf trace judge.stage → IsJudgedTrace trace finding) → IfOk r (λ finding. (trace : Trace) → Knows trace judge → IsJudgedTrace trace finding)
found_known (Ok finding) judge found = λ (trace : Trace) (knows : Knows trace judge). found trace knows.stage_is
found_known (Err fault) judge found = tt

pub declined_known : (r : Result Finding Refusal) (judge : Judge) → IfErr r (λ fault. (trace : Trace) → IsStageOf trace judge.stage → DeclinesTrace trace fault) → IfErr r (λ fault. (trace : Trace) → Knows trace judge → DeclinesTrace trace fault)
declined_known (Ok finding) judge declined = tt
declined_known (Err fault) judge declined = λ (trace : Trace) (knows : Knows trace judge). declined trace knows.stage_is

pub found_at : (r : Result Finding Refusal) (trace : Trace) (judge : Judge) → Knows trace judge → IfOk r (λ finding. (t : Trace) → Knows t judge → IsJudgedTrace t finding) → IfOk r (λ finding. IsJudgedTrace trace finding)
found_at (Ok finding) trace judge knows found = found trace knows
found_at (Err fault) trace judge knows found = tt

pub declined_at : (r : Result Finding Refusal) (trace : Trace) (judge : Judge) → Knows trace judge → IfErr r (λ fault. (t : Trace) → Knows t judge → DeclinesTrace t fault) → IfErr r (λ fault. DeclinesTrace trace fault)
declined_at (Ok finding) trace judge knows declined = tt
declined_at (Err fault) trace judge knows declined = declined trace knows

-- an opening, as a trace without events
pub nothing_known : (opening : Trace) (judge : Judge) → opening.events ≡ [] → Knows opening judge → Knows (with_events opening []) judge
nothing_known opening judge nothing knows = subst (λ (es : List Stated). Knows (with_events opening es) judge) nothing knows

-- a loop's step: the next of the events was fed too
pub fed_more : (opening : Trace) (events : List Stated) (i : ℕ) (x : Stated) (judge after : Judge) → i < length events → x ≡ get_or events i x → Knows (with_events opening (take i events)) judge → ((t : Trace) → Knows t judge → Knows (with_stated t x) after)
    → Knows (with_events opening (take (i + 1) events)) after
fed_more opening events i x judge after inside is knows more =
    subst (λ (es : List Stated). Knows (with_events opening es) after) (ap (λ (y : Stated). take i events ++ y ∷ []) is ∙ sym (take_more events i x inside)) (more (with_events opening (take i events)) knows)

-- an opening with events, and the closing values, are the whole trace
pub whole_known : (trace opening : Trace) (events : List Stated) (last : Option Closing) (judge after : Judge) → opening ≡ opening_alone trace → events ≡ trace.events → last ≡ trace.last → Knows (with_events opening events) judge
    → ((t : Trace) → Knows t judge → Knows (closed_so t last) after) → Knows trace after
whole_known trace opening events last judge after is_opening are_events is_last knows closes =
    subst (λ (o : Trace). Knows (closed_so (with_events o trace.events) trace.last) after) is_opening
    (subst (λ (es : List Stated). Knows (closed_so (with_events opening es) trace.last) after) are_events
    (subst (λ (l : Option Closing). Knows (closed_so (with_events opening events) l) after) is_last (closes (with_events opening events) knows)))

-- where the closing values come, if memory suffices
pub closes_whole : {E : Type 0} (r : Result Judge E) (trace opening : Trace) (events : List Stated) (last : Option Closing) (judge : Judge) → opening ≡ opening_alone trace → events ≡ trace.events → last ≡ trace.last → Knows (with_events opening events) judge
    → IfOk r (λ after. (t : Trace) → Knows t judge → Knows (closed_so t last) after) → IfOk r (λ after. Knows trace after)
closes_whole (Ok after) trace opening events last judge is_opening are_events is_last knows closes = whole_known trace opening events last judge after is_opening are_events is_last knows closes
closes_whole (Err refused) trace opening events last judge is_opening are_events is_last knows closes = tt
