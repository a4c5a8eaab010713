-- What a judge knows after a line.
use Rattle.std.proofs.Common.{◌≡◌, ◌<◌, ℕ, List, length, Bool, true, false, Option, None, Some, Result, Ok, Err, refl, ap, sym, ◌∙◌, subst, lt-ltb}
use Rattle.std.specs.Prelude.{nat_lt, IfOk, IfErr, MatchOption}
use Rattle.std.specs.Option.{is_some as has_some}
use Rattle.serde_json.specs.Data.{Data}
use Rattle.serde_json.specs.Find.{as_object}
use Rattle.lwkt_base.specs.declared.faults.Fault.{Fault as Refusal}
use Rattle.lwkt_base.specs.declared.faults.Fault.TheVariants.{Script as ScriptFault, Memory}
use Rattle.lwkt_core.specs.declared.events.Event.{Event}
use Rattle.lwkt_script.specs.Outcome.{◌>>=◌, ◌>>◌, part, demand, IsFaultOf as IsRefused}
use Rattle.lwkt_trace.specs.declared.traces.Closing.{Closing}
use Rattle.lwkt_trace.specs.declared.traces.Stated.{Stated}
use Rattle.lwkt_trace.specs.declared.traces.Trace.{Trace}
use Rattle.lwkt_trace.specs.Format.{closing_at, there}
use Rattle.lwkt_trace.specs.Readback.{event_data}
use Rattle.lwkt_trace.specs.Recognised.{IsWritten}
use Rattle.lwkt_trace.specs.Words.{event_of}
use Rattle.lwkt_checker.specs.declared.judges.Finding.{Finding}
use Rattle.lwkt_checker.specs.declared.judges.Judge.{Judge}
use Rattle.lwkt_checker.specs.Knows.{Knows}
use Rattle.lwkt_checker.specs.Line.{value_of}
use Rattle.lwkt_checker.specs.Stages.{with_stated, with_last}
use Rattle.lwkt_checker.specs.LineFormat.{event_place, with_event, with_closing, with_rest, with_line, next}
use Rattle.lwkt_checker.specs.Judgement.{IsJudgedTrace, DeclinesTrace}
use Rattle.lwkt_checker.specs.LineJudged.{KnowsSo}
use Rattle.lwkt_checker.proofs.LineWriting.{written_value}

-- an event is taken where there is room for it
pub event_taken : (trace : Trace) (d : Data) (x : Stated) → length trace.events < 1000000000000000 → event_of d ≡ Some x → with_event trace d ≡ Ok (with_stated trace x)
event_taken trace d x room is = rw (lt-ltb (length trace.events) 1000000000000000 room) (ap (λ (o : Option Stated). part (event_place (length trace.events)) o >>= λ e. Ok (with_stated trace e)) is)

refused_or : (b : Bool) (place : ℕ) (trace : Trace) → (demand place b >> (part place None >>= λ e. Ok (with_stated trace e))) ≡ Err place
refused_or true place trace = refl
refused_or false place trace = refl

-- what is no event is refused, whether there is room or not
pub event_none : (trace : Trace) (d : Data) → event_of d ≡ None → with_event trace d ≡ Err (event_place (length trace.events))
event_none trace d is =
    ap (λ (o : Option Stated). demand (event_place (length trace.events)) (nat_lt (length trace.events) 1000000000000000) >> (part (event_place (length trace.events)) o >>= λ e. Ok (with_stated trace e))) is
    ∙ refused_or (nat_lt (length trace.events) 1000000000000000) (event_place (length trace.events)) trace

-- what is said of each value that states so, is said of one
pub given_lifts : (r : Result Judge Refusal) (judge : Judge) (x : Stated) (d : Data) → event_of d ≡ Some x → IfOk r (λ after. (trace : Trace) (v : Data) → Knows trace judge → event_of v ≡ Some x → (u : Trace) × ((with_event trace v ≡ Ok u) × Knows u after))
    → IfOk r (λ after. (trace : Trace) → Knows trace judge → (u : Trace) × ((with_event trace d ≡ Ok u) × Knows u after))
given_lifts (Ok after) judge x d is stated = λ (trace : Trace) (knows : Knows trace judge). stated trace d knows is
given_lifts (Err fault) judge x d is stated = tt

pub given_refused_lifts : (r : Result Judge Refusal) (judge : Judge) (x : Stated) (d : Data) → event_of d ≡ Some x → IfErr r (λ fault. (trace : Trace) (v : Data) → Knows trace judge → event_of v ≡ Some x → IsRefused fault (with_event trace v))
    → IfErr r (λ fault. (trace : Trace) → Knows trace judge → IsRefused fault (with_event trace d))
given_refused_lifts (Ok after) judge x d is refused = tt
given_refused_lifts (Err fault) judge x d is refused = λ (trace : Trace) (knows : Knows trace judge). refused trace d knows is

-- closing values
pub closing_taken : (trace : Trace) (d : Data) (closing : Closing) → closing_at d ≡ Ok closing → with_closing trace d ≡ Ok (with_last trace closing)
closing_taken trace d closing is = ap (λ (r : Result Closing ℕ). r >>= λ c. Ok (with_last trace c)) is

-- lines behind the opening
pub line_closed : (trace : Trace) (line : List ℕ) → has_some trace.last ≡ true → with_line trace line ≡ Err 6
unfolding with_line
line_closed trace line closed = rw closed refl

line_open : (trace : Trace) (line : List ℕ) → has_some trace.last ≡ false → with_line trace line ≡ part (event_place (length trace.events)) (value_of line) >>= with_rest trace
unfolding with_line
line_open trace line open_still = rw open_still refl

line_value : (trace : Trace) (line : List ℕ) (d : Data) → has_some trace.last ≡ false → part (event_place (length trace.events)) (value_of line) ≡ Ok d → with_line trace line ≡ with_rest trace d
line_value trace line d open_still is = line_open trace line open_still ∙ ap (λ (r : Result Data ℕ). r >>= with_rest trace) is

line_place : (trace : Trace) (line : List ℕ) (place : ℕ) → has_some trace.last ≡ false → part (event_place (length trace.events)) (value_of line) ≡ Err place → with_line trace line ≡ Err place
line_place trace line place open_still is = line_open trace line open_still ∙ ap (λ (r : Result Data ℕ). r >>= with_rest trace) is

pub line_refused : (trace : Trace) (line : List ℕ) (fault : Refusal) → has_some trace.last ≡ false → IsRefused fault (part (event_place (length trace.events)) (value_of line)) → IsRefused fault (with_line trace line)
line_refused trace line (ScriptFault place) open_still refused = line_place trace line place open_still refused
line_refused trace line (Memory why) open_still refused = tt
line_refused trace line _ open_still refused = absurd refused

pub value_closing : (trace : Trace) (d : Data) → has_some (as_object d) ≡ true → with_rest trace d ≡ with_closing trace d
value_closing trace d is = rw is refl

pub value_event : (trace : Trace) (d : Data) → has_some (as_object d) ≡ false → with_rest trace d ≡ with_event trace d
value_event trace d is = rw is refl

-- a line that is an event just as it is written
pub written_line : (trace : Trace) (line : List ℕ) (e : Event) → has_some trace.last ≡ false → IsWritten line e → with_line trace line ≡ with_event trace (event_data e)
written_line trace line e open_still is =
    line_value trace line (event_data e) open_still (ap (part (event_place (length trace.events))) (written_value line e is)) ∙ value_event trace (event_data e) refl

-- a further line
next_taken : (trace after : Trace) (line : List ℕ) → with_line trace line ≡ Ok after → next (Some trace) line ≡ Ok (Some after)
next_taken trace after line is = ap (λ (r : Result Trace ℕ). r >>= there) is

next_place : (trace : Trace) (line : List ℕ) (place : ℕ) → with_line trace line ≡ Err place → next (Some trace) line ≡ Err place
next_place trace line place is = ap (λ (r : Result Trace ℕ). r >>= there) is

next_refused : (trace : Trace) (line : List ℕ) (fault : Refusal) → IsRefused fault (with_line trace line) → IsRefused fault (next (Some trace) line)
next_refused trace line (ScriptFault place) refused = next_place trace line place refused
next_refused trace line (Memory why) refused = tt
next_refused trace line _ refused = absurd refused

-- what a judge that took a line knows, whether that was the first or a further one
abbrev pub TakesNext : Option Judge → List ℕ → Judge → Type 0
TakesNext judge line after = (before : Option Trace) → KnowsSo judge before → (u : Trace) × ((next before line ≡ Ok (Some u)) × Knows u after)

abbrev pub RefusesNext : Option Judge → List ℕ → Refusal → Type 0
RefusesNext judge line fault = (before : Option Trace) → KnowsSo judge before → IsRefused fault (next before line)

takes_first : (after : Judge) (line : List ℕ) → (trace : Trace) × ((next None line ≡ Ok (Some trace)) × Knows trace after) → TakesNext None line after
takes_first after line stated None judged = stated
takes_first after line stated (Some trace) judged = absurd judged

refuses_first : (fault : Refusal) (line : List ℕ) → IsRefused fault (next None line) → RefusesNext None line fault
refuses_first fault line refused None judged = refused
refuses_first fault line refused (Some trace) judged = absurd judged

takes_further : (judge after : Judge) (line : List ℕ) → ((trace : Trace) → Knows trace judge → (u : Trace) × ((with_line trace line ≡ Ok u) × Knows u after)) → TakesNext (Some judge) line after
takes_further judge after line stated None judged = absurd judged
takes_further judge after line stated (Some trace) judged = let took = stated trace judged in (took.0, (next_taken trace took.0 line took.1.0, took.1.1))

refuses_further : (judge : Judge) (fault : Refusal) (line : List ℕ) → ((trace : Trace) → Knows trace judge → IsRefused fault (with_line trace line)) → RefusesNext (Some judge) line fault
refuses_further judge fault line refused None judged = absurd judged
refuses_further judge fault line refused (Some trace) judged = next_refused trace line fault (refused trace judged)

-- what is said of the first line and of a further one
pub first_lifts : (r : Result Judge Refusal) (judge : Option Judge) (line : List ℕ) → judge ≡ None → IfOk r (λ after. (trace : Trace) × ((next None line ≡ Ok (Some trace)) × Knows trace after)) → IfOk r (TakesNext judge line)
first_lifts (Ok after) judge line is stated = subst (λ (o : Option Judge). TakesNext o line after) (sym is) (takes_first after line stated)
first_lifts (Err fault) judge line is stated = tt

pub first_refused_lifts : (r : Result Judge Refusal) (judge : Option Judge) (line : List ℕ) → judge ≡ None → IfErr r (λ fault. IsRefused fault (next None line)) → IfErr r (RefusesNext judge line)
first_refused_lifts (Ok after) judge line is refused = tt
first_refused_lifts (Err fault) judge line is refused = subst (λ (o : Option Judge). RefusesNext o line fault) (sym is) (refuses_first fault line refused)

pub further_lifts : (r : Result Judge Refusal) (judge : Option Judge) (inner : Judge) (line : List ℕ) → judge ≡ Some inner → IfOk r (λ after. (trace : Trace) → Knows trace inner → (u : Trace) × ((with_line trace line ≡ Ok u) × Knows u after)) → IfOk r (TakesNext judge line)
further_lifts (Ok after) judge inner line is stated = subst (λ (o : Option Judge). TakesNext o line after) (sym is) (takes_further inner after line stated)
further_lifts (Err fault) judge inner line is stated = tt

pub further_refused_lifts : (r : Result Judge Refusal) (judge : Option Judge) (inner : Judge) (line : List ℕ) → judge ≡ Some inner → IfErr r (λ fault. (trace : Trace) → Knows trace inner → IsRefused fault (with_line trace line)) → IfErr r (RefusesNext judge line)
further_refused_lifts (Ok after) judge inner line is refused = tt
further_refused_lifts (Err fault) judge inner line is refused = subst (λ (o : Option Judge). RefusesNext o line fault) (sym is) (refuses_further inner fault line refused)

-- what is found of the trace that was fed
abbrev pub FindsStated : Option Judge → Finding → Type 0
FindsStated judge finding = (stated : Option Trace) → KnowsSo judge stated → MatchOption stated ⊥ (λ trace. IsJudgedTrace trace finding)

abbrev pub DeclinesStated : Option Judge → Refusal → Type 0
DeclinesStated judge fault = (stated : Option Trace) → KnowsSo judge stated → MatchOption stated (fault ≡ ScriptFault 0) (λ trace. DeclinesTrace trace fault)

finds_some : (judge : Judge) (finding : Finding) → ((trace : Trace) → Knows trace judge → IsJudgedTrace trace finding) → FindsStated (Some judge) finding
finds_some judge finding found None judged = absurd judged
finds_some judge finding found (Some trace) judged = found trace judged

declines_some : (judge : Judge) (fault : Refusal) → ((trace : Trace) → Knows trace judge → DeclinesTrace trace fault) → DeclinesStated (Some judge) fault
declines_some judge fault declines None judged = absurd judged
declines_some judge fault declines (Some trace) judged = declines trace judged

declines_none : DeclinesStated None (ScriptFault 0)
declines_none None judged = refl
declines_none (Some trace) judged = absurd judged

pub none_declines : (judge : Option Judge) → judge ≡ None → DeclinesStated judge (ScriptFault 0)
none_declines judge is = subst (λ (o : Option Judge). DeclinesStated o (ScriptFault 0)) (sym is) declines_none

pub found_lifts : (r : Result Finding Refusal) (judge : Option Judge) (inner : Judge) → judge ≡ Some inner → IfOk r (λ finding. (trace : Trace) → Knows trace inner → IsJudgedTrace trace finding) → IfOk r (FindsStated judge)
found_lifts (Ok finding) judge inner is found = subst (λ (o : Option Judge). FindsStated o finding) (sym is) (finds_some inner finding found)
found_lifts (Err fault) judge inner is found = tt

pub declines_lifts : (r : Result Finding Refusal) (judge : Option Judge) (inner : Judge) → judge ≡ Some inner → IfErr r (λ fault. (trace : Trace) → Knows trace inner → DeclinesTrace trace fault) → IfErr r (DeclinesStated judge)
declines_lifts (Ok finding) judge inner is declines = tt
declines_lifts (Err fault) judge inner is declines = subst (λ (o : Option Judge). DeclinesStated o fault) (sym is) (declines_some inner fault declines)

-- what a part of a judge's work says of a value, it says of the line that has the value
pub stated_lifts : (r : Result Judge Refusal) (judge : Judge) (read : Trace → Result Trace ℕ) (line : List ℕ) → ((trace : Trace) → Knows trace judge → with_line trace line ≡ read trace)
    → IfOk r (λ after. (trace : Trace) → Knows trace judge → (u : Trace) × ((read trace ≡ Ok u) × Knows u after)) → IfOk r (λ after. (trace : Trace) → Knows trace judge → (u : Trace) × ((with_line trace line ≡ Ok u) × Knows u after))
stated_lifts (Ok after) judge read line same stated = λ (trace : Trace) (knows : Knows trace judge). let took = stated trace knows in (took.0, (same trace knows ∙ took.1.0, took.1.1))
stated_lifts (Err fault) judge read line same stated = tt

pub refused_lifts : (r : Result Judge Refusal) (judge : Judge) (read : Trace → Result Trace ℕ) (line : List ℕ) → ((trace : Trace) → Knows trace judge → with_line trace line ≡ read trace)
    → IfErr r (λ fault. (trace : Trace) → Knows trace judge → IsRefused fault (read trace)) → IfErr r (λ fault. (trace : Trace) → Knows trace judge → IsRefused fault (with_line trace line))
refused_lifts (Ok after) judge read line same refused = tt
refused_lifts (Err fault) judge read line same refused = λ (trace : Trace) (knows : Knows trace judge). subst (λ (s : Result Trace ℕ). IsRefused fault s) (sym (same trace knows)) (refused trace knows)

pub each_lifts : (r : Result Judge Refusal) (judge : Judge) (read : Trace → Result Trace ℕ) → IfErr r (λ fault. (trace : Trace) → IsRefused fault (read trace)) → IfErr r (λ fault. (trace : Trace) → Knows trace judge → IsRefused fault (read trace))
each_lifts (Ok after) judge read refused = tt
each_lifts (Err fault) judge read refused = λ (trace : Trace) (knows : Knows trace judge). refused trace

-- a line that has a value is what that is
pub line_is : (judge : Judge) (trace : Trace) (line : List ℕ) (d : Data) (place : ℕ) → Knows trace judge → judge.closed ≡ false → place ≡ event_place judge.count → part place (value_of line) ≡ Ok d → with_line trace line ≡ with_rest trace d
line_is judge trace line d place knows open_still at is =
    line_value trace line d (sym knows.closed ∙ open_still) (ap (λ (p : ℕ). part p (value_of line)) (sym (at ∙ ap event_place knows.counted)) ∙ is)
