-- Lines that are fed one after the other, up to the end or to one that is refused.
use Rattle.std.proofs.Common.{zero, suc, ◌≡◌, ◌⊎◌, inl, inr, ℕ, ◌<◌, List, [], ◌∷◌, ◌++◌, length, Bool, true, false, Option, Some, None, Result, Ok, Err, refl, sym, ap, ◌∙◌, subst, arith, append_assoc, append-nil, length-append}
use Rattle.std.specs.Prelude.{◌==◌, not, MatchOption, unwrap_or}
use Rattle.std.specs.Option.{is_some as has_some}
use Rattle.std.specs.Io.KnownBytes.{Consumes, IsAtEnd}
use Rattle.std.proofs.KnownBytes.{Consumes-nil, Consumes-trans}
use Rattle.std.proofs.lemmas.Bool.{eqb-true}
use Rattle.serde_json.specs.Data.{Data}
use Rattle.lwkt_base.specs.declared.faults.Fault.{Fault as Refusal}
use Rattle.lwkt_base.specs.declared.faults.Fault.TheVariants.{Script as ScriptFault, Memory}
use Rattle.lwkt_base.specs.Fault.{no_memory}
use Rattle.lwkt_report.specs.declared.streams.RunFault.{RunFault}
use Rattle.lwkt_report.specs.declared.streams.RunFault.TheVariants.{Fault as FaultOfRun, Stream}
use Rattle.lwkt_script.specs.Outcome.{◌>>=◌, ◌>>◌, part, demand, IsFaultOf as IsRefused}
use Rattle.lwkt_trace.specs.declared.traces.Trace.{Trace}
use Rattle.lwkt_trace.specs.Format.{there}
use Rattle.lwkt_checker.specs.Judgement.{IsJudgedTrace, DeclinesTrace, finding_text, is_lawful}
use Rattle.lwkt_checker.specs.Output.{WritesFinding}
use Rattle.lwkt_checker.specs.declared.judges.Finding.{Finding}
use Rattle.lwkt_checker.specs.Line.{lines_of, value_of}
use Rattle.lwkt_checker.specs.LineFormat.{opened, event_place, with_rest, with_line, next, with_lines, lined_trace_of}
use Rattle.lwkt_checker.specs.LineReading.{IsNextLine}
use Rattle.lwkt_checker.specs.LineJudged.{Judges}
use Rattle.lwkt_checker.specs.LineOutput.{AreAll, KnowsAll, RefusesLines, FindsInLines, Declares, DeclaresIn, HasLinedFinding, ReportsLines}
use Rattle.lwkt_checker.specs.declared.line_judges.LineJudge.{LineJudge}
use Rattle.lwkt_checker.proofs.Stops.{refuses_declined}
use Rattle.lwkt_checker.proofs.LineLemmas.{lines-fed, lines-bare, begins_with, value-long}

-- a list is empty, or it isn't, as a test of its length says
pub is_some : (b : Bool) (n m : ℕ) → b ≡ (n == 0) → b ≡ false → m ≡ n → 0 < m
is_some b zero m is not_so same = absurd (let e : true ≡ false = sym is ∙ not_so in cc)
is_some b (suc n) m is not_so same = omega (arith, same)

pub is_none : (b : Bool) (n m : ℕ) → b ≡ (n == 0) → b ≡ true → m ≡ n → m ≡ 0
is_none b n m is so same = same ∙ eqb-true n 0 (sym is ∙ so)

-- what was taken of a source so far, and the trace that its lines are
pub record SoFar (left now : Option (List ℕ)) (trace : Option Trace) : Type 0 where
  pub taken : List ℕ
  pub consumed : Consumes left now taken
  pub reads : (rest : List ℕ) → with_lines None (lines_of (taken ++ rest)) ≡ with_lines trace (lines_of rest)

-- the same of a judge to whom these lines were fed
pub record IsFed (left now : Option (List ℕ)) (judge : LineJudge) : Type 0 where
  pub trace : Option Trace
  pub so_far : SoFar left now trace
  pub judged : Judges judge trace

pub fed_first : (left : Option (List ℕ)) (judge : LineJudge) → Judges judge None → IsFed left left judge
fed_first left judge judged = record { trace = None; so_far = record { taken = []; consumed = Consumes-nil left; reads = λ rest. refl }; judged = judged }

-- a line that a line feed ended
so_far_more : (left old new : Option (List ℕ)) (before after : Option Trace) (line : List ℕ) → SoFar left old before → IsNextLine old new line true → next before line ≡ Ok after → SoFar left new after
so_far_more left old new before after line so is step = record {
  taken = so.taken ++ (line ++ 10 ∷ []);
  consumed = Consumes-trans left old new so.taken (line ++ 10 ∷ []) so.consumed is.taken;
  reads = λ (rest : List ℕ).
      ap (λ (bytes : List ℕ). with_lines None (lines_of bytes)) (append_assoc so.taken (line ++ 10 ∷ []) rest ∙ ap (λ (bytes : List ℕ). so.taken ++ bytes) (append_assoc line (10 ∷ []) rest))
      ∙ so.reads (line ++ 10 ∷ rest)
      ∙ ap (with_lines before) (lines-fed line rest is.no_feed)
      ∙ ap (λ (r : Result (Option Trace) ℕ). r >>= λ trace. with_lines trace (lines_of rest)) step;
}

-- what a judge that took a line says of it
abbrev pub Takes : LineJudge → List ℕ → LineJudge → Type 0
Takes judge line after = (before : Option Trace) → Judges judge before → (trace : Option Trace) × ((next before line ≡ Ok trace) × Judges after trace)

-- what a judge that refuses a line says of it
abbrev pub RefusesLine : LineJudge → List ℕ → Refusal → Type 0
RefusesLine judge line fault = (before : Option Trace) → Judges judge before → IsRefused fault (next before line)

pub fed_more : (left old new : Option (List ℕ)) (judge after : LineJudge) (line : List ℕ) → IsFed left old judge → IsNextLine old new line true → Takes judge line after → IsFed left new after
fed_more left old new judge after line so is takes =
    let took = takes so.trace so.judged in
    record { trace = took.0; so_far = so_far_more left old new so.trace took.0 line so.so_far is took.1.0; judged = took.1.1 }

-- only the value of a line counts
next_same : (before : Option Trace) (line other : List ℕ) → value_of line ≡ value_of other → next before line ≡ next before other
unfolding with_line
next_same None line other same = ap (λ (value : Option Data). (part 0 value >>= opened) >>= there) same
next_same (Some trace) line other same =
    ap (λ (value : Option Data). (demand 6 (not (has_some trace.last)) >> (part (event_place (length trace.events)) value >>= with_rest trace)) >>= there) same

-- a line without a value is refused
none_behind : (open_still : Bool) (place : ℕ) (trace : Trace) (after : Option Trace) → (demand 6 open_still >> (part place None >>= with_rest trace)) >>= there ≡ Ok after → ⊥
none_behind true place trace after h = cc
none_behind false place trace after h = cc

next_none : (before after : Option Trace) (line : List ℕ) → value_of line ≡ None → next before line ≡ Ok after → ⊥
unfolding with_line
next_none None after line none h =
    let e : (part 0 None >>= opened) >>= there ≡ Ok after = ap (λ (value : Option Data). (part 0 value >>= opened) >>= there) (sym none) ∙ h in cc
next_none (Some trace) after line none h =
    none_behind (not (has_some trace.last)) (event_place (length trace.events)) trace after
    (ap (λ (value : Option Data). (demand 6 (not (has_some trace.last)) >> (part (event_place (length trace.events)) value >>= with_rest trace)) >>= there) (sym none) ∙ h)

-- the bytes that are still left, or none where these aren't known
abbrev known : Option (List ℕ) → List ℕ
known left = unwrap_or left []

all_known : (left now : Option (List ℕ)) (taken : List ℕ) → Consumes left now taken → AreAll left (taken ++ known now)
all_known None now taken consumed = tt
all_known (Some xs) None taken consumed = absurd consumed
all_known (Some xs) (Some ys) taken consumed = sym consumed

none_known : (now : Option (List ℕ)) → IsAtEnd now → known now ≡ []
none_known None end = refl
none_known (Some ys) end = end

-- the first line of what is left has the value of a line that was read, and that is refused
fed_refused : (before : Option Trace) (tail first line : List ℕ) (others : List (List ℕ)) (place : ℕ) → lines_of tail ≡ first ∷ others → value_of first ≡ value_of line → next before line ≡ Err place → with_lines before (lines_of tail) ≡ Err place
fed_refused before tail first line others place is same step =
    ap (with_lines before) is ∙ ap (λ (r : Result (Option Trace) ℕ). r >>= λ trace. with_lines trace others) (next_same before first line same ∙ step)

-- a line that was read, with what is left behind it, is refused
abbrev behind : List ℕ → Bool → Option (List ℕ) → List ℕ
behind line true new = line ++ 10 ∷ known new
behind line false new = line ++ known new

tail_refused : (before : Option Trace) (old new : Option (List ℕ)) (line : List ℕ) (ended : Bool) (place : ℕ) → IsNextLine old new line ended → (ended ≡ true) ⊎ (0 < length line) → next before line ≡ Err place
    → with_lines before (lines_of (behind line ended new)) ≡ Err place
tail_refused before old new line true place is some step =
    fed_refused before (line ++ 10 ∷ known new) line line (lines_of (known new)) place (lines-fed line (known new) is.no_feed) refl step
tail_refused before old new line false place is (inl wrong) step = absurd (cc)
tail_refused before old new line false place is (inr some) step =
    elim (is.last refl) [
      | inl end ↦
          let whole : lines_of (line ++ known new) ≡ line ∷ [] =
          ap (λ (rest : List ℕ). lines_of (line ++ rest)) (none_known new end) ∙ ap lines_of (append-nil line) ∙ lines-bare line is.no_feed some in
          fed_refused before (line ++ known new) line line [] place whole refl step
      | inr long ↦
          let begins = begins_with line (known new) is.no_feed some in
          let longer : 1048576 < length (line ++ begins.more) = omega (arith, length-append line begins.more) in
          fed_refused before (line ++ known new) (line ++ begins.more) line begins.others place begins.is (value-long (line ++ begins.more) longer ∙ sym (value-long line long)) step
    ]

-- what was taken of a source with a line that was read
piece_of : (old new : Option (List ℕ)) (line : List ℕ) (ended : Bool) → IsNextLine old new line ended → (piece : List ℕ) × (Consumes old new piece × (piece ++ known new ≡ behind line ended new))
piece_of old new line true is = (line ++ 10 ∷ [], (is.taken, append_assoc line (10 ∷ []) (known new)))
piece_of old new line false is = (line, (is.taken, refl))

lined_refused : (bytes : List ℕ) (place : ℕ) → with_lines None (lines_of bytes) ≡ Err place → lined_trace_of bytes ≡ Err place
unfolding lined_trace_of
lined_refused bytes place h = ap (λ (r : Result (Option Trace) ℕ). r >>= part 0) h

refused_at : (left old new : Option (List ℕ)) (before : Option Trace) (line : List ℕ) (ended : Bool) (place : ℕ) → SoFar left old before → IsNextLine old new line ended → (ended ≡ true) ⊎ (0 < length line) → next before line ≡ Err place
    → Declares left (ScriptFault place)
refused_at left old new before line ended place so is some step =
    let piece = piece_of old new line ended is in
    let bytes : List ℕ = so.taken ++ behind line ended new in
    let all : AreAll left ((so.taken ++ piece.0) ++ known new) = all_known left new (so.taken ++ piece.0) (Consumes-trans left old new so.taken piece.0 so.consumed piece.1.0) in
    let same : (so.taken ++ piece.0) ++ known new ≡ bytes = append_assoc so.taken piece.0 (known new) ∙ ap (λ (rest : List ℕ). so.taken ++ rest) piece.1.1 in
    (bytes, (subst (λ (b : List ℕ). AreAll left b) same all, lined_refused bytes place (so.reads (behind line ended new) ∙ tail_refused before old new line ended place is some step)))

-- some bytes are all that was left
some_all : (left : Option (List ℕ)) → (bytes : List ℕ) × AreAll left bytes
some_all None = ([], tt)
some_all (Some all) = (all, refl)

-- where reading fails, nothing but want of memory is said
pub declares_unread : (left : Option (List ℕ)) (why : RunFault) → (why ≡ Stream) ⊎ (why ≡ FaultOfRun no_memory) → DeclaresIn left why
declares_unread left why is =
    elim is [
      | inl stream ↦ subst (λ (w : RunFault). DeclaresIn left w) (sym stream) tt
      | inr memory ↦ subst (λ (w : RunFault). DeclaresIn left w) (sym memory) ((some_all left).0, ((some_all left).1, tt))
    ]

-- a line that is refused refuses all
fault_declared : (left old new : Option (List ℕ)) (before : Option Trace) (line : List ℕ) (ended : Bool) (fault : Refusal) → SoFar left old before → IsNextLine old new line ended → (ended ≡ true) ⊎ (0 < length line) → IsRefused fault (next before line)
    → Declares left fault
fault_declared left old new before line ended (ScriptFault place) so is some refused = refused_at left old new before line ended place so is some refused
fault_declared left old new before line ended (Memory why) so is some refused = ((some_all left).0, ((some_all left).1, tt))
fault_declared left old new before line ended _ so is some refused = absurd refused

pub declares_line : (left old new : Option (List ℕ)) (judge : LineJudge) (line : List ℕ) (ended : Bool) (fault : Refusal) → IsFed left old judge → IsNextLine old new line ended → (ended ≡ true) ⊎ (0 < length line) → RefusesLine judge line fault → Declares left fault
declares_line left old new judge line ended fault so is some refuses =
    fault_declared left old new so.trace line ended fault so.so_far is some (refuses so.trace so.judged)

at_end : (left old new : Option (List ℕ)) (taken line : List ℕ) → Consumes left old taken → Consumes old new line → IsAtEnd new → AreAll left (taken ++ line)
at_end left old new taken line first second end =
    subst (λ (b : List ℕ). AreAll left b) (ap (λ (rest : List ℕ). (taken ++ line) ++ rest) (none_known new end) ∙ append-nil (taken ++ line))
    (all_known left new (taken ++ line) (Consumes-trans left old new taken line first second))

-- nothing is left behind the last line feed
pub fed_ended : (left old new : Option (List ℕ)) (judge : LineJudge) (line : List ℕ) → IsFed left old judge → IsNextLine old new line false → length line ≡ 0 → KnowsAll left judge
fed_ended left old new judge [] so is none =
    elim (is.last refl) [
      | inl end ↦ record {
        bytes = so.so_far.taken ++ [];
        all = at_end left old new so.so_far.taken [] so.so_far.consumed is.taken end;
        trace = so.trace;
        reads = so.so_far.reads [];
        judged = so.judged;
      }
      | inr long ↦ absurd (omega arith)
    ]
fed_ended left old new judge (b ∷ line) so is none = absurd (omega arith)

-- a last line without a line feed
pub fed_last : (left old new : Option (List ℕ)) (judge after : LineJudge) (line : List ℕ) → IsFed left old judge → IsNextLine old new line false → 0 < length line → Takes judge line after → KnowsAll left after
fed_last left old new judge after line so is some takes =
    let took = takes so.trace so.judged in
    elim (is.last refl) [
      | inl end ↦ record {
        bytes = so.so_far.taken ++ line;
        all = at_end left old new so.so_far.taken line so.so_far.consumed is.taken end;
        trace = took.0;
        reads = so.so_far.reads line ∙ ap (with_lines so.trace) (lines-bare line is.no_feed some) ∙ ap (λ (r : Result (Option Trace) ℕ). r >>= λ trace. with_lines trace []) took.1.0;
        judged = took.1.1;
      }
      | inr long ↦ absurd (next_none so.trace took.0 line (value-long line long) took.1.0)
    ]

-- what is found of them is written
has_found : (left : Option (List ℕ)) (finding : Finding) (lawful : Bool) → lawful ≡ is_lawful finding → FindsInLines left finding → HasLinedFinding left lawful (finding_text finding)
has_found left finding lawful kind found = record { finding = finding; finds = found; is_text = refl; is_kind = kind }

pub reports_lined : (left old new : Option (List ℕ)) (finding : Finding) (outcome : Result Bool RunFault) → FindsInLines left finding → WritesFinding finding old new outcome → ReportsLines left old new outcome
reports_lined left old new finding (Ok lawful) found written = (finding_text finding, (has_found left finding lawful written.0 found, written.1))
reports_lined left old new finding (Err (FaultOfRun (Memory refused))) found written = (written, ((some_all left).0, ((some_all left).1, tt)))
reports_lined left old new finding (Err (FaultOfRun _)) found written = absurd written
reports_lined left old new finding (Err Stream) found written = inr (is_lawful finding, (finding_text finding, (has_found left finding (is_lawful finding) refl found, written)))

lined_read : (bytes : List ℕ) (trace : Trace) → with_lines None (lines_of bytes) ≡ Ok (Some trace) → lined_trace_of bytes ≡ Ok trace
unfolding lined_trace_of
lined_read bytes trace h = ap (λ (r : Result (Option Trace) ℕ). r >>= part 0) h

lined_none : (bytes : List ℕ) → with_lines None (lines_of bytes) ≡ Ok None → lined_trace_of bytes ≡ Err 0
unfolding lined_trace_of
lined_none bytes h = ap (λ (r : Result (Option Trace) ℕ). r >>= part 0) h

found_of : (left : Option (List ℕ)) (bytes : List ℕ) (stated_trace : Option Trace) (finding : Finding) → AreAll left bytes → with_lines None (lines_of bytes) ≡ Ok stated_trace → MatchOption stated_trace ⊥ (λ trace. IsJudgedTrace trace finding) → FindsInLines left finding
found_of left bytes None finding all reads found = absurd found
found_of left bytes (Some trace) finding all reads found = (bytes, (all, record { trace = trace; read = lined_read bytes trace reads; judged = found }))

pub finds : (left : Option (List ℕ)) (judge : LineJudge) (finding : Finding) → KnowsAll left judge → ((trace : Option Trace) → Judges judge trace → MatchOption trace ⊥ (λ t. IsJudgedTrace t finding)) → FindsInLines left finding
finds left judge finding is found = found_of left is.bytes is.trace finding is.all is.reads (found is.trace is.judged)

refused_of : (left : Option (List ℕ)) (bytes : List ℕ) (stated_trace : Option Trace) (fault : Refusal) → AreAll left bytes → with_lines None (lines_of bytes) ≡ Ok stated_trace → MatchOption stated_trace (fault ≡ ScriptFault 0) (λ trace. DeclinesTrace trace fault) → Declares left fault
refused_of left bytes None fault all reads is = (bytes, (all, subst (λ (f : Refusal). RefusesLines bytes f) (sym is) (lined_none bytes reads)))
refused_of left bytes (Some trace) fault all reads declines = (bytes, (all, refuses_declined (lined_trace_of bytes) trace fault (lined_read bytes trace reads) declines))

pub declares : (left : Option (List ℕ)) (judge : LineJudge) (fault : Refusal) → KnowsAll left judge → ((trace : Option Trace) → Judges judge trace → MatchOption trace (fault ≡ ScriptFault 0) (λ t. DeclinesTrace t fault)) → Declares left fault
declares left judge fault is refused = refused_of left is.bytes is.trace fault is.all is.reads (refused is.trace is.judged)
