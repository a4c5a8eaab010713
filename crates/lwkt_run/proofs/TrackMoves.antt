-- A run that a check has followed so far, whatever comes of it: what its last asks are answered, and which turns follow.
use Rattle.std.proofs.Common.{◌≡◌, ℕ, ◌+◌, ◌<◌, ◌≤◌, Bool, true, false, List, [], ◌∷◌, ◌++◌, length, take, drop, refl, ap, sym, ◌∙◌, subst, arith, Option, Some, None, append_assoc, append-nil, length-append}
use Rattle.std.specs.Prelude.{slice_get, unwrap_or}
use Rattle.std.proofs.Math.Seq.{drop-append_seam}
use Rattle.std.proofs.lemmas.List.{length_push}
use Rattle.lwkt_base.specs.declared.asks.Answer.{Answer}
use Rattle.lwkt_core.specs.declared.events.Event.{Event}
use Rattle.lwkt_core.specs.Machine.{Machine}
use Rattle.lwkt_script.specs.declared.scripts.ThreadSpec.{ThreadSpec}
use Rattle.lwkt_base.specs.declared.threads.ThreadLine.{ThreadLine}
use Rattle.lwkt_verdict.specs.declared.turns.Poll.{Poll}
use Rattle.lwkt_verdict.specs.declared.turns.Turn.{Turn}
use Rattle.lwkt_verdict.specs.declared.progress.Piece.{Piece}
use Rattle.lwkt_verdict.specs.TurnParts.{after_all}
use Rattle.lwkt_verdict.specs.Run.{whose, poll_of, piece, TurnFits, EndsRun, RunsThrough, BeginRun}
use Rattle.lwkt_verdict.specs.Threads.{slot_of}
use Rattle.lwkt_verdict.specs.Follow.{Follow, AllBear, AllAllow, AreShown, GoesOn, Declines, answered_at, none_answered, poll_so, Begins}
use Rattle.lwkt_run.specs.Keeping.{Kept, none_kept, kept_after, polls_after, turn_of}
use Rattle.lwkt_run.specs.Driving.{GoesOnBy, DeclinesBy}
use Rattle.lwkt_run.specs.declared.polled.Polled.{Polled}
use Rattle.lwkt_run.proofs.FillMoves.{answered, filled, filled_long, filled_after}

-- a list begins with another one
abbrev pub IsFront : {A : Type 0} → List A → List A → Type 0
IsFront front whole = (rest : List _) × (whole ≡ front ++ rest)

-- one item less
less_front : (A : Type 0) (front whole : List A) (x : A) → IsFront (front ++ x ∷ []) whole → IsFront front whole
less_front A front whole x is = (x ∷ is.0, is.1 ∙ append_assoc front (x ∷ []) is.0)

-- the item at the end of a front
push_get : (A : Type 0) (front rest : List A) (x : A) → slice_get (front ++ x ∷ rest) (length front) ≡ Some x
push_get A [] rest x = refl
push_get A (y ∷ front) rest x = push_get A front rest x

front_get : (A : Type 0) (front whole : List A) (x : A) → IsFront (front ++ x ∷ []) whole → slice_get whole (length front) ≡ Some x
front_get A front whole x is =
    ap (λ xs. slice_get xs (length front)) (is.1 ∙ append_assoc front (x ∷ []) is.0) ∙ push_get A front is.0 x

-- what comes behind some turns: the end of a run, or anything
abbrev pub EndsIf : Bool → List ThreadSpec → List ThreadLine → Machine → List Piece → List Event → Type 0
EndsIf true plans lines m before events = EndsRun plans lines m before events
EndsIf false plans lines m before events = Unit {0}

-- turns that fit one another, with what comes behind them
abbrev pub Through : Bool → List ThreadSpec → List ThreadLine → List Poll → List ℕ → Machine → List Piece → List Turn → List Event → Type 0
Through ends plans lines polls order m before [] events = EndsIf ends plans lines m before events
Through ends plans lines polls order m before (turn ∷ turns) events =
    (turn.events ≤ length events) × (TurnFits plans lines (whose order (length before)) m before (poll_of polls turn) (take turn.events events) × Through ends plans lines polls order (after_all m (take turn.events events)) (before ++ piece (poll_of polls turn) (take turn.events events) ∷ []) turns (drop turn.events events))

pub through_run : (plans : List ThreadSpec) (lines : List ThreadLine) (polls : List Poll) (order : List ℕ) (m : Machine) (before : List Piece) (turns : List Turn) (events : List Event) → RunsThrough plans lines polls order m before turns events → Through true plans lines polls order m before turns events
through_run plans lines polls order m before [] events runs = runs
through_run plans lines polls order m before (t ∷ turns) events runs = (runs.0, (runs.1.0, through_run plans lines polls order (after_all m (take t.events events)) (before ++ piece (poll_of polls t) (take t.events events) ∷ []) turns (drop t.events events) runs.1.1))

pub through_begun : (plans : List ThreadSpec) (lines : List ThreadLine) (polls : List Poll) (order : List ℕ) (m : Machine) (before : List Piece) (turns : List Turn) (events : List Event) → BeginRun plans lines polls order m before turns events → Through false plans lines polls order m before turns events
through_begun plans lines polls order m before [] events runs = tt
through_begun plans lines polls order m before (t ∷ turns) events runs = (runs.0, (runs.1.0, through_begun plans lines polls order (after_all m (take t.events events)) (before ++ piece (poll_of polls t) (take t.events events) ∷ []) turns (drop t.events events) runs.1.1))

pub run_through : (plans : List ThreadSpec) (lines : List ThreadLine) (polls : List Poll) (order : List ℕ) (m : Machine) (before : List Piece) (turns : List Turn) (events : List Event) → Through true plans lines polls order m before turns events → RunsThrough plans lines polls order m before turns events
run_through plans lines polls order m before [] events runs = runs
run_through plans lines polls order m before (t ∷ turns) events runs = (runs.0, (runs.1.0, run_through plans lines polls order (after_all m (take t.events events)) (before ++ piece (poll_of polls t) (take t.events events) ∷ []) turns (drop t.events events) runs.1.1))

pub begun_through : (plans : List ThreadSpec) (lines : List ThreadLine) (polls : List Poll) (order : List ℕ) (m : Machine) (before : List Piece) (turns : List Turn) (events : List Event) → Through false plans lines polls order m before turns events → BeginRun plans lines polls order m before turns events
begun_through plans lines polls order m before [] events runs = tt
begun_through plans lines polls order m before (t ∷ turns) events runs = (runs.0, (runs.1.0, begun_through plans lines polls order (after_all m (take t.events events)) (before ++ piece (poll_of polls t) (take t.events events) ∷ []) turns (drop t.events events) runs.1.1))

-- so far these turns made this trace: with these answers to the last asks, these lines, polls and this order they lead to where the check
-- stands, and what runs from there on, ran from the opening on
pub record Track (plans : List ThreadSpec) (opening : Machine) (turns : List Turn) (trace : List Event) (f : Follow) (answers : ℕ → Option Answer) (lines : List ThreadLine) (polls : List Poll) (order : List ℕ) : Type 0 where
  pub before : List Piece
  pub shown : AreShown before f.table answers
  pub long : length before ≡ length turns
  pub on : (ends : Bool) (later : List Turn) (events : List Event) → Through ends plans lines polls order f.machine before later events → Through ends plans lines polls order opening [] (turns ++ later) (trace ++ events)

-- the same of all answers, lines, polls and orders that can still come of it
abbrev pub Tracks : List ThreadSpec → Machine → Kept → List Event → Follow → Type 0
Tracks plans opening kept trace f = (answers : ℕ → Option Answer) (lines : List ThreadLine) (polls : List Poll) (order : List ℕ) → AllBear f.table answers lines → IsFront (filled answers kept.polls) polls → IsFront kept.order order → Track plans opening kept.turns trace f answers lines polls order

-- before the first turn
pub tracks_none : (plans : List ThreadSpec) (opening : Machine) (f : Follow) → Begins plans opening f → Tracks plans opening none_kept [] f
tracks_none plans opening f begins answers lines polls order bear fronts named = record {
  before = [];
  shown = begins.shown answers;
  long = refl;
  on = λ ends later events runs. subst (λ m. Through ends plans lines polls order m [] later events) begins.machine runs;
}

take_front : (xs ys : List Event) → take (length xs) (xs ++ ys) ≡ xs
take_front [] ys = refl
take_front (x ∷ xs) ys = ap (λ zs. x ∷ zs) (take_front xs ys)

-- a turn and what runs after it
runs_on : (ends : Bool) (plans : List ThreadSpec) (lines : List ThreadLine) (polls : List Poll) (order : List ℕ) (m : Machine) (before : List Piece) (t : Turn) (later : List Turn) (poll : Option Poll) (part events : List Event) → t.events ≡ length part → poll_of polls t ≡ poll → TurnFits plans lines (whose order (length before)) m before poll part → Through ends plans lines polls order (after_all m part) (before ++ piece poll part ∷ []) later events
    → Through ends plans lines polls order m before (t ∷ later) (part ++ events)
runs_on ends plans lines polls order m before t later poll part events count is fits runs =
    let front : take t.events (part ++ events) ≡ part = ap (λ n. take n (part ++ events)) count ∙ take_front part events in
    let back : drop t.events (part ++ events) ≡ events = ap (λ n. drop n (part ++ events)) count ∙ drop-append_seam part events in
    let few : t.events ≤ length (part ++ events) = omega (arith, count, length-append part events) in
    let F : Option Poll → List Event → List Event → Type 0 = λ p es fs. TurnFits plans lines (whose order (length before)) m before p es × Through ends plans lines polls order (after_all m es) (before ++ piece p es ∷ []) later fs in
    let a : F poll part (drop t.events (part ++ events)) = subst (λ fs. F poll part fs) (sym back) (fits, runs) in
    let b : F poll (take t.events (part ++ events)) (drop t.events (part ++ events)) = subst (λ es. F poll es (drop t.events (part ++ events))) (sym front) a in
    (few, subst (λ p. F p (take t.events (part ++ events)) (drop t.events (part ++ events))) (sym is) b)

-- a turn more
track_on : (plans : List ThreadSpec) (opening : Machine) (turns : List Turn) (trace : List Event) (f g : Follow) (cpu : ℕ) (part : List Event) (poll : (ℕ → Option Answer) → Option Poll) (former : (ℕ → Option Answer) → ℕ → Option Answer) (answers : ℕ → Option Answer) (lines : List ThreadLine) (polls : List Poll) (order : List ℕ) (t : Turn) → f.plans ≡ plans → GoesOn cpu part poll former f g → AllBear g.table answers lines → whose order (length turns) ≡ cpu → t.events ≡ length part → poll_of polls t ≡ poll answers
    → Track plans opening turns trace f (former answers) lines polls order → Track plans opening (turns ++ t ∷ []) (trace ++ part) g answers lines polls order
track_on plans opening turns trace f g cpu part poll former answers lines polls order t threads goes bear named count is track =
    let more : List Piece = track.before ++ piece (poll answers) part ∷ [] in
    let e : length more ≡ length (turns ++ t ∷ []) = length_push track.before (piece (poll answers) part) ∙ ap (λ n. n + 1) track.long ∙ sym (length_push turns t) in
    let here : whose order (length track.before) ≡ cpu = ap (whose order) track.long ∙ named in
    let fits : TurnFits f.plans lines cpu f.machine track.before (poll answers) part = goes.fits answers lines bear track.before track.shown in
    let fits_here : TurnFits plans lines (whose order (length track.before)) f.machine track.before (poll answers) part = subst (λ c. TurnFits plans lines c f.machine track.before (poll answers) part) (sym here) (subst (λ ps. TurnFits ps lines cpu f.machine track.before (poll answers) part) threads fits) in
    record {
      before = more;
      shown = goes.shown answers track.before track.shown;
      long = e;
      on = λ ends later events runs.
          let next : Through ends plans lines polls order (after_all f.machine part) more later events = subst (λ m. Through ends plans lines polls order m more later events) goes.machine runs in
          let whole = track.on ends (t ∷ later) (part ++ events) (runs_on ends plans lines polls order f.machine track.before t later (poll answers) part events count is fits_here next) in
          let R : List Turn → List Event → Type 0 = λ ts es. Through ends plans lines polls order opening [] ts es in
          subst (λ ts. R ts ((trace ++ part) ++ events)) (sym (append_assoc turns (t ∷ []) later)) (subst (λ es. R (turns ++ t ∷ later) es) (sym (append_assoc trace part events)) whole);
    }

-- a turn, and what runs after it, out of both
pub runs_off : (ends : Bool) (plans : List ThreadSpec) (lines : List ThreadLine) (polls : List Poll) (order : List ℕ) (m : Machine) (before : List Piece) (t : Turn) (later : List Turn) (poll : Option Poll) (part events : List Event) → t.events ≡ length part → poll_of polls t ≡ poll → Through ends plans lines polls order m before (t ∷ later) (part ++ events)
    → TurnFits plans lines (whose order (length before)) m before poll part × Through ends plans lines polls order (after_all m part) (before ++ piece poll part ∷ []) later events
runs_off ends plans lines polls order m before t later poll part events count is runs =
    let front : take t.events (part ++ events) ≡ part = ap (λ n. take n (part ++ events)) count ∙ take_front part events in
    let back : drop t.events (part ++ events) ≡ events = ap (λ n. drop n (part ++ events)) count ∙ drop-append_seam part events in
    let F : Option Poll → List Event → List Event → Type 0 = λ p es fs. TurnFits plans lines (whose order (length before)) m before p es × Through ends plans lines polls order (after_all m es) (before ++ piece p es ∷ []) later fs in
    let a : F poll (take t.events (part ++ events)) (drop t.events (part ++ events)) = subst (λ p. F p (take t.events (part ++ events)) (drop t.events (part ++ events))) is runs.1 in
    let b : F poll part (drop t.events (part ++ events)) = subst (λ es. F poll es (drop t.events (part ++ events))) front a in
    subst (λ fs. F poll part fs) back b

-- so far these turns made this trace: with these answers to the last asks, these lines, polls and this order, what runs from the opening on
-- through these turns and on, runs on from where the check stands; and that allows these answers
pub record Know (ends : Bool) (plans : List ThreadSpec) (turns : List Turn) (f : Follow) (answers : ℕ → Option Answer) (lines : List ThreadLine) (polls : List Poll) (order : List ℕ) (later : List Turn) (events : List Event) : Type 0 where
  pub before : List Piece
  pub allow : AllAllow f.table answers lines
  pub shown : AreShown before f.table answers
  pub long : length before ≡ length turns
  pub on : Through ends plans lines polls order f.machine before later events

-- the same of all answers, lines, polls and orders
abbrev pub Knows : List ThreadSpec → Machine → Kept → List Event → Follow → Type 0
Knows plans opening kept trace f = (ends : Bool) (answers : ℕ → Option Answer) (lines : List ThreadLine) (polls : List Poll) (order : List ℕ) → IsFront (filled answers kept.polls) polls → IsFront kept.order order → (later : List Turn) (events : List Event) → Through ends plans lines polls order opening [] (kept.turns ++ later) (trace ++ events) → Know ends plans kept.turns f answers lines polls order later events

pub knows_none : (plans : List ThreadSpec) (opening : Machine) (f : Follow) → Begins plans opening f → Knows plans opening none_kept [] f
knows_none plans opening f begins ends answers lines polls order fronts named later events runs = record {
  before = [];
  allow = begins.allows answers lines;
  shown = begins.shown answers;
  long = refl;
  on = subst (λ m. Through ends plans lines polls order m [] later events) (sym begins.machine) runs;
}

-- a turn more
know_on : (ends : Bool) (plans : List ThreadSpec) (turns : List Turn) (f g : Follow) (cpu : ℕ) (part : List Event) (poll : (ℕ → Option Answer) → Option Poll) (former : (ℕ → Option Answer) → ℕ → Option Answer) (answers : ℕ → Option Answer) (lines : List ThreadLine) (polls : List Poll) (order : List ℕ) (t : Turn) (later : List Turn) (events : List Event) → f.plans ≡ plans → GoesOn cpu part poll former f g → whose order (length turns) ≡ cpu → t.events ≡ length part → poll_of polls t ≡ poll answers
    → Know ends plans turns f (former answers) lines polls order (t ∷ later) (part ++ events) → Know ends plans (turns ++ t ∷ []) g answers lines polls order later events
know_on ends plans turns f g cpu part poll former answers lines polls order t later events threads goes named count is know =
    let both = runs_off ends plans lines polls order f.machine know.before t later (poll answers) part events count is know.on in
    let here : whose order (length know.before) ≡ cpu = ap (whose order) know.long ∙ named in
    let fits : TurnFits f.plans lines cpu f.machine know.before (poll answers) part = subst (λ ps. TurnFits ps lines cpu f.machine know.before (poll answers) part) (sym threads) (subst (λ c. TurnFits plans lines c f.machine know.before (poll answers) part) here both.0) in
    record {
      before = know.before ++ piece (poll answers) part ∷ [];
      allow = goes.allows answers lines know.allow know.before know.shown fits;
      shown = goes.shown answers know.before know.shown;
      long = length_push know.before (piece (poll answers) part) ∙ ap (λ n. n + 1) know.long ∙ sym (length_push turns t);
      on = subst (λ m. Through ends plans lines polls order m (know.before ++ piece (poll answers) part ∷ []) later events) (sym goes.machine) both.1;
    }

-- what runs through some turns and one more, runs through these turns, and then that one
one_more : (ends : Bool) (plans : List ThreadSpec) (opening : Machine) (lines : List ThreadLine) (polls : List Poll) (order : List ℕ) (turns later : List Turn) (t : Turn) (trace part events : List Event) → Through ends plans lines polls order opening [] ((turns ++ t ∷ []) ++ later) ((trace ++ part) ++ events) → Through ends plans lines polls order opening [] (turns ++ t ∷ later) (trace ++ (part ++ events))
one_more ends plans opening lines polls order turns later t trace part events runs =
    let R : List Turn → List Event → Type 0 = λ ts es. Through ends plans lines polls order opening [] ts es in
    subst (λ es. R (turns ++ t ∷ later) es) (append_assoc trace part events) (subst (λ ts. R ts ((trace ++ part) ++ events)) (append_assoc turns (t ∷ []) later) runs)

whose_named : (order whole : List ℕ) (cpu : ℕ) → IsFront (order ++ cpu ∷ []) whole → whose whole (length order) ≡ cpu
whose_named order whole cpu is = ap (λ o. unwrap_or o 0) (front_get ℕ order whole cpu is)

-- the poll of a turn that is kept now
poll_kept : (answers : ℕ → Option Answer) (p : Polled) (events : ℕ) (kept polls : List Poll) → IsFront (filled answers (polls_after (Some p) kept)) polls
    → (IsFront (filled (answered_at (slot_of p.thread) (Some p.heard) answers) kept) polls × (poll_of polls (turn_of (Some p) events (length kept)) ≡ Some (record { answer = answers (slot_of p.thread); ask = p.asked; thread = p.thread })))
poll_kept answers p events kept polls front =
    let new : Poll = record { answer = None; ask = p.asked; thread = p.thread } in
    let older : List Poll = filled (answered_at (slot_of p.thread) (Some p.heard) answers) kept in
    let e = filled_after (slot_of p.thread) p.heard answers new kept refl in
    let is : IsFront (older ++ answered (answers (slot_of p.thread)) new ∷ []) polls = subst (λ qs. IsFront qs polls) e front in
    let place : length kept ≡ length older = sym (filled_long (answered_at (slot_of p.thread) (Some p.heard) answers) kept) in
    (less_front Poll older polls _ is, ap (λ k. slice_get polls k) place ∙ front_get Poll older polls _ is)

-- a turn more that is kept
pub tracks_on : (plans : List ThreadSpec) (opening : Machine) (kept : Kept) (trace : List Event) (f g : Follow) (cpu : ℕ) (asks : Option Polled) (part : List Event) → f.plans ≡ plans → length kept.order ≡ length kept.turns → GoesOnBy cpu asks part f g → Tracks plans opening kept trace f → Tracks plans opening (kept_after cpu (length part) asks kept) (trace ++ part) g
tracks_on plans opening kept trace f g cpu None part threads long goes tracks answers lines polls order bear fronts named =
    let here : whose order (length kept.turns) ≡ cpu = ap (whose order) (sym long) ∙ whose_named kept.order order cpu named in
    track_on plans opening kept.turns trace f g cpu part _ _ answers lines polls order (turn_of None (length part) (length kept.polls)) threads goes bear here refl refl
    (tracks answers lines polls order (goes.bear answers lines bear) fronts (less_front ℕ kept.order order cpu named))
tracks_on plans opening kept trace f g cpu (Some p) part threads long goes tracks answers lines polls order bear fronts named =
    let here : whose order (length kept.turns) ≡ cpu = ap (whose order) (sym long) ∙ whose_named kept.order order cpu named in
    let q = poll_kept answers p (length part) kept.polls polls fronts in
    track_on plans opening kept.turns trace f g cpu part _ _ answers lines polls order (turn_of (Some p) (length part) (length kept.polls)) threads goes bear here refl q.1
    (tracks (answered_at (slot_of p.thread) (Some p.heard) answers) lines polls order (goes.bear answers lines bear) q.0 (less_front ℕ kept.order order cpu named))

pub knows_on : (plans : List ThreadSpec) (opening : Machine) (kept : Kept) (trace : List Event) (f g : Follow) (cpu : ℕ) (asks : Option Polled) (part : List Event) → f.plans ≡ plans → length kept.order ≡ length kept.turns → GoesOnBy cpu asks part f g → Knows plans opening kept trace f → Knows plans opening (kept_after cpu (length part) asks kept) (trace ++ part) g
knows_on plans opening kept trace f g cpu None part threads long goes knows ends answers lines polls order fronts named later events runs =
    let t : Turn = turn_of None (length part) (length kept.polls) in
    let here : whose order (length kept.turns) ≡ cpu = ap (whose order) (sym long) ∙ whose_named kept.order order cpu named in
    know_on ends plans kept.turns f g cpu part _ _ answers lines polls order t later events threads goes here refl refl
    (knows ends answers lines polls order fronts (less_front ℕ kept.order order cpu named) (t ∷ later) (part ++ events) (one_more ends plans opening lines polls order kept.turns later t trace part events runs))
knows_on plans opening kept trace f g cpu (Some p) part threads long goes knows ends answers lines polls order fronts named later events runs =
    let t : Turn = turn_of (Some p) (length part) (length kept.polls) in
    let here : whose order (length kept.turns) ≡ cpu = ap (whose order) (sym long) ∙ whose_named kept.order order cpu named in
    let q = poll_kept answers p (length part) kept.polls polls fronts in
    know_on ends plans kept.turns f g cpu part _ _ answers lines polls order t later events threads goes here refl q.1
    (knows ends (answered_at (slot_of p.thread) (Some p.heard) answers) lines polls order q.0 (less_front ℕ kept.order order cpu named) (t ∷ later) (part ++ events) (one_more ends plans opening lines polls order kept.turns later t trace part events runs))

-- a turn more that the check doesn't go on by: no run begins so
declined : (plans : List ThreadSpec) (turns : List Turn) (f : Follow) (cpu : ℕ) (part : List Event) (poll : (ℕ → Option Answer) → Option Poll) (former : (ℕ → Option Answer) → ℕ → Option Answer) (lines : List ThreadLine) (polls : List Poll) (order : List ℕ) (t : Turn) (events : List Event) → f.plans ≡ plans → Declines cpu part poll former f → whose order (length turns) ≡ cpu → t.events ≡ length part → poll_of polls t ≡ poll none_answered
    → Know false plans turns f (former none_answered) lines polls order (t ∷ []) (part ++ events) → ⊥
declined plans turns f cpu part poll former lines polls order t events threads declines named count is know =
    let both = runs_off false plans lines polls order f.machine know.before t [] (poll none_answered) part events count is know.on in
    let here : whose order (length know.before) ≡ cpu = ap (whose order) know.long ∙ named in
    let fits : TurnFits f.plans lines cpu f.machine know.before (poll none_answered) part = subst (λ ps. TurnFits ps lines cpu f.machine know.before (poll none_answered) part) (sym threads) (subst (λ c. TurnFits plans lines c f.machine know.before (poll none_answered) part) here both.0) in
    declines lines know.before know.allow know.shown fits

pub declined_on : (plans : List ThreadSpec) (opening : Machine) (kept : Kept) (trace : List Event) (f : Follow) (cpu : ℕ) (asks : Option Polled) (part : List Event) → f.plans ≡ plans → length kept.order ≡ length kept.turns → filled none_answered kept.polls ≡ kept.polls → filled none_answered (polls_after asks kept.polls) ≡ polls_after asks kept.polls → DeclinesBy cpu asks part f → Knows plans opening kept trace f → (lines : List ThreadLine) (events : List Event)
    → BeginRun plans lines (polls_after asks kept.polls) (kept.order ++ cpu ∷ []) opening [] (kept.turns ++ turn_of asks (length part) (length kept.polls) ∷ []) ((trace ++ part) ++ events) → ⊥
declined_on plans opening kept trace f cpu None part threads long waits more declines knows lines events runs =
    let t : Turn = turn_of None (length part) (length kept.polls) in
    let order : List ℕ = kept.order ++ cpu ∷ [] in
    let named : IsFront order order = ([], sym (append-nil order)) in
    let fronts : IsFront (filled none_answered kept.polls) kept.polls = ([], sym (append-nil _ ∙ waits)) in
    let here : whose order (length kept.turns) ≡ cpu = ap (whose order) (sym long) ∙ whose_named kept.order order cpu named in
    let B : List Turn → Type 0 = λ ts. BeginRun plans lines kept.polls order opening [] ts ((trace ++ part) ++ events) in
    let through = through_begun plans lines kept.polls order opening [] ((kept.turns ++ t ∷ []) ++ []) ((trace ++ part) ++ events) (subst B (sym (append-nil (kept.turns ++ t ∷ []))) runs) in
    declined plans kept.turns f cpu part (λ answers. None) (λ answers. answers) lines kept.polls order t events threads declines here refl refl
    (knows false none_answered lines kept.polls order fronts (less_front ℕ kept.order order cpu named) (t ∷ []) (part ++ events) (one_more false plans opening lines kept.polls order kept.turns [] t trace part events through))
declined_on plans opening kept trace f cpu (Some p) part threads long waits more declines knows lines events runs =
    let t : Turn = turn_of (Some p) (length part) (length kept.polls) in
    let order : List ℕ = kept.order ++ cpu ∷ [] in
    let polls : List Poll = polls_after (Some p) kept.polls in
    let named : IsFront order order = ([], sym (append-nil order)) in
    let fronts : IsFront (filled none_answered polls) polls = ([], sym (append-nil _ ∙ more)) in
    let q = poll_kept none_answered p (length part) kept.polls polls fronts in
    let here : whose order (length kept.turns) ≡ cpu = ap (whose order) (sym long) ∙ whose_named kept.order order cpu named in
    let B : List Turn → Type 0 = λ ts. BeginRun plans lines polls order opening [] ts ((trace ++ part) ++ events) in
    let through = through_begun plans lines polls order opening [] ((kept.turns ++ t ∷ []) ++ []) ((trace ++ part) ++ events) (subst B (sym (append-nil (kept.turns ++ t ∷ []))) runs) in
    declined plans kept.turns f cpu part (poll_so p.thread p.asked) (answered_at (slot_of p.thread) (Some p.heard)) lines polls order t events threads declines here refl q.1
    (knows false (answered_at (slot_of p.thread) (Some p.heard) none_answered) lines polls order q.0 (less_front ℕ kept.order order cpu named) (t ∷ []) (part ++ events) (one_more false plans opening lines polls order kept.turns [] t trace part events through))
