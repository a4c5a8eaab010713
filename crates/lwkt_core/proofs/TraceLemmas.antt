use Rattle.std.proofs.Common.{zero, suc, inl, inr, ◌≡◌, ◌<◌, ◌≤◌, ◌+◌, ℕ, List, [], ◌∷◌, ◌++◌, length, get_or, take, refl, ap, sym, ◌∙◌, subst, arith, Option, Some, None}
use Rattle.std.specs.Prelude.{slice_get, IfSome, MatchOption}
use Rattle.std.proofs.lemmas.Bool.{cases_order}
use Rattle.std.proofs.lemmas.List.{take_more, take-take, take_all, length-take-le}
use Rattle.std.proofs.lemmas.Option.{slice_get-get_or, slice_get_past}
use Rattle.std.proofs.lemmas.List.{get_or-take}
use Rattle.lwkt_core.specs.declared.events.Event.{Event}
use Rattle.lwkt_core.specs.declared.finals.Final.{Final}
use Rattle.lwkt_core.specs.Machine.{Machine, Needs, Happens}
use Rattle.lwkt_core.specs.Trace.{Run, Closes, StopsAt, FailsAt, StopRefutes, FailureRefutes, FailureIsOnly}

-- a run goes on by one event
pub Run-push : (m : Machine) (events : List Event) (n : Machine) (e : Event) (k : Machine) → Run m events n → Happens n e k → Run m (events ++ e ∷ []) k
Run-push m [] n e k run step = (k, (subst (λ x. Happens x e k) run step, refl))
Run-push m (x ∷ xs) n e k run step = (run.0, (run.1.0, Run-push run.0 xs n e k run.1.1 step))

-- what is known of a machine in the middle of a run: it is the end, or the next event can happen
run_at : (m : Machine) (events : List Event) (end : Machine) (i : ℕ) (mid : Machine) → Run m events end → Run m (take i events) mid → MatchOption (slice_get events i) (mid ≡ end) (λ e. Needs mid e)
run_at m [] end zero mid run before = before ∙ sym run
run_at m [] end (suc i) mid run before = before ∙ sym run
run_at m (e ∷ events) end zero mid run before = subst (λ x. Needs x e) (sym before) run.1.0.0
run_at m (e ∷ events) end (suc i) mid run before =
    let same : run.0 ≡ before.0 = run.1.0.1 ∙ sym before.1.0.1 in
    run_at before.0 events end i mid (subst (λ x. Run x events end) same run.1.1) before.1.1

-- the event at an index inside the list
some_at : (events : List Event) (i : ℕ) → i < length events → (e : Event) × (slice_get events i ≡ Some e)
some_at [] i inside = absurd (omega arith)
some_at (e ∷ events) i inside = (get_or (e ∷ events) i e, slice_get-get_or (e ∷ events) i e inside)

-- events stop at one that can't happen
pub StopsAt-event : (m : Machine) (events : List Event) (i : ℕ) (mid : Machine) (e : Event) → i < length events → Run m (take i events) mid → (Needs mid (get_or events i e) → ⊥) → StopsAt m events i mid
StopsAt-event m events i mid e inside run not_needs = record {
  inside = inside;
  before = run;
  fails = (let F : Option Event → Type 0 = λ o. IfSome o (λ x. ¬ Needs mid x) in subst F (sym (slice_get-get_or events i e inside)) not_needs);
}

-- what fails is an event, or the close
event_fails : (o : Option Event) (mid : Machine) (last : Final) (e : Event) → o ≡ Some e → IfSome o (λ x. ¬ Needs mid x) → MatchOption o (¬ Closes mid last) (λ x. ¬ Needs mid x)
event_fails o mid last e is fails =
    let F : Option Event → Type 0 = λ p. MatchOption p (¬ Closes mid last) (λ x. ¬ Needs mid x) in
    let G : Option Event → Type 0 = λ p. IfSome p (λ x. ¬ Needs mid x) in
    subst F (sym is) (subst G is fails)

-- a trace fails where its events stop
pub FailsAt-stop : (m : Machine) (events : List Event) (last : Final) (i : ℕ) (mid : Machine) → StopsAt m events i mid → FailsAt m events last i
FailsAt-stop m events last i mid stop =
    let found = some_at events i stop.inside in
    record {
      within = (let w = stop.inside in omega arith);
      mid = mid;
      before = stop.before;
      fails = event_fails (slice_get events i) mid last found.0 found.1 stop.fails;
    }

-- a whole run is one of so many events as there are
pub Run_taken : (m : Machine) (events : List Event) (n : Machine) → Run m events n → Run m (take (length events) events) n
Run_taken m events n run = subst (λ (es : List Event). Run m es n) (sym (take_all (length events) events (omega arith))) run

-- a trace fails at its end
pub FailsAt-close : (m : Machine) (events : List Event) (last : Final) (mid : Machine) → Run m events mid → (Closes mid last → ⊥) → FailsAt m events last (length events)
FailsAt-close m events last mid run not_closes = record {
  within = omega arith;
  mid = mid;
  before = Run_taken m events mid run;
  fails = (let F : Option Event → Type 0 = λ o. MatchOption o (¬ Closes mid last) (λ x. ¬ Needs mid x) in
      subst F (sym (slice_get_past events (length events) (omega arith))) not_closes);
}

-- what fails in the middle of a run contradicts it
clash : (o : Option Event) (mid end : Machine) (last : Final) → MatchOption o (mid ≡ end) (λ e. Needs mid e) → MatchOption o (¬ Closes mid last) (λ e. ¬ Needs mid e) → Closes end last → ⊥
clash None mid end last is fails closes = fails (subst (λ m. Closes m last) (sym is) closes)
clash (Some e) mid end last needs fails closes = fails needs

pub refutes : FailureRefutes
refutes m events last index fails trace =
    clash (slice_get events index) fails.mid trace.0 last (run_at m events trace.0 index fails.mid trace.1.0 fails.before) fails.fails trace.1.1

-- an event that fails in the middle of a run contradicts it
stop_clash : (o : Option Event) (mid end : Machine) (e : Event) → o ≡ Some e → MatchOption o (mid ≡ end) (λ x. Needs mid x) → IfSome o (λ x. ¬ Needs mid x) → ⊥
stop_clash None mid end e is needs fails = absurd (cc)
stop_clash (Some x) mid end e is needs fails = fails needs

pub stop_is_end : StopRefutes
stop_is_end m events index mid stop run =
    let found = some_at events index stop.inside in
    stop_clash (slice_get events index) mid run.0 found.0 found.1 (run_at m events run.0 index mid run.1 stop.before) stop.fails

-- a trace doesn't fail before another index at which it fails
not_before : (m : Machine) (events : List Event) (last : Final) (j k : ℕ) → FailsAt m events last j → FailsAt m events last k → j < k → ⊥
not_before m events last j k at_j at_k below =
    let inside : j < length events = (let w = at_k.within in omega arith) in
    let found = some_at events j inside in
    let prefix : Run m (take j (take k events)) at_j.mid = subst (λ (es : List Event). Run m es at_j.mid) (sym (take-take j k events (omega arith))) at_j.before in
    let h = run_at m (take k events) at_k.mid j at_j.mid at_k.before prefix in
    let long : length (take k events) ≡ k = length-take-le k events at_k.within in
    let same : slice_get (take k events) j ≡ slice_get events j =
    slice_get-get_or (take k events) j found.0 (omega arith) ∙ ap (λ (e : Event). Some e) (get_or-take k events j found.0 below) ∙ sym (slice_get-get_or events j found.0 inside) in
    let needs : Needs at_j.mid found.0 =
    (let F : Option Event → Type 0 = λ o. MatchOption o (at_j.mid ≡ at_k.mid) (λ e. Needs at_j.mid e) in subst F (same ∙ found.1) h) in
    let fails : ¬ Needs at_j.mid found.0 =
    (let F : Option Event → Type 0 = λ o. MatchOption o (¬ Closes at_j.mid last) (λ e. ¬ Needs at_j.mid e) in subst F found.1 at_j.fails) in
    fails needs

pub is_only : FailureIsOnly
is_only m events last index other one two =
    elim (cases_order index other) [
      | inl same ↦ same
      | inr differ ↦ elim differ [
        | inl below ↦ absurd (not_before m events last index other one two below)
        | inr above ↦ absurd (not_before m events last other index two one above)
      ]
    ]

-- a loop's step: the run so far goes on by the event at its index
pub Run_more : (m : Machine) (events : List Event) (i : ℕ) (d : Event) (mid n : Machine) → i < length events → Run m (take i events) mid → Happens mid (get_or events i d) n → Run m (take (i + 1) events) n
Run_more m events i d mid n inside run step =
    subst (λ (es : List Event). Run m es n) (sym (take_more events i d inside)) (Run-push m (take i events) mid (get_or events i d) n run step)

-- a loop's end: the run so far is the whole run
pub Run_all : (m : Machine) (events : List Event) (i : ℕ) (mid : Machine) → length events ≤ i → Run m (take i events) mid → Run m events mid
Run_all m events i mid past run = subst (λ (es : List Event). Run m es mid) (take_all i events past) run
