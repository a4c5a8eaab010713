-- A run that was followed to its end is a run of its script.
use Rattle.std.proofs.Common.{◌≡◌, ℕ, ◌+◌, ◌*◌, ◌%◌, ◌<◌, ◌≤◌, true, false, List, [], ◌∷◌, ◌++◌, length, refl, ap, sym, ◌∙◌, subst, inl, inr, arith, All, append-nil, mod-lt, is_some, mul-le-mul_right}
use Rattle.std.specs.Prelude.{option_and_then, slice_get}
use Rattle.std.proofs.lemmas.List.Elements.{All-nil, All-cons, All-weaker}
use Rattle.std.proofs.lemmas.Nat.{mod-mul-add}
use Rattle.lwkt_base.specs.Threads.{has_ended}
use Rattle.lwkt_core.specs.declared.events.Event.{Event}
use Rattle.lwkt_core.specs.declared.events.Place.{Place}
use Rattle.lwkt_core.specs.declared.events.Place.TheVariants.{AtToken, AtMessage}
use Rattle.lwkt_core.specs.Events.{place_of}
use Rattle.lwkt_core.specs.Machine.{Machine, after, after_at}
use Rattle.lwkt_core.specs.Trace.{Run, IsLawfulTrace, Closes}
use Rattle.lwkt_run.specs.Checked.{DeclinesSo}
use Rattle.lwkt_run.specs.declared.endings.Left.{Left}
use Rattle.lwkt_script.specs.declared.scripts.ThreadSpec.{ThreadSpec}
use Rattle.lwkt_base.specs.declared.threads.ThreadLine.{ThreadLine}
use Rattle.lwkt_machine.specs.Bodies.{Scripted}
use Rattle.lwkt_machine.specs.Ended.{AreOver}
use Rattle.lwkt_machine.specs.Machines.{Rig}
use Rattle.lwkt_verdict.specs.declared.turns.Poll.{Poll}
use Rattle.lwkt_verdict.specs.declared.turns.Turn.{Turn}
use Rattle.lwkt_verdict.specs.declared.turns.Pace.{Pace}
use Rattle.lwkt_verdict.specs.declared.turns.Pace.TheVariants.{Rounds}
use Rattle.lwkt_verdict.specs.TurnParts.{after_all}
use Rattle.lwkt_verdict.specs.Run.{poll_of, EndsRun, AreListed, IsPaired, GoesRound, AreRounds, KeepsPace, IsScriptRun, RunsThrough}
use Rattle.lwkt_verdict.specs.Follow.{Follow, Begins, EndsHere, none_answered}
use Rattle.lwkt_run.specs.Keeping.{none_kept}
use Rattle.lwkt_run.specs.Running.{Scene, scene}
use Rattle.lwkt_run.specs.Driving.{Pair, pair}
use Rattle.lwkt_verdict.proofs.TraceMoves.{traces_happen}
use Rattle.lwkt_run.proofs.FillMoves.{filled}
use Rattle.lwkt_run.proofs.OrderMoves.{Rounded, rounded}
use Rattle.lwkt_run.proofs.TrackMoves.{IsFront, tracks_none, through_run, run_through, knows_none}
use Rattle.lwkt_run.proofs.FollowedMoves.{IsFollowedSoFar, Unpolled, RoundsAre, after_join}

-- events leave the processors
at_cpus : (m : Machine) (e : Event) (place : Place) → (after_at m e place).cpus ≡ m.cpus
at_cpus m e (AtToken i) = refl
at_cpus m e (AtMessage i) = refl

pub after_cpus : (m : Machine) (events : List Event) → (after_all m events).cpus ≡ m.cpus
after_cpus m [] = refl
after_cpus m (e ∷ events) = after_cpus (after m e) events ∙ at_cpus m e (place_of e)

-- an order that goes round the processors names no other
goes_within : (cpus k : ℕ) (order : List ℕ) → 0 < cpus → GoesRound cpus k order → All (λ cpu. cpu < cpus) order
goes_within cpus k [] some goes = All-nil (λ cpu. cpu < cpus)
goes_within cpus k (cpu ∷ order) some goes =
    All-cons (λ c. c < cpus) cpu order (subst (λ c. c < cpus) (sym goes.0) (mod-lt k some)) (goes_within cpus (k + 1) order some goes.1)

whole_rounds : (cpus count : ℕ) → 0 < cpus → (count * cpus) % cpus ≡ 0
whole_rounds cpus count some =
    let e : count * cpus ≡ count * cpus + 0 = omega arith in
    ap (λ n. n % cpus) e ∙ mod-mul-add count cpus 0 some

no_poll : (polls : List Poll) (t : Turn) → Unpolled t → is_some (poll_of polls t) ≡ false
no_poll polls t is = ap (λ o. is_some (option_and_then (slice_get polls) o)) is

-- before the first turn
pub stands_none : (plans : List ThreadSpec) (opening : Machine) (opened : Rig Scripted) (f : Follow) → Begins plans opening f → IsFollowedSoFar plans opening (pair (scene opened [] none_kept) f)
stands_none plans opening opened f begins = record {
  tracks = tracks_none plans opening f begins;
  knows = knows_none plans opening f begins;
  shown = λ answers. ([], begins.shown answers);
  threads = begins.plans;
  led = begins.machine;
  long = refl;
  waits = refl;
}

-- the rounds that were made are those of the script, or fewer
pub paced : (cpus limit : ℕ) (x y : Scene) (lines : List ThreadLine) → 0 < cpus → 0 < limit → x.kept.order ≡ [] → length y.kept.order ≡ length y.kept.turns → RoundsAre cpus limit x y → (AreOver y.machine.cpus → All (λ line. has_ended line.state ≡ true) lines) → AreRounds y.kept.polls cpus limit y.kept.order y.kept.turns lines
paced cpus limit x y lines some_cpu some_turn none same made ended =
    let kept = y.kept in
    let r : Rounded cpus (made.count * cpus) x y = rounded cpus (made.count * cpus) x y none made.turns in
    let long : length kept.turns ≡ made.count * cpus = sym same ∙ r.long in
    let least : 1 ≤ made.count = omega (arith, made.some some_turn) in
    let more : 0 < made.count * cpus = omega (arith, mul-le-mul_right cpus least, some_cpu) in
    record {
      round = r.goes;
      processors = some_cpu;
      some = omega (arith, long, more);
      whole = ap (λ n. n % cpus) long ∙ whole_rounds cpus made.count some_cpu;
      enough = elim made.last [
        | inl is ↦ inl (long ∙ ap (λ n. n * cpus) is)
        | inr before ↦
            let up : made.count + 1 ≤ limit = omega (arith, before.0) in
            inr (record {
              fewer = omega (arith, long, mul-le-mul_right cpus up, some_cpu);
              unasked = All-weaker Unpolled (λ t. is_some (poll_of kept.polls t) ≡ false) (no_poll kept.polls) _ before.2;
              ended = ended before.1;
            })
      ];
    }

pub run_after : (m n : Machine) (events : List Event) → Run m events n → n ≡ after_all m events
run_after m n [] run = run
run_after m n (e ∷ events) run =
    run_after run.0 n events run.1.1 ∙ ap (λ k. after_all k events) run.1.0.1

-- the events of a run lead to the machine that they leave
run_happens : (plans : List ThreadSpec) (pace : Pace) (order : List ℕ) (opening last : Machine) (polls : List Poll) (turns : List Turn) (traced stop : List Event) (lines : List ThreadLine) → last ≡ after_all opening traced → IsScriptRun plans pace order opening polls turns (traced ++ stop) lines → Run opening (traced ++ stop) (after_all last stop)
run_happens plans pace order opening last polls turns traced stop lines led run =
    let made = traces_happen plans pace order opening polls turns (traced ++ stop) lines run in
    let e : made.0 ≡ after_all last stop = run_after opening made.0 (traced ++ stop) made.1 ∙ after_join opening traced stop ∙ ap (λ m. after_all m stop) (sym led) in
    subst (λ m. Run opening (traced ++ stop) m) e made.1

-- what was kept so far runs through, where the check says that the run ends here
runs_whole : (plans : List ThreadSpec) (opening : Machine) (p : Pair) (lines : List ThreadLine) (stop : List Event) → IsFollowedSoFar plans opening p → EndsHere p.follow lines stop → RunsThrough plans lines p.at.kept.polls p.at.kept.order opening [] p.at.kept.turns (p.at.trace ++ stop)
runs_whole plans opening p lines stop stands ends =
    let kept = p.at.kept in
    let polls : IsFront (filled none_answered kept.polls) kept.polls = ([], sym (append-nil _ ∙ stands.waits)) in
    let order : IsFront kept.order kept.order = ([], sym (append-nil kept.order)) in
    let track = stands.tracks none_answered lines kept.polls kept.order ends.bear polls order in
    let end : EndsRun plans lines p.follow.machine track.before stop = subst (λ ps. EndsRun ps lines p.follow.machine track.before stop) stands.threads (ends.ends track.before track.shown) in
    subst (λ ts. RunsThrough plans lines kept.polls kept.order opening [] ts (p.at.trace ++ stop)) (append-nil kept.turns) (run_through plans lines kept.polls kept.order opening [] (kept.turns ++ []) (p.at.trace ++ stop) (track.on true [] stop end))

-- a trace and what is kept of its turns are a run of the script to its end
pub record Whole (plans : List ThreadSpec) (pace : Pace) (opening : Machine) (p : Pair) (lines : List ThreadLine) (stop : List Event) : Type 0 where
  pub happens : Run opening (p.at.trace ++ stop) (after_all p.follow.machine stop)
  pub run : IsScriptRun plans pace p.at.kept.order opening p.at.kept.polls p.at.kept.turns (p.at.trace ++ stop) lines

pub followed_whole : (plans : List ThreadSpec) (pace : Pace) (opening : Machine) (p : Pair) (lines : List ThreadLine) (stop : List Event) → IsFollowedSoFar plans opening p → All (λ cpu. cpu < opening.cpus) p.at.kept.order → KeepsPace pace p.at.kept.polls opening.cpus p.at.kept.order p.at.kept.turns lines → EndsHere p.follow lines stop → Whole plans pace opening p lines stop
followed_whole plans pace opening p lines stop stands within paced ends =
    let cpus : p.follow.machine.cpus ≡ opening.cpus = ap (λ (m : Machine). m.cpus) stands.led ∙ after_cpus opening p.at.trace in
    let run : IsScriptRun plans pace p.at.kept.order opening p.at.kept.polls p.at.kept.turns (p.at.trace ++ stop) lines = record {
      listed = subst (λ n. AreListed n 0 lines) cpus ends.listed;
      paired = λ cpu n less few. subst (λ ps. IsPaired ps lines cpu n) stands.threads (ends.paired cpu n less few);
      named = stands.long;
      within = within;
      paced = paced;
      runs = runs_whole plans opening p lines stop stands ends;
    } in
    record { happens = run_happens plans pace p.at.kept.order opening p.follow.machine p.at.kept.polls p.at.kept.turns p.at.trace stop lines stands.led run; run = run }

-- the same of rounds that were made
pub rounds_whole : (plans : List ThreadSpec) (limit : ℕ) (opening : Machine) (x : Scene) (p : Pair) (lines : List ThreadLine) (stop : List Event) → 0 < opening.cpus → 0 < limit → x.kept.order ≡ [] → RoundsAre opening.cpus limit x p.at → IsFollowedSoFar plans opening p → (AreOver p.at.machine.cpus → All (λ line. has_ended line.state ≡ true) lines) → EndsHere p.follow lines stop → Whole plans (Rounds limit) opening p lines stop
rounds_whole plans limit opening x p lines stop some_cpu some_turn none made stands ended ends =
    let is = paced opening.cpus limit x p.at lines some_cpu some_turn none stands.long made ended in
    followed_whole plans (Rounds limit) opening p lines stop stands (goes_within opening.cpus 0 p.at.kept.order some_cpu is.round) is ends

-- where the check says that the run doesn't end so, it isn't a run of the script that closes so
pub no_run : (plans : List ThreadSpec) (pace : Pace) (opening : Machine) (p : Pair) (left : Left) (stop : List Event) → IsFollowedSoFar plans opening p → DeclinesSo p.follow left stop → IsLawfulTrace opening (p.at.trace ++ stop) left.last → IsScriptRun plans pace p.at.kept.order opening p.at.kept.polls p.at.kept.turns (p.at.trace ++ stop) left.threads.items → ⊥
no_run plans pace opening p left stop stands declines lawful run =
    let kept = p.at.kept in
    let lines = left.threads.items in
    let f = p.follow in
    let polls : IsFront (filled none_answered kept.polls) kept.polls = ([], sym (append-nil _ ∙ stands.waits)) in
    let order : IsFront kept.order kept.order = ([], sym (append-nil kept.order)) in
    let R : List Turn → Type 0 = λ ts. RunsThrough plans lines kept.polls kept.order opening [] ts (p.at.trace ++ stop) in
    let through = through_run plans lines kept.polls kept.order opening [] (kept.turns ++ []) (p.at.trace ++ stop) (subst R (sym (append-nil kept.turns)) run.runs) in
    let k = stands.knows true none_answered lines kept.polls kept.order polls order [] stop through in
    let cpus : f.machine.cpus ≡ opening.cpus = ap (λ (m : Machine). m.cpus) stands.led ∙ after_cpus opening p.at.trace in
    let listed : AreListed f.machine.cpus 0 lines = subst (λ n. AreListed n 0 lines) (sym cpus) run.listed in
    let ends : EndsRun f.plans lines f.machine k.before stop = subst (λ ps. EndsRun ps lines f.machine k.before stop) (sym stands.threads) k.on in
    let last : lawful.0 ≡ after_all f.machine stop = run_after opening lawful.0 (p.at.trace ++ stop) lawful.1.0 ∙ after_join opening p.at.trace stop ∙ ap (λ m. after_all m stop) (sym stands.led) in
    declines k.before k.allow k.shown listed ends (subst (λ m. Closes m left.last) last lawful.1.1)
