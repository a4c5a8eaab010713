-- What a run left that was driven and checked.
use Rattle.std.proofs.Common.{◌≡◌, ◌∙◌, ◌⊎◌, ℕ, ◌+◌, ◌*◌, ◌%◌, ◌<◌, ◌≤◌, Bool, true, false, List, [], ◌++◌, length, drop, map, refl, ap, sym, subst, inl, inr, arith, Option, Some, None, append-nil, length-append, mul-le-mul_right, zero-mul}
use Rattle.std.specs.Prelude.{◌↔◌, All, IfSome, IsTrue}
use Rattle.std.proofs.Math.Seq.{take-length}
use Rattle.std.proofs.lemmas.List.{take-append-drop, length_push}
use Rattle.std.proofs.lemmas.Nat.{mod-mul-add}
use Rattle.lwkt_core.specs.declared.events.Event.{Event}
use Rattle.lwkt_core.specs.declared.finals.Final.{Final}
use Rattle.lwkt_core.specs.Opening.{AreWithin, AllOpenLawfully}
use Rattle.lwkt_base.specs.Threads.{has_ended}
use Rattle.lwkt_machine.specs.Bodies.{Scripted}
use Rattle.lwkt_machine.specs.Ended.{AreOver}
use Rattle.lwkt_machine.specs.Machines.{Rig}
use Rattle.lwkt_machine.specs.Scripts.{IsOpenedScript}
use Rattle.lwkt_script.specs.declared.scripts.ThreadSpec.{ThreadSpec}
use Rattle.lwkt_core.specs.Machine.{Machine}
use Rattle.lwkt_port.proofs.Chaining.{chain_more}
use Rattle.std.proofs.lemmas.Bool.{cases_lt, false≢true}
use Rattle.lwkt_port.specs.Chains.{Chain}
use Rattle.lwkt_report.specs.declared.closings.Closing.{Closing}
use Rattle.lwkt_base.specs.declared.threads.ThreadLine.{ThreadLine}
use Rattle.lwkt_report.specs.declared.closings.Verdict.{Verdict}
use Rattle.lwkt_report.specs.declared.closings.Verdict.TheVariants.{Lawful, Unlawful}
use Rattle.lwkt_script.specs.declared.scripts.Script.{Script}
use Rattle.lwkt_verdict.specs.declared.turns.Poll.{Poll}
use Rattle.lwkt_verdict.specs.declared.turns.Turn.{Turn}
use Rattle.lwkt_verdict.specs.declared.turns.Pace.TheVariants.{Rounds as InRounds, Named}
use Rattle.lwkt_verdict.specs.Follow.{Begins}
use Rattle.lwkt_verdict.specs.TurnParts.{after_all}
use Rattle.lwkt_verdict.specs.Run.{GoesRound, AreRounds, KeepsPace, IsScriptRun, whose}
use Rattle.lwkt_run.specs.Checked.{EndsSo, DeclinesSo, IsMadeOf, LeavesChecked}
use Rattle.lwkt_run.specs.Courses.{ClosesBy, IsRunBy}
use Rattle.lwkt_run.specs.Driving.{Pair, pair, DeclinesTurn, FollowsStep, Walk, walk, DriverState, IsOf, IsAt, IsDriven, IsWithin, HasTurns, IsCourseOf, pace_of}
use Rattle.lwkt_run.specs.Judging.{ids_of, CountsBefore, FitBefore, IsVerdict}
use Rattle.lwkt_run.specs.Keeping.{Kept, Story, turn_of, none_kept, no_story, story_as}
use Rattle.lwkt_run.specs.Leaving.{Leaves}
use Rattle.lwkt_run.specs.Run.{opening_of_script, AreMadeOf, IsJudgedBy, MayClose, RunsAlong, RunsBy, RunsInRounds}
use Rattle.lwkt_run.specs.Running.{HasThreads, Scene, scene, ShowThreads, MakesTurnAt, MakesSome, MakesTurns, HasMadeRounds}
use Rattle.lwkt_run.specs.Threaded.{ShowsLeft}
use Rattle.lwkt_run.specs.Values.{AreValuesOf}
use Rattle.lwkt_run.specs.declared.endings.Left.{Left}
use Rattle.lwkt_run.specs.declared.rounds.Course.{Course}
use Rattle.lwkt_run.specs.declared.rounds.Course.TheVariants.{Rounds, Along}
use Rattle.lwkt_run.specs.declared.runs.TurnsRun.{TurnsRun}
use Rattle.lwkt_run.proofs.DriveMoves.{turns_made}
use Rattle.lwkt_run.proofs.EndedMoves.{lines_ended}
use Rattle.lwkt_run.proofs.FollowMoves.{Whole, stands_none, followed_whole, rounds_whole, paced, no_run}
use Rattle.lwkt_run.proofs.IdMoves.{opened_has}
use Rattle.lwkt_run.proofs.JudgeMoves.{judged}
use Rattle.lwkt_run.proofs.OrderMoves.{GoTurns, chain_maps, chain_then, rounds_turned, Rounded, rounded, Fronted, fronted}
use Rattle.lwkt_run.proofs.RoundMoves.{has_turns, turns_bank, turns_book}
use Rattle.lwkt_run.proofs.FollowedMoves.{IsFollowedSoFar, RoundsAre, rounds_are, rounds_stand, order_stands, some_made, some_stand, front_stands, walk_stands, none_begins, begun_before, before_is}
use Rattle.lwkt_run.proofs.TurnMoves.{rounds_are_parts, turns_are_parts}

-- an order is a front of a course: in rounds it goes round the processors, and has no more turns than these rounds
abbrev IsFrontOf : Course → ℕ → List ℕ → Type 0
IsFrontOf (Rounds limit) cpus made = GoesRound cpus 0 made × (length made ≤ limit * cpus)
IsFrontOf (Along order) cpus made = (rest : List ℕ) × (order.now ≡ made ++ rest)

-- by what turns of a course were made that the check followed
abbrev PacedBy : Course → ℕ → Scene → Scene → Type 0
PacedBy (Rounds limit) cpus x y = RoundsAre cpus limit x y
PacedBy (Along order) cpus x y = Unit {0}

-- why a driver stopped: the check said no to the last turn, after others that it followed; or it followed all
abbrev Why : Bool → Course → ℕ → List ThreadSpec → Machine → Scene → DriverState → Scene → Type 0
Why false course cpus plans opening x t y = CountsBefore t.events y.kept.turns × ((cpu : ℕ) × ((p : Pair) × (IsFollowedSoFar plans opening p × DeclinesTurn cpu p y)))
Why true course cpus plans opening x t y = IsAt t y × (IsFollowedSoFar plans opening (pair y t.follow) × PacedBy course cpus x y)

-- what a driver did of a run that had no turn before: turns of an order that is kept, which is a front of its course
pub record DroveTo (course : Course) (cpus : ℕ) (fits : Bool) (s : DriverState) (x : Scene) (t : DriverState) (y : Scene) : Type 0 where
  pub of : IsOf t y
  pub along : MakesTurns y.kept.order x y
  pub front : IsFrontOf course cpus y.kept.order
  pub why : (plans : List ThreadSpec) (opening : Machine) → IsFollowedSoFar plans opening (pair x s.follow) → Why fits course cpus plans opening x t y

-- some turns of a round behind so many rounds
stopped_turns : (cpus count n : ℕ) (x mid y : Scene) → n + 1 ≤ cpus → GoTurns cpus (count * cpus) x mid → Chain Scene MakesTurnAt (n + 1) mid y → GoTurns cpus (count * cpus + (n + 1)) x y
stopped_turns cpus count n x mid y few rounds turns =
    let T : ℕ → Scene → Scene → Type 0 = λ j. MakesTurnAt ((count * cpus + j) % cpus) in
    let does : (k : ℕ) (u v : Scene) → k < n + 1 → MakesTurnAt k u v → T k u v = λ k u v less turn.
    let below : k < cpus = omega (arith, less, few) in
    subst (λ c. MakesTurnAt c u v) (sym (mod-mul-add count cpus k below)) turn in
    let all : n + 1 ≤ n + 1 = omega arith in
    chain_then Scene (λ k. MakesTurnAt (k % cpus)) (count * cpus) (n + 1) x mid y rounds (chain_maps Scene Scene (λ z. z) MakesTurnAt T (n + 1) does (n + 1) mid y all turns)

same_cpus : (s : DriverState) (x : Scene) (cpus : ℕ) → IsOf s x → length s.machine.cpus ≡ cpus → length x.machine.cpus ≡ cpus
same_cpus s x cpus of many = ap (λ (m : Rig Scripted). length m.cpus) of.machine ∙ many

by_rounds : (limit cpus n : ℕ) (fits : Bool) (s : DriverState) (x : Scene) (t : DriverState) (y : Scene) → x.kept.order ≡ [] → n ≤ limit * cpus → GoTurns cpus n x y → IsOf t y → ((plans : List ThreadSpec) (opening : Machine) → IsFollowedSoFar plans opening (pair x s.follow) → Why fits (Rounds limit) cpus plans opening x t y) → DroveTo (Rounds limit) cpus fits s x t y
by_rounds limit cpus n fits s x t y none few turns of why =
    let r : Rounded cpus n x y = rounded cpus n x y none turns in
    record { of = of; along = r.along; front = (r.goes, omega (arith, r.long, few)); why = why }

-- the turns of a part of a round that were followed, and the one that wasn't
part_made : (n : ℕ) (mid : Pair) (w : Walk) (y : Scene) → Chain Walk FollowsStep n (walk mid true) w → DeclinesTurn n w.at y → Chain Scene MakesTurnAt (n + 1) mid.at y
part_made n mid w y turns last =
    let f : Walk → Scene = λ v. v.at.at in
    let all : n ≤ n = omega arith in
    let made : Chain Scene MakesTurnAt n mid.at w.at.at = chain_maps Walk Scene f FollowsStep MakesTurnAt n (λ k a b below step. (step.0, step.1.0.turn)) n (walk mid true) w all turns in
    chain_more Scene MakesTurnAt n mid.at w.at.at y made (last.turned, last.turn)

pub drove : (course : Course) (cpus : ℕ) (fits : Bool) (s t : DriverState) (x : Scene) → length s.machine.cpus ≡ cpus → x.kept.order ≡ [] → IsAt s x → IsDriven course fits s t → (y : Scene) × DroveTo course cpus fits s x t y
drove (Rounds limit) cpus false s t x many none at driven =
    let d = driven x at in
    let y = d.0 in
    let count = d.1.1.0 in
    let stop = d.1.1.1.1.1.1 in
    let mid = d.1.1.1.1.0 in
    let rounds = d.1.1.1.1.1.0 in
    let n = stop.0 in
    let w = stop.1.1.0 in
    let walked = stop.1.1.1.0 in
    let last = stop.1.1.1.1 in
    let front = rounds_turned cpus count x mid.at (same_cpus s x cpus at.of many) (some_made count (pair x s.follow) mid rounds) in
    let few : n + 1 ≤ cpus = omega (arith, stop.1.0, front.same) in
    let up : count + 1 ≤ limit = omega (arith, d.1.1.1.0) in
    let bound : count * cpus + (n + 1) ≤ limit * cpus = omega (arith, mul-le-mul_right cpus up, few) in (
      y,
      by_rounds limit cpus (count * cpus + (n + 1)) false s x t y none bound (stopped_turns cpus count n x mid.at y few front.turns (part_made n mid w y walked last)) d.1.0.of
          (λ plans opening stands. (d.1.0.stood, (n, (w.at, (walk_stands plans opening n (walk mid true) w walked (some_stand plans opening count (pair x s.follow) mid rounds stands), last))))),
    )
drove (Rounds limit) cpus true s t x many none at driven =
    let d = driven x at in
    let y = d.0 in
    let r = rounds_are cpus limit (pair x s.follow) (pair y t.follow) (same_cpus s x cpus at.of many) d.1.1 in
    let least : r.count ≤ limit = elim r.last [ inl is ↦ omega (arith, is) | inr before ↦ omega (arith, before.0) ] in (
      y,
      by_rounds limit cpus (r.count * cpus) true s x t y none (mul-le-mul_right cpus least) r.turns d.1.0.of
          (λ plans opening stands. (d.1.0, (rounds_stand plans opening limit (pair x s.follow) (pair y t.follow) d.1.1 stands, r))),
    )
drove (Along order) cpus false s t x many none at driven =
    let d = driven x at in
    let y = d.0 in
    let n = d.1.1.0 in
    let mid = d.1.1.1.1.0 in
    let turns = d.1.1.1.1.1.0 in
    let last = d.1.1.1.1.1.1 in
    let few : n + 1 ≤ length order.now = omega (arith, d.1.1.1.0) in
    let made : MakesSome order.now (n + 1) x y = chain_more Scene (λ k. MakesTurnAt (whose order.now k)) n x mid.at y (turns_made order.now n (pair x s.follow) mid turns) (last.turned, last.turn) in
    let f : Fronted order.now (n + 1) x y = fronted order.now (n + 1) x y few none made in
    let rest : order.now ≡ y.kept.order ++ drop (n + 1) order.now = sym (take-append-drop (n + 1) order.now) ∙ ap (λ o. o ++ drop (n + 1) order.now) (sym f.front) in
    (y, record { of = d.1.0.of; along = f.along; front = (drop (n + 1) order.now, rest); why = λ plans opening stands. (d.1.0.stood, (whose order.now n, (mid, (front_stands plans opening order.now n (pair x s.follow) mid turns stands, last)))) })
drove (Along order) cpus true s t x many none at driven =
    let d = driven x at in
    let y = d.0 in
    let n = length order.now in
    let few : n ≤ length order.now = omega arith in
    let f : Fronted order.now n x y = fronted order.now n x y few none (turns_made order.now n (pair x s.follow) (pair y t.follow) d.1.1) in
    let whole : order.now ≡ y.kept.order ++ [] = sym (take-length order.now) ∙ sym f.front ∙ sym (append-nil y.kept.order) in
    (y, record { of = d.1.0.of; along = f.along; front = ([], whole); why = λ plans opening stands. (d.1.0, (order_stands plans opening order.now (pair x s.follow) (pair y t.follow) d.1.1 stands, tt)) })

-- what a keeper has is the story of the scene
keeps_story : (kept : Option Story) (y : Scene) → IfSome kept (λ story. (y.trace ≡ story.trace) × (y.kept ≡ story.kept)) → IfSome kept (λ story. story ≡ story_as y.trace y.kept)
keeps_story None y is = tt
keeps_story (Some story) y is = ap (λ es. story_as es story.kept) (sym is.0) ∙ ap (λ k. story_as y.trace k) (sym is.1)

-- before the first turn
keeps_none : (kept : Option Story) → IfSome kept (λ story. story ≡ no_story) → IfSome kept (λ story. ([] ≡ story.trace) × (none_kept ≡ story.kept))
keeps_none None is = tt
keeps_none (Some story) is = (ap (λ (s : Story). s.trace) (sym is), ap (λ (s : Story). s.kept) (sym is))

pub at_first : (s : DriverState) → IfSome s.kept (λ story. story ≡ no_story) → s.events ≡ 0 → IsAt s (scene s.machine [] none_kept)
at_first s none zero_events = record { of = record { machine = refl; kept = keeps_none s.kept none }; counted = zero_events }

-- all that is known where a machine was driven, stopped and closed
pub record Closes (script : Script) (s t : DriverState) (left : Left) (stops : List Event) : Type 0 where
  pub opens : IsOpenedScript script s.machine
  pub within : AreWithin script.cpus script.tokens script.messages
  pub lawful : AllOpenLawfully script.tokens
  pub values : AreValuesOf script.tokens left.last
  pub ids : map (λ line. line.id) left.threads.items ≡ ids_of script.cpus script.threads
  pub shown : ShowThreads script.threads left.threads.items t.machine
  pub leaves : Leaves t.machine stops left.last
  pub begins : Begins script.threads (opening_of_script script) s.follow
  pub fresh : IfSome s.kept (λ story. story ≡ no_story)
  pub uncounted : s.events ≡ 0

-- the run that a driver begins
abbrev first_of : DriverState → Scene
first_of s = scene s.machine [] none_kept

-- a scene of a driver's machine
abbrev scene_of : DriverState → Scene → Scene
scene_of t y = scene t.machine y.trace y.kept

same_scene : (t : DriverState) (y : Scene) → IsOf t y → y ≡ scene_of t y
same_scene t y of = ap (λ m. scene m y.trace y.kept) of.machine

-- the turns that were made are a run along their order
runs_along : (script : Script) (s t : DriverState) (left : Left) (stops : List Event) (y : Scene) → Closes script s t left stops → IsOf t y → MakesTurns y.kept.order (first_of s) y → RunsAlong script y.kept.order left.threads.items y.kept (y.trace ++ stops) left.last
runs_along script s t left stops y c of along =
    let turns : MakesTurns y.kept.order (first_of s) (scene_of t y) = subst (λ z. MakesTurns y.kept.order (first_of s) z) (same_scene t y of) along in
    record {
      opened = s.machine;
      made = t.machine;
      traced = y.trace;
      stops = stops;
      opens = c.opens;
      along = turns;
      shown = c.shown;
      leaves = c.leaves;
      trace_is = refl;
      modelled = turns_are_parts script y.kept.order s.machine t.machine y.trace stops y.kept left.last c.leaves c.opens c.within c.lawful turns;
    }

-- rounds that were made are a run in rounds
runs_in_rounds : (script : Script) (s t : DriverState) (left : Left) (stops : List Event) (y : Scene) → Closes script s t left stops → IsOf t y → HasMadeRounds script.turns (first_of s) y → RunsInRounds script left.threads.items y.kept (y.trace ++ stops) left.last
runs_in_rounds script s t left stops y c of made =
    let rounds : HasMadeRounds script.turns (first_of s) (scene_of t y) = subst (λ z. HasMadeRounds script.turns (first_of s) z) (same_scene t y of) made in
    record {
      opened = s.machine;
      made = t.machine;
      traced = y.trace;
      stops = stops;
      opens = c.opens;
      rounds = rounds;
      shown = c.shown;
      leaves = c.leaves;
      trace_is = refl;
      modelled = rounds_are_parts script s.machine t.machine y.trace stops y.kept left.last c.leaves c.opens c.within c.lawful rounds;
    }

-- where the check said no
unlawful_made : (index : ℕ) (course : Course) (cpus : ℕ) (made : List ℕ) → IsFrontOf course cpus made → IsMadeOf (Unlawful index) course made
unlawful_made index (Rounds limit) cpus made front = tt
unlawful_made index (Along order) cpus made front = front

unlawful_runs : (index : ℕ) (script : Script) (course : Course) (lines : List ThreadLine) (kept : Kept) (trace : List Event) (last : Final) → IsCourseOf script course → IsFrontOf course script.cpus kept.order → RunsAlong script kept.order lines kept trace last → RunsBy (Unlawful index) (pace_of course) script kept.order lines kept trace last
unlawful_runs index script (Rounds limit) lines kept trace last of front runs = (of, (front.0, (front.1, runs)))
unlawful_runs index script (Along order) lines kept trace last of front runs = runs

-- the verdict on what was made
abbrev SaysNo : Script → Course → Left → List Event → DriverState → Scene → Type 0
SaysNo script course left stops t y = IsVerdict (Unlawful t.events) (opening_of_script script) (pace_of course) y.kept.order script.threads left.threads.items left.last (y.trace ++ stops) y.kept.polls y.kept.turns

leaves_unlawful : (script : Script) (course : Course) (fits : Bool) (s t : DriverState) (left : Left) (stops : List Event) (y : Scene) → IsCourseOf script course → Closes script s t left stops → DroveTo course script.cpus fits s (first_of s) t y → SaysNo script course left stops t y → LeavesChecked course script t.kept left stops (Unlawful t.events)
leaves_unlawful script course fits s t left stops y of c d says = record {
  within = c.within;
  lawful_opening = c.lawful;
  values = c.values;
  threads = c.ids;
  story = story_as y.trace y.kept;
  shown = keeps_story t.kept y d.of.kept;
  made = unlawful_made t.events course script.cpus y.kept.order d.front;
  runs = unlawful_runs t.events script course left.threads.items y.kept (y.trace ++ stops) left.last of d.front (runs_along script s t left stops y c d.of d.along);
  by = says;
}

-- where the check followed the run to its end
leaves_lawful : (script : Script) (course : Course) (s t : DriverState) (left : Left) (stops : List Event) → IsCourseOf script course → Closes script s t left stops → IsDriven course true s t → HasTurns course → EndsSo t.follow left stops → LeavesChecked course script t.kept left stops Lawful
leaves_lawful script (Rounds limit) s t left stops of c driven some ends =
    let x = first_of s in
    let d = driven x (at_first s c.fresh c.uncounted) in
    let y = d.0 in
    let opening = opening_of_script script in
    let r : RoundsAre script.cpus limit x y = rounds_are script.cpus limit (pair x s.follow) (pair y t.follow) c.opens.as_many d.1.1 in
    let stands : IsFollowedSoFar script.threads opening (pair y t.follow) = rounds_stand script.threads opening limit (pair x s.follow) (pair y t.follow) d.1.1 (stands_none script.threads opening s.machine s.follow c.begins) in
    let ended : AreOver y.machine.cpus → All (λ line. has_ended line.state ≡ true) left.threads.items = λ over. lines_ended script.threads left.threads.items y.machine (subst (ShowThreads script.threads left.threads.items) (sym d.1.0.of.machine) c.shown) over in
    let w : Whole script.threads (InRounds limit) opening (pair y t.follow) left.threads.items stops = rounds_whole script.threads limit opening x (pair y t.follow) left.threads.items stops c.within.some_processor some refl r stands ended ends.ends in
    record {
      within = c.within;
      lawful_opening = c.lawful;
      values = c.values;
      threads = c.ids;
      story = story_as y.trace y.kept;
      shown = keeps_story t.kept y d.1.0.of.kept;
      made = tt;
      runs = (of, runs_in_rounds script s t left stops y c d.1.0.of (subst (λ n. HasMadeRounds n x y) of r.rounds));
      by = ((after_all t.follow.machine stops, (w.happens, ends.closes)), w.run);
    }
leaves_lawful script (Along order) s t left stops of c driven some ends =
    let x = first_of s in
    let d = driven x (at_first s c.fresh c.uncounted) in
    let y = d.0 in
    let opening = opening_of_script script in
    let n = length order.now in
    let few : n ≤ length order.now = omega arith in
    let f : Fronted order.now n x y = fronted order.now n x y few refl (turns_made order.now n (pair x s.follow) (pair y t.follow) d.1.1) in
    let is : y.kept.order ≡ order.now = f.front ∙ take-length order.now in
    let stands : IsFollowedSoFar script.threads opening (pair y t.follow) = order_stands script.threads opening order.now (pair x s.follow) (pair y t.follow) d.1.1 (stands_none script.threads opening s.machine s.follow c.begins) in
    let within : All (λ cpu. cpu < script.cpus) y.kept.order = subst (All (λ cpu. cpu < script.cpus)) (sym is) of in
    let w : Whole script.threads Named opening (pair y t.follow) left.threads.items stops = followed_whole script.threads Named opening (pair y t.follow) left.threads.items stops stands within tt ends.ends in
    record {
      within = c.within;
      lawful_opening = c.lawful;
      values = c.values;
      threads = c.ids;
      story = story_as y.trace y.kept;
      shown = keeps_story t.kept y d.1.0.of.kept;
      made = is;
      runs = runs_along script s t left stops y c d.1.0.of f.along;
      by = ((after_all t.follow.machine stops, (w.happens, ends.closes)), w.run);
    }

-- no turns at all are no rounds
no_rounds : (polls : List Poll) (cpus limit : ℕ) (order : List ℕ) (turns : List Turn) (lines : List ThreadLine) → limit ≡ 0 → AreRounds polls cpus limit order turns lines → ⊥
no_rounds polls cpus limit order turns lines none rounds =
    let empty : limit * cpus ≡ 0 = ap (λ n. n * cpus) none ∙ zero-mul cpus in
    elim rounds.enough [
      | inl is ↦ omega (arith, rounds.some, is, empty)
      | inr early ↦ omega (arith, early.fewer, empty)
    ]

-- the turns that were followed keep the pace of their course, or that asks for none
kept_pace : (script : Script) (course : Course) (s t : DriverState) (left : Left) (stops : List Event) (y : Scene) → Closes script s t left stops → IsOf t y → IsFollowedSoFar script.threads (opening_of_script script) (pair y t.follow) → PacedBy course script.cpus (first_of s) y → (pace_of course ≡ InRounds 0) ⊎ KeepsPace (pace_of course) y.kept.polls (opening_of_script script).cpus y.kept.order y.kept.turns left.threads.items
kept_pace script (Rounds limit) s t left stops y c of stands made = elim (cases_lt 0 limit) [
  | inl some ↦ (let ended : AreOver y.machine.cpus → All (λ line. has_ended line.state ≡ true) left.threads.items = λ over. lines_ended script.threads left.threads.items y.machine (subst (ShowThreads script.threads left.threads.items) (sym of.machine) c.shown) over in
      inr (paced script.cpus limit (first_of s) y left.threads.items c.within.some_processor some refl stands.long made ended))
  | inr none ↦ (let is : limit ≡ 0 = omega (arith, none) in inl (ap InRounds is))
]
kept_pace script (Along order) s t left stops y c of stands made = inr tt

-- whether the check followed what is a run of the script
no_course : (script : Script) (course : Course) (follows : Bool) (left : Left) (stops : List Event) (y : Scene) → (IsTrue true × HasTurns course → IsTrue follows) → follows ≡ false → IsScriptRun script.threads (pace_of course) y.kept.order (opening_of_script script) y.kept.polls y.kept.turns (y.trace ++ stops) left.threads.items → ⊥
no_course script (Rounds limit) follows left stops y all not_so run = elim (cases_lt 0 limit) [
  | inl some ↦ false≢true (sym not_so ∙ all (refl, some))
  | inr none ↦ (let is : limit ≡ 0 = omega (arith, none) in no_rounds y.kept.polls (opening_of_script script).cpus limit y.kept.order y.kept.turns left.threads.items is run.paced)
]
no_course script (Along order) follows left stops y all not_so run = false≢true (sym not_so ∙ all (refl, tt))

-- why the check said no
says_no : (script : Script) (course : Course) (fits follows : Bool) (s t : DriverState) (left : Left) (stops : List Event) (y : Scene) → Closes script s t left stops → DroveTo course script.cpus fits s (first_of s) t y → (IsTrue fits × HasTurns course → IsTrue follows) → (follows ≡ false) ⊎ DeclinesSo t.follow left stops → SaysNo script course left stops t y
says_no script course false follows s t left stops y c d all why =
    let opening = opening_of_script script in
    let w = d.why script.threads opening (stands_none script.threads opening s.machine s.follow c.begins) in
    let turn = w.1.1.1.1.turn in
    let same = before_is w.1.1.0.at.kept.turns w.0.before (turn_of turn.asks turn.events (length w.1.1.0.at.kept.polls)) w.0.last (sym turn.keeps.turns ∙ w.0.turns_are) in
    let F : List Turn → Type 0 = λ ts. FitBefore opening y.kept.order script.threads (y.trace ++ stops) y.kept.polls ts in
    inl (record {
      stood = w.0;
      fits = subst F same (begun_before script.threads opening w.1.0 w.1.1.0 y w.1.1.1.1 w.1.1.1.0 stops);
      misfits = λ lines runs. none_begins script.threads opening w.1.0 w.1.1.0 y w.1.1.1.1 w.1.1.1.0 stops lines runs;
    })
says_no script course true follows s t left stops y c d all why =
    let opening = opening_of_script script in
    let w = d.why script.threads opening (stands_none script.threads opening s.machine s.follow c.begins) in
    inr (record {
      whole = kept_pace script course s t left stops y c d.of w.1.0 w.1.1;
      counted = w.0.counted;
      misfits = λ run. elim why [
        | inl not_so ↦ no_course script course follows left stops y all not_so run.1
        | inr declines ↦ no_run script.threads (pace_of course) opening (pair y t.follow) left stops w.1.0 declines run.0 run.1
      ];
    })

-- what a verdict says, by what a check says
abbrev pub Says : Verdict → Bool → ℕ → (List Event → Type 0) → (List Event → Type 0) → List Event → Type 0
Says verdict follows events E D stops = ((verdict ≡ Lawful) × (IsTrue follows × E stops)) ⊎ ((verdict ≡ Unlawful events) × ((follows ≡ false) ⊎ D stops))

-- either way
pub leaves_checked : (script : Script) (course : Course) (fits follows : Bool) (s t : DriverState) (left : Left) (stops : List Event) (verdict : Verdict) → IsCourseOf script course → Closes script s t left stops → IsDriven course fits s t → (IsTrue follows ↔ (IsTrue fits × HasTurns course)) → Says verdict follows t.events (EndsSo t.follow left) (DeclinesSo t.follow left) stops → LeavesChecked course script t.kept left stops verdict
leaves_checked script course fits follows s t left stops verdict of c driven all (inl lawful) =
    let is = all.0 lawful.1.0 in
    let so : IsDriven course true s t = subst (λ b. IsDriven course b s t) is.0 driven in
    subst (λ v. LeavesChecked course script t.kept left stops v) (sym lawful.0) (leaves_lawful script course s t left stops of c so is.1 lawful.1.1)
leaves_checked script course fits follows s t left stops verdict of c driven all (inr said) =
    let d = drove course script.cpus fits s t (first_of s) c.opens.as_many refl (at_first s c.fresh c.uncounted) driven in
    subst (λ v. LeavesChecked course script t.kept left stops v) (sym said.0) (leaves_unlawful script course fits s t left stops d.0 of c d.1 (says_no script course fits follows s t left stops d.0 c d.1 all.1 said.1))

-- the report of what is left
pub closes_so : (course : Course) (script : Script) (kept : Option Story) (left : Left) (stops : List Event) (verdict : Verdict) (closing : Closing) (l : LeavesChecked course script kept left stops verdict) → ShowsLeft script.tokens left.threads.items left.last verdict closing → IsJudgedBy (pace_of course) script closing l.story.kept.order (l.story.trace ++ stops) l.story.kept.polls l.story.kept.turns
closes_so course script kept left stops verdict closing l shown =
    let order = l.story.kept.order in
    let trace : List Event = l.story.trace ++ stops in
    let R : Verdict → List ThreadLine → Type 0 = λ v lines. RunsBy v (pace_of course) script order lines l.story.kept trace left.last in
    let V : Verdict → List ThreadLine → Type 0 = λ v lines. IsVerdict v (opening_of_script script) (pace_of course) order script.threads lines left.last trace l.story.kept.polls l.story.kept.turns in
    judged script closing (opening_of_script script) (pace_of course) order left.last trace l.story.kept.polls l.story.kept.turns refl shown.shows
    (subst (λ v. R v closing.threads.items) (sym shown.verdict_is) (subst (λ lines. R verdict lines) (sym shown.threads) l.runs))
    (subst (λ v. V v closing.threads.items) (sym shown.verdict_is) (subst (λ lines. V verdict lines) (sym shown.threads) l.by))
    l.within l.lawful_opening

pub may_close : (course : Course) (script : Script) (kept : Option Story) (left : Left) (stops : List Event) (verdict : Verdict) (closing : Closing) → LeavesChecked course script kept left stops verdict → ShowsLeft script.tokens left.threads.items left.last verdict closing → MayClose (pace_of course) script closing
may_close course script kept left stops verdict closing l shown = record {
  within = l.within;
  lawful_opening = l.lawful_opening;
  kinds = shown.kinds;
  threads = ap (λ (lines : List ThreadLine). map (λ line. line.id) lines) shown.threads ∙ l.threads;
  judged = record {
    order = l.story.kept.order;
    trace = l.story.trace ++ stops;
    polls = l.story.kept.polls;
    turns = l.story.kept.turns;
    so = closes_so course script kept left stops verdict closing l shown;
  };
}

-- of a run of which nothing is kept
pub closes_by : (course : Course) (script : Script) (kept : Option Story) (left : Left) (stops : List Event) (verdict : Verdict) (closing : Closing) → IsCourseOf script course → LeavesChecked course script kept left stops verdict → ShowsLeft script.tokens left.threads.items left.last verdict closing → ClosesBy course script closing
closes_by (Rounds limit) script kept left stops verdict closing of l shown =
    subst (λ n. MayClose (InRounds n) script closing) of (may_close (Rounds limit) script kept left stops verdict closing l shown)
closes_by (Along order) script kept left stops verdict closing of l shown = record {
  closes = may_close (Along order) script kept left stops verdict closing l shown;
  made = l.story.kept.order;
  made_of = subst (λ v. AreMadeOf v order.now l.story.kept.order) (sym shown.verdict_is) l.made;
  trace = l.story.trace ++ stops;
  polls = l.story.kept.polls;
  turns = l.story.kept.turns;
  judged = closes_so (Along order) script kept left stops verdict closing l shown;
}

-- what was kept of a run is judged
kept_judged : (course : Course) (script : Script) (story : Story) (left : Left) (stops : List Event) (verdict : Verdict) (run : TurnsRun) → LeavesChecked course script (Some story) left stops verdict → ShowsLeft script.tokens left.threads.items left.last verdict run.closing → run.trace.items ≡ story.trace ++ stops → run.order.items ≡ story.kept.order → run.polls.items ≡ story.kept.polls → run.turns.items ≡ story.kept.turns → IsJudgedBy (pace_of course) script run.closing run.order.items run.trace.items run.polls.items run.turns.items
kept_judged course script story left stops verdict run l shown trace order polls turns =
    let J : List ℕ → List Event → List Poll → List Turn → Type 0 = λ os es ps ts. IsJudgedBy (pace_of course) script run.closing os es ps ts in
    let S : Story → Type 0 = λ s. J s.kept.order (s.trace ++ stops) s.kept.polls s.kept.turns in
    let whole : S story = subst S (sym l.shown) (closes_so course script (Some story) left stops verdict run.closing l shown) in
    subst (λ ts. J run.order.items run.trace.items run.polls.items ts) (sym turns) (subst (λ ps. J run.order.items run.trace.items ps story.kept.turns) (sym polls) (subst (λ es. J run.order.items es story.kept.polls story.kept.turns) (sym trace) (subst (λ os. J os (story.trace ++ stops) story.kept.polls story.kept.turns) (sym order) whole)))

-- of a run whose story is kept
pub runs_by : (course : Course) (script : Script) (story : Story) (left : Left) (stops : List Event) (verdict : Verdict) (run : TurnsRun) → IsCourseOf script course → LeavesChecked course script (Some story) left stops verdict → ShowsLeft script.tokens left.threads.items left.last verdict run.closing → run.trace.items ≡ story.trace ++ stops → run.order.items ≡ story.kept.order → run.polls.items ≡ story.kept.polls → run.turns.items ≡ story.kept.turns → IsRunBy course script run
runs_by (Rounds limit) script story left stops verdict run of l shown trace order polls turns = record {
  closes = subst (λ n. MayClose (InRounds n) script run.closing) of (may_close (Rounds limit) script (Some story) left stops verdict run.closing l shown);
  judged = subst (λ n. IsJudgedBy (InRounds n) script run.closing run.order.items run.trace.items run.polls.items run.turns.items) of (kept_judged (Rounds limit) script story left stops verdict run l shown trace order polls turns);
}
runs_by (Along order') script story left stops verdict run of l shown trace order polls turns =
    let same : l.story.kept.order ≡ run.order.items = ap (λ (s : Story). s.kept.order) (sym l.shown) ∙ sym order in
    record {
      made = subst (λ v. AreMadeOf v order'.now run.order.items) (sym shown.verdict_is) (subst (AreMadeOf verdict order'.now) same l.made);
      closes = may_close (Along order') script (Some story) left stops verdict run.closing l shown;
      judged = kept_judged (Along order') script story left stops verdict run l shown trace order polls turns;
    }

-- a machine after its turns has the same tables and threads
pub record KeepsAll (script : Script) (s t : DriverState) : Type 0 where
  pub bank : t.machine.bank ≡ s.machine.bank
  pub book : t.machine.book ≡ s.machine.book
  pub has : HasThreads script.cpus script.threads t.machine.cpus

pub keeps_all : (script : Script) (course : Course) (fits : Bool) (s t : DriverState) → IsOpenedScript script s.machine → IfSome s.kept (λ story. story ≡ no_story) → s.events ≡ 0 → IsDriven course fits s t → KeepsAll script s t
keeps_all script course fits s t opens fresh uncounted driven =
    let x = first_of s in
    let d = drove course script.cpus fits s t x opens.as_many refl (at_first s fresh uncounted) driven in
    let y = d.0 in
    let order = y.kept.order in
    let same = d.1.of.machine in
    record {
      bank = ap (λ (m : Rig Scripted). m.bank) (sym same) ∙ turns_bank order x y d.1.along;
      book = ap (λ (m : Rig Scripted). m.book) (sym same) ∙ turns_book order x y d.1.along;
      has = subst (λ (m : Rig Scripted). HasThreads script.cpus script.threads m.cpus) same (has_turns script.cpus script.threads order x y d.1.along (opened_has script s.machine opens));
    }

-- a course of a script is within its machine
pub within_machine : (script : Script) (course : Course) (m : Rig Scripted) → length m.cpus ≡ script.cpus → IsCourseOf script course → IsWithin (length m.cpus) course
within_machine script (Rounds limit) m same of = tt
within_machine script (Along order) m same of = subst (λ n. All (λ x. x < n) order.now) (sym same) of

-- what a verdict says of a stop that is read as a slice, it says of its events
pub saying : (verdict : Verdict) (follows : Bool) (events : ℕ) (E D : List Event → Type 0) (read stops : List Event) → read ≡ stops → Says verdict follows events E D read → Says verdict follows events E D stops
saying verdict follows events E D read stops same said = subst (λ es. Says verdict follows events E D es) same said
