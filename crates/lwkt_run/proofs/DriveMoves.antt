-- What a driver did turn by turn, of any run that it may have begun with.
use Rattle.std.proofs.Common.{◌≡◌, ℕ, ◌+◌, ◌<◌, ◌≤◌, Bool, true, false, List, [], ◌∷◌, ◌++◌, length, min, refl, ap, sym, ◌∙◌, subst, inl, inr, arith, Option, Some, None}
use Rattle.std.specs.Prelude.{Vec, IfSome, option_map, sum_by}
use Rattle.std.specs.declared.alloc.Global.{Global}
use Rattle.std.proofs.lemmas.List.Sums.{sum_by-append}
use Rattle.std.proofs.lemmas.Option.{slice_get_within}
use Rattle.lwkt_core.specs.declared.events.Event.{Event}
use Rattle.lwkt_port.specs.Chains.{Chain}
use Rattle.lwkt_port.proofs.Chaining.{chain_none, chain_more}
use Rattle.lwkt_cpu.specs.declared.answers.Turned.{Turned}
use Rattle.lwkt_machine.specs.Bodies.{Scripted, IsPolled}
use Rattle.lwkt_machine.specs.Machines.{Rig}
use Rattle.lwkt_machine.specs.Turns.{TurnsAt}
use Rattle.lwkt_verdict.specs.declared.turns.Turn.{Turn}
use Rattle.lwkt_verdict.specs.Run.{whose}
use Rattle.lwkt_run.specs.declared.polled.Polled.{Polled}
use Rattle.lwkt_run.specs.Judging.{events_of}
use Rattle.lwkt_run.specs.Keeping.{Story, kept_after, story_after, turn_of}
use Rattle.lwkt_run.specs.Running.{Scene, scene, HasBeenAsked, says_over, both, MakesKeptTurn, MakesTurnAt, MakesSome}
use Rattle.lwkt_run.specs.Driving.{Pair, pair, Walk, walk, GoesOnBy, DeclinesBy, DeclinesTurn, FollowsTurnAt, FollowsStep, FollowsRound, DriverState, IsAt, TurnDriven, RoundDriven, RoundsDriven, TurnsDriven}
use Rattle.lwkt_run.proofs.OrderMoves.{chain_maps}
use Rattle.lwkt_run.proofs.RoundMoves.{AreOverBelow, over_later, both_true, says_all}

-- a scene after a turn
abbrev scene_after : ℕ → Option Polled → List Event → Rig Scripted → Scene → Scene
scene_after cpu asks part m x = scene m (x.trace ++ part) (kept_after cpu (length part) asks x.kept)

-- what a keeper has, it has of a scene; and after a turn of the scene after that
abbrev Shows : Option Story → Scene → Type 0
Shows kept x = IfSome kept (λ story. (x.trace ≡ story.trace) × (x.kept ≡ story.kept))

shows_more : (cpu : ℕ) (asks : Option Polled) (part : List Event) (m : Rig Scripted) (x : Scene) (old : Option Story) → Shows old x → Shows (option_map (story_after cpu asks part) old) (scene_after cpu asks part m x)
shows_more cpu asks part m x None is = tt
shows_more cpu asks part m x (Some story) is =
    (ap (λ es. es ++ part) is.0, ap (λ k. kept_after cpu (length part) asks k) is.1)

-- a turn of a machine is kept in the scene after it
abbrev turn_kept : (cpu : ℕ) (turned : Turned) (m n : Rig Scripted) (room part : Vec Event Global) (asks : Option Polled) (x : Scene) → x.machine ≡ m → room.items ≡ [] → TurnsAt IsPolled cpu m n room part turned → HasBeenAsked cpu n turned asks → MakesKeptTurn cpu turned x (scene_after cpu asks part.items n x)
turn_kept cpu turned m n room part asks x same none makes asked = record {
  room = room;
  part = part;
  none = none;
  makes = subst (λ k. TurnsAt IsPolled cpu k n room part turned) (sym same) makes;
  grown = refl;
  events = length part.items;
  counted = refl;
  asks = asks;
  has_asked = asked;
  keeps = record { order = refl; turns = refl; polls = refl };
}

-- the events of a turn more are counted
counted_more : (n : ℕ) (turns : List Turn) (t : Turn) → n ≡ events_of turns → min (n + t.events) 18446744073709551615 ≡ events_of (turns ++ t ∷ [])
counted_more n turns t is =
    let f : Turn → ℕ = λ turn. turn.events in
    let joined : sum_by f (turns ++ t ∷ []) ≡ sum_by f turns + sum_by f (t ∷ []) = sum_by-append f turns (t ∷ []) in
    let one : sum_by f (t ∷ []) ≡ t.events = omega arith in
    omega (arith, is, joined, one)

-- a turn of a driver: which machine it left, what it asked, and what was kept then
pub record Turns (cpu : ℕ) (turned : Turned) (asks : Option Polled) (s t : DriverState) : Type 0 where
  pub room : Vec Event Global
  pub part : Vec Event Global
  pub none : room.items ≡ []
  pub makes : TurnsAt IsPolled cpu s.machine t.machine room part turned
  pub asked : HasBeenAsked cpu t.machine turned asks
  pub kept : t.kept ≡ option_map (story_after cpu asks part.items) s.kept

-- the check says no to it
pub turn_unfit : (cpu : ℕ) (turned : Turned) (asks : Option Polled) (s t : DriverState) (made : Turns cpu turned asks s t) → t.events ≡ s.events → DeclinesBy cpu asks made.part.items s.follow → TurnDriven cpu None s t
turn_unfit cpu turned asks s t made same declines x at =
    let part : List Event = made.part.items in
    let y : Scene = scene_after cpu asks part t.machine x in
    let kept : Shows t.kept y = subst (λ k. Shows k y) (sym made.kept) (shows_more cpu asks part t.machine x s.kept at.of.kept) in (
      y,
      (
        record {
          of = record { machine = refl; kept = kept };
          stood = record { before = x.kept.turns; last = turn_of asks (length part) (length x.kept.polls); turns_are = refl; counted = same ∙ at.counted };
        },
        record { turned = turned; turn = turn_kept cpu turned s.machine t.machine made.room made.part asks x at.of.machine made.none made.makes made.asked; declines = declines },
      ),
    )

-- or follows it
pub turn_fits : (cpu : ℕ) (turned : Turned) (asks : Option Polled) (over : Bool) (s t : DriverState) (made : Turns cpu turned asks s t) → t.events ≡ min (s.events + length made.part.items) 18446744073709551615 → GoesOnBy cpu asks made.part.items s.follow t.follow → over ≡ says_over turned → TurnDriven cpu (Some over) s t
turn_fits cpu turned asks over s t made more goes is x at =
    let part : List Event = made.part.items in
    let y : Scene = scene_after cpu asks part t.machine x in
    let kept : Shows t.kept y = subst (λ k. Shows k y) (sym made.kept) (shows_more cpu asks part t.machine x s.kept at.of.kept) in
    let new : Turn = turn_of asks (length part) (length x.kept.polls) in (
      y,
      (
        record { of = record { machine = refl; kept = kept }; counted = more ∙ counted_more s.events x.kept.turns new at.counted },
        (
          turned,
          (
            record {
              turn = turn_kept cpu turned s.machine t.machine made.room made.part asks x at.of.machine made.none made.makes made.asked;
              goes = goes;
            },
            is,
          ),
        ),
      ),
    )

-- within a round, after so many of its turns
pub record Walked (cpu : ℕ) (over : Bool) (s t : DriverState) (x : Scene) : Type 0 where
  pub to : Scene
  pub at : IsAt t to
  pub turns : Chain Walk FollowsStep cpu (walk (pair x s.follow) true) (walk (pair to t.follow) over)
  pub over_is : over ≡ true → AreOverBelow cpu to.machine.cpus

abbrev pub WithinRound : ℕ → Bool → DriverState → DriverState → Type 0
WithinRound cpu over s t = (x : Scene) → IsAt s x → Walked cpu over s t x

pub within_none : (s : DriverState) → WithinRound 0 true s s
within_none s x at = record {
  to = x;
  at = at;
  turns = chain_none Walk FollowsStep (walk (pair x s.follow) true);
  over_is = λ is p k less there. absurd (omega (arith, less));
}

pub within_more : (cpu : ℕ) (over ended more : Bool) (s t u : DriverState) → WithinRound cpu over s t → TurnDriven cpu (Some ended) t u → more ≡ both over ended → WithinRound (cpu + 1) more s u
within_more cpu over ended more s t u so_far driven is x at =
    let w = so_far x at in
    let d = driven w.to w.at in
    let z = d.0 in
    let turned = d.1.1.0 in
    let step = d.1.1.1.0 in
    let more_is : more ≡ both over (says_over turned) = is ∙ ap (λ b. both over b) d.1.1.1.1 in
    record {
      to = z;
      at = d.1.0;
      turns = chain_more Walk FollowsStep cpu (walk (pair x s.follow) true) (walk (pair w.to t.follow) over) (walk (pair z u.follow) more) w.turns (turned, (step, more_is));
      over_is = λ so.
          let yes = both_true over (says_over turned) (sym more_is ∙ so) in
          over_later cpu w.to.machine z.machine step.turn.room step.turn.part turned step.turn.makes (says_all turned yes.1) (w.over_is yes.0);
    }

pub within_stops : (cpu : ℕ) (over : Bool) (s t u : DriverState) → cpu < length s.machine.cpus → WithinRound cpu over s t → TurnDriven cpu None t u → RoundDriven None s u
within_stops cpu over s t u less so_far driven x at =
    let w = so_far x at in
    let d = driven w.to w.at in
    let here : cpu < length x.machine.cpus = subst (λ m. cpu < length m.cpus) (sym at.of.machine) less in
    (d.0, (d.1.0, (cpu, (here, (walk (pair w.to t.follow) over, (w.turns, d.1.1))))))

pub within_ends : (cpu : ℕ) (over : Bool) (s t : DriverState) → cpu ≡ length s.machine.cpus → length t.machine.cpus ≡ length s.machine.cpus → WithinRound cpu over s t → RoundDriven (Some over) s t
within_ends cpu over s t whole same so_far x at =
    let w = so_far x at in
    let y = w.to in
    let long : cpu ≡ length x.machine.cpus = whole ∙ sym (ap (λ (m : Rig Scripted). length m.cpus) at.of.machine) in
    let all : cpu ≡ length y.machine.cpus = whole ∙ sym same ∙ sym (ap (λ (m : Rig Scripted). length m.cpus) w.at.of.machine) in (
      y,
      (
        w.at,
        record {
          round = subst (λ n. Chain Walk FollowsStep n (walk (pair x s.follow) true) (walk (pair y t.follow) over)) long w.turns;
          over_is = λ is k p there. w.over_is is k p (subst (λ n. k < n) (sym all) (slice_get_within y.machine.cpus k p there)) there;
        },
      ),
    )

-- after so many rounds, none of which was over
abbrev pub RoundsSoFar : ℕ → DriverState → DriverState → Type 0
RoundsSoFar count s t = (x : Scene) → IsAt s x → (y : Scene) × (IsAt t y × Chain Pair (FollowsRound false) count (pair x s.follow) (pair y t.follow))

pub rounds_none : (s : DriverState) → RoundsSoFar 0 s s
rounds_none s x at = (x, (at, chain_none Pair (FollowsRound false) (pair x s.follow)))

pub rounds_more : (count : ℕ) (s t u : DriverState) → RoundsSoFar count s t → RoundDriven (Some false) t u → RoundsSoFar (count + 1) s u
rounds_more count s t u so_far driven x at =
    let w = so_far x at in
    let d = driven w.0 w.1.0 in
    (d.0, (d.1.0, chain_more Pair (FollowsRound false) count (pair x s.follow) (pair w.0 t.follow) (pair d.0 u.follow) w.1.1 d.1.1.round))

pub rounds_end : (limit count : ℕ) (s t u : DriverState) → count < limit → RoundsSoFar count s t → RoundDriven (Some true) t u → RoundsDriven limit true s u
rounds_end limit count s t u less so_far driven x at =
    let w = so_far x at in
    let d = driven w.0 w.1.0 in
    (d.0, (d.1.0, inl (count, (less, record { mid = pair w.0 t.follow; earlier = w.1.1; last = d.1.1.round; over = d.1.1.over_is refl }))))

pub rounds_stop : (limit count : ℕ) (s t u : DriverState) → count < limit → RoundsSoFar count s t → RoundDriven None t u → RoundsDriven limit false s u
rounds_stop limit count s t u less so_far driven x at =
    let w = so_far x at in
    let d = driven w.0 w.1.0 in
    (d.0, (d.1.0, (count, (less, (pair w.0 t.follow, (w.1.1, d.1.1))))))

pub rounds_all : (limit count : ℕ) (s t : DriverState) → count ≡ limit → RoundsSoFar count s t → RoundsDriven limit true s t
rounds_all limit count s t all so_far x at =
    let w = so_far x at in
    (w.0, (w.1.0, inr (subst (λ n. Chain Pair (FollowsRound false) n (pair x s.follow) (pair w.0 t.follow)) all w.1.1)))

-- after so many turns of an order
abbrev pub TurnsSoFar : List ℕ → ℕ → DriverState → DriverState → Type 0
TurnsSoFar order count s t = (x : Scene) → IsAt s x → (y : Scene) × (IsAt t y × Chain Pair (λ k. FollowsTurnAt (whose order k)) count (pair x s.follow) (pair y t.follow))

pub turns_none : (order : List ℕ) (s : DriverState) → TurnsSoFar order 0 s s
turns_none order s x at = (x, (at, chain_none Pair (λ k. FollowsTurnAt (whose order k)) (pair x s.follow)))

pub turns_more : (order : List ℕ) (count cpu : ℕ) (over : Bool) (s t u : DriverState) → cpu ≡ whose order count → TurnsSoFar order count s t → TurnDriven cpu (Some over) t u → TurnsSoFar order (count + 1) s u
turns_more order count cpu over s t u named so_far driven x at =
    let w = so_far x at in
    let d = driven w.0 w.1.0 in
    let step : FollowsTurnAt (whose order count) (pair w.0 t.follow) (pair d.0 u.follow) = subst (λ k. FollowsTurnAt k (pair w.0 t.follow) (pair d.0 u.follow)) named (d.1.1.0, d.1.1.1.0) in
    (d.0, (d.1.0, chain_more Pair (λ k. FollowsTurnAt (whose order k)) count (pair x s.follow) (pair w.0 t.follow) (pair d.0 u.follow) w.1.1 step))

-- they were made
pub turns_made : (order : List ℕ) (count : ℕ) (p q : Pair) → Chain Pair (λ k. FollowsTurnAt (whose order k)) count p q → MakesSome order count p.at q.at
turns_made order count p q turns =
    let all : count ≤ count = omega arith in
    chain_maps Pair Scene (λ (z : Pair). z.at) (λ k. FollowsTurnAt (whose order k)) (λ k. MakesTurnAt (whose order k)) count (λ k u v less step. (step.0, step.1.turn)) count p q all turns

pub turns_stop : (order : List ℕ) (count cpu : ℕ) (s t u : DriverState) → count < length order → cpu ≡ whose order count → TurnsSoFar order count s t → TurnDriven cpu None t u → TurnsDriven order false s u
turns_stop order count cpu s t u less named so_far driven x at =
    let w = so_far x at in
    let d = driven w.0 w.1.0 in
    let turn : DeclinesTurn (whose order count) (pair w.0 t.follow) d.0 = subst (λ k. DeclinesTurn k (pair w.0 t.follow) d.0) named d.1.1 in
    (d.0, (d.1.0, (count, (less, (pair w.0 t.follow, (w.1.1, turn))))))

pub turns_all : (order : List ℕ) (count : ℕ) (s t : DriverState) → count ≡ length order → TurnsSoFar order count s t → TurnsDriven order true s t
turns_all order count s t all so_far x at =
    let w = so_far x at in
    (w.0, (w.1.0, subst (λ n. Chain Pair (λ k. FollowsTurnAt (whose order k)) n (pair x s.follow) (pair w.0 t.follow)) all w.1.1))
