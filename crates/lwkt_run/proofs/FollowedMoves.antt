-- Turns that were made and followed, and what is kept of them.
use Rattle.std.proofs.Common.{◌≡◌, ℕ, zero, suc, ◌+◌, ◌-◌, ◌*◌, ◌<◌, ◌≤◌, ◌⊎◌, Bool, true, false, List, [], ◌∷◌, ◌++◌, length, take, drop, refl, ap, ap₂, sym, ◌∙◌, subst, inl, inr, arith, Option, Some, None, All, append_assoc, append-nil, length-append, eq-or-lt_of_le}
use Rattle.std.proofs.Math.Seq.{drop-append_seam}
use Rattle.std.proofs.lemmas.List.{length_push, take_at}
use Rattle.std.proofs.lemmas.List.Elements.{All-nil, All-push}
use Rattle.lwkt_core.specs.declared.events.Event.{Event}
use Rattle.lwkt_core.specs.Machine.{Machine, after}
use Rattle.lwkt_script.specs.declared.scripts.ThreadSpec.{ThreadSpec}
use Rattle.lwkt_port.specs.Chains.{Chain}
use Rattle.lwkt_cpu.specs.declared.answers.Turned.{Turned}
use Rattle.lwkt_machine.specs.Bodies.{Scripted}
use Rattle.lwkt_machine.specs.Ended.{AreOver}
use Rattle.lwkt_machine.specs.Machines.{Rig}
use Rattle.lwkt_run.specs.declared.polled.Polled.{Polled}
use Rattle.lwkt_verdict.specs.declared.turns.Poll.{Poll}
use Rattle.lwkt_verdict.specs.declared.turns.Turn.{Turn}
use Rattle.lwkt_verdict.specs.TurnParts.{after_all}
use Rattle.lwkt_verdict.specs.Threads.{slot_of}
use Rattle.lwkt_base.specs.declared.asks.Answer.{Answer}
use Rattle.lwkt_verdict.specs.declared.progress.Piece.{Piece}
use Rattle.lwkt_verdict.specs.Follow.{Follow, AreShown, answered_at, none_answered, poll_so}
use Rattle.lwkt_base.specs.declared.threads.ThreadLine.{ThreadLine}
use Rattle.lwkt_verdict.specs.Run.{whose, piece, BeginRun}
use Rattle.lwkt_run.specs.Keeping.{Kept, kept_as, kept_after, KeepsTurn, polls_after, turn_of}
use Rattle.lwkt_run.specs.Running.{Scene, Going, going, HasBeenAsked, says_over, TakesTurn, MakesKeptRound, GoRounds, HasMadeRounds}
use Rattle.lwkt_run.specs.Driving.{Pair, GoesOnBy, FollowsTurn, FollowsTurnAt, DeclinesTurn, FollowsTurns, FollowsStep, FollowsRound, HasFollowed, Walk, walk}
use Rattle.lwkt_run.proofs.FillMoves.{filled, filled_after, filled_heard}
use Rattle.lwkt_run.proofs.OrderMoves.{GoTurns, chain_maps, turned_more, rounds_turned}
use Rattle.lwkt_run.proofs.RoundMoves.{chain_keeps, both_true, says_all}
use Rattle.lwkt_run.specs.Judging.{FitBefore}
use Rattle.lwkt_run.proofs.TableLines.{lines_of, all_bear}
use Rattle.lwkt_run.proofs.TrackMoves.{IsFront, Tracks, tracks_on, Knows, knows_on, declined_on, Through, begun_through}

-- what each step of a chain takes one further, the chain takes so many further
pub chain_counts : (A : Type 0) (S : ℕ → A → A → Type 0) (R : ℕ → A → Type 0) → ((k : ℕ) (u v : A) → S k u v → R k u → R (k + 1) v) → (n : ℕ) (x y : A) → Chain A S n x y → R 0 x → R n y
unfolding Chain
chain_counts A S R does zero x y chain r = subst (λ z. R 0 z) (sym chain) r
chain_counts A S R does (suc n) x y chain r =
    let e : n + 1 ≡ suc n = omega arith in
    let F : ℕ → Type 0 = λ k. R k y in
    subst F e (does n chain.0 y chain.2 (chain_counts A S R does n x chain.0 chain.1 r))

-- so far: a scene, and the check that follows it
pub record IsFollowedSoFar (plans : List ThreadSpec) (opening : Machine) (p : Pair) : Type 0 where
  pub tracks : Tracks plans opening p.at.kept p.at.trace p.follow
  pub knows : Knows plans opening p.at.kept p.at.trace p.follow
  pub shown : (answers : ℕ → Option Answer) → (before : List Piece) × AreShown before p.follow.table answers
  pub threads : p.follow.plans ≡ plans
  pub led : p.follow.machine ≡ after_all opening p.at.trace
  pub long : length p.at.kept.order ≡ length p.at.kept.turns
  pub waits : filled none_answered p.at.kept.polls ≡ p.at.kept.polls

pub after_join : (m : Machine) (xs ys : List Event) → after_all m (xs ++ ys) ≡ after_all (after_all m xs) ys
after_join m [] ys = refl
after_join m (x ∷ xs) ys = after_join (after m x) xs ys

-- whatever was asked, the check is of the same threads, and comes to the machine after the part
goes_threads : (cpu : ℕ) (asks : Option Polled) (part : List Event) (f g : Follow) → GoesOnBy cpu asks part f g → g.plans ≡ f.plans
goes_threads cpu None part f g goes = goes.plans
goes_threads cpu (Some p) part f g goes = goes.plans

goes_machine : (cpu : ℕ) (asks : Option Polled) (part : List Event) (f g : Follow) → GoesOnBy cpu asks part f g → g.machine ≡ after_all f.machine part
goes_machine cpu None part f g goes = goes.machine
goes_machine cpu (Some p) part f g goes = goes.machine

goes_shown : (cpu : ℕ) (asks : Option Polled) (part : List Event) (f g : Follow) → GoesOnBy cpu asks part f g → ((answers : ℕ → Option Answer) → (before : List Piece) × AreShown before f.table answers) → (answers : ℕ → Option Answer) → (before : List Piece) × AreShown before g.table answers
goes_shown cpu None part f g goes shown answers =
    let old = shown answers in
    (old.0 ++ piece None part ∷ [], goes.shown answers old.0 old.1)
goes_shown cpu (Some p) part f g goes shown answers =
    let old = shown (answered_at (slot_of p.thread) (Some p.heard) answers) in
    (old.0 ++ piece (poll_so p.thread p.asked answers) part ∷ [], goes.shown answers old.0 old.1)

-- the last polls after a turn have no answer
still_wait : (asks : Option Polled) (polls : List Poll) → filled none_answered polls ≡ polls → filled none_answered (polls_after asks polls) ≡ polls_after asks polls
still_wait None polls waits = waits
still_wait (Some p) polls waits =
    let new : Poll = record { answer = None; ask = p.asked; thread = p.thread } in
    filled_after (slot_of p.thread) p.heard none_answered new polls refl ∙ ap (λ qs. qs ++ new ∷ []) (filled_heard (slot_of p.thread) p.heard polls waits)

-- what is kept after a turn
pub kept_is : (cpu events : ℕ) (asks : Option Polled) (part : List Event) (old new : Kept) → length part ≡ events → KeepsTurn cpu events asks old new → new ≡ kept_after cpu (length part) asks old
kept_is cpu events asks part old new counted k =
    let turns : new.turns ≡ old.turns ++ turn_of asks (length part) (length old.polls) ∷ [] = k.turns ∙ ap (λ n. old.turns ++ turn_of asks n (length old.polls) ∷ []) (sym counted) in
    ap (λ o. kept_as o new.turns new.polls) k.order ∙ ap (λ ts. kept_as (old.order ++ cpu ∷ []) ts new.polls) turns ∙ ap (λ ps. kept_as (old.order ++ cpu ∷ []) (old.turns ++ turn_of asks (length part) (length old.polls) ∷ []) ps) k.polls

-- a turn more
stands_on : (plans : List ThreadSpec) (opening : Machine) (cpu : ℕ) (turned : Turned) (p q : Pair) → FollowsTurn cpu turned p q → IsFollowedSoFar plans opening p → IsFollowedSoFar plans opening q
stands_on plans opening cpu turned p q step s =
    let t = step.turn in
    let part : List Event = t.part.items in
    let old = p.at.kept in
    let more : Kept = kept_after cpu (length part) t.asks old in
    let kept : q.at.kept ≡ more = kept_is cpu t.events t.asks part old q.at.kept t.counted t.keeps in
    let T : Kept → List Event → Type 0 = λ k es. Tracks plans opening k es q.follow in
    let tracks : T more (p.at.trace ++ part) = tracks_on plans opening old p.at.trace p.follow q.follow cpu t.asks part s.threads s.long step.goes s.tracks in
    let K : Kept → List Event → Type 0 = λ k es. Knows plans opening k es q.follow in
    let knows : K more (p.at.trace ++ part) = knows_on plans opening old p.at.trace p.follow q.follow cpu t.asks part s.threads s.long step.goes s.knows in
    let longer : length more.order ≡ length more.turns = length_push old.order cpu ∙ ap (λ n. n + 1) s.long ∙ sym (length_push old.turns (turn_of t.asks (length part) (length old.polls))) in
    record {
      tracks = subst (λ k. T k q.at.trace) (sym kept) (subst (λ es. T more es) (sym t.grown) tracks);
      knows = subst (λ k. K k q.at.trace) (sym kept) (subst (λ es. K more es) (sym t.grown) knows);
      shown = goes_shown cpu t.asks part p.follow q.follow step.goes s.shown;
      threads = goes_threads cpu t.asks part p.follow q.follow step.goes ∙ s.threads;
      led = goes_machine cpu t.asks part p.follow q.follow step.goes ∙ ap (λ m. after_all m part) s.led ∙ sym (after_join opening p.at.trace part) ∙ ap (λ es. after_all opening es) (sym t.grown);
      long = subst (λ k. length k.order ≡ length k.turns) (sym kept) longer;
      waits = subst (λ k. filled none_answered k.polls ≡ k.polls) (sym kept) (still_wait t.asks old.polls s.waits);
    }

-- a turn more that the check doesn't go on by: no run of the script begins with these turns
pub none_begins : (plans : List ThreadSpec) (opening : Machine) (cpu : ℕ) (p : Pair) (y : Scene) → DeclinesTurn cpu p y → IsFollowedSoFar plans opening p → (stops : List Event) → (lines : List ThreadLine) → BeginRun plans lines y.kept.polls y.kept.order opening [] y.kept.turns (y.trace ++ stops) → ⊥
none_begins plans opening cpu p y d s stops lines runs =
    let t = d.turn in
    let part : List Event = t.part.items in
    let old = p.at.kept in
    let more : Kept = kept_after cpu (length part) t.asks old in
    let kept : y.kept ≡ more = kept_is cpu t.events t.asks part old y.kept t.counted t.keeps in
    let B : Kept → List Event → Type 0 = λ k es. BeginRun plans lines k.polls k.order opening [] k.turns (es ++ stops) in
    let begun : B more (p.at.trace ++ part) = subst (λ es. B more es) t.grown (subst (λ k. B k y.trace) kept runs) in
    declined_on plans opening old p.at.trace p.follow cpu t.asks part s.threads s.long s.waits (still_wait t.asks old.polls s.waits) d.declines s.knows lines stops begun

-- the turns so far begin one
pub begun_before : (plans : List ThreadSpec) (opening : Machine) (cpu : ℕ) (p : Pair) (y : Scene) → DeclinesTurn cpu p y → IsFollowedSoFar plans opening p → (stops : List Event) → FitBefore opening y.kept.order plans (y.trace ++ stops) y.kept.polls p.at.kept.turns
begun_before plans opening cpu p y d s stops =
    let t = d.turn in
    let part : List Event = t.part.items in
    let old = p.at.kept in
    let seen = s.shown none_answered in
    let lines : List ThreadLine = lines_of 0 p.follow.table in
    let bear = all_bear p.follow.table seen.0 seen.1 in
    let polls : IsFront (filled none_answered old.polls) old.polls = ([], sym (append-nil _ ∙ s.waits)) in
    let order : IsFront old.order y.kept.order = (cpu ∷ [], t.keeps.order) in
    let track = s.tracks none_answered lines old.polls y.kept.order bear polls order in
    let whole = track.on false [] (part ++ stops) tt in
    let joined : p.at.trace ++ (part ++ stops) ≡ y.trace ++ stops = sym (append_assoc p.at.trace part stops) ∙ ap (λ es. es ++ stops) (sym t.grown) in
    let R : List Turn → List Event → Type 0 = λ ts es. Through false plans lines old.polls y.kept.order opening [] ts es in
    let so : R old.turns (y.trace ++ stops) = subst (λ es. R old.turns es) joined (subst (λ ts. R ts (p.at.trace ++ (part ++ stops))) (append-nil old.turns) whole) in
    record { asks = t.asks; earlier = old.polls; polls_are = t.keeps.polls; lines = lines; begin = begun_through plans lines old.polls y.kept.order opening [] old.turns (y.trace ++ stops) so }

-- the turns before the last one
pub before_is : (xs ys : List Turn) (x y : Turn) → xs ++ x ∷ [] ≡ ys ++ y ∷ [] → xs ≡ ys
before_is xs ys x y is =
    let long : length xs ≡ length ys = omega (arith, ap length is, length_push xs x, length_push ys y) in
    sym (take_at xs (x ∷ []) (length xs) refl) ∙ ap (λ ts. take (length xs) ts) is ∙ ap (λ n. take n (ys ++ y ∷ [])) long ∙ take_at ys (y ∷ []) (length ys) refl

-- the turns of an order
pub order_stands : (plans : List ThreadSpec) (opening : Machine) (order : List ℕ) (p q : Pair) → FollowsTurns order p q → IsFollowedSoFar plans opening p → IsFollowedSoFar plans opening q
order_stands plans opening order p q turns s = chain_keeps Pair (λ k. FollowsTurnAt (whose order k)) (IsFollowedSoFar plans opening) (λ k u v step r. stands_on plans opening (whose order k) step.0 u v step.1 r) (length order) p q turns s

pub front_stands : (plans : List ThreadSpec) (opening : Machine) (order : List ℕ) (n : ℕ) (p q : Pair) → Chain Pair (λ k. FollowsTurnAt (whose order k)) n p q → IsFollowedSoFar plans opening p → IsFollowedSoFar plans opening q
front_stands plans opening order n p q turns s = chain_keeps Pair (λ k. FollowsTurnAt (whose order k)) (IsFollowedSoFar plans opening) (λ k u v step r. stands_on plans opening (whose order k) step.0 u v step.1 r) n p q turns s

pub walk_stands : (plans : List ThreadSpec) (opening : Machine) (n : ℕ) (v w : Walk) → Chain Walk FollowsStep n v w → IsFollowedSoFar plans opening v.at → IsFollowedSoFar plans opening w.at
walk_stands plans opening n v w turns s = chain_keeps Walk FollowsStep (λ z. IsFollowedSoFar plans opening z.at) (λ k a b step r. stands_on plans opening k step.0 a.at b.at step.1.0 r) n v w turns s

round_stands : (plans : List ThreadSpec) (opening : Machine) (over : Bool) (number : ℕ) (p q : Pair) → FollowsRound over number p q → IsFollowedSoFar plans opening p → IsFollowedSoFar plans opening q
round_stands plans opening over number p q round s = chain_keeps Walk FollowsStep (λ w. IsFollowedSoFar plans opening w.at) (λ k u v step r. stands_on plans opening k step.0 u.at v.at step.1.0 r) (length p.at.machine.cpus) (walk p true) (walk q over) round s

pub some_stand : (plans : List ThreadSpec) (opening : Machine) (count : ℕ) (p q : Pair) → Chain Pair (FollowsRound false) count p q → IsFollowedSoFar plans opening p → IsFollowedSoFar plans opening q
some_stand plans opening count p q rounds s = chain_keeps Pair (FollowsRound false) (IsFollowedSoFar plans opening) (λ k u v round r. round_stands plans opening false k u v round r) count p q rounds s

-- and the rounds of a run
pub rounds_stand : (plans : List ThreadSpec) (opening : Machine) (limit : ℕ) (p q : Pair) → HasFollowed limit p q → IsFollowedSoFar plans opening p → IsFollowedSoFar plans opening q
rounds_stand plans opening limit p q (inl ended) s =
    let e = ended.1.1 in
    round_stands plans opening true ended.0 e.mid q e.last (some_stand plans opening ended.0 p e.mid e.earlier s)
rounds_stand plans opening limit p q (inr whole) s = some_stand plans opening limit p q whole s

-- a turn without a poll
abbrev pub Unpolled : Turn → Type 0
Unpolled t = t.poll ≡ None

-- a turn that says that every thread has ended is one
unpolled : (cpu : ℕ) (m : Rig Scripted) (turned : Turned) (asks : Option Polled) (events before : ℕ) → HasBeenAsked cpu m turned asks → says_over turned ≡ true → Unpolled (turn_of asks events before)
unpolled cpu m turned asks events before asked over =
    let none : asks ≡ None = subst (λ t. HasBeenAsked cpu m t asks) (says_all turned over) asked in
    ap (λ o. (turn_of o events before).poll) none

-- within a round, after so many of its turns: these were made in it, none of which polled, where all said that their threads have ended
record Within (first : List Turn) (k : ℕ) (w : Walk) : Type 0 where
  new : List Turn
  long : length new ≡ k
  grown : w.at.at.kept.turns ≡ first ++ new
  unasked : w.over ≡ true → All Unpolled new

within_on : (first : List Turn) (k : ℕ) (u v : Walk) → FollowsStep k u v → Within first k u → Within first (k + 1) v
within_on first k u v step so_far =
    let turn = step.1.0.turn in
    let t = turn_of turn.asks turn.events (length u.at.at.kept.polls) in
    record {
      new = so_far.new ++ t ∷ [];
      long = length_push so_far.new t ∙ ap (λ n. n + 1) so_far.long;
      grown = turn.keeps.turns ∙ ap (λ ts. ts ++ t ∷ []) so_far.grown ∙ append_assoc first so_far.new (t ∷ []);
      unasked = λ over.
          let both_are = both_true u.over (says_over step.0) (sym step.1.1 ∙ over) in
          All-push Unpolled so_far.new t (so_far.unasked both_are.0) (unpolled k v.at.at.machine step.0 turn.asks turn.events (length u.at.at.kept.polls) turn.has_asked both_are.1);
    }

-- the turns of a round that was over polled no thread
round_unasked : (cpus number : ℕ) (p q : Pair) → length p.at.machine.cpus ≡ cpus → FollowsRound true number p q → All Unpolled (drop (length q.at.kept.turns - cpus) q.at.kept.turns)
round_unasked cpus number p q many round =
    let first = p.at.kept.turns in
    let begun : Within first 0 (walk p true) = record { new = []; long = refl; grown = sym (append-nil first); unasked = λ is. All-nil Unpolled } in
    let w : Within first (length p.at.machine.cpus) (walk q true) = chain_counts Walk FollowsStep (Within first) (within_on first) (length p.at.machine.cpus) (walk p true) (walk q true) round begun in
    let turns = q.at.kept.turns in
    let joined : length turns ≡ length first + length w.new = ap length w.grown ∙ length-append first w.new in
    let front : length turns - cpus ≡ length first = omega (arith, joined, w.long, many) in
    let last : drop (length turns - cpus) turns ≡ w.new = ap₂ (λ n ts. drop n ts) front w.grown ∙ drop-append_seam first w.new in
    subst (λ ts. All Unpolled ts) (sym last) (w.unasked refl)

-- a round that is followed is made
round_made : (over : Bool) (number : ℕ) (p q : Pair) → FollowsRound over number p q → MakesKeptRound over number p.at q.at
round_made over number p q round =
    let n = length p.at.machine.cpus in
    let f : Walk → Going = λ w. going w.at.at w.over in
    let all : n ≤ n = omega arith in
    chain_maps Walk Going f FollowsStep TakesTurn n (λ k u v less step. (step.0, (step.1.0.turn, step.1.1))) n (walk p true) (walk q over) all round

pub some_made : (count : ℕ) (p q : Pair) → Chain Pair (FollowsRound false) count p q → GoRounds count p.at q.at
some_made count p q rounds =
    let all : count ≤ count = omega arith in
    chain_maps Pair Scene (λ (z : Pair). z.at) (FollowsRound false) (MakesKeptRound false) count (λ k u v less round. round_made false k u v round) count p q all rounds

-- rounds that were followed: they were made, as many as so many turns in rounds; and if they are fewer than the limit, every thread of
-- each processor has ended, and the turns of the last one polled none
pub record RoundsAre (cpus limit : ℕ) (x y : Scene) : Type 0 where
  pub rounds : HasMadeRounds limit x y
  pub count : ℕ
  pub some : 0 < limit → 0 < count
  pub turns : GoTurns cpus (count * cpus) x y
  pub last : (count ≡ limit) ⊎ ((count < limit) × AreOver y.machine.cpus × All Unpolled (drop (length y.kept.turns - cpus) y.kept.turns))

pub rounds_are : (cpus limit : ℕ) (p q : Pair) → length p.at.machine.cpus ≡ cpus → HasFollowed limit p q → RoundsAre cpus limit p.at q.at
rounds_are cpus limit p q many (inl ended) =
    let count = ended.0 in
    let e = ended.1.1 in
    let earlier = some_made count p e.mid e.earlier in
    let last = round_made true count e.mid q e.last in
    let front = rounds_turned cpus count p.at e.mid.at many earlier in
    let up : count + 1 ≤ limit = omega (arith, ended.1.0) in
    record {
      rounds = inl (count, (ended.1.0, record { mid = e.mid.at; earlier = earlier; last = last; over = e.over }));
      count = count + 1;
      some = λ none. omega arith;
      turns = (turned_more true count cpus count p.at e.mid.at q.at front last).turns;
      last = elim (eq-or-lt_of_le up) [
        | inl is ↦ inl is
        | inr fewer ↦ inr (fewer, e.over, round_unasked cpus count e.mid q front.same e.last)
      ];
    }
rounds_are cpus limit p q many (inr whole) =
    let made = some_made limit p q whole in
    record {
      rounds = inr made;
      count = limit;
      some = λ some. some;
      turns = (rounds_turned cpus limit p.at q.at many made).turns;
      last = inl refl;
    }
