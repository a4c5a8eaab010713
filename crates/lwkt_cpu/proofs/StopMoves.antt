use Rattle.std.proofs.Common.{◌≡◌, ℕ, ◌+◌, ◌<◌, ◌≤◌, zero, suc, Bool, true, false, List, [], ◌∷◌, length, set, get_or, refl, ap, sym, ◌∙◌, subst, arith, inl, inr, Option, Some, None}
use Rattle.std.specs.Prelude.{Vec, IsSomeAnd, option_map, slice_get}
use Rattle.std.specs.declared.alloc.Global.{Global}
use Rattle.std.proofs.lemmas.Bool.{cases_lt, false≢true}
use Rattle.std.proofs.lemmas.List.{length-set}
use Rattle.std.proofs.lemmas.Option.{slice_get-get_or}
use Rattle.lwkt_base.specs.declared.asks.Answer.{Answer}
use Rattle.lwkt_base.specs.Holding.{holding_of, holds_nothing}
use Rattle.lwkt_core.specs.declared.events.Event.{Event}
use Rattle.lwkt_bank.specs.declared.seats.CpuSeat.{CpuSeat}
use Rattle.lwkt_bank.specs.Seats.{bank_of, holding}
use Rattle.lwkt_hold.specs.declared.answers.Blocked.{Blocked}
use Rattle.lwkt_hold.specs.declared.answers.Blocked.TheVariants.{Clean, Restored}
use Rattle.lwkt_hold.specs.Fronts.{IsFront}
use Rattle.lwkt_hold.specs.Runs.{Ran}
use Rattle.lwkt_hold.proofs.RunMoves.{ran_weaker}
use Rattle.lwkt_msg.specs.Desks.{messages_of}
use Rattle.lwkt_port.specs.Posts.{Post}
use Rattle.lwkt_cpu.specs.declared.nexts.Next.{Next}
use Rattle.lwkt_cpu.specs.declared.nexts.Next.TheVariants.{Exits}
use Rattle.lwkt_cpu.specs.Nexts.{unless_broken}
use Rattle.lwkt_cpu.specs.declared.phases.Phase.{Phase}
use Rattle.lwkt_cpu.specs.declared.phases.Phase.TheVariants.{Live, Exited}
use Rattle.lwkt_cpu.specs.declared.threads.Thread.{Thread}
use Rattle.lwkt_cpu.specs.Processors.{Processor, is_over, IsSettled, HoldsFor, IsAtRest, AllOver, processor_of}
use Rattle.lwkt_cpu.specs.Searches.{IsOfOne, ended_by}
use Rattle.lwkt_cpu.specs.Polling.{became}
use Rattle.lwkt_cpu.specs.Stopping.{stopped, AreThreadsStopped, Stops}
use Rattle.lwkt_lane.proofs.PlaceMoves.{get_set_same, get_set_other, some_same}
use Rattle.lwkt_cpu.proofs.SearchMoves.{front_of_one}
use Rattle.lwkt_cpu.proofs.RestMoves.{settled_none, set_settled, ended_awaits, set_awaits}

-- the threads below a number were stopped, and the others not yet
abbrev pub AreStoppedBelow : ℕ → List Thread → List Thread → Type 0
AreStoppedBelow n olds news = (k : ℕ) → (k < n → slice_get news k ≡ option_map stopped (slice_get olds k)) × (n ≤ k → slice_get news k ≡ slice_get olds k)

pub stopped_more : (olds mids : List Thread) (at : ℕ) (d new : Thread) → at < length mids → new ≡ stopped (get_or mids at d) → AreStoppedBelow at olds mids → AreStoppedBelow (at + 1) olds (set mids at new)
stopped_more olds mids at d new within is below = λ k. (
  λ under. elim (cases_lt k at) [
    | inl less ↦ get_set_other mids at k new (λ same. absurd (omega (arith, same, less))) ∙ (below k).0 less
    | inr more ↦
        let here : k ≡ at = omega (arith, under, more) in
        let F : ℕ → Type 0 = λ i. slice_get (set mids at new) i ≡ option_map stopped (slice_get olds i) in
        subst F (sym here) (get_set_same mids at new within ∙ ap (λ t. Some t) is ∙ ap (λ o. option_map stopped o) (sym (slice_get-get_or mids at d within)) ∙ ap (λ o. option_map stopped o) ((below at).1 (omega arith)))
  ],
  λ over. get_set_other mids at k new (λ same. absurd (omega (arith, same, over))) ∙ (below k).1 (omega (arith, over)),
)

past_both : (olds news : List Thread) (k : ℕ) → length olds ≤ k → slice_get olds k ≡ None
past_both [] news k past = refl
past_both (t ∷ olds) news k past = elim k as (λ i. length (t ∷ olds) ≤ i → slice_get (t ∷ olds) i ≡ None) [ zero ↦ λ p. absurd (omega (arith, p)) | suc i ↦ λ p. past_both olds news i (omega (arith, p)) ] past

pub stopped_all : (olds news : List Thread) (at : ℕ) → length olds ≤ at → AreStoppedBelow at olds news → AreThreadsStopped olds news
stopped_all olds news at past below = λ k. elim (cases_lt k at) [
  | inl less ↦ (below k).0 less
  | inr more ↦
      let none : slice_get olds k ≡ None = past_both olds news k (omega (arith, past, more)) in
      (below k).1 more ∙ none ∙ ap (λ o. option_map stopped o) (sym none)
]

-- a stopped thread has ended
ended_stopped_if : (b : Bool) (t : Thread) → is_over t.phase ≡ b → is_over (stopped t).phase ≡ true
ended_stopped_if true t is = rw is is
ended_stopped_if false t is = rw is refl

pub ended_stopped : (t : Thread) → is_over (stopped t).phase ≡ true
ended_stopped t = ended_stopped_if (is_over t.phase) t refl

from_map : (o : Option Thread) (t : Thread) → option_map stopped o ≡ Some t → (old : Thread) × ((o ≡ Some old) × (t ≡ stopped old))
from_map None t is = cc
from_map (Some old) t is = (old, (refl, some_same t (stopped old) (Some t) refl (sym is)))

pub over_stopped : (olds news : List Thread) → AreThreadsStopped olds news → AllOver news
over_stopped olds news all = λ k t at.
    let x = from_map (slice_get olds k) t (sym (all k) ∙ at) in
    ap (λ (y : Thread). is_over y.phase) x.1.1 ∙ ended_stopped x.0

-- a stopped thread is settled
stopped_settled_if : (s : CpuSeat) (b : Bool) (t : Thread) → is_over t.phase ≡ b → IsSettled s t → IsSettled s (stopped t)
stopped_settled_if s true t is settled = rw is settled
stopped_settled_if s false t is settled = rw is (settled_none s (ended_by Exited t) refl refl)

pub long_stopped : (olds news : List Thread) → AreThreadsStopped olds news → length news ≡ length olds
long_stopped [] [] all = refl
long_stopped [] (t ∷ news) all = let e : Some t ≡ None = all 0 in cc
long_stopped (t ∷ olds) [] all = let e : None ≡ Some (stopped t) = all 0 in cc
long_stopped (t ∷ olds) (u ∷ news) all = ap (λ n. suc n) (long_stopped olds news (λ k. all (suc k)))

pub rest_stopped : {B : Type 0} (s : CpuSeat) (post : Post) (bodies : List B) (olds news : List Thread) (running : Option ℕ) (cursor : ℕ) → running ≡ None → AreThreadsStopped olds news → IsAtRest (processor_of s post bodies olds running cursor) → IsAtRest (processor_of s post bodies news running cursor)
rest_stopped s post bodies olds news running cursor none all rest = record {
  few = omega (arith, rest.few, long_stopped olds news all);
  as_many = rest.as_many ∙ sym (long_stopped olds news all);
  mine = rest.mine;
  ported = rest.ported ∙ sym (long_stopped olds news all);
  awaits = λ k t at. ended_awaits (messages_of post.seat) t t.phase (over_stopped olds news all k t at) refl;
  within = omega (arith, rest.within, long_stopped olds news all);
  settled = λ k t at.
      let x = from_map (slice_get olds k) t (sym (all k) ∙ at) in
      let F : Thread → Type 0 = λ y. IsSettled s y in
      subst F (sym x.1.1) (stopped_settled_if s (is_over x.0.phase) x.0 refl (rest.settled k x.0 x.1.0));
  held =
      let F : Option ℕ → Type 0 = λ o. HoldsFor s olds o in
      let G : Option ℕ → Type 0 = λ o. HoldsFor s news o in
      let empty : holding s ≡ holds_nothing = subst F none rest.held in
      subst G (sym none) empty;
}

-- a thread that gave up everything and ends
pub became_over : (t : Thread) (next : Next Answer) (blocked : Blocked) → next ≡ unless_broken Exits blocked → is_over (became t next).phase ≡ true
became_over t next Clean is = ap (λ n. is_over (became t n).phase) is
became_over t next (Restored tok) is = ap (λ n. is_over (became t n).phase) is

pub became_empty : (t : Thread) (next : Next Answer) (blocked : Blocked) → next ≡ unless_broken Exits blocked → (became t next).list ≡ []
became_empty t next Clean is = ap (λ n. (became t n).list) is
became_empty t next (Restored tok) is = ap (λ n. (became t n).list) is

pub became_free : (t : Thread) (next : Next Answer) (blocked : Blocked) → next ≡ unless_broken Exits blocked → (became t next).busy ≡ None
became_free t next Clean is = ap (λ n. (became t n).busy) is
became_free t next (Restored tok) is = ap (λ n. (became t n).busy) is

pub rest_halted : {B : Type 0} (a b : CpuSeat) (post : Post) (bodies : List B) (threads : List Thread) (running : Option ℕ) (cursor place : ℕ) (now : Thread) → IsAtRest (processor_of a post bodies threads running cursor) → place < length threads → bank_of b ≡ bank_of a → b.cpu ≡ a.cpu → is_over now.phase ≡ true → now.list ≡ [] → now.busy ≡ None → holding b ≡ holds_nothing → IsAtRest (processor_of b post bodies (set threads place now) None cursor)
rest_halted a b post bodies threads running cursor place now rest within same cpu over none free empty = record {
  few = omega (arith, rest.few, length-set threads place now);
  as_many = rest.as_many ∙ sym (length-set threads place now);
  mine = rest.mine ∙ sym cpu;
  ported = rest.ported ∙ sym (length-set threads place now);
  awaits = set_awaits (messages_of post.seat) threads place now within (ended_awaits (messages_of post.seat) now now.phase over refl) rest.awaits;
  within = omega (arith, rest.within, length-set threads place now);
  settled = set_settled a b threads place now within same (settled_none b now none free) rest.settled;
  held = empty;
}

pub ran_halted : (a b : CpuSeat) (t u : Vec Event Global) (threads : List Thread) (place : ℕ) (before : Thread) → slice_get threads place ≡ Some before → Ran (IsFront before.list) 192 a b t u → Ran (IsOfOne threads) 194 a b t u
ran_halted a b t u threads place before at ran = ran_weaker (IsFront before.list) (IsOfOne threads) 192 194 a b t u (λ h front. front_of_one threads place before h at front) (omega arith) ran

-- where every thread has ended nothing is held
live_ended : (p : Phase) → p ≡ Live → is_over p ≡ true → ⊥
live_ended p is ended = false≢true (sym (ap is_over is) ∙ ended)

one_there : (o : Option Thread) (P : Thread → Type 0) → IsSomeAnd o P → (t : Thread) × ((o ≡ Some t) × P t)
one_there None P is = absurd is
one_there (Some t) P is = (t, (refl, is))

pub over_empty : (s : CpuSeat) (threads : List Thread) (running : Option ℕ) → AllOver threads → HoldsFor s threads running → holding s ≡ holds_nothing
over_empty s threads None over held = held
over_empty s threads (Some place) over held =
    let x = one_there (slice_get threads place) (λ t. (t.phase ≡ Live) × (holding s ≡ holding_of t.list)) held in
    absurd (live_ended x.0.phase x.1.1.0 (over place x.0 x.1.0))

-- a stop with a trace that was given room first is one with the trace as it was
pub stop_from_room : {B : Type 0} (old new : Processor B) (t r u : Vec Event Global) → r.items ≡ t.items → Stops old new r u → Stops old new t u
stop_from_room {B} old new t r u items stops = record {
  room = stops.room;
  same = stops.same ∙ items;
  mid = stops.mid;
  v = stops.v;
  halts = stops.halts;
  shut = stops.shut;
  closes = stops.closes;
  pays = stops.pays;
  seat = stops.seat;
  bodies = stops.bodies;
  threads = stops.threads;
  over = stops.over;
  none_runs = stops.none_runs;
  empty = stops.empty;
}
