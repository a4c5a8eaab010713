use Rattle.lwkt_msg.specs.Views.{seat_cpu}
use Rattle.lwkt_cpu.specs.Fresh.{fresh}
use Rattle.std.proofs.Common.{◌≡◌, ℕ, ◌+◌, ◌<◌, ◌≤◌, eqb, List, length, set, refl, ap, sym, ◌∙◌, subst, arith, inl, inr, Option, Some, None, zero, suc, replicate}
use Rattle.std.specs.Prelude.{All, Vec, IfSome, IsSomeAnd, slice_get}
use Rattle.std.specs.declared.alloc.Global.{Global}
use Rattle.std.proofs.lemmas.Bool.{cases_Bool, eqb-true, eqb-false, false≢true}
use Rattle.std.proofs.lemmas.List.{length-set}
use Rattle.std.proofs.lemmas.Option.{slice_get_within}
use Rattle.lwkt_base.specs.declared.names.CpuId.{CpuId}
use Rattle.lwkt_base.specs.declared.names.Ref.{Ref}
use Rattle.lwkt_base.specs.Refs.{IsLawfulList}
use Rattle.lwkt_base.specs.Holding.{holding_of, holds_nothing}
use Rattle.lwkt_core.specs.declared.events.Event.{Event}
use Rattle.lwkt_bank.specs.declared.seats.CpuSeat.{CpuSeat}
use Rattle.lwkt_bank.specs.Seats.{bank_of, tokens_of, holding}
use Rattle.lwkt_hold.specs.Misses.{IsRefusing}
use Rattle.lwkt_hold.proofs.ReadMoves.{whole_front}
use Rattle.lwkt_msg.specs.Desks.{desk_cpu, messages_of}
use Rattle.lwkt_port.specs.Posts.{Post, IsSamePost}
use Rattle.lwkt_port.specs.Works.{Grew}
use Rattle.lwkt_port.proofs.Growing.{grew_then, same_none, same_then}
use Rattle.lwkt_cpu.specs.declared.phases.Phase.TheVariants.{Live}
use Rattle.lwkt_cpu.specs.declared.threads.BusyAt.{BusyAt}
use Rattle.lwkt_cpu.specs.declared.threads.Thread.{Thread}
use Rattle.lwkt_cpu.specs.Processors.{is_over, Awaits, AllAwait, IsSettled, HoldsFor, IsAtRest, processor_of}
use Rattle.lwkt_cpu.specs.Turning.{IsMailed}
use Rattle.lwkt_cpu.specs.Waking.{IsWoken, AreWoken}
use Rattle.lwkt_lane.proofs.PlaceMoves.{get_set_same, get_set_other, get_there, some_same}
use Rattle.lwkt_cpu.proofs.SearchMoves.{front_of_one}
use Rattle.lwkt_cpu.proofs.RestMoves.{live_awaits, settled_none}

-- the ports are the same ones
pub post_none : (p : Post) → IsSamePost p p
post_none p = record { seat = same_none p.seat; lanes = record { outs = refl; ins = refl }; threads = refl }

pub post_then : (p q r : Post) → IsSamePost p q → IsSamePost q r → IsSamePost p r
post_then p q r one two = record { seat = same_then p.seat q.seat r.seat one.seat two.seat; lanes = record { outs = two.lanes.outs ∙ one.lanes.outs; ins = two.lanes.ins ∙ one.lanes.ins }; threads = two.threads ∙ one.threads }

pub grew_wider : (cpu : CpuId) (m n : ℕ) (t u : Vec Event Global) → m ≤ n → Grew cpu m t u → Grew cpu n t u
grew_wider cpu m n t u wide g = record { made = g.made; trace_is = g.trace_is; own = g.own; few = omega (arith, g.few, wide); grown = g.grown; room = g.room }

-- one call more on the same ports
pub grew_more : (p q : Post) (m n k : ℕ) (t u v : Vec Event Global) → m + n ≤ k → IsSamePost p q → Grew (desk_cpu p.seat) m t u → Grew (desk_cpu q.seat) n u v → Grew (desk_cpu p.seat) k t v
grew_more p q m n k t u v wide same one two =
    let F : CpuId → Type 0 = λ c. Grew c n u v in
    grew_wider (desk_cpu p.seat) (m + n) k t v wide (grew_then (desk_cpu p.seat) m n t u v one (subst F (ap seat_cpu same.seat.kind) two))

-- nothing was woken yet, and one thread more was looked after
pub woken_none : (threads : List Thread) → AreWoken threads threads
woken_none threads = (refl, λ k t at. (t, (at, inl refl, λ live. refl)))

woken_then : (a b c : Thread) → IsWoken a b → (a.phase ≡ Live → b ≡ a) → IsWoken b c → (b.phase ≡ Live → c ≡ b) → IsWoken a c × (a.phase ≡ Live → c ≡ a)
woken_then a b c one live two up = (
  elim one [
    | inl still ↦ elim two [ inl same ↦ inl (same ∙ still) | inr ready ↦ inr (ready.0, ready.1 ∙ ap (λ (t : Thread). t.list) still, ready.2 ∙ ap (λ (t : Thread). t.busy) still) ]
    | inr ready ↦ inr (ap (λ (t : Thread). t.phase) (up ready.0) ∙ ready.0, ap (λ (t : Thread). t.list) (up ready.0) ∙ ready.1, ap (λ (t : Thread). t.busy) (up ready.0) ∙ ready.2)
  ],
  λ is. up (ap (λ (t : Thread). t.phase) (live is) ∙ is) ∙ live is,
)

pub woken_more : (olds mids : List Thread) (at : ℕ) (mid new : Thread) → at < length mids → slice_get mids at ≡ Some mid → AreWoken olds mids → IsWoken mid new → (mid.phase ≡ Live → new ≡ mid) → AreWoken olds (set mids at new)
woken_more olds mids at mid new within is woken one live = (
  length-set mids at new ∙ woken.0,
  λ k t got. elim (cases_Bool (eqb k at)) [
    | inl here ↦
        let same : k ≡ at = eqb-true k at here in
        let G : ℕ → Type 0 = λ i. slice_get (set mids at new) i ≡ Some t in
        let F : Thread → Type 0 = λ x. (old : Thread) × ((slice_get olds k ≡ Some old) × IsWoken old x × (old.phase ≡ Live → x ≡ old)) in
        let y = woken.1 at mid is in
        let z = woken_then y.0 mid new y.1.1 y.1.2 one live in
        subst F (some_same new t (slice_get (set mids at new) at) (get_set_same mids at new within) (subst G same got)) (y.0, (ap (λ i. slice_get olds i) same ∙ y.1.0, z.0, z.1))
    | inr away ↦ woken.1 k t (sym (get_set_other mids at k new (eqb-false k at away)) ∙ got)
  ],
)

-- what a thread waits for is there still
pub woken_awaits : (n m : ℕ) (olds mids : List Thread) → m ≡ n → AreWoken olds mids → AllAwait n olds → AllAwait m mids
woken_awaits n m olds mids same woken all = λ k t at.
    let y = woken.1 k t at in
    let F : Thread → Type 0 = λ x. Awaits m x in
    let G : ℕ → Type 0 = λ i. Awaits i y.0 in
    elim y.1.1 [
      | inl still ↦ subst F (sym still) (subst G (sym same) (all k y.0 y.1.0))
      | inr ready ↦ live_awaits m t ready.0
    ]

-- a processor that has looked after its threads is at rest
settled_woken : (s : CpuSeat) (old new : Thread) → IsWoken old new → IsSettled s old → IsSettled s new
settled_woken s old new woken settled = elim woken [
  | inl still ↦ let F : Thread → Type 0 = λ t. IsSettled s t in subst F (sym still) settled
  | inr ready ↦ record {
    lawful = let F : List Ref → Type 0 = λ xs. IsLawfulList xs in subst F (sym ready.1) settled.lawful;
    there = let F : List Ref → Type 0 = λ xs. All (λ r. r.tok.0 < tokens_of (bank_of s)) xs in subst F (sym ready.1) settled.there;
    ended = λ is. absurd (false≢true (sym (ap is_over ready.0) ∙ is));
    busy =
        let F : List Ref → Type 0 = λ xs. IfSome new.busy (λ r. IsRefusing xs r.at r.word) in
        let G : Option BusyAt → Type 0 = λ o. IfSome o (λ r. IsRefusing old.list r.at r.word) in
        subst F (sym ready.1) (subst G (sym ready.2) settled.busy);
  }
]

held_woken : (s : CpuSeat) (olds news : List Thread) (running : Option ℕ) → AreWoken olds news → HoldsFor s olds running → HoldsFor s news running
held_woken s olds news None woken held = held
held_woken s olds news (Some place) woken held =
    let P : Thread → Type 0 = λ t. (t.phase ≡ Live) × (holding s ≡ holding_of t.list) in
    let x = there (slice_get olds place) P held in
    let new = get_there news place (omega (arith, slice_get_within olds place x.0 x.1.0, woken.0)) in
    let y = woken.1 place new.0 new.1 in
    let same : y.0 ≡ x.0 = some_same y.0 x.0 (slice_get olds place) y.1.0 x.1.0 in
    let still : new.0 ≡ x.0 = y.1.2 (ap (λ (t : Thread). t.phase) same ∙ x.1.1.0) ∙ same in
    let F : Option Thread → Type 0 = λ o. IsSomeAnd o P in
    subst F (sym (new.1 ∙ ap (λ (t : Thread). Some t) still)) x.1.1
  where
    there : (o : Option Thread) (P : Thread → Type 0) → IsSomeAnd o P → (t : Thread) × ((o ≡ Some t) × P t)
    there None P is = absurd is
    there (Some t) P is = (t, (refl, is))

pub rest_mailed : {B : Type 0} (s : CpuSeat) (p q : Post) (bodies : List B) (olds news : List Thread) (running : Option ℕ) (cursor : ℕ) → IsSamePost p q → AreWoken olds news → IsAtRest (processor_of s p bodies olds running cursor) → IsAtRest (processor_of s q bodies news running cursor)
rest_mailed s p q bodies olds news running cursor same woken rest = record {
  few = omega (arith, rest.few, woken.0);
  as_many = rest.as_many ∙ sym woken.0;
  mine = ap seat_cpu same.seat.kind ∙ rest.mine;
  ported = same.threads ∙ rest.ported ∙ sym woken.0;
  awaits = woken_awaits (messages_of p.seat) (messages_of q.seat) olds news (ap length same.seat.specs) woken rest.awaits;
  within = omega (arith, rest.within, woken.0);
  settled = λ k t at. let y = woken.1 k t at in settled_woken s y.0 t y.1.1 (rest.settled k y.0 y.1.0);
  held = held_woken s olds news running woken rest.held;
}

-- what is held between two turns
pub held_mailed : (s : CpuSeat) (threads : List Thread) (running : Option ℕ) → HoldsFor s threads running → IsMailed threads (holding s)
held_mailed s threads None held = inl held
held_mailed s threads (Some place) held =
    let P : Thread → Type 0 = λ t. (t.phase ≡ Live) × (holding s ≡ holding_of t.list) in
    let x = there (slice_get threads place) P held in
    inr (front_of_one threads place x.0 (holding s) x.1.0 (whole_front x.0.list (holding s) x.1.1.1))
  where
    there : (o : Option Thread) (P : Thread → Type 0) → IsSomeAnd o P → (t : Thread) × ((o ≡ Some t) × P t)
    there None P is = absurd is
    there (Some t) P is = (t, (refl, is))

-- a processor with fresh threads is at rest
long_fresh : (n : ℕ) → length (replicate n fresh) ≡ n
long_fresh zero = refl
long_fresh (suc n) = ap (λ k. suc k) (long_fresh n)

each_fresh : (n k : ℕ) (t : Thread) → slice_get (replicate n fresh) k ≡ Some t → t ≡ fresh
each_fresh zero k t is = let e : ◌≡◌ {A = Option Thread} None (Some t) = is in cc
each_fresh (suc n) zero t is = some_same t fresh (Some t) refl (sym is)
each_fresh (suc n) (suc k) t is = each_fresh n k t is

pub rest_new : {B : Type 0} (s : CpuSeat) (p : Post) (bodies : List B) (threads : List Thread) (n : ℕ) → threads ≡ replicate n fresh → n ≡ length bodies → n ≤ 16 → p.threads ≡ n → desk_cpu p.seat ≡ s.cpu → holding s ≡ holds_nothing → IsAtRest (processor_of s p bodies threads None 0)
rest_new {B} s p bodies threads n are many few ports mine empty =
    let long : length threads ≡ n = ap length are ∙ long_fresh n in
    let each : (k : ℕ) (t : Thread) → slice_get threads k ≡ Some t → t ≡ fresh = λ k t at. each_fresh n k t (ap (λ (xs : List Thread). slice_get xs k) (sym are) ∙ at) in
    record {
      few = omega (arith, long, few);
      as_many = sym many ∙ sym long;
      mine = mine;
      ported = ports ∙ sym long;
      awaits = λ k t at. live_awaits (messages_of p.seat) t (ap (λ (x : Thread). x.phase) (each k t at));
      within = omega arith;
      settled = λ k t at. settled_none s t (ap (λ (x : Thread). x.list) (each k t at)) (ap (λ (x : Thread). x.busy) (each k t at));
      held = empty;
    }
