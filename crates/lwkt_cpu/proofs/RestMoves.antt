use Rattle.std.proofs.Common.{◌≡◌, ℕ, ◌<◌, ◌≤◌, eqb, List, [], ◌++◌, length, take, drop, set, get_or, refl, ap, sym, ◌∙◌, subst, arith, inl, inr, Option, Some, None, true}
use Rattle.std.specs.Prelude.{Vec, vec_len, vec_capacity, All, IsSomeAnd, IfSome, slice_get}
use Rattle.std.specs.declared.alloc.Global.{Global}
use Rattle.std.proofs.lemmas.Bool.{eqb-true, eqb-false, cases_Bool, false≢true}
use Rattle.std.proofs.lemmas.List.{take_at, length-set}
use Rattle.std.proofs.lemmas.List.Elements.{All-nil}
use Rattle.std.proofs.lemmas.Option.{slice_get-get_or, slice_get_within}
use Rattle.lwkt_msg.specs.Views.{seat_cpu}
use Rattle.lwkt_base.specs.declared.names.Ref.{Ref}
use Rattle.lwkt_base.specs.Refs.{IsLawfulList}
use Rattle.lwkt_base.specs.Holding.{Holding, holding_of}
use Rattle.lwkt_core.specs.declared.events.Event.{Event}
use Rattle.lwkt_bank.specs.declared.seats.CpuSeat.{CpuSeat}
use Rattle.lwkt_bank.specs.Seats.{BankId, bank_of, tokens_of, holding}
use Rattle.lwkt_hold.specs.Fronts.{IsBetween, IsFront}
use Rattle.lwkt_hold.specs.Runs.{Ran}
use Rattle.lwkt_hold.specs.Misses.{IsRefusing}
use Rattle.lwkt_hold.proofs.RunMoves.{ran_then, ran_weaker, ran_with_room}
use Rattle.lwkt_base.specs.declared.faults.Fault.TheVariants.{Worn as WornOut}
use Rattle.lwkt_msg.specs.Desks.{messages_of}
use Rattle.lwkt_port.specs.Posts.{Post, IsSamePost}
use Rattle.lwkt_cpu.specs.declared.phases.Phase.{Phase}
use Rattle.lwkt_cpu.specs.declared.phases.Phase.TheVariants.{Live, AwaitsReply, Faulted}
use Rattle.lwkt_cpu.specs.declared.threads.BusyAt.{BusyAt}
use Rattle.lwkt_cpu.specs.declared.threads.Thread.{Thread}
use Rattle.lwkt_cpu.specs.Processors.{IsSettled, HoldsFor, IsAtRest, Awaits, AllAwait, Processor, processor_of, is_over}
use Rattle.lwkt_cpu.specs.Searches.{Point, point, FindsThread, IsOfOne}
use Rattle.lwkt_cpu.specs.Turning.{cursor_after, Chooses, IsMailed, IsOfThread}
use Rattle.lwkt_cpu.specs.Waking.{AreWoken}
use Rattle.lwkt_lane.proofs.PlaceMoves.{get_set_same, get_set_other, some_same}
use Rattle.lwkt_cpu.proofs.SearchMoves.{Keeps, finds_keeps, finds_long, kept_one, front_of_one, up_at}

-- a vector whose elements were lent as a slice
pub refilled : (news items : List Thread) (n : ℕ) → length news ≡ n → take n (news ++ drop (length news) items) ≡ news
refilled news items n long = take_at news (drop (length news) items) n long

-- a settled thread is one for a later seat of the same bank
pub settled_later : (a b : CpuSeat) (t : Thread) → bank_of b ≡ bank_of a → IsSettled a t → IsSettled b t
settled_later a b t same s = record {
  lawful = s.lawful;
  there = let F : BankId → Type 0 = λ bank. All (λ r. r.tok.0 < tokens_of bank) t.list in subst F (sym same) s.there;
  ended = s.ended;
  busy = s.busy;
}

-- an empty list
pub lawful_none : IsLawfulList []
lawful_none = λ tok is. cc

pub settled_none : (s : CpuSeat) (t : Thread) → t.list ≡ [] → t.busy ≡ None → IsSettled s t
settled_none s t none free = record {
  lawful = let F : List Ref → Type 0 = λ xs. IsLawfulList xs in subst F (sym none) lawful_none;
  there = let F : List Ref → Type 0 = λ xs. All (λ r. r.tok.0 < tokens_of (bank_of s)) xs in subst F (sym none) (All-nil (λ (r : Ref). r.tok.0 < tokens_of (bank_of s)));
  ended = λ is. none;
  busy = let F : Option BusyAt → Type 0 = λ o. IfSome o (λ r. IsRefusing t.list r.at r.word) in subst F (sym free) tt;
}

kept_settled : (a b : CpuSeat) (olds news : List Thread) → bank_of b ≡ bank_of a → Keeps olds news → ((k : ℕ) (t : Thread) → slice_get olds k ≡ Some t → IsSettled a t) → (k : ℕ) (t : Thread) → slice_get news k ≡ Some t → IsSettled b t
kept_settled a b olds news same keeps settled k t at =
    let x = keeps k t at in
    let old = settled_later a b x.0 same (settled k x.0 x.1.0) in
    let F : List Ref → Type 0 = λ refs. IsLawfulList refs in
    let G : List Ref → Type 0 = λ refs. All (λ r. r.tok.0 < tokens_of (bank_of b)) refs in
    elim x.1.1.0 [
      | inl still ↦ record { lawful = subst F (sym still.0) old.lawful; there = subst G (sym still.0) old.there; ended = λ is. still.0 ∙ old.ended (ap is_over (sym still.1) ∙ is); busy = x.1.1.1 old.busy }
      | inr ended ↦ record { lawful = subst F (sym ended.0) lawful_none; there = subst G (sym ended.0) (All-nil (λ (r : Ref). r.tok.0 < tokens_of (bank_of b))); ended = λ is. ended.0; busy = x.1.1.1 old.busy }
    ]

within_after : (cursor : ℕ) (x y : Point) (found : Option ℕ) → cursor ≤ length x.threads → FindsThread cursor x y found → cursor_after cursor found ≤ length y.threads
within_after cursor x y (Some place) within f = omega (arith, f.1.1.1.0, finds_long cursor x y (Some place) f)
within_after cursor x y None within f = omega (arith, within, finds_long cursor x y None f)

held_after : (cursor : ℕ) (x y : Point) (found : Option ℕ) → FindsThread cursor x y found → HoldsFor y.seat y.threads found
held_after cursor x y (Some place) f =
    let up = f.1.1.3 in
    up_at y.seat y.threads place up.found (ap (λ (xs : List Thread). slice_get xs place) up.same ∙ up.at) up.live up.held.1.1.resumes
held_after cursor x y None f = f.1

-- a thread that has ended waits for nothing
pub ended_awaits : (n : ℕ) (t : Thread) (p : Phase) → is_over p ≡ true → t.phase ≡ p → Awaits n t
ended_awaits n t p over is = λ msg waits. absurd (false≢true (ap is_over (sym waits ∙ is) ∙ over))

-- a thread that can run waits for nothing
pub live_awaits : (n : ℕ) (t : Thread) → t.phase ≡ Live → Awaits n t
live_awaits n t is = λ msg waits. let e : ◌≡◌ {A = Phase} Live (AwaitsReply msg) = sym is ∙ waits in cc

kept_awaits : (n : ℕ) (olds news : List Thread) → Keeps olds news → AllAwait n olds → AllAwait n news
kept_awaits n olds news keeps all = λ k t at.
    let x = keeps k t at in
    elim x.1.1.0 [
      | inl still ↦ λ msg waits. all k x.0 x.1.0 msg (sym still.1 ∙ waits)
      | inr ended ↦ ended_awaits n t (Faulted WornOut) refl ended.1
    ]

-- a processor after a search is at rest
pub rest_found : {B : Type 0} (a b : CpuSeat) (post : Post) (bodies : List B) (olds news : List Thread) (t u : Vec Event Global) (running : Option ℕ) (cursor next : ℕ) (found : Option ℕ) → IsAtRest (processor_of a post bodies olds running cursor) → bank_of b ≡ bank_of a → b.cpu ≡ a.cpu → FindsThread cursor (point a olds t) (point b news u) found → next ≡ cursor_after cursor found → IsAtRest (processor_of b post bodies news found next)
rest_found a b post bodies olds news t u running cursor next found rest same cpu f is =
    let x = point a olds t in
    let y = point b news u in
    let long : length news ≡ length olds = finds_long cursor x y found f in
    record {
      few = omega (arith, rest.few, long);
      as_many = rest.as_many ∙ sym long;
      mine = rest.mine ∙ sym cpu;
      ported = rest.ported ∙ sym long;
      awaits = kept_awaits (messages_of post.seat) olds news (finds_keeps cursor x y found f) rest.awaits;
      within = omega (arith, is, within_after cursor x y found rest.within f);
      settled = kept_settled a b olds news same (finds_keeps cursor x y found f) rest.settled;
      held = held_after cursor x y found f;
    }

-- the thread of a place
pub thread_at : {A : Type 0} (xs : List A) (place : ℕ) (x : A) → place < length xs → x ≡ get_or xs place x → slice_get xs place ≡ Some x
thread_at xs place x within is = slice_get-get_or xs place x within ∙ ap (λ y. Some y) (sym is)

some_there : (o : Option Thread) (P : Thread → Type 0) → IsSomeAnd o P → (t : Thread) × (o ≡ Some t)
some_there None P is = absurd is
some_there (Some t) P is = (t, refl)

pub placed : (s : CpuSeat) (threads : List Thread) (running : Option ℕ) (place : ℕ) → running ≡ Some place → HoldsFor s threads running → place < length threads
placed s threads running place is held =
    let F : Option ℕ → Type 0 = λ o. HoldsFor s threads o in
    let x = some_there (slice_get threads place) (λ t. (t.phase ≡ Live) × (holding s ≡ holding_of t.list)) (subst F is held) in
    slice_get_within threads place x.0 x.1

pub up_there : (s : CpuSeat) (threads : List Thread) (running : Option ℕ) (place : ℕ) (t : Thread) → running ≡ Some place → HoldsFor s threads running → slice_get threads place ≡ Some t → (t.phase ≡ Live) × (holding s ≡ holding_of t.list)
up_there s threads running place t is held at =
    let F : Option ℕ → Type 0 = λ o. HoldsFor s threads o in
    let G : Option Thread → Type 0 = λ o. IsSomeAnd o (λ x. (x.phase ≡ Live) × (holding s ≡ holding_of x.list)) in
    subst G at (subst F is held)

pub set_awaits : (n : ℕ) (threads : List Thread) (place : ℕ) (now : Thread) → place < length threads → Awaits n now → AllAwait n threads → AllAwait n (set threads place now)
set_awaits n threads place now within here all = λ k t at. elim (cases_Bool (eqb k place)) [
  | inl is ↦
      let F : Thread → Type 0 = λ x. Awaits n x in
      let G : ℕ → Type 0 = λ i. slice_get (set threads place now) i ≡ Some t in
      subst F (some_same now t (slice_get (set threads place now) place) (get_set_same threads place now within) (subst G (eqb-true k place is) at)) here
  | inr away ↦ all k t (sym (get_set_other threads place k now (eqb-false k place away)) ∙ at)
]

-- a processor one of whose threads was polled is at rest
pub set_settled : (a b : CpuSeat) (threads : List Thread) (place : ℕ) (now : Thread) → place < length threads → bank_of b ≡ bank_of a → IsSettled b now → ((k : ℕ) (t : Thread) → slice_get threads k ≡ Some t → IsSettled a t) → (k : ℕ) (t : Thread) → slice_get (set threads place now) k ≡ Some t → IsSettled b t
set_settled a b threads place now within same here settled k t at = elim (cases_Bool (eqb k place)) [
  | inl is ↦
      let F : Thread → Type 0 = λ x. IsSettled b x in
      let G : ℕ → Type 0 = λ i. slice_get (set threads place now) i ≡ Some t in
      subst F (some_same now t (slice_get (set threads place now) place) (get_set_same threads place now within) (subst G (eqb-true k place is) at)) here
  | inr away ↦ settled_later a b t same (settled k t (sym (get_set_other threads place k now (eqb-false k place away)) ∙ at))
]

pub rest_polled : {B : Type 0} (a b : CpuSeat) (p q : Post) (bodies : List B) (threads : List Thread) (running next : Option ℕ) (cursor place : ℕ) (body : B) (now : Thread) → IsAtRest (processor_of a p bodies threads running cursor) → place < length threads → bank_of b ≡ bank_of a → b.cpu ≡ a.cpu → IsSamePost p q → Awaits (messages_of q.seat) now → IsSettled b now → HoldsFor b (set threads place now) next → IsAtRest (processor_of b q (set bodies place body) (set threads place now) next cursor)
rest_polled a b p q bodies threads running next cursor place body now rest within same cpu posts waits here held = record {
  few = omega (arith, rest.few, length-set threads place now);
  as_many = length-set bodies place body ∙ rest.as_many ∙ sym (length-set threads place now);
  mine = ap seat_cpu posts.seat.kind ∙ rest.mine ∙ sym cpu;
  ported = posts.threads ∙ rest.ported ∙ sym (length-set threads place now);
  awaits = set_awaits (messages_of q.seat) threads place now within waits (let F : ℕ → Type 0 = λ n. AllAwait n threads in subst F (sym (ap length posts.seat.specs)) rest.awaits);
  within = omega (arith, rest.within, length-set threads place now);
  settled = set_settled a b threads place now within same here rest.settled;
  held = held;
}

-- the fronts of one thread's list, before and after its ask
pub ran_polled : (a b : CpuSeat) (t u : Vec Event Global) (threads : List Thread) (place : ℕ) (before now : Thread) → slice_get threads place ≡ Some before → place < length threads → Ran (IsBetween before.list now.list) 320 a b t u → Ran (IsOfThread threads (set threads place now)) 320 a b t u
ran_polled a b t u threads place before now at within ran =
    ran_weaker (IsBetween before.list now.list) (IsOfThread threads (set threads place now)) 320 320 a b t u
    (λ h p. elim p [ inl front ↦ inr (inl (front_of_one threads place before h at front)) | inr front ↦ inr (inr (front_of_one (set threads place now) place now h (get_set_same threads place now within) front)) ])
    (omega arith) ran

-- a run over the threads and the seat of an equal processor
pub ran_over : (olds threads news : List Thread) (s a b : CpuSeat) (t u : Vec Event Global) → olds ≡ threads → s ≡ a → Ran (IsOfThread olds news) 320 s b t u → Ran (IsOfThread threads news) 320 a b t u
ran_over olds threads news s a b t u same here ran =
    let F : List Thread → Type 0 = λ xs. Ran (IsOfThread xs news) 320 s b t u in
    let G : CpuSeat → Type 0 = λ x. Ran (IsOfThread threads news) 320 x b t u in
    subst G here (subst F same ran)

-- a front of a list after the choice of a thread is one of a list before it
pub chosen_one : {B : Type 0} (old mid : Processor B) (t v : Vec Event Global) (running found : Option ℕ) → Chooses old mid t v running found → (h : Holding) → IsOfOne mid.threads h → IsOfOne old.threads h
chosen_one {B} old mid t v (Some place) found c h one = let F : List Thread → Type 0 = λ xs. IsOfOne xs h in subst F (ap (λ (p : Processor B). p.threads) c.1) one
chosen_one old mid t v None found c h one = kept_one old.threads mid.threads h (finds_keeps old.cursor (point old.seat old.threads t) (point mid.seat mid.threads v) found c.0) one

-- a front of a list after the threads were looked after is one of a list before it
one_at : (o : Option Thread) (P : List Ref → Type 0) → IsSomeAnd o (λ t. P t.list) → (t : Thread) × ((o ≡ Some t) × P t.list)
one_at None P is = absurd is
one_at (Some t) P is = (t, (refl, is))

pub woken_one : (olds mids : List Thread) (h : Holding) → AreWoken olds mids → IsOfOne mids h → IsOfOne olds h
woken_one olds mids h woken one =
    let y = one_at (slice_get mids one.0) (λ refs. IsFront refs h) one.1 in
    let x = woken.1 one.0 y.0 y.1.0 in
    let F : List Ref → Type 0 = λ refs. IsFront refs h in
    front_of_one olds one.0 x.0 h x.1.0 (subst F (elim x.1.1 [ inl still ↦ ap (λ (t : Thread). t.list) still | inr ready ↦ ready.1 ]) y.1.1)

-- the events of a whole turn
pub turn_ran : {B : Type 0} (old met mid new : Processor B) (t r w v u : Vec Event Global) (running found : Option ℕ) → r.items ≡ t.items → vec_len r ≡ vec_len t → vec_capacity t ≤ vec_capacity r → AreWoken old.threads met.threads → Chooses met mid w v running found → Ran (IsMailed old.threads) 2304 old.seat met.seat r w → Ran (IsOfOne met.threads) 1024 met.seat mid.seat w v → Ran (IsOfThread mid.threads new.threads) 320 mid.seat new.seat v u → Ran (IsOfThread old.threads new.threads) 4096 old.seat new.seat t u
turn_ran old met mid new t r w v u running found same long wider woken c mail first second =
    let P : Holding → Type 0 = IsOfThread old.threads new.threads in
    ran_with_room P 4096 old.seat new.seat t r u same long wider
    (ran_weaker P P 3648 4096 old.seat new.seat r u (λ h p. p) (omega arith)
    (ran_then P 2304 1344 old.seat met.seat new.seat r w u
    (ran_weaker (IsMailed old.threads) P 2304 2304 old.seat met.seat r w (λ h p. elim p [ inl none ↦ inl none | inr one ↦ inr (inl one) ]) (omega arith) mail)
    (ran_then P 1024 320 met.seat mid.seat new.seat w v u
    (ran_weaker (IsOfOne met.threads) P 1024 1024 met.seat mid.seat w v (λ h p. inr (inl (woken_one old.threads met.threads h woken p))) (omega arith) first)
    (ran_weaker (IsOfThread mid.threads new.threads) P 320 320 mid.seat new.seat v u (λ h p. elim p [ inl none ↦ inl none | inr some ↦ elim some [ inl one ↦ inr (inl (woken_one old.threads met.threads h woken (chosen_one met mid w v running found c h one))) | inr one ↦ inr (inr one) ] ]) (omega arith) second))))

pub search_ran : {B : Type 0} (old met new : Processor B) (t r w u : Vec Event Global) → r.items ≡ t.items → vec_len r ≡ vec_len t → vec_capacity t ≤ vec_capacity r → AreWoken old.threads met.threads → Ran (IsMailed old.threads) 2304 old.seat met.seat r w → Ran (IsOfOne met.threads) 1024 met.seat new.seat w u → Ran (IsOfThread old.threads new.threads) 4096 old.seat new.seat t u
search_ran old met new t r w u same long wider woken mail first =
    let P : Holding → Type 0 = IsOfThread old.threads new.threads in
    ran_with_room P 4096 old.seat new.seat t r u same long wider
    (ran_weaker P P 3328 4096 old.seat new.seat r u (λ h p. p) (omega arith)
    (ran_then P 2304 1024 old.seat met.seat new.seat r w u
    (ran_weaker (IsMailed old.threads) P 2304 2304 old.seat met.seat r w (λ h p. elim p [ inl none ↦ inl none | inr one ↦ inr (inl one) ]) (omega arith) mail)
    (ran_weaker (IsOfOne met.threads) P 1024 1024 met.seat new.seat w u (λ h p. inr (inl (woken_one old.threads met.threads h woken p))) (omega arith) first)))
