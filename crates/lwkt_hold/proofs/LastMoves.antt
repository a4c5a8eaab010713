use Rattle.std.proofs.Common.{◌≡◌, ◌≢◌, ◌⊎◌, ℕ, ◌+◌, ◌<◌, true, List, [], ◌∷◌, ◌++◌, length, take, refl, ap, sym, ◌∙◌, subst, arith, inl, inr, Option, Some, None, Result, Ok, Err, length-append, add-zero}
use Rattle.std.specs.Prelude.{◌↔◌, All, IfOk, IfErr, OnOk, OnErr, IsSomeAnd, slice_get, Vec, vec_len, filter}
use Rattle.std.specs.List.{AllZip}
use Rattle.std.specs.declared.alloc.Global.{Global}
use Rattle.std.proofs.lemmas.List.{take_at, take_all, same_from_push}
use Rattle.lwkt_base.specs.declared.faults.Fault.{Fault}
use Rattle.lwkt_base.specs.declared.faults.Fault.TheVariants.{NotHeld, NotLast}
use Rattle.lwkt_base.specs.declared.names.TokId.{TokId}
use Rattle.lwkt_base.specs.declared.names.Mode.{Mode}
use Rattle.lwkt_base.specs.declared.names.Mode.TheVariants.{Exclusive, Shared}
use Rattle.lwkt_base.specs.declared.names.Ref.{Ref}
use Rattle.lwkt_base.specs.declared.holdings.Held.{Held}
use Rattle.lwkt_base.specs.declared.holdings.Held.TheVariants.{Nothing, Holds}
use Rattle.lwkt_base.specs.Refs.{first_mode, IsLastTo}
use Rattle.lwkt_base.specs.Holding.{Holding, is_held, one_more, added, removed, holding_of}
use Rattle.lwkt_core.specs.declared.events.Event.{Event}
use Rattle.lwkt_core.specs.declared.events.Event.TheVariants.{Mark}
use Rattle.lwkt_core.specs.Events.{cpu_of}
use Rattle.lwkt_bank.specs.declared.seats.CpuSeat.{CpuSeat}
use Rattle.lwkt_bank.specs.Seats.{holding}
use Rattle.lwkt_hold.specs.declared.answers.Missed.{Missed}
use Rattle.lwkt_base.specs.declared.names.CpuId.{CpuId}
use Rattle.lwkt_hold.specs.Fronts.{IsFront}
use Rattle.lwkt_core.specs.Takings.{taking_event}
use Rattle.lwkt_table.specs.History.{events_in, steps_in}
use Rattle.lwkt_hold.specs.Steps.{is_counted, is_of_token, is_on_word, ShowsEvent, AreTraced}
use Rattle.lwkt_hold.specs.Runs.{Moves, Ran}
use Rattle.lwkt_hold.specs.Outcomes.{Marks}
use Rattle.lwkt_hold.proofs.HoldingMoves.{holding_of_push, removed_added}
use Rattle.lwkt_hold.proofs.GiveMoves.{more_here, held_more}
use Rattle.lwkt_hold.proofs.ReadMoves.{mode_of, modes, whole_front}

mode_of_more : (held : Held) (mode : Mode) → mode_of (one_more held mode) ≡ None → ⊥
mode_of_more Nothing mode is = cc
mode_of_more (Holds first further) mode is = cc

-- the token of the last reference is on the list
pub listed_last : (front : List Ref) (last : Ref) → first_mode (front ++ last ∷ []) last.tok.0 ≡ None → ⊥
listed_last front last none =
    mode_of_more (holding_of front last.tok.0) last.mode
    (ap mode_of (sym (more_here (holding_of front) last.tok.0 last.mode) ∙ ap (λ h. h last.tok.0) (sym (holding_of_push front last))) ∙ modes (front ++ last ∷ []) last.tok.0 ∙ none)

-- a pop of the last reference leaves those before it
pub popped : (old now : List Ref) (last : Ref) (result : Result Ref Fault) (front : List Ref) → old ≡ front ++ last ∷ [] → IfOk result (λ r. (old ≡ now ++ r ∷ []) × (r.tok.0 ≡ last.tok.0)) → ((result ≡ Err NotHeld) ↔ (first_mode old last.tok.0 ≡ None)) → ((result ≡ Err NotLast) ↔ ((first_mode old last.tok.0 ≢ None) × ¬ IsLastTo old last.tok.0)) → OnErr result ((result ≡ Err NotHeld) ⊎ (result ≡ Err NotLast)) → now ≡ front
popped old now last (Ok r) front is ok not_held not_last only = (same_from_push now front r last (sym ok.0 ∙ is)).0
popped old now last (Err e) front is ok not_held not_last only = absurd (elim only [
  | inl held ↦ let F : List Ref → Type 0 = λ refs. first_mode refs last.tok.0 ≡ None in listed_last front last (subst F is (not_held.0 held))
  | inr at_end ↦ (not_last.0 at_end).1 (front, (last, (is, refl)))
])

-- the last reference of a list, by its place
pub got_last : (front : List Ref) (last : Ref) → slice_get (front ++ last ∷ []) (length front) ≡ Some last
got_last [] last = refl
got_last (r ∷ front) last = got_last front last

pub last_there : (refs front : List Ref) (last : Ref) (at n : ℕ) → refs ≡ front ++ last ∷ [] → at ≡ length front → last.tok.0 < n → IsSomeAnd (slice_get refs at) (λ r. r.tok.0 < n)
last_there refs front last at n is here below =
    let e : slice_get refs at ≡ Some last = ap (λ xs. slice_get xs at) is ∙ ap (λ k. slice_get (front ++ last ∷ []) k) here ∙ got_last front last in
    let F : Option Ref → Type 0 = λ o. IsSomeAnd o (λ r. r.tok.0 < n) in
    subst F (sym e) below

-- the event of the last reference of a list
pub pushed_traced : (refs front : List Ref) (last : Ref) (at : ℕ) (cpu : CpuId) (xs ys : List Event) → refs ≡ front ++ last ∷ [] → at ≡ length front → IsSomeAnd (slice_get refs at) (λ r. ys ≡ xs ++ taking_event cpu (take at refs) r ∷ []) → ys ≡ xs ++ taking_event cpu front last ∷ []
pushed_traced refs front last at cpu xs ys is here traced =
    let e : slice_get refs at ≡ Some last = ap (λ k. slice_get k at) is ∙ ap (λ k. slice_get (front ++ last ∷ []) k) here ∙ got_last front last in
    let f : take at refs ≡ front = ap (λ k. take at k) is ∙ ap (λ k. take k (front ++ last ∷ [])) here ∙ take_at front (last ∷ []) (length front) refl in
    let F : Option Ref → Type 0 = λ o. IsSomeAnd o (λ r. ys ≡ xs ++ taking_event cpu (take at refs) r ∷ []) in
    subst F e traced ∙ ap (λ k. xs ++ taking_event cpu k last ∷ []) f

-- a reference that was put on the list and taken
pub got_as : (result : Result (Unit {0}) Missed) (refs list front : List Ref) (last : Ref) (at : ℕ) (cpu : CpuId) (h : Holding) (xs ys : List Event) → refs ≡ list → list ≡ front ++ last ∷ [] → at ≡ length front → OnOk result (h ≡ holding_of (take (at + 1) refs)) → OnOk result (IsSomeAnd (slice_get refs at) (λ r. ys ≡ xs ++ taking_event cpu (take at refs) r ∷ [])) → ◌≡◌ {A = Result (Result (Unit {0}) Missed) Fault} (Ok result) (Ok (Ok tt)) → (h ≡ holding_of list) × (ys ≡ xs ++ taking_event cpu front last ∷ [])
got_as (Ok u) refs list front last at cpu h xs ys same is here taken traced answer =
    let long : length list ≡ at + 1 = ap length is ∙ length-append front (last ∷ []) ∙ ap (λ n. n + 1) (sym here) in
    let whole : take (at + 1) refs ≡ list = ap (λ k. take (at + 1) k) same ∙ take_all (at + 1) list (omega (arith, long)) in
    (taken ∙ ap holding_of whole, pushed_traced refs front last at cpu xs ys (same ∙ is) here traced)
got_as (Err e) refs list front last at cpu h xs ys same is here taken traced answer = cc

-- the front without the last reference is a front
pub front_of_push : (refs front : List Ref) (last : Ref) (h : Holding) → refs ≡ front ++ last ∷ [] → h ≡ holding_of front → IsFront refs h
front_of_push refs front last h is here = (length front, here ∙ ap holding_of (sym (ap (λ xs. take (length front) xs) is ∙ take_at front (last ∷ []) (length front) refl)))

-- the holding of a list with one reference more
pub pushed_holding : (refs front : List Ref) (last : Ref) → refs ≡ front ++ last ∷ [] → holding_of refs ≡ added (holding_of front) last.tok.0 last.mode
pushed_holding refs front last is = ap holding_of is ∙ holding_of_push front last

-- a call that left the trace as it was has no event
no_events : (done : List Event) → length done ≡ 0 → done ≡ []
no_events [] is = refl
no_events (e ∷ done) is = absurd (omega (arith, is))

pub ran_silent : (P Q : Holding → Type 0) (m n : ℕ) (a b : CpuSeat) (t u : Vec Event Global) → u ≡ t → Ran P m a b t u → Ran Q n a b t u
ran_silent P Q m n a b t u silent ran =
    let same : vec_len u ≡ vec_len t = ap (λ v. vec_len v) silent in
    let longer = ran.grown in
    let none : ran.done ≡ [] = no_events ran.done (omega arith) in
    record {
      bank = ran.bank;
      cpu = ran.cpu;
      deeds = ran.deeds;
      grows = ran.grows;
      mine = ran.mine;
      in_trace = let F : List Event → Type 0 = λ xs. AreTraced (events_in ran.deeds) (filter is_of_token xs) in subst F none ran.in_trace;
      done = [];
      trace = ran.trace ∙ ap (λ xs. t.items ++ xs) none;
      own = let F : List Event → Type 0 = λ xs. All (λ e. cpu_of e ≡ a.cpu.0) xs in subst F none ran.own;
      traced = let F : List Event → Type 0 = λ xs. AllZip ShowsEvent (filter is_counted (steps_in ran.deeds)) (filter is_on_word xs) in subst F none ran.traced;
      moves = let F : List Event → Type 0 = λ xs. Moves P (holding a) xs (holding b) in subst F none ran.moves;
      few = omega arith;
      grown = same ∙ sym (add-zero (vec_len t));
      room = ran.room;
    }

-- a miss that was answered, as the answer of a call
pub lost_as : (r : Result (Unit {0}) Missed) (why : Missed) → r ≡ Err why → ◌≡◌ {A = Result (Result (Unit {0}) Missed) Fault} (Ok r) (Ok (Err why))
lost_as r why is = ap Ok is

-- what a miss says, at its reason
pub missed_as : (r : Result (Unit {0}) Missed) (why : Missed) (P : Missed → Type 0) → ◌≡◌ {A = Result (Result (Unit {0}) Missed) Fault} (Ok r) (Ok (Err why)) → IfErr r P → P why
missed_as (Ok u) why P is traced = absurd (let e = is in cc)
missed_as (Err e) why P is traced = let same : e ≡ why = cc in subst P same traced

pub lost_so : (r : Result (Unit {0}) Missed) (why : Missed) (P : Type 0) → ◌≡◌ {A = Result (Result (Unit {0}) Missed) Fault} (Ok r) (Ok (Err why)) → OnErr r P → P
lost_so (Ok u) why P is traced = absurd (let e = is in cc)
lost_so (Err e) why P is traced = traced

-- the mark of a miss, by the mode of its reference
pub marks_by : (mode : Mode) (cpu : CpuId) (tok : TokId) (t u : Vec Event Global) → (mode ≡ Exclusive → u.items ≡ t.items ++ Mark cpu tok ∷ []) → (mode ≡ Shared → u ≡ t) → Marks mode cpu tok t u
marks_by Exclusive cpu tok t u marked unmarked = marked refl
marks_by Shared cpu tok t u marked unmarked = unmarked refl

-- the last reference of a list that is held, as the token that is given back
module _ (s : CpuSeat) (refs front : List Ref) (last : Ref) (tok : ℕ) (held : holding s ≡ holding_of refs) (is : refs ≡ front ++ last ∷ []) (same : last.tok.0 ≡ tok) where
  last_holding : holding s ≡ added (holding_of front) last.tok.0 last.mode
  last_holding = held ∙ pushed_holding refs front last is

  pub last_held : is_held (holding s tok) ≡ true
  last_held =
      let F : ℕ → Type 0 = λ t. is_held (holding s t) ≡ true in
      subst F same (ap (λ h. is_held (h last.tok.0)) last_holding ∙ ap is_held (more_here (holding_of front) last.tok.0 last.mode) ∙ held_more (holding_of front last.tok.0) last.mode)

  pub last_removed : removed (holding s) tok ≡ holding_of front
  last_removed =
      let F : ℕ → Type 0 = λ t. removed (holding s) t ≡ holding_of front in
      subst F same (ap (λ h. removed h last.tok.0) last_holding ∙ removed_added (holding_of front) last.tok.0 last.mode)

  -- each holding while it is given back is that of a front
  pub last_front : (h : Holding) → (h ≡ holding s) ⊎ (h ≡ removed (holding s) tok) → IsFront refs h
  last_front h p = elim p [
    | inl was ↦ whole_front refs h (was ∙ held)
    | inr now ↦ front_of_push refs front last h is (now ∙ last_removed)
  ]
