-- What a search leaves of the threads, and how its steps make a chain.
use Rattle.std.proofs.Common.{◌≡◌, ℕ, ◌+◌, ◌-◌, ◌<◌, ◌≤◌, eqb, zero, suc, List, [], ◌++◌, length, take, set, get_or, refl, ap, sym, ◌∙◌, subst, arith, inl, inr, Option, Some, None, Bool}
use Rattle.std.specs.Prelude.{◌⊎◌, All, Vec, IsSomeAnd, slice_get}
use Rattle.std.specs.declared.alloc.Global.{Global}
use Rattle.std.proofs.lemmas.Bool.{cases_Bool, eqb-true, eqb-false}
use Rattle.std.proofs.lemmas.List.{set-get_or, length-set}
use Rattle.std.proofs.lemmas.Option.{slice_get-get_or, slice_get_within}
use Rattle.std.proofs.lemmas.List.Elements.{All-nil}
use Rattle.lwkt_base.specs.Holding.{Holding, holding_of, holds_nothing}
use Rattle.lwkt_base.specs.declared.names.Ref.{Ref}
use Rattle.lwkt_base.specs.declared.faults.Fault.TheVariants.{Worn as WornOut}
use Rattle.lwkt_core.specs.declared.events.Event.{Event}
use Rattle.lwkt_bank.specs.declared.seats.CpuSeat.{CpuSeat}
use Rattle.lwkt_bank.specs.Seats.{BankId, bank_of, tokens_of, holding}
use Rattle.lwkt_hold.specs.declared.answers.Missed.{Missed}
use Rattle.lwkt_hold.specs.declared.answers.Missed.TheVariants.{Busy, Again, Worn}
use Rattle.lwkt_hold.specs.declared.answers.Resumed.{Resumed}
use Rattle.lwkt_hold.specs.declared.answers.Resumed.TheVariants.{All as Whole, Passed}
use Rattle.lwkt_hold.specs.Fronts.{IsFront}
use Rattle.lwkt_hold.specs.Runs.{Ran}
use Rattle.lwkt_hold.specs.Stays.{Stays}
use Rattle.lwkt_hold.specs.Rows.{IsAllClean}
use Rattle.lwkt_core.specs.Takings.{takes_all}
use Rattle.lwkt_hold.specs.Givings.{gives_all}
use Rattle.lwkt_hold.specs.Holds.{Resumes}
use Rattle.lwkt_hold.proofs.RunMoves.{ran_then, ran_weaker}
use Rattle.lwkt_hold.proofs.StillMoves.{refusing}
use Rattle.lwkt_hold.proofs.ReadMoves.{front_none}
use Rattle.lwkt_port.specs.Chains.{Chain}
use Rattle.lwkt_port.proofs.Chaining.{chain_none, chain_more}
use Rattle.lwkt_cpu.specs.declared.phases.Phase.TheVariants.{Live, Faulted}
use Rattle.lwkt_cpu.specs.declared.threads.Thread.{Thread}
use Rattle.lwkt_cpu.specs.Processors.{KeepsBusyWord, HoldsFor, AreThere, AllKeepBusyWords}
use Rattle.lwkt_cpu.specs.Searches.{missed_by, TriesToHold, TriesList, Skips, Point, point, SkipsAt, IsIn, SkipsFrom, SkipsTo, FindsIn, SkipsNth, Searches, FindsThread, IsOfOne}
use Rattle.lwkt_lane.proofs.PlaceMoves.{get_set_same, get_set_other, some_same}

-- a front of a list that some thread has
pub front_of_one : (threads : List Thread) (k : ℕ) (t : Thread) (h : Holding) → slice_get threads k ≡ Some t → IsFront t.list h → IsOfOne threads h
front_of_one threads k t h at front = (k, (let F : Option Thread → Type 0 = λ o. IsSomeAnd o (λ x. IsFront x.list h) in subst F (sym at) front))

-- a look, by its answer
pub looked_now : (a b : CpuSeat) (refs : List Ref) (place word : ℕ) (still answer : Bool) → Stays a b refs place word still → still ≡ answer → Stays a b refs place word answer
looked_now a b refs place word still answer s is = let F : Bool → Type 0 = λ x. Stays a b refs place word x in subst F is s

-- what resuming a list says, as a try of it
pub tries_by : (a b : CpuSeat) (t u : Vec Event Global) (refs : List Ref) (r : Resumed) → Ran (IsFront refs) 64 a b t u → Resumes a b refs r → (r ≡ Whole → u.items ≡ t.items ++ takes_all a.cpu [] refs) → ((place : ℕ) (why : Missed) → r ≡ Passed place why → u.items ≡ t.items ++ (takes_all a.cpu [] (take place refs) ++ gives_all a.cpu [] (take place refs))) → IsAllClean b → (answer : Resumed) → r ≡ answer → TriesToHold a b t u refs answer
tries_by a b t u refs Whole ran resumes all passed clean answer is =
    let F : Resumed → Type 0 = λ x. TriesToHold a b t u refs x in
    subst F is (record { ran = ran; resumes = resumes; traced = all refl; clean = clean })
tries_by a b t u refs (Passed place why) ran resumes all passed clean answer is =
    let F : Resumed → Type 0 = λ x. TriesToHold a b t u refs x in
    subst F is (record { ran = ran; resumes = resumes; traced = passed place why refl; clean = clean })

-- a thread has its list and does what it did, or it has ended at a last generation; what is kept of a refusal refuses its list if
-- it did
abbrev pub IsKept : Thread → Thread → Type 0
IsKept old new = (((new.list ≡ old.list) × (new.phase ≡ old.phase)) ⊎ ((new.list ≡ []) × (new.phase ≡ Faulted WornOut))) × (KeepsBusyWord old → KeepsBusyWord new)

kept_same : (old new : Thread) → new ≡ old → IsKept old new
kept_same old new is = let F : Thread → Type 0 = λ t. IsKept old t in subst F (sym is) (inl (refl, refl), λ fits. fits)

kept_then : (x y z : Thread) → IsKept x y → IsKept y z → IsKept x z
kept_then x y z first second = (
  elim second.0 [
    | inl same ↦ elim first.0 [
      | inl before ↦ inl (same.0 ∙ before.0, same.1 ∙ before.1)
      | inr ended ↦ inr (same.0 ∙ ended.0, same.1 ∙ ended.1)
    ]
    | inr ended ↦ inr ended
  ],
  λ fits. second.1 (first.1 fits),
)

-- what a missed try leaves
missed_kept : (a b : CpuSeat) (old new : Thread) (place : ℕ) (why : Missed) → Resumes a b old.list (Passed place why) → new ≡ missed_by place why old → IsKept old new
missed_kept a b old new place (Busy word) m is = let F : Thread → Type 0 = λ t. IsKept old t in subst F (sym is) (inl (refl, refl), λ fits. refusing a b old.list place word m.1)
missed_kept a b old new place Again m is = let F : Thread → Type 0 = λ t. IsKept old t in subst F (sym is) (inl (refl, refl), λ fits. tt)
missed_kept a b old new place Worn m is = let F : Thread → Type 0 = λ t. IsKept old t in subst F (sym is) (inr (refl, refl), λ fits. tt)

skips_kept : (a b : CpuSeat) (t u : Vec Event Global) (old new : Thread) → Skips a b t u old new → IsKept old new
skips_kept a b t u old new skips = elim skips [
  | inl still ↦ kept_same old new still.1
  | inr live ↦ elim live [
    | inl over ↦ kept_same old new over.1
    | inr missed ↦ let m = missed.1 in missed_kept m.1.1.0.0 b old new m.0 m.1.0 m.1.1.0.1.1.resumes m.1.1.1
  ]
]

-- each thread is so
abbrev pub Keeps : List Thread → List Thread → Type 0
Keeps olds news = (k : ℕ) (new : Thread) → slice_get news k ≡ Some new → (old : Thread) × ((slice_get olds k ≡ Some old) × IsKept old new)

keeps_same : (threads : List Thread) → Keeps threads threads
keeps_same threads k new at = (new, (at, kept_same new new refl))

keeps_then : (xs ys zs : List Thread) → Keeps xs ys → Keeps ys zs → Keeps xs zs
keeps_then xs ys zs first second k new at =
    let y = second k new at in
    let x = first k y.0 y.1.0 in
    (x.0, (x.1.0, kept_then x.0 y.0 new x.1.1 y.1.1))

keeps_one : (threads : List Thread) (number : ℕ) (old new : Thread) → slice_get threads number ≡ Some old → IsKept old new → Keeps threads (set threads number new)
keeps_one threads number old new is kept k t at = elim (cases_Bool (eqb k number)) [
  | inl same ↦
      let here : k ≡ number = eqb-true k number same in
      let within = slice_get_within threads number old is in
      let F : Thread → Type 0 = λ x. IsKept old x in
      let G : ℕ → Type 0 = λ i. slice_get (set threads number new) i ≡ Some t in
      let H : ℕ → Type 0 = λ i. slice_get threads i ≡ Some old in
      let e : new ≡ t = some_same new t (slice_get (set threads number new) number) (get_set_same threads number new within) (subst G here at) in
      (old, (subst H (sym here) is, subst F e kept))
  | inr away ↦ (t, (sym (get_set_other threads number k new (eqb-false k number away)) ∙ at, kept_same t t refl))
]

skip_keeps : (number : ℕ) (x y : Point) → SkipsAt number x y → Keeps x.threads y.threads
skip_keeps number x y s = let F : List Thread → Type 0 = λ xs. Keeps x.threads xs in subst F (sym s.changed) (keeps_one x.threads number s.old s.new s.at (skips_kept x.seat y.seat x.trace y.trace s.old s.new s.skips))

skip_long : (number : ℕ) (x y : Point) → SkipsAt number x y → length y.threads ≡ length x.threads
skip_long number x y s = ap length s.changed ∙ length-set x.threads number s.new

-- what each step of a chain keeps, the chain keeps
chain_keeps : (Step : ℕ → Point → Point → Type 0) → ((nth : ℕ) (x y : Point) → Step nth x y → Keeps x.threads y.threads) → (count : ℕ) (x y : Point) → Chain Point Step count x y → Keeps x.threads y.threads
unfolding Chain
chain_keeps Step each zero x y chain = let F : Point → Type 0 = λ p. Keeps x.threads p.threads in subst F (sym chain) (keeps_same x.threads)
chain_keeps Step each (suc count) x y chain = keeps_then x.threads chain.0.threads y.threads (chain_keeps Step each count x chain.0 chain.1) (each count chain.0 y chain.2)

chain_long : (Step : ℕ → Point → Point → Type 0) → ((nth : ℕ) (x y : Point) → Step nth x y → length y.threads ≡ length x.threads) → (count : ℕ) (x y : Point) → Chain Point Step count x y → length y.threads ≡ length x.threads
unfolding Chain
chain_long Step each zero x y chain = ap (λ (p : Point). length p.threads) chain
chain_long Step each (suc count) x y chain = each count chain.0 y chain.2 ∙ chain_long Step each count x chain.0 chain.1

-- steps of another kind make a chain of that kind
chain_as : (S T : ℕ → Point → Point → Type 0) (limit : ℕ) → ((nth : ℕ) (x y : Point) → nth < limit → S nth x y → T nth x y) → (count : ℕ) → count ≤ limit → (x y : Point) → Chain Point S count x y → Chain Point T count x y
unfolding Chain
chain_as S T limit each zero few x y chain = chain
chain_as S T limit each (suc count) few x y chain = (chain.0, chain_as S T limit each count (omega (arith, few)) x chain.0 chain.1, each count chain.0 y (omega (arith, few)) chain.2)

-- one chain after another
chain_then : (S : ℕ → Point → Point → Type 0) (m n : ℕ) (x y z : Point) → Chain Point S m x y → Chain Point (λ nth. S (m + nth)) n y z → Chain Point S (m + n) x z
unfolding Chain
chain_then S m zero x y z first second =
    let F : Point → Type 0 = λ p. Chain Point S m x p in
    let G : ℕ → Type 0 = λ k. Chain Point S k x z in
    let e : m ≡ m + zero = omega arith in
    subst G e (subst F (sym second) first)
chain_then S m (suc n) x y z first second =
    let G : ℕ → Type 0 = λ k. Chain Point S k x z in
    let e : m + n + 1 ≡ m + suc n = omega arith in
    subst G e (chain_more Point S (m + n) x second.0 z (chain_then S m n x y second.0 first second.1) second.2)

-- the threads behind those that were skipped are as before
chain_behind : (from : ℕ) (count : ℕ) (x y : Point) → Chain Point (SkipsFrom from) count x y → (k : ℕ) → from + count ≤ k → slice_get y.threads k ≡ slice_get x.threads k
unfolding Chain
chain_behind from zero x y chain k far = ap (λ (p : Point). slice_get p.threads k) chain
chain_behind from (suc count) x y chain k far =
    let s = chain.2 in
    ap (λ (xs : List Thread). slice_get xs k) s.changed
    ∙ get_set_other chain.0.threads (from + count) k s.new (λ same. absurd (omega (arith, far, same)))
    ∙ chain_behind from count x chain.0 chain.1 k (omega (arith, far))

-- the thread of a place that wasn't looked at is the one that was there
pub untried : (from at : ℕ) (x y : Point) (old : Thread) → from ≤ at → SkipsTo from at x y → slice_get y.threads at ≡ Some old → slice_get x.threads at ≡ Some old
untried from at x y old low s is = sym (chain_behind from (at - from) x y s at (omega (arith, low))) ∙ is

-- nothing was tried yet
pub skips_none : (from : ℕ) (x : Point) → SkipsTo from from x x
skips_none from x =
    let F : ℕ → Type 0 = λ k. Chain Point (SkipsFrom from) k x x in
    let e : 0 ≡ from - from = omega arith in
    subst F e (chain_none Point (SkipsFrom from) x)

-- one thread more is skipped
pub skips_more : (from at : ℕ) (x y z : Point) → from ≤ at → SkipsTo from at x y → SkipsAt at y z → SkipsTo from (at + 1) x z
skips_more from at x y z low chain step =
    let F : ℕ → Type 0 = λ k. Chain Point (SkipsFrom from) k x z in
    let G : ℕ → Type 0 = λ k. SkipsAt k y z in
    let e : at - from + 1 ≡ at + 1 - from = omega (arith, low) in
    let f : at ≡ from + (at - from) = omega (arith, low) in
    subst F e (chain_more Point (SkipsFrom from) (at - from) x y z chain (subst G f step))

-- the step of a thread that is skipped
pub skip_at : (a b : CpuSeat) (threads : List Thread) (t u : Vec Event Global) (number : ℕ) (old new : Thread) → slice_get threads number ≡ Some old → holding b ≡ holds_nothing → Skips a b t u old new → SkipsAt number (point a threads t) (point b (set threads number new) u)
skip_at a b threads t u number old new is empty skips = record { old = old; new = new; at = is; skips = skips; changed = refl; empty = empty }

skips_keeps : (from to : ℕ) (x y : Point) → SkipsTo from to x y → Keeps x.threads y.threads
skips_keeps from to x y s = chain_keeps (SkipsFrom from) (λ nth p q step. skip_keeps (from + nth) p q step) (to - from) x y s

-- a thread that can run, and whose list is held
pub up_at : (s : CpuSeat) (threads : List Thread) (k : ℕ) (t : Thread) → slice_get threads k ≡ Some t → t.phase ≡ Live → holding s ≡ holding_of t.list → HoldsFor s threads (Some k)
up_at s threads k t is live held = let F : Option Thread → Type 0 = λ o. IsSomeAnd o (λ x. (x.phase ≡ Live) × (holding s ≡ holding_of x.list)) in subst F (sym is) (live, held)

-- a search that ended at a thread that is up
pub found_at : (x : Point) (a b : CpuSeat) (threads : List Thread) (t u : Vec Event Global) (from to at : ℕ) (d new : Thread) → from ≤ at → at < to → at < length threads → SkipsTo from at x (point a threads t) → new ≡ get_or threads at d → (get_or threads at d).phase ≡ Live → TriesList a b t u (get_or threads at d) Whole → (place : ℕ) → ◌≡◌ {A = Option ℕ} (Some at) (Some place) → IsIn from to place × FindsIn from place x (point b (set threads at new) u)
found_at x a b threads t u from to at d new low high within skipped same live held place is =
    let here : at ≡ place = cc in
    let kept : set threads at new ≡ threads = ap (λ y. set threads at y) same ∙ set-get_or threads at d in
    let F : ℕ → Type 0 = λ k. IsIn from to k × FindsIn from k x (point b (set threads at new) u) in
    subst F here ((low, high), (point a threads t, (skipped, record { found = get_or threads at d; at = slice_get-get_or threads at d within; live = live; held = held; same = kept })))

-- one try more
pub tried_ran : (a b c : CpuSeat) (t u v : Vec Event Global) (threads : List Thread) (k : ℕ) (old : Thread) (m n : ℕ) → m + 64 ≤ n → slice_get threads k ≡ Some old → Ran (IsOfOne threads) m a b t u → Ran (IsFront old.list) 64 b c u v → Ran (IsOfOne threads) n a c t v
tried_ran a b c t u v threads k old m n wide is first second =
    ran_weaker (IsOfOne threads) (IsOfOne threads) (m + 64) n a c t v (λ h p. p) wide
    (ran_then (IsOfOne threads) m 64 a b c t u v first
    (ran_weaker (IsFront old.list) (IsOfOne threads) 64 64 b c u v (λ h front. front_of_one threads k old h is front) (omega arith) second))

-- the tokens of a list exist, for a seat of the same bank
pub there_at : (a b : CpuSeat) (threads : List Thread) (k : ℕ) (t : Thread) → bank_of b ≡ bank_of a → slice_get threads k ≡ Some t → AreThere a threads → All (λ r. r.tok.0 < tokens_of (bank_of b)) t.list
there_at a b threads k t same is there = let F : BankId → Type 0 = λ bank. All (λ r. r.tok.0 < tokens_of bank) t.list in subst F (sym same) (there k t is)

-- the tokens of each list still exist where each thread is as it was or has ended
there_kept : (a b : CpuSeat) (olds news : List Thread) → bank_of b ≡ bank_of a → Keeps olds news → AreThere a olds → AreThere b news
there_kept a b olds news same keeps there = λ k new is.
    let x = keeps k new is in
    let F : List Ref → Type 0 = λ refs. All (λ r. r.tok.0 < tokens_of (bank_of b)) refs in
    elim x.1.1.0 [
      | inl still ↦ subst F (sym still.0) (there_at a b olds k x.0 same x.1.0 there)
      | inr ended ↦ subst F (sym ended.0) (All-nil (λ (r : Ref). r.tok.0 < tokens_of (bank_of b)))
    ]

pub there_skipped : (from to : ℕ) (x y : Point) → bank_of y.seat ≡ bank_of x.seat → SkipsTo from to x y → AreThere x.seat x.threads → AreThere y.seat y.threads
there_skipped from to x y same s there = there_kept x.seat y.seat x.threads y.threads same (skips_keeps from to x y s) there

-- what is kept of a refusal still refuses each list
pub busy_skipped : (from to : ℕ) (x y : Point) → SkipsTo from to x y → AllKeepBusyWords x.threads → AllKeepBusyWords y.threads
busy_skipped from to x y s all = λ k new is.
    let z = skips_keeps from to x y s k new is in
    z.1.1.1 (all k z.0 z.1.0)

-- a front of a list after a search is one of a list before it
at_list : (P : List Ref → Type 0) (o : Option Thread) → IsSomeAnd o (λ t. P t.list) → (t : Thread) × ((o ≡ Some t) × P t.list)
at_list P None is = absurd is
at_list P (Some t) is = (t, (refl, is))

pub kept_one : (olds news : List Thread) (h : Holding) → Keeps olds news → IsOfOne news h → IsOfOne olds h
kept_one olds news h keeps one =
    let y = at_list (λ refs. IsFront refs h) (slice_get news one.0) one.1 in
    let x = keeps one.0 y.0 y.1.0 in
    let F : List Ref → Type 0 = λ refs. IsFront refs h in
    front_of_one olds one.0 x.0 h x.1.0 (elim x.1.1.0 [
      | inl still ↦ subst F still.0 y.1.1
      | inr ended ↦ front_none x.0.list h (subst F ended.0 y.1.1)
    ])

pub one_skipped : (from to : ℕ) (x y : Point) (h : Holding) → SkipsTo from to x y → IsOfOne y.threads h → IsOfOne x.threads h
one_skipped from to x y h s one = kept_one x.threads y.threads h (skips_keeps from to x y s) one

-- the threads from the cursor on were skipped
from_cursor : (cursor count : ℕ) (nth : ℕ) (x y : Point) → nth < count - cursor → SkipsFrom cursor nth x y → SkipsNth cursor count nth x y
from_cursor cursor count nth x y low step = (cursor + nth, ((omega (arith, low), inl refl), step))

to_end : (cursor upto : ℕ) (x y : Point) → upto ≤ length x.threads → SkipsTo cursor upto x y → Searches cursor (upto - cursor) x y
to_end cursor upto x y within s = chain_as (SkipsFrom cursor) (SkipsNth cursor (length x.threads)) (length x.threads - cursor) (from_cursor cursor (length x.threads)) (upto - cursor) (omega (arith, within)) x y s

-- a thread was found before the end of the list
pub found_first : (cursor place : ℕ) (x y : Point) → IsIn cursor (length x.threads) place → FindsIn cursor place x y → FindsThread cursor x y (Some place)
found_first cursor place x y is f =
    let low : cursor ≤ place = is.0 in
    let high : place < length x.threads = is.1 in
    (place - cursor, (f.0, (omega (arith, high), (high, inl (omega (arith, low))), to_end cursor place x f.0 (omega (arith, high)) f.1.0, f.1.1)))

-- the search went round
module _ (cursor : ℕ) (x y z : Point) (within : cursor ≤ length x.threads) (first : SkipsTo cursor (length x.threads) x y) where
  round_again : (nth : ℕ) (p q : Point) → nth < cursor → SkipsFrom 0 nth p q → SkipsNth cursor (length x.threads) (length x.threads - cursor + nth) p q
  round_again nth p q low step = (0 + nth, ((omega (arith, low, within), inr (omega (arith, within))), step))

  went_round : (upto : ℕ) (p : Point) → upto ≤ cursor → SkipsTo 0 upto y p → Searches cursor (length x.threads - cursor + (upto - 0)) x p
  went_round upto p few second =
      chain_then (SkipsNth cursor (length x.threads)) (length x.threads - cursor) (upto - 0) x y p
      (to_end cursor (length x.threads) x y (omega arith) first)
      (chain_as (SkipsFrom 0) (λ nth. SkipsNth cursor (length x.threads) (length x.threads - cursor + nth)) cursor round_again (upto - 0) (omega (arith, few)) y p second)

  found_second : (place : ℕ) → IsIn 0 cursor place × FindsIn 0 place y z → FindsThread cursor x z (Some place)
  found_second place f =
      let low : place < cursor = f.0.1 in
      (length x.threads - cursor + (place - 0), (f.1.0, (omega (arith, low, within), (omega (arith, low, within), inr (omega (arith, within))), went_round place f.1.0 (omega (arith, low)) f.1.1.0, f.1.1.1)))

  found_none : (holding z.seat ≡ holds_nothing) × SkipsTo 0 cursor y z → FindsThread cursor x z None
  found_none s =
      let F : ℕ → Type 0 = λ k. Searches cursor k x z in
      let e : length x.threads - cursor + (cursor - 0) ≡ length x.threads = omega (arith, within) in
      (subst F e (went_round cursor z (omega arith) s.1), s.0)

  pub found_round : (result : Option ℕ) → ((place : ℕ) → result ≡ Some place → IsIn 0 cursor place × FindsIn 0 place y z) → (result ≡ None → (holding z.seat ≡ holds_nothing) × SkipsTo 0 cursor y z) → FindsThread cursor x z result
  found_round (Some place) some none = found_second place (some place refl)
  found_round None some none = found_none (none refl)

-- what a search leaves
nth_keeps : (cursor count nth : ℕ) (x y : Point) → SkipsNth cursor count nth x y → Keeps x.threads y.threads
nth_keeps cursor count nth x y step = skip_keeps step.0 x y step.1.1

nth_long : (cursor count nth : ℕ) (x y : Point) → SkipsNth cursor count nth x y → length y.threads ≡ length x.threads
nth_long cursor count nth x y step = skip_long step.0 x y step.1.1

searches_keeps : (cursor skipped : ℕ) (x y : Point) → Searches cursor skipped x y → Keeps x.threads y.threads
searches_keeps cursor skipped x y s = chain_keeps (SkipsNth cursor (length x.threads)) (nth_keeps cursor (length x.threads)) skipped x y s

searches_long : (cursor skipped : ℕ) (x y : Point) → Searches cursor skipped x y → length y.threads ≡ length x.threads
searches_long cursor skipped x y s = chain_long (SkipsNth cursor (length x.threads)) (nth_long cursor (length x.threads)) skipped x y s

pub finds_keeps : (cursor : ℕ) (x y : Point) (found : Option ℕ) → FindsThread cursor x y found → Keeps x.threads y.threads
finds_keeps cursor x y (Some place) f =
    let F : List Thread → Type 0 = λ xs. Keeps x.threads xs in
    subst F (sym f.1.1.3.same) (searches_keeps cursor f.0 x f.1.0 f.1.1.2)
finds_keeps cursor x y None f = searches_keeps cursor (length x.threads) x y f.0

pub finds_long : (cursor : ℕ) (x y : Point) (found : Option ℕ) → FindsThread cursor x y found → length y.threads ≡ length x.threads
finds_long cursor x y (Some place) f = ap length f.1.1.3.same ∙ searches_long cursor f.0 x f.1.0 f.1.1.2
finds_long cursor x y None f = searches_long cursor (length x.threads) x y f.0
