-- The place of a thread's last poll, as polls are kept.
use Rattle.std.proofs.Common.{◌≡◌, ◌≢◌, ℕ, zero, suc, ◌+◌, ◌<◌, ◌==◌, Bool, true, false, List, [], ◌∷◌, ◌++◌, length, get_or, set, refl, ap, sym, ◌∙◌, subst, inl, inr, arith, Option, Some, None, replicate, eq-eqb, ne_eqb}
use Rattle.std.specs.Prelude.{slice_get, slice_set, if◌then◌else◌}
use Rattle.std.specs.Option.{option_map_or}
use Rattle.std.proofs.lemmas.Bool.{cases_eq}
use Rattle.std.proofs.lemmas.List.{length-set}
use Rattle.std.proofs.lemmas.Option.{slice_get_within, get_or_from_slice_get}
use Rattle.lwkt_base.specs.declared.asks.Answer.{Answer}
use Rattle.lwkt_base.specs.declared.names.ThreadId.{ThreadId}
use Rattle.lwkt_core.specs.Machine.{changed}
use Rattle.lwkt_core.proofs.MachineMoves.{changed_at}
use Rattle.lwkt_lane.proofs.PlaceMoves.{get_set_same, get_set_other}
use Rattle.lwkt_verdict.specs.declared.turns.Poll.{Poll}
use Rattle.lwkt_verdict.specs.Threads.{slot_of}
use Rattle.lwkt_run.specs.Keeping.{last_place, with_answer, polls_answered}

-- one poll more in front: its place, by that of the last one behind it
abbrev in_front : Bool → Option ℕ → Option ℕ
in_front here behind = option_map_or (λ place. Some (place + 1)) behind (if here then Some 0 else None)

none_some : (n : ℕ) → ◌≡◌ {A = Option ℕ} None (Some n) → ⊥
none_some n is = cc

some_is : (a b : ℕ) → ◌≡◌ {A = Option ℕ} (Some a) (Some b) → a ≡ b
some_is a b is = cc

front_within : (here : Bool) (behind : Option ℕ) (count place : ℕ) → ((k : ℕ) → behind ≡ Some k → k < count) → in_front here behind ≡ Some place → place < suc count
front_within true None count place less is = let e = some_is 0 place is in omega (arith, e)
front_within false None count place less is = absurd (none_some place is)
front_within here (Some k) count place less is = let e = some_is (k + 1) place is in let few = less k refl in omega (arith, e, few)

-- such a poll is there
pub place_within : (slot : ℕ) (polls : List Poll) (place : ℕ) → last_place slot polls ≡ Some place → place < length polls
place_within slot [] place is = absurd (none_some place is)
place_within slot (q ∷ polls) place is = front_within (slot_of q.thread == slot) (last_place slot polls) (length polls) place (place_within slot polls) is

-- what is changed of a poll but its thread doesn't matter
pub place_set : (slot : ℕ) (polls : List Poll) (k : ℕ) (q r : Poll) → slice_get polls k ≡ Some q → r.thread ≡ q.thread → last_place slot (set polls k r) ≡ last_place slot polls
place_set slot [] k q r at same = refl
place_set slot (x ∷ polls) zero q r at same =
    let e : x ≡ q = cc in
    let t : r.thread ≡ x.thread = same ∙ ap (λ (p : Poll). p.thread) (sym e) in
    let F : ThreadId → Option ℕ = λ id. option_map_or (λ place. Some (place + 1)) (last_place slot polls) (if slot_of id == slot then Some 0 else None) in
    ap F t
place_set slot (x ∷ polls) (suc k) q r at same =
    let F : Option ℕ → Option ℕ = λ o. option_map_or (λ place. Some (place + 1)) o (if slot_of x.thread == slot then Some 0 else None) in
    ap F (place_set slot polls k q r at same)

-- of a thread without a poll none gets an answer
pub none_answered : (slot : ℕ) (heard : Answer) (polls : List Poll) → last_place slot polls ≡ None → polls_answered slot heard polls ≡ polls
none_answered slot heard polls is = ap (λ o. option_map_or (λ k. changed (with_answer heard) polls k) o polls) is

changed_long : (heard : Answer) (polls : List Poll) (k : ℕ) (o : Option Poll) → slice_get polls k ≡ o → length (changed (with_answer heard) polls k) ≡ length polls
changed_long heard polls k None at = ap (λ o. length (option_map_or (λ x. slice_set polls k (with_answer heard x)) o polls)) at
changed_long heard polls k (Some q) at = ap length (changed_at (with_answer heard) polls k q at) ∙ length-set polls k (with_answer heard q)

pub answered_long : (slot : ℕ) (heard : Answer) (polls : List Poll) → length (polls_answered slot heard polls) ≡ length polls
answered_long slot heard polls = go (last_place slot polls)
  where
    go : (o : Option ℕ) → length (option_map_or (λ place. changed (with_answer heard) polls place) o polls) ≡ length polls
    go None = refl
    go (Some k) = changed_long heard polls k (slice_get polls k) refl

-- one poll more at the end: its thread's last one is there, any other's where it was
pub pushed_here : (slot : ℕ) (polls : List Poll) (q : Poll) → slot_of q.thread ≡ slot → last_place slot (polls ++ q ∷ []) ≡ Some (length polls)
pushed_here slot [] q is =
    let F : Bool → Option ℕ = λ b. if b then Some 0 else None in
    ap F (eq-eqb (slot_of q.thread) slot is)
pushed_here slot (x ∷ polls) q is =
    let F : Option ℕ → Option ℕ = λ o. option_map_or (λ place. Some (place + 1)) o (if slot_of x.thread == slot then Some 0 else None) in
    let e : length polls + 1 ≡ suc (length polls) = omega arith in
    ap F (pushed_here slot polls q is) ∙ ap (λ (n : ℕ). Some n) e

pub pushed_other : (slot : ℕ) (polls : List Poll) (q : Poll) → slot_of q.thread ≢ slot → last_place slot (polls ++ q ∷ []) ≡ last_place slot polls
pushed_other slot [] q apart =
    let F : Bool → Option ℕ = λ b. if b then Some 0 else None in
    ap F (ne_eqb (slot_of q.thread) slot apart)
pushed_other slot (x ∷ polls) q apart =
    let F : Option ℕ → Option ℕ = λ o. option_map_or (λ place. Some (place + 1)) o (if slot_of x.thread == slot then Some 0 else None) in
    ap F (pushed_other slot polls q apart)

-- the place of a thread's last poll, where a poll is answered
pub place_changed : (slot : ℕ) (heard : Answer) (polls : List Poll) (place : ℕ) → last_place slot (changed (with_answer heard) polls place) ≡ last_place slot polls
place_changed slot heard polls place = go (slice_get polls place) refl
  where
    go : (o : Option Poll) → slice_get polls place ≡ o → last_place slot (changed (with_answer heard) polls place) ≡ last_place slot polls
    go None at = ap (λ o. last_place slot (option_map_or (λ x. slice_set polls place (with_answer heard x)) o polls)) at
    go (Some q) at = ap (last_place slot) (changed_at (with_answer heard) polls place q at) ∙ place_set slot polls place q (with_answer heard q) at refl

-- the places of last polls
abbrev pub ArePlaces : List (Option ℕ) → List Poll → Type 0
ArePlaces last polls = (k : ℕ) → k < 128 → slice_get last k ≡ Some (last_place k polls)

-- what the table says of a thread
pub place_kept : (last : List (Option ℕ)) (polls : List Poll) (slot : ℕ) (o : Option ℕ) → ArePlaces last polls → slot < 128 → get_or last slot None ≡ o → last_place slot polls ≡ o
place_kept last polls slot o are few is = sym (get_or_from_slice_get last slot (last_place slot polls) None (are slot few)) ∙ is

pub places_changed : (last : List (Option ℕ)) (polls : List Poll) (place : ℕ) (heard : Answer) → ArePlaces last polls → ArePlaces last (changed (with_answer heard) polls place)
places_changed last polls place heard are = λ k less. are k less ∙ ap (λ (o : Option ℕ). Some o) (sym (place_changed k heard polls place))

pub places_pushed : (last : List (Option ℕ)) (polls : List Poll) (slot len : ℕ) (q : Poll) → ArePlaces last polls → slot_of q.thread ≡ slot → slot < 128 → len ≡ length polls → ArePlaces (set last slot (Some len)) (polls ++ q ∷ [])
places_pushed last polls slot len q are is few long = λ k less.
    elim (cases_eq k slot) [
      | inl same ↦
          let within : slot < length last = slice_get_within last slot (last_place slot polls) (are slot few) in
          let F : ℕ → Type 0 = λ i. slice_get (set last slot (Some len)) i ≡ Some (last_place i (polls ++ q ∷ [])) in
          subst F (sym same) (get_set_same last slot (Some len) within ∙ ap (λ (n : ℕ). Some (Some n)) long ∙ ap (λ (o : Option ℕ). Some o) (sym (pushed_here slot polls q is)))
      | inr apart ↦ get_set_other last slot k (Some len) apart ∙ are k less ∙ ap (λ (o : Option ℕ). Some o) (sym (pushed_other k polls q (λ e. apart (sym e ∙ is))))
    ]

-- before the first turn
abbrev no_place : Option ℕ
no_place = None

none_at : (n i : ℕ) → i < n → slice_get (replicate n no_place) i ≡ Some no_place
none_at zero i less = absurd (omega (arith, less))
none_at (suc n) zero less = refl
none_at (suc n) (suc i) less = none_at n i (omega (arith, less))

pub places_none : (polls : List Poll) → polls ≡ [] → ArePlaces (replicate 128 None) polls
places_none polls none = λ k less. none_at 128 k less ∙ ap (λ (ps : List Poll). Some (last_place k ps)) (sym none)
