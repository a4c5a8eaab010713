-- Polls as they will be: the last poll of each thread has its answer still to come, and any other one is as it stays.
use Rattle.std.proofs.Common.{◌≡◌, ℕ, suc, ◌+◌, ◌==◌, Bool, true, false, List, [], ◌∷◌, ◌++◌, length, refl, ap, ap₂, sym, ◌∙◌, subst, inl, inr, arith, Option, Some, None, eq-eqb, ne_eqb}
use Rattle.std.specs.Prelude.{slice_get, slice_set, if◌then◌else◌}
use Rattle.std.specs.Option.{option_map_or}
use Rattle.std.proofs.lemmas.Bool.{cases_eq}
use Rattle.lwkt_base.specs.declared.asks.Answer.{Answer}
use Rattle.lwkt_core.specs.Machine.{changed}
use Rattle.lwkt_verdict.specs.declared.turns.Poll.{Poll}
use Rattle.lwkt_verdict.specs.Follow.{answered_at, none_answered}
use Rattle.lwkt_verdict.specs.Threads.{slot_of}
use Rattle.lwkt_run.specs.Keeping.{last_place, with_answer, polls_answered}
use Rattle.lwkt_run.proofs.KeepMoves.{pushed_here, pushed_other, place_changed}

-- a poll with this answer, or with none
abbrev pub answered : Option Answer → Poll → Poll
answered answer q = record q { answer = answer }

-- a poll as it will be, by the place of the next one of its thread
abbrev as_heard : (ℕ → Option Answer) → Poll → Option ℕ → Poll
as_heard answers q None = answered (answers (slot_of q.thread)) q
as_heard answers q (Some later) = q

-- polls as they will be, where the last one of each thread gets this answer
abbrev pub filled : (ℕ → Option Answer) → List Poll → List Poll
filled answers [] = []
filled answers (q ∷ polls) = as_heard answers q (last_place (slot_of q.thread) polls) ∷ filled answers polls

pub filled_long : (answers : ℕ → Option Answer) (polls : List Poll) → length (filled answers polls) ≡ length polls
filled_long answers [] = refl
filled_long answers (q ∷ polls) = ap suc (filled_long answers polls)

-- a poll, where the last one of a thread gets its answer, by whether it is of that thread, and by the place of that one among the later ones
abbrev head_heard : Bool → Answer → Poll → Option ℕ → Poll
head_heard here heard q None = if here then with_answer heard q else q
head_heard here heard q (Some place) = q

changed_behind : (heard : Answer) (q : Poll) (polls : List Poll) (place : ℕ) → changed (with_answer heard) (q ∷ polls) (place + 1) ≡ q ∷ changed (with_answer heard) polls place
changed_behind heard q polls place =
    let e : suc place ≡ place + 1 = omega arith in
    let F : ℕ → Type 0 = λ k. changed (with_answer heard) (q ∷ polls) k ≡ q ∷ changed (with_answer heard) polls place in
    subst F e (go (slice_get polls place))
  where
    go : (o : Option Poll) → option_map_or (λ x. slice_set (q ∷ polls) (suc place) (with_answer heard x)) o (q ∷ polls) ≡ q ∷ option_map_or (λ x. slice_set polls place (with_answer heard x)) o polls
    go None = refl
    go (Some x) = refl

-- the polls with an answer, from the first on
answered_on : (slot : ℕ) (heard : Answer) (q : Poll) (polls : List Poll) → polls_answered slot heard (q ∷ polls) ≡ head_heard (slot_of q.thread == slot) heard q (last_place slot polls) ∷ polls_answered slot heard polls
answered_on slot heard q polls = go (last_place slot polls) (slot_of q.thread == slot)
  where
    go : (o : Option ℕ) (here : Bool) → option_map_or (λ place. changed (with_answer heard) (q ∷ polls) place) (option_map_or (λ place. Some (place + 1)) o (if here then Some 0 else None)) (q ∷ polls) ≡ head_heard here heard q o ∷ option_map_or (λ place. changed (with_answer heard) polls place) o polls
    go (Some place) here = changed_behind heard q polls place
    go None true = refl
    go None false = refl

-- the answer leaves every thread's last poll in its place
place_answered : (slot other : ℕ) (heard : Answer) (polls : List Poll) → last_place other (polls_answered slot heard polls) ≡ last_place other polls
place_answered slot other heard polls = go (last_place slot polls)
  where
    go : (o : Option ℕ) → last_place other (option_map_or (λ place. changed (with_answer heard) polls place) o polls) ≡ last_place other polls
    go None = refl
    go (Some place) = place_changed other heard polls place

-- a poll of the thread that hears its answer
heard_here : (slot : ℕ) (heard : Answer) (answers : ℕ → Option Answer) (q : Poll) (o : Option ℕ) → (slot_of q.thread == slot) ≡ true → head_heard (slot_of q.thread == slot) heard q o ≡ as_heard (answered_at slot (Some heard) answers) q o
heard_here slot heard answers q (Some place) is = refl
heard_here slot heard answers q None is =
    let F : Bool → Poll = λ b. if b then with_answer heard q else q in
    let G : Bool → Poll = λ b. answered (if b then Some heard else answers (slot_of q.thread)) q in
    ap F is ∙ sym (ap G is)

-- and one of another thread
else_heard : (slot : ℕ) (heard : Answer) (answers : ℕ → Option Answer) (q : Poll) (o : Option ℕ) → (slot_of q.thread == slot) ≡ false → as_heard answers q o ≡ as_heard (answered_at slot (Some heard) answers) q o
else_heard slot heard answers q (Some place) is = refl
else_heard slot heard answers q None is =
    let G : Bool → Poll = λ b. answered (if b then Some heard else answers (slot_of q.thread)) q in
    sym (ap G is)

else_same : (heard : Answer) (q : Poll) (o : Option ℕ) → head_heard false heard q o ≡ q
else_same heard q (Some place) = refl
else_same heard q None = refl

same_thread : (here : Bool) (heard : Answer) (q : Poll) (o : Option ℕ) → (head_heard here heard q o).thread ≡ q.thread
same_thread here heard q (Some place) = refl
same_thread true heard q None = refl
same_thread false heard q None = refl

-- a poll that has a later one of its thread behind it stays
stays : (answers : ℕ → Option Answer) (q : Poll) (o : Option ℕ) (place : ℕ) → o ≡ Some place → as_heard answers q o ≡ q
stays answers q o place is = ap (λ p. as_heard answers q p) is

-- one poll, where a later one of the thread that hears it stands at the end
head_filled : (slot : ℕ) (heard : Answer) (answers : ℕ → Option Answer) (q new : Poll) (polls : List Poll) → slot_of new.thread ≡ slot
    → as_heard answers (head_heard (slot_of q.thread == slot) heard q (last_place slot polls)) (last_place (slot_of (head_heard (slot_of q.thread == slot) heard q (last_place slot polls)).thread) (polls_answered slot heard polls ++ new ∷ [])) ≡ as_heard (answered_at slot (Some heard) answers) q (last_place (slot_of q.thread) polls)
head_filled slot heard answers q new polls is =
    let rest = polls_answered slot heard polls in
    let head : Bool → Poll = λ b. head_heard b heard q (last_place slot polls) in
    let place : Poll → Option ℕ = λ x. last_place (slot_of x.thread) (rest ++ new ∷ []) in
    elim (cases_eq (slot_of q.thread) slot) [
      | inl here ↦
          let b = eq-eqb (slot_of q.thread) slot here in
          let x = head (slot_of q.thread == slot) in
          let at : slot_of new.thread ≡ slot_of x.thread = is ∙ sym here ∙ ap slot_of (sym (same_thread (slot_of q.thread == slot) heard q (last_place slot polls))) in
          stays answers x (place x) (length rest) (pushed_here (slot_of x.thread) rest new at) ∙ heard_here slot heard answers q (last_place slot polls) b ∙ ap (λ s. as_heard (answered_at slot (Some heard) answers) q (last_place s polls)) (sym here)
      | inr apart ↦
          let b = ne_eqb (slot_of q.thread) slot apart in
          let e : head (slot_of q.thread == slot) ≡ q = ap head b ∙ else_same heard q (last_place slot polls) in
          let p : place q ≡ last_place (slot_of q.thread) polls = pushed_other (slot_of q.thread) rest new (λ same. apart (sym same ∙ is)) ∙ place_answered slot (slot_of q.thread) heard polls in
          ap (λ x. as_heard answers x (place x)) e ∙ ap (λ o. as_heard answers q o) p ∙ else_heard slot heard answers q (last_place (slot_of q.thread) polls) b
    ]

-- polls after a turn in which a thread heard its answer and asked again: as they will be, the older ones have that answer
pub filled_after : (slot : ℕ) (heard : Answer) (answers : ℕ → Option Answer) (new : Poll) (polls : List Poll) → slot_of new.thread ≡ slot → filled answers (polls_answered slot heard polls ++ new ∷ []) ≡ filled (answered_at slot (Some heard) answers) polls ++ answered (answers slot) new ∷ []
filled_after slot heard answers new [] is = ap (λ s. answered (answers s) new ∷ []) is
filled_after slot heard answers new (q ∷ polls) is =
    ap (λ ps. filled answers (ps ++ new ∷ [])) (answered_on slot heard q polls)
    ∙ ap₂ (λ x xs. x ∷ xs) (head_filled slot heard answers q new polls is) (filled_after slot heard answers new polls is)

head_is : (x y : Poll) (xs ys : List Poll) → x ∷ xs ≡ y ∷ ys → x ≡ y
head_is x y xs ys is = cc

tail_is : (x y : Poll) (xs ys : List Poll) → x ∷ xs ≡ y ∷ ys → xs ≡ ys
tail_is x y xs ys is = cc

-- polls whose last ones have no answer, and the one that hears it
pub filled_heard : (slot : ℕ) (heard : Answer) (polls : List Poll) → filled none_answered polls ≡ polls → filled (answered_at slot (Some heard) none_answered) polls ≡ polls_answered slot heard polls
filled_heard slot heard [] waits = refl
filled_heard slot heard (q ∷ polls) waits =
    let rest : filled none_answered polls ≡ polls = tail_is _ _ _ _ waits in
    let first : as_heard none_answered q (last_place (slot_of q.thread) polls) ≡ q = head_is _ _ _ _ waits in
    let head : as_heard (answered_at slot (Some heard) none_answered) q (last_place (slot_of q.thread) polls) ≡ head_heard (slot_of q.thread == slot) heard q (last_place slot polls) = elim (cases_eq (slot_of q.thread) slot) [
      | inl here ↦ ap (λ s. as_heard (answered_at slot (Some heard) none_answered) q (last_place s polls)) here ∙ sym (heard_here slot heard none_answered q (last_place slot polls) (eq-eqb (slot_of q.thread) slot here))
      | inr apart ↦
          let b = ne_eqb (slot_of q.thread) slot apart in
          sym (else_heard slot heard none_answered q (last_place (slot_of q.thread) polls) b) ∙ first ∙ sym (ap (λ h. head_heard h heard q (last_place slot polls)) b ∙ else_same heard q (last_place slot polls))
    ] in
    ap₂ (λ x xs. x ∷ xs) head (filled_heard slot heard polls rest) ∙ sym (answered_on slot heard q polls)
