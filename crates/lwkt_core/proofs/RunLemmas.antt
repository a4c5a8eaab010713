use Rattle.std.proofs.Common.{◌≡◌, ◌≢◌, ◌⊎◌, inl, inr, ⊎_elim, ℕ, zero, suc, ◌+◌, ◌<◌, ◌≤◌, ◌==◌, ◌||◌, Bool, true, false, cond, List, [], ◌∷◌, ◌++◌, length, map, set, All, Contains, count_by, refl, ap, sym, ◌∙◌, subst, arith, Option, Some, None, eq-eqb, eqb-true, ne_eqb, get_or-set_same, get_or-set_other, ◌-◌, ◌&&◌}
use Rattle.std.specs.Prelude.{slice_get, slice_index, IsSomeAnd, option_to_list}
use Rattle.std.specs.Option.{option_map_or}
use Rattle.std.proofs.lemmas.Bool.{cases_Bool, cases_eq, or_cases, false≢true}
use Rattle.std.proofs.lemmas.List.Elements.{All-nil, All-cons, All-head, All-tail, All-weaker}
use Rattle.std.proofs.lemmas.List.Sums.{sum_by-cons}
use Rattle.std.proofs.lemmas.Option.{slice_get_within, get_or_from_slice_get, same_Some}
use Rattle.lwkt_base.specs.declared.names.CpuId.{CpuId}
use Rattle.lwkt_base.specs.declared.names.MsgId.{MsgId}
use Rattle.lwkt_base.specs.declared.owners.Owner.{Owner}
use Rattle.lwkt_base.specs.declared.owners.Owner.TheVariants.{Rest, Out, With, Back}
use Rattle.lwkt_base.specs.declared.laws.Law.{Law}
use Rattle.lwkt_base.specs.declared.laws.Law.TheVariants.{Tally}
use Rattle.lwkt_base.specs.Law.{Obeys}
use Rattle.lwkt_core.specs.declared.tokens.Token.{Token}
use Rattle.lwkt_core.specs.declared.messages.Message.{Message}
use Rattle.lwkt_core.specs.declared.events.Event.{Event}
use Rattle.lwkt_core.specs.declared.events.Event.TheVariants.{Load, Take, Share, Again, Mark, GiveOne, GiveClean, GiveWritten, Read, Write, ReadBlob, WriteBlob, Send, TakeMsg, DropMsg, Reply, Reap, Abort}
use Rattle.lwkt_core.specs.declared.events.Place.{Place}
use Rattle.lwkt_core.specs.declared.events.Place.TheVariants.{AtToken, AtMessage}
use Rattle.lwkt_core.specs.Events.{cpu_of, place_of}
use Rattle.lwkt_core.specs.Tokens.{tally_of, tallies_after, length_of, IsClean, IsLawful, IsSafeToken, TokenNeeds, token_after}
use Rattle.lwkt_core.specs.Messages.{MessageNeeds, message_after, in_out, in_with, owner_taken, owner_replied, IsOutTo, IsOutFrom, IsWith}
use Rattle.lwkt_core.specs.Machine.{Machine, IsSafe, Needs, PlaceNeeds, Happens, after, after_at}
use Rattle.lwkt_core.specs.Trace.{Run}
use Rattle.lwkt_core.specs.Headline.{sends_message, takes_message, drops_message, replies_to_message, reaps_message, takes_or_drops, reaps_or_drops, LiesBetween, MessagesGoRound, EachSendIsAnsweredOnce, AnswersAreOfTheirSend, Section, section_of, ends_written, sections_of, IsChain, SectionsAreChain, RowsStandBetweenSections, IsRecordChain, RecordsAreChain, RecordsStandBetweenSections, blob_after, blob_after_all, blobs_left, RecordsAreLastWritten, RunsAreCompatible, RunsKeepLaws, raise_of, raised_by, TalliesAreRaises, CountsAreEvents}
use Rattle.lwkt_core.proofs.MachineMoves.{changed_at, IsSafe_left}
use Rattle.lwkt_core.proofs.SafetyLemmas.{stays, compatible, unwritten}

-- in every machine of a run
pub are_compatible : RunsAreCompatible
are_compatible m events mid safe way =
    let there : IsSafe mid = stays m way.0 mid safe way.2.1 in
    λ k tok low. compatible mid.cpus _ (there.each_token k tok low)

pub keep_laws : RunsKeepLaws
keep_laws m events mid safe way =
    let there : IsSafe mid = stays m way.0 mid safe way.2.1 in
    λ k tok low idle. unwritten mid.cpus _ (there.each_token k tok low) idle

-- a run of two lists of events has a machine between them
pub Run-split : (m : Machine) (xs ys : List Event) (n : Machine) → Run m (xs ++ ys) n → (k : Machine) × (Run m xs k × Run k ys n)
Run-split m [] ys n run = (m, (refl, run))
Run-split m (x ∷ xs) ys n run = let rest = Run-split run.0 xs ys n run.1.1 in (rest.0, ((run.0, (run.1.0, rest.1.0)), rest.1.1))

-- an element read after a change of one place
get-set_here : {A : Type 0} (xs : List A) (i : ℕ) (x : A) → i < length xs → slice_get (set xs i x) i ≡ Some x
get-set_here [] i x h = absurd (omega arith)
get-set_here (z ∷ zs) zero x h = refl
get-set_here (z ∷ zs) (suc i) x h = get-set_here zs i x (omega arith)

pub get-set_else : {A : Type 0} (xs : List A) (i j : ℕ) (x : A) → j ≢ i → slice_get (set xs i x) j ≡ slice_get xs j
get-set_else [] i j x differ = refl
get-set_else (z ∷ zs) zero zero x differ = absurd (differ refl)
get-set_else (z ∷ zs) zero (suc j) x differ = refl
get-set_else (z ∷ zs) (suc i) zero x differ = refl
get-set_else (z ∷ zs) (suc i) (suc j) x differ = get-set_else zs i j x (λ e. differ (ap suc e))

-- an element that is there
pub there_is : {A : Type 0} (o : Option A) (P : A → Type 0) → IsSomeAnd o P → (x : A) × ((o ≡ Some x) × P x)
there_is None P h = absurd h
there_is (Some x) P h = (x, (refl, h))

-- places with one number
abbrev number_of : Place → ℕ
number_of (AtToken i) = i
number_of (AtMessage i) = i

apart_places : (i j : ℕ) → AtToken i ≡ AtMessage j → ⊥
apart_places i j e = cc

-- what an event leaves of a message: it is at the message, which may be so and is then as the event leaves it, or the message is as it was
abbrev MessageTurns : Machine → Event → ℕ → Message → Message → Type 0
MessageTurns m e i msg msg' = ((place_of e ≡ AtMessage i) × (MessageNeeds m.cpus msg e × (msg' ≡ message_after msg e))) ⊎ ((place_of e ≢ AtMessage i) × (msg' ≡ msg))

message_left : (m n : Machine) (e : Event) (i : ℕ) (msg : Message) → slice_get m.messages i ≡ Some msg → Happens m e n → (msg' : Message) × ((slice_get n.messages i ≡ Some msg') × MessageTurns m e i msg msg')
message_left m n e i msg there happens = go (place_of e) refl happens.0.place
  where
    left : (place : Place) → place_of e ≡ place → n ≡ after_at m e place
    left place is = happens.1 ∙ ap (after_at m e) is

    go : (place : Place) → place_of e ≡ place → PlaceNeeds m e place → (msg' : Message) × ((slice_get n.messages i ≡ Some msg') × MessageTurns m e i msg msg')
    go (AtToken k) is needs = (msg, (ap (λ (x : Machine). slice_get x.messages i) (left (AtToken k) is) ∙ there, inr ((λ at. apart_places k i (sym is ∙ at)), refl)))
    go (AtMessage k) is needs =
        let found = there_is (slice_get m.messages k) (λ x. MessageNeeds m.cpus x e) needs in
        let list : n.messages ≡ set m.messages k (message_after found.0 e) = ap (λ (x : Machine). x.messages) (left (AtMessage k) is) ∙ changed_at (λ x. message_after x e) m.messages k found.0 found.1.0 in
        ⊎_elim
        (λ (same : k ≡ i).
        let one : found.0 ≡ msg = same_Some found.0 msg (sym found.1.0 ∙ ap (slice_get m.messages) same ∙ there) in
        let here : slice_get n.messages i ≡ Some (message_after msg e) =
        ap (λ (ms : List Message). slice_get ms i) list
        ∙ ap (λ (j : ℕ). slice_get (set m.messages k (message_after found.0 e)) j) (sym same)
        ∙ get-set_here m.messages k (message_after found.0 e) (slice_get_within m.messages k found.0 found.1.0)
        ∙ ap (λ (x : Message). Some (message_after x e)) one in
        (message_after msg e, (here, inl (is ∙ ap (λ (j : ℕ). AtMessage j) same, (subst (λ (x : Message). MessageNeeds m.cpus x e) one found.1.1, refl)))))
        (λ (differ : k ≢ i). (
          msg,
          (
            ap (λ (ms : List Message). slice_get ms i) list ∙ get-set_else m.messages k i (message_after found.0 e) (λ e'. differ (sym e')) ∙ there,
            inr ((λ at. differ (ap (λ (p : Place). number_of p) (sym is ∙ at))), refl),
          ),
        ))
        (cases_eq k i)

-- an event at a message finds it
message_found : (m n : Machine) (e : Event) (i : ℕ) → place_of e ≡ AtMessage i → Happens m e n → (msg : Message) × ((slice_get m.messages i ≡ Some msg) × MessageNeeds m.cpus msg e)
message_found m n e i at happens = there_is (slice_get m.messages i) (λ x. MessageNeeds m.cpus x e) (subst (PlaceNeeds m e) at happens.0.place)

-- what an event does with a message, it does at it
at_sends : (i : ℕ) (e : Event) → sends_message i e ≡ true → place_of e ≡ AtMessage i
at_sends i (Send cpu msg to round) is = ap (λ (j : ℕ). AtMessage j) (eqb-true msg.0 i is)
at_sends i e is = absurd (false≢true is)

at_takes : (i : ℕ) (e : Event) → takes_message i e ≡ true → place_of e ≡ AtMessage i
at_takes i (TakeMsg cpu msg round) is = ap (λ (j : ℕ). AtMessage j) (eqb-true msg.0 i is)
at_takes i e is = absurd (false≢true is)

at_drops : (i : ℕ) (e : Event) → drops_message i e ≡ true → place_of e ≡ AtMessage i
at_drops i (DropMsg cpu msg) is = ap (λ (j : ℕ). AtMessage j) (eqb-true msg.0 i is)
at_drops i e is = absurd (false≢true is)

at_replies : (i : ℕ) (e : Event) → replies_to_message i e ≡ true → place_of e ≡ AtMessage i
at_replies i (Reply cpu msg) is = ap (λ (j : ℕ). AtMessage j) (eqb-true msg.0 i is)
at_replies i e is = absurd (false≢true is)

at_reaps : (i : ℕ) (e : Event) → reaps_message i e ≡ true → place_of e ≡ AtMessage i
at_reaps i (Reap cpu msg) is = ap (λ (j : ℕ). AtMessage j) (eqb-true msg.0 i is)
at_reaps i e is = absurd (false≢true is)

at_takes_or_drops : (i : ℕ) (e : Event) → takes_or_drops i e ≡ true → place_of e ≡ AtMessage i
at_takes_or_drops i e is = ⊎_elim (λ t. at_takes i e t) (λ d. at_drops i e d) (or_cases (takes_message i e) (drops_message i e) is)

-- what does the one thing doesn't do the other
take_no_send : (i : ℕ) (e : Event) → takes_or_drops i e ≡ true → sends_message i e ≡ false
take_no_send i (TakeMsg cpu msg round) is = refl
take_no_send i (DropMsg cpu msg) is = refl
take_no_send i e is = absurd (false≢true is)

reply_no_take : (i : ℕ) (e : Event) → replies_to_message i e ≡ true → takes_message i e ≡ false
reply_no_take i (Reply cpu msg) is = refl
reply_no_take i e is = absurd (false≢true is)

send_no_reap : (i : ℕ) (e : Event) → sends_message i e ≡ true → reaps_or_drops i e ≡ false
send_no_reap i (Send cpu msg to round) is = refl
send_no_reap i e is = absurd (false≢true is)

-- an event at a message that isn't the one by its test isn't at it
is_at : (i j : ℕ) → AtMessage j ≡ AtMessage i → (j == i) ≡ true
is_at i j at = eq-eqb j i (ap (λ (p : Place). number_of p) at)

not_at : (i j : ℕ) → AtMessage j ≡ AtMessage i → (j == i) ≡ false → ⊥
not_at i j at none = false≢true (sym none ∙ is_at i j at)

-- 1 where a test passes
abbrev one_if : Bool → ℕ
one_if b = cond b 1 0

one_or_none : (b : Bool) → one_if b ≤ 1
one_or_none true = omega arith
one_or_none false = omega arith

-- 1 at rest, and 1 where a reply may come yet
in_rest : Owner → ℕ
in_rest (Rest origin) = 1
in_rest (Out origin target) = 0
in_rest (With origin target) = 0
in_rest (Back origin target) = 0

in_hope : Owner → ℕ
in_hope (Rest origin) = 0
in_hope (Out origin target) = 1
in_hope (With origin target) = 1
in_hope (Back origin target) = 0

out_to : (cpu : CpuId) (owner : Owner) → IsOutTo cpu owner → in_out owner ≡ 1
out_to cpu (Out origin target) is = refl
out_to cpu (Rest origin) is = absurd is
out_to cpu (With origin target) is = absurd is
out_to cpu (Back origin target) is = absurd is

out_from : (cpu : CpuId) (owner : Owner) → IsOutFrom cpu owner → in_out owner ≡ 1
out_from cpu (Out origin target) is = refl
out_from cpu (Rest origin) is = absurd is
out_from cpu (With origin target) is = absurd is
out_from cpu (Back origin target) is = absurd is

with_of : (cpu : CpuId) (owner : Owner) → IsWith cpu owner → in_with owner ≡ 1
with_of cpu (With origin target) is = refl
with_of cpu (Out origin target) is = absurd is
with_of cpu (Rest origin) is = absurd is
with_of cpu (Back origin target) is = absurd is

hope_out : (owner : Owner) → in_out owner ≡ 1 → in_hope owner ≡ 1
unfolding in_hope
hope_out (Out origin target) is = refl
hope_out (Rest origin) is = absurd (omega arith)
hope_out (With origin target) is = absurd (omega arith)
hope_out (Back origin target) is = absurd (omega arith)

hope_with : (owner : Owner) → in_with owner ≡ 1 → in_hope owner ≡ 1
unfolding in_hope
hope_with (With origin target) is = refl
hope_with (Rest origin) is = absurd (omega arith)
hope_with (Out origin target) is = absurd (omega arith)
hope_with (Back origin target) is = absurd (omega arith)

out_le : (owner : Owner) → in_out owner ≤ 1
out_le (Rest origin) = omega arith
out_le (Out origin target) = omega arith
out_le (With origin target) = omega arith
out_le (Back origin target) = omega arith

with_le : (owner : Owner) → in_with owner ≤ 1
with_le (Rest origin) = omega arith
with_le (Out origin target) = omega arith
with_le (With origin target) = omega arith
with_le (Back origin target) = omega arith

rest_le : (owner : Owner) → in_rest owner ≤ 1
unfolding in_rest
rest_le (Rest origin) = omega arith
rest_le (Out origin target) = omega arith
rest_le (With origin target) = omega arith
rest_le (Back origin target) = omega arith

hope_le : (owner : Owner) → in_hope owner ≤ 1
unfolding in_hope
hope_le (Rest origin) = omega arith
hope_le (Out origin target) = omega arith
hope_le (With origin target) = omega arith
hope_le (Back origin target) = omega arith

-- what an event at a message uses up: a take or drop the state of being out, which only a send gives
use_out : (i cpus : ℕ) (msg : Message) (e : Event) → place_of e ≡ AtMessage i → MessageNeeds cpus msg e → sends_message i e ≡ false → one_if (takes_or_drops i e) + in_out (message_after msg e).owner ≤ in_out msg.owner
use_out i cpus msg (Send cpu m to round) at needs none = absurd (not_at i m.0 at none)
use_out i cpus msg (TakeMsg cpu m round) at needs none = let one = out_to cpu msg.owner needs.0 in let most = one_or_none (m.0 == i || false) in omega arith
use_out i cpus msg (DropMsg cpu m) at needs none = let one = out_from cpu msg.owner needs in let most = one_or_none (m.0 == i) in omega arith
use_out i cpus msg (Reply cpu m) at needs none = omega arith
use_out i cpus msg (Reap cpu m) at needs none = omega arith
use_out i cpus msg (Abort cpu m) at needs none = omega arith
use_out i cpus msg e at needs none = absurd needs

-- a reply the state of being with its target, which only a take gives
use_with : (i cpus : ℕ) (msg : Message) (e : Event) → place_of e ≡ AtMessage i → MessageNeeds cpus msg e → takes_message i e ≡ false → one_if (replies_to_message i e) + in_with (message_after msg e).owner ≤ in_with msg.owner
use_with i cpus msg (TakeMsg cpu m round) at needs none = absurd (not_at i m.0 at none)
use_with i cpus msg (Reply cpu m) at needs none = let one = with_of cpu msg.owner needs in let most = one_or_none (m.0 == i) in omega arith
use_with i cpus msg (Send cpu m to round) at needs none = omega arith
use_with i cpus msg (DropMsg cpu m) at needs none = omega arith
use_with i cpus msg (Reap cpu m) at needs none = omega arith
use_with i cpus msg (Abort cpu m) at needs none = omega arith
use_with i cpus msg e at needs none = absurd needs

-- a send the state of rest, which only a reap or a drop gives
use_rest : (i cpus : ℕ) (msg : Message) (e : Event) → place_of e ≡ AtMessage i → MessageNeeds cpus msg e → reaps_or_drops i e ≡ false → one_if (sends_message i e) + in_rest (message_after msg e).owner ≤ in_rest msg.owner
unfolding in_rest
use_rest i cpus msg (Send cpu m to round) at needs none = let one : in_rest msg.owner ≡ 1 = ap (λ (o : Owner). in_rest o) needs.0 in let most = one_or_none (m.0 == i) in omega arith
use_rest i cpus msg (Reap cpu m) at needs none = absurd (not_at i m.0 at (none_of (m.0 == i) none))
  where
    none_of : (b : Bool) → (b || false) ≡ false → b ≡ false
    none_of true e = e
    none_of false e = refl
use_rest i cpus msg (DropMsg cpu m) at needs none = absurd (not_at i m.0 at none)
use_rest i cpus msg (TakeMsg cpu m round) at needs none = omega arith
use_rest i cpus msg (Reply cpu m) at needs none = omega arith
use_rest i cpus msg (Abort cpu m) at needs none = omega arith
use_rest i cpus msg e at needs none = absurd needs

-- and a reply the state in which one may come, which only a send gives
use_hope : (i cpus : ℕ) (msg : Message) (e : Event) → place_of e ≡ AtMessage i → MessageNeeds cpus msg e → sends_message i e ≡ false → one_if (replies_to_message i e) + in_hope (message_after msg e).owner ≤ in_hope msg.owner
unfolding in_hope
use_hope i cpus msg (Send cpu m to round) at needs none = absurd (not_at i m.0 at none)
use_hope i cpus msg (TakeMsg cpu m round) at needs none = let one = hope_out msg.owner (out_to cpu msg.owner needs.0) in omega arith
use_hope i cpus msg (Reply cpu m) at needs none = let one = hope_with msg.owner (with_of cpu msg.owner needs) in let most = one_or_none (m.0 == i) in omega arith
use_hope i cpus msg (DropMsg cpu m) at needs none = omega arith
use_hope i cpus msg (Reap cpu m) at needs none = omega arith
use_hope i cpus msg (Abort cpu m) at needs none = omega arith
use_hope i cpus msg e at needs none = absurd needs

-- events of one kind use up a state of a message, which only those of another kind give
module _ (i : ℕ) (φ : Owner → ℕ) (p q : Event → Bool) (uses : (cpus : ℕ) (msg : Message) (e : Event) → place_of e ≡ AtMessage i → MessageNeeds cpus msg e → q e ≡ false → one_if (p e) + φ (message_after msg e).owner ≤ φ msg.owner)
    (at_p : (e : Event) → p e ≡ true → place_of e ≡ AtMessage i) (most : (owner : Owner) → φ owner ≤ 1) where
  used : (m n : Machine) (e : Event) (msg : Message) → slice_get m.messages i ≡ Some msg → Happens m e n → q e ≡ false → (msg' : Message) × ((slice_get n.messages i ≡ Some msg') × (one_if (p e) + φ msg'.owner ≤ φ msg.owner))
  used m n e msg there happens none =
      let left = message_left m n e i msg there happens in (
        left.0,
        (
          left.1.0,
          ⊎_elim
              (λ turned. subst (λ (x : Message). one_if (p e) + φ x.owner ≤ φ msg.owner) (sym turned.1.1) (uses m.cpus msg e turned.0 turned.1.0 none))
              (λ stays'.
              let not_p : p e ≡ false = ⊎_elim (λ yes'. absurd (stays'.0 (at_p e yes'))) (λ no'. no') (cases_Bool (p e)) in
              let zero' : one_if (p e) ≡ 0 = ap (λ (b : Bool). one_if b) not_p in
              let same : φ left.0.owner ≡ φ msg.owner = ap (λ (x : Message). φ x.owner) stays'.1 in
              omega arith)
              left.1.1,
        ),
      )

  -- without the other kind there is at most one
  pub counted : (part : List Event) (m n : Machine) (msg : Message) → slice_get m.messages i ≡ Some msg → Run m part n → All (λ f. q f ≡ false) part → count_by p part ≤ φ msg.owner
  counted [] m n msg there run none = omega arith
  counted (e ∷ part) m n msg there run none =
      let one = used m run.0 e msg there run.1.0 (All-head (λ f. q f ≡ false) e part none) in
      let rest = counted part run.0 n one.0 one.1.0 run.1.1 (All-tail (λ f. q f ≡ false) e part none) in
      let both = sum_by-cons (λ x. one_if (p x)) e part in
      let step = one.1.1 in
      omega arith

  -- once the state is used up, one of the other kind comes before the next
  given : (between : List Event) (d : Event) (rest : List Event) (m n : Machine) (msg : Message) → slice_get m.messages i ≡ Some msg → φ msg.owner ≡ 0 → Run m (between ++ d ∷ rest) n → p d ≡ true → q d ≡ false → (f : Event) × (Contains between f × (q f ≡ true))
  given [] d rest m n msg there none run is not_q =
      let one = used m run.0 d msg there run.1.0 not_q in
      let step = one.1.1 in
      let count : one_if (p d) ≡ 1 = ap (λ (b : Bool). one_if b) is in
      absurd (omega arith)
  given (e ∷ between) d rest m n msg there none run is not_q = ⊎_elim
      (λ (yes' : q e ≡ true). (e, ((0, omega arith, refl), yes')))
      (λ (no' : q e ≡ false).
      let one = used m run.0 e msg there run.1.0 no' in
      let step = one.1.1 in
      let found = given between d rest run.0 n one.0 one.1.0 (omega arith) run.1.1 is not_q in
      let at = found.1.0 in
      let low = at.1 in
      (found.0, ((suc at.0, omega arith, at.2), found.1.1)))
      (cases_Bool (q e))

  pub lies_between : ((e : Event) → p e ≡ true → q e ≡ false) → (m : Machine) (events : List Event) (n : Machine) → Run m events n → LiesBetween q p events
  lies_between apart m events n run front between rest e d is p_e p_d =
      let parts = Run-split m front (e ∷ (between ++ d ∷ rest)) n (subst (λ (es : List Event). Run m es n) is run) in
      let later = parts.1.1 in
      let found = message_found parts.0 later.0 e i (at_p e p_e) later.1.0 in
      let one = used parts.0 later.0 e found.0 found.1.0 later.1.0 (apart e p_e) in
      let step = one.1.1 in
      let count : one_if (p e) ≡ 1 = ap (λ (b : Bool). one_if b) p_e in
      let low = most found.0.owner in
      given between d rest later.0 n one.0 one.1.0 (omega arith) later.1.1 p_d (apart d p_d)

pub go_round : MessagesGoRound
go_round m events n i run = (
  lies_between i in_out (takes_or_drops i) (sends_message i) (use_out i) (at_takes_or_drops i) out_le (take_no_send i) m events n run,
  lies_between i in_with (replies_to_message i) (takes_message i) (use_with i) (at_replies i) with_le (reply_no_take i) m events n run,
  lies_between i in_rest (sends_message i) (reaps_or_drops i) (use_rest i) (at_sends i) rest_le (send_no_reap i) m events n run,
)

pub answered_once : EachSendIsAnsweredOnce
answered_once m events n i front part rest e run is send none =
    let parts = Run-split m front (e ∷ (part ++ rest)) n (subst (λ (es : List Event). Run m es n) is run) in
    let later = parts.1.1 in
    let found = message_found parts.0 later.0 e i (at_sends i e send) later.1.0 in
    let left = message_left parts.0 later.0 e i found.0 found.1.0 later.1.0 in
    let run_part = Run-split later.0 part rest n later.1.1 in
    let taken = counted i in_out (takes_or_drops i) (sends_message i) (use_out i) (at_takes_or_drops i) out_le part later.0 run_part.0 left.0 left.1.0 run_part.1.0 none in
    let replied = counted i in_hope (replies_to_message i) (sends_message i) (use_hope i) (at_replies i) hope_le part later.0 run_part.0 left.0 left.1.0 run_part.1.0 none in
    let a = out_le left.0.owner in
    let b = hope_le left.0.owner in
    (omega arith, omega arith)

-- where a message that is away was sent, and its round
abbrev TargetIs : CpuId → Owner → Type 0
TargetIs to (Rest origin) = Unit {0}
TargetIs to (Out origin target) = target ≡ to
TargetIs to (With origin target) = target ≡ to
TargetIs to (Back origin target) = target ≡ to

abbrev IsSentTo : CpuId → ℕ → Message → Type 0
IsSentTo to round msg = (msg.round ≡ round) × TargetIs to msg.owner

taken_target : (cpu to : CpuId) (owner : Owner) → IsOutTo cpu owner → TargetIs to owner → TargetIs to (owner_taken owner) × (cpu ≡ to)
taken_target cpu to (Out origin target) is sent = (sent, sym is ∙ sent)
taken_target cpu to (Rest origin) is sent = absurd is
taken_target cpu to (With origin target) is sent = absurd is
taken_target cpu to (Back origin target) is sent = absurd is

replied_target : (cpu to : CpuId) (owner : Owner) → IsWith cpu owner → TargetIs to owner → TargetIs to (owner_replied owner) × (cpu ≡ to)
replied_target cpu to (With origin target) is sent = (sent, sym is ∙ sent)
replied_target cpu to (Rest origin) is sent = absurd is
replied_target cpu to (Out origin target) is sent = absurd is
replied_target cpu to (Back origin target) is sent = absurd is

sent_stays : (i : ℕ) (to : CpuId) (round cpus : ℕ) (msg : Message) (e : Event) → place_of e ≡ AtMessage i → MessageNeeds cpus msg e → sends_message i e ≡ false → IsSentTo to round msg → IsSentTo to round (message_after msg e)
sent_stays i to round cpus msg (Send cpu m to' r) at needs none sent = absurd (not_at i m.0 at none)
sent_stays i to round cpus msg (TakeMsg cpu m r) at needs none sent = (sent.0, (taken_target cpu to msg.owner needs.0 sent.1).0)
sent_stays i to round cpus msg (Reply cpu m) at needs none sent = (sent.0, (replied_target cpu to msg.owner needs sent.1).0)
sent_stays i to round cpus msg (DropMsg cpu m) at needs none sent = (sent.0, tt)
sent_stays i to round cpus msg (Reap cpu m) at needs none sent = (sent.0, tt)
sent_stays i to round cpus msg (Abort cpu m) at needs none sent = sent
sent_stays i to round cpus msg e at needs none sent = absurd needs

-- what was sent stays so until the next send
sent_along : (i : ℕ) (to : CpuId) (round : ℕ) (part : List Event) (m n : Machine) (msg : Message) → slice_get m.messages i ≡ Some msg → Run m part n → All (λ f. sends_message i f ≡ false) part → IsSentTo to round msg → (msg' : Message) × ((slice_get n.messages i ≡ Some msg') × IsSentTo to round msg')
sent_along i to round [] m n msg there run none sent = (msg, (ap (λ (x : Machine). slice_get x.messages i) run ∙ there, sent))
sent_along i to round (e ∷ part) m n msg there run none sent =
    let left = message_left m run.0 e i msg there run.1.0 in
    let not_send = All-head (λ f. sends_message i f ≡ false) e part none in
    sent_along i to round part run.0 n left.0 left.1.0 run.1.1 (All-tail (λ f. sends_message i f ≡ false) e part none)
    (⊎_elim
    (λ turned. subst (λ (x : Message). IsSentTo to round x) (sym turned.1.1) (sent_stays i to round m.cpus msg e turned.0 turned.1.0 not_send sent))
    (λ stays'. subst (λ (x : Message). IsSentTo to round x) (sym stays'.1) sent)
    left.1.1)

-- a send leaves the message sent
sent_by : (m n : Machine) (origin to : CpuId) (msg : MsgId) (round : ℕ) → Happens m (Send origin msg to round) n → (x : Message) × ((slice_get n.messages msg.0 ≡ Some x) × IsSentTo to round x)
sent_by m n origin to msg round happens =
    let found = message_found m n (Send origin msg to round) msg.0 refl happens in
    let left = message_left m n (Send origin msg to round) msg.0 found.0 found.1.0 happens in (
      left.0,
      (
        left.1.0,
        ⊎_elim
            (λ turned. subst (λ (x : Message). IsSentTo to round x) (sym turned.1.1) (refl, refl))
            (λ stays'. absurd (stays'.0 refl))
            left.1.1,
      ),
    )

-- what is taken of a message that was sent so, and who replies
taken_of : (m n : Machine) (x : Message) (to cpu : CpuId) (msg : MsgId) (round other : ℕ) → slice_get m.messages msg.0 ≡ Some x → IsSentTo to round x → Happens m (TakeMsg cpu msg other) n → (cpu ≡ to) × (other ≡ round)
taken_of m n x to cpu msg round other there sent happens =
    let found = message_found m n (TakeMsg cpu msg other) msg.0 refl happens in
    let same : found.0 ≡ x = same_Some found.0 x (sym found.1.0 ∙ there) in
    let needs : MessageNeeds m.cpus x (TakeMsg cpu msg other) = subst (λ (y : Message). MessageNeeds m.cpus y (TakeMsg cpu msg other)) same found.1.1 in
    ((taken_target cpu to x.owner needs.0 sent.1).1, needs.1 ∙ sent.0)

replied_by : (m n : Machine) (x : Message) (to cpu : CpuId) (msg : MsgId) (round : ℕ) → slice_get m.messages msg.0 ≡ Some x → IsSentTo to round x → Happens m (Reply cpu msg) n → cpu ≡ to
replied_by m n x to cpu msg round there sent happens =
    let found = message_found m n (Reply cpu msg) msg.0 refl happens in
    let same : found.0 ≡ x = same_Some found.0 x (sym found.1.0 ∙ there) in
    let needs : MessageNeeds m.cpus x (Reply cpu msg) = subst (λ (y : Message). MessageNeeds m.cpus y (Reply cpu msg)) same found.1.1 in
    (replied_target cpu to x.owner needs sent.1).1

pub answers_match : AnswersAreOfTheirSend
answers_match m events n front part rest origin to cpu msg round other e run is none =
    let parts = Run-split m front (Send origin msg to round ∷ (part ++ e ∷ rest)) n (subst (λ (es : List Event). Run m es n) is run) in
    let later = parts.1.1 in
    let sent = sent_by parts.0 later.0 origin to msg round later.1.0 in
    let run_part = Run-split later.0 part (e ∷ rest) n later.1.1 in
    let still = sent_along msg.0 to round part later.0 run_part.0 sent.0 sent.1.0 run_part.1.0 none sent.1.1 in
    let last = run_part.1.1 in
    let F : Event → Type 0 = λ x. Happens run_part.0 x last.0 in (
      λ take'. taken_of run_part.0 last.0 still.0 to cpu msg round other still.1.0 still.1.1 (subst F take' last.1.0),
      λ reply'. replied_by run_part.0 last.0 still.0 to cpu msg round still.1.0 still.1.1 (subst F reply' last.1.0),
    )

-- what an event leaves of a token
abbrev TokenTurns : Event → ℕ → Token → Token → Type 0
TokenTurns e t tok tok' = ((place_of e ≡ AtToken t) × (TokenNeeds tok e × (tok' ≡ token_after tok e))) ⊎ ((place_of e ≢ AtToken t) × (tok' ≡ tok))

pub token_left : (m n : Machine) (e : Event) (t : ℕ) (tok : Token) → slice_get m.tokens t ≡ Some tok → Happens m e n → (tok' : Token) × ((slice_get n.tokens t ≡ Some tok') × TokenTurns e t tok tok')
token_left m n e t tok there happens = go (place_of e) refl happens.0.place
  where
    left : (place : Place) → place_of e ≡ place → n ≡ after_at m e place
    left place is = happens.1 ∙ ap (after_at m e) is

    go : (place : Place) → place_of e ≡ place → PlaceNeeds m e place → (tok' : Token) × ((slice_get n.tokens t ≡ Some tok') × TokenTurns e t tok tok')
    go (AtMessage k) is needs = (tok, (ap (λ (x : Machine). slice_get x.tokens t) (left (AtMessage k) is) ∙ there, inr ((λ at. apart_places t k (sym at ∙ is)), refl)))
    go (AtToken k) is needs =
        let found = there_is (slice_get m.tokens k) (λ x. TokenNeeds x e) needs in
        let list : n.tokens ≡ set m.tokens k (token_after found.0 e) = ap (λ (x : Machine). x.tokens) (left (AtToken k) is) ∙ changed_at (λ x. token_after x e) m.tokens k found.0 found.1.0 in
        ⊎_elim
        (λ (same : k ≡ t).
        let one : found.0 ≡ tok = same_Some found.0 tok (sym found.1.0 ∙ ap (slice_get m.tokens) same ∙ there) in
        let here : slice_get n.tokens t ≡ Some (token_after tok e) =
        ap (λ (ts : List Token). slice_get ts t) list
        ∙ ap (λ (j : ℕ). slice_get (set m.tokens k (token_after found.0 e)) j) (sym same)
        ∙ get-set_here m.tokens k (token_after found.0 e) (slice_get_within m.tokens k found.0 found.1.0)
        ∙ ap (λ (x : Token). Some (token_after x e)) one in
        (token_after tok e, (here, inl (is ∙ ap (λ (j : ℕ). AtToken j) same, (subst (λ (x : Token). TokenNeeds x e) one found.1.1, refl)))))
        (λ (differ : k ≢ t). (
          tok,
          (
            ap (λ (ts : List Token). slice_get ts t) list ∙ get-set_else m.tokens k t (token_after found.0 e) (λ e'. differ (sym e')) ∙ there,
            inr ((λ at. differ (ap (λ (p : Place). number_of p) (sym is ∙ at))), refl),
          ),
        ))
        (cases_eq k t)

at_written : (t : ℕ) (e : Event) → ends_written t e ≡ true → place_of e ≡ AtToken t
at_written t (GiveWritten cpu tok section) is = ap (λ (j : ℕ). AtToken j) (eqb-true tok.0 t is)
at_written t e is = absurd (false≢true is)

-- what a token's generation, first row, first record and law are after an event that doesn't end a written section of it
pub record KeepsSection (tok tok' : Token) : Type 0 where
  pub generation : tok'.generation ≡ tok.generation
  pub first : tok'.first ≡ tok.first
  pub first_blob : tok'.first_blob ≡ tok.first_blob
  pub law : tok'.law ≡ tok.law
  pub param : tok'.param ≡ tok.param

abbrev keeps_here : (tok : Token) → KeepsSection tok tok
keeps_here tok = record { generation = refl; first = refl; first_blob = refl; law = refl; param = refl }

keeps_after : (t : ℕ) (tok : Token) (e : Event) → place_of e ≡ AtToken t → TokenNeeds tok e → ends_written t e ≡ false → KeepsSection tok (token_after tok e)
keeps_after t tok (GiveWritten cpu k section) at needs none = absurd (false≢true (sym none ∙ eq-eqb k.0 t (ap (λ (p : Place). number_of p) at)))
keeps_after t tok (Load cpu k) at needs none = record { generation = refl; first = refl; first_blob = refl; law = refl; param = refl }
keeps_after t tok (Take cpu k) at needs none = record { generation = refl; first = refl; first_blob = refl; law = refl; param = refl }
keeps_after t tok (Share cpu k) at needs none = record { generation = refl; first = refl; first_blob = refl; law = refl; param = refl }
keeps_after t tok (Again cpu k) at needs none = record { generation = refl; first = refl; first_blob = refl; law = refl; param = refl }
keeps_after t tok (Mark cpu k) at needs none = record { generation = refl; first = refl; first_blob = refl; law = refl; param = refl }
keeps_after t tok (GiveOne cpu k) at needs none = record { generation = refl; first = refl; first_blob = refl; law = refl; param = refl }
keeps_after t tok (GiveClean cpu k) at needs none = record { generation = refl; first = refl; first_blob = refl; law = refl; param = refl }
keeps_after t tok (Read cpu k cell value) at needs none = record { generation = refl; first = refl; first_blob = refl; law = refl; param = refl }
keeps_after t tok (Write cpu k cell value) at needs none = record { generation = refl; first = refl; first_blob = refl; law = refl; param = refl }
keeps_after t tok (ReadBlob cpu k blob) at needs none = record { generation = refl; first = refl; first_blob = refl; law = refl; param = refl }
keeps_after t tok (WriteBlob cpu k blob) at needs none = record { generation = refl; first = refl; first_blob = refl; law = refl; param = refl }
keeps_after t tok e at needs none = absurd needs

-- what a token is after an event that ends a written section of it
pub record Moves (tok tok' : Token) : Type 0 where
  pub generation : tok'.generation ≡ tok.generation + 1
  pub first : tok'.first ≡ tok.row
  pub first_blob : tok'.first_blob ≡ tok.blob
  pub law : tok'.law ≡ tok.law
  pub param : tok'.param ≡ tok.param
  pub another : ¬ IsClean tok
  pub lawful : IsLawful tok

moves_after : (t : ℕ) (tok : Token) (e : Event) → TokenNeeds tok e → ends_written t e ≡ true → Moves tok (token_after tok e)
moves_after t tok (GiveWritten cpu k section) needs is = record { generation = refl; first = refl; first_blob = refl; law = refl; param = refl; another = needs.1; lawful = needs.2 }
moves_after t tok e needs is = absurd (false≢true is)

-- the sections of a list of events, by whether the first one ends one
pub one_section : (t : ℕ) (m : Machine) (e : Event) (events : List Event) (tok : Token) → slice_get m.tokens t ≡ Some tok → ends_written t e ≡ true → sections_of t m (e ∷ events) ≡ section_of tok ∷ sections_of t (after m e) events
one_section t m e events tok there is =
    ap (λ (b : Bool). cond b (map (λ (k : Token). section_of k) (option_to_list (slice_get m.tokens t))) [] ++ sections_of t (after m e) events) is
    ∙ ap (λ (o : Option Token). map (λ (k : Token). section_of k) (option_to_list o) ++ sections_of t (after m e) events) there

pub no_section : (t : ℕ) (m : Machine) (e : Event) (events : List Event) → ends_written t e ≡ false → sections_of t m (e ∷ events) ≡ sections_of t (after m e) events
no_section t m e events is =
    ap (λ (b : Bool). cond b (map (λ (k : Token). section_of k) (option_to_list (slice_get m.tokens t))) [] ++ sections_of t (after m e) events) is

abbrev IsLawfulSection : Token → Section → Type 0
IsLawfulSection tok s = (¬ ((s.left ≡ s.before) × (s.kept ≡ s.found))) × Obeys tok.law tok.param s.left (length_of s.kept)

abbrev Chained : Token → List Section → Token → Type 0
Chained tok sections last = IsChain tok.generation tok.first sections last.generation last.first × All (IsLawfulSection tok) sections × IsRecordChain tok.first_blob sections last.first_blob

lawful_as : (a b : Token) → b.law ≡ a.law → b.param ≡ a.param → (sections : List Section) → All (IsLawfulSection b) sections → All (IsLawfulSection a) sections
lawful_as a b law param sections all = All-weaker (IsLawfulSection b) (IsLawfulSection a) one sections all
  where
    one : (s : Section) → IsLawfulSection b s → IsLawfulSection a s
    one s is =
        let F : ℕ → Type 0 = λ p. Obeys b.law p s.left (length_of s.kept) in
        let G : Law → Type 0 = λ l. Obeys l a.param s.left (length_of s.kept) in
        (is.0, subst G law (subst F param is.1))

chain_kept : (tok tok' last : Token) (sections : List Section) → KeepsSection tok tok' → Chained tok' sections last → Chained tok sections last
chain_kept tok tok' last sections stand rest =
    let F : ℕ → Type 0 = λ g. IsChain g tok'.first sections last.generation last.first in
    let G : List ℕ → Type 0 = λ row. IsChain tok.generation row sections last.generation last.first in
    let K : Option (List ℕ) → Type 0 = λ blob. IsRecordChain blob sections last.first_blob in
    (subst G stand.first (subst F stand.generation rest.0), lawful_as tok tok' stand.law stand.param sections rest.1, subst K stand.first_blob rest.2)

chain_moves : (tok tok' last : Token) (sections : List Section) → Moves tok tok' → Chained tok' sections last → Chained tok (section_of tok ∷ sections) last
chain_moves tok tok' last sections move rest =
    let F : ℕ → Type 0 = λ g. IsChain g tok'.first sections last.generation last.first in
    let G : List ℕ → Type 0 = λ row. IsChain (tok.generation + 1) row sections last.generation last.first in
    let K : Option (List ℕ) → Type 0 = λ blob. IsRecordChain blob sections last.first_blob in (
      (refl, refl, subst G move.first (subst F move.generation rest.0)),
      All-cons (IsLawfulSection tok) (section_of tok) sections (move.another, move.lawful) (lawful_as tok tok' move.law move.param sections rest.1),
      (refl, subst K move.first_blob rest.2),
    )

chain_step : (t : ℕ) (m mid : Machine) (e : Event) (events : List Event) (tok tok' last : Token) → slice_get m.tokens t ≡ Some tok → mid ≡ after m e → TokenTurns e t tok tok' → Chained tok' (sections_of t mid events) last → Chained tok (sections_of t m (e ∷ events)) last
chain_step t m mid e events tok tok' last here is turns rest =
    let F : Machine → Type 0 = λ x. Chained tok' (sections_of t x events) last in
    let G : List Section → Type 0 = λ sections. Chained tok sections last in
    let there : Chained tok' (sections_of t (after m e) events) last = subst F is rest in
    ⊎_elim
    (λ (written : ends_written t e ≡ true).
    subst G (sym (one_section t m e events tok here written)) (chain_moves tok tok' last (sections_of t (after m e) events) (moved written turns) there))
    (λ (other : ends_written t e ≡ false).
    subst G (sym (no_section t m e events other)) (chain_kept tok tok' last (sections_of t (after m e) events) (stood other turns) there))
    (cases_Bool (ends_written t e))
  where
    moved : ends_written t e ≡ true → TokenTurns e t tok tok' → Moves tok tok'
    moved written (inl turned) = subst (λ (x : Token). Moves tok x) (sym turned.1.1) (moves_after t tok e turned.1.0 written)
    moved written (inr stays') = absurd (stays'.0 (at_written t e written))

    stood : ends_written t e ≡ false → TokenTurns e t tok tok' → KeepsSection tok tok'
    stood other (inl turned) = subst (λ (x : Token). KeepsSection tok x) (sym turned.1.1) (keeps_after t tok e turned.0 turned.1.0 other)
    stood other (inr stays') = subst (λ (x : Token). KeepsSection tok x) (sym stays'.1) (keeps_here tok)

chained : (m : Machine) (events : List Event) (n : Machine) (t : ℕ) (tok last : Token) → Run m events n → slice_get m.tokens t ≡ Some tok → slice_get n.tokens t ≡ Some last → Chained tok (sections_of t m events) last
chained m [] n t tok last run here there =
    let same : last ≡ tok = same_Some last tok (sym there ∙ ap (λ (x : Machine). slice_get x.tokens t) run ∙ here) in
    ((ap (λ (x : Token). x.generation) same, ap (λ (x : Token). x.first) same), All-nil (IsLawfulSection tok), ap (λ (x : Token). x.first_blob) same)
chained m (e ∷ events) n t tok last run here there =
    let left = token_left m run.0 e t tok here run.1.0 in
    chain_step t m run.0 e events tok left.0 last here run.1.0.1 left.1.1 (chained run.0 events n t left.0 last run.1.1 left.1.0 there)

pub are_chain : SectionsAreChain
are_chain m events n t tok last run here there =
    let all = chained m events n t tok last run here there in
    (all.0, all.1)

pub records_chain : RecordsAreChain
records_chain m events n t tok last run here there = (chained m events n t tok last run here there).2

-- the token that was read is safe
safe_read : (m : Machine) (t : ℕ) (tok : Token) → IsSafe m → slice_get m.tokens t ≡ Some tok → IsSafeToken m.cpus tok
safe_read m t tok safe here = subst (IsSafeToken m.cpus) (get_or_from_slice_get m.tokens t tok tok here) (safe.each_token t tok (slice_get_within m.tokens t tok here))

pub rows_stand : RowsStandBetweenSections
rows_stand m events n t tok last safe run here there opened closed =
    let F : List ℕ → Type 0 = λ row. IsChain tok.generation row (sections_of t m events) last.generation last.first in
    let G : List ℕ → Type 0 = λ row. IsChain tok.generation tok.row (sections_of t m events) last.generation row in
    subst G (sym ((safe_read n t last (stays m events n safe run) there).settled closed)) (subst F (sym ((safe_read m t tok safe here).settled opened)) (are_chain m events n t tok last run here there).0)

pub records_stand : RecordsStandBetweenSections
records_stand m events n t tok last safe run here there opened closed =
    let F : Option (List ℕ) → Type 0 = λ blob. IsRecordChain blob (sections_of t m events) last.first_blob in
    let G : Option (List ℕ) → Type 0 = λ blob. IsRecordChain tok.blob (sections_of t m events) blob in
    subst G (sym ((safe_read n t last (stays m events n safe run) there).settled_blob closed)) (subst F (sym ((safe_read m t tok safe here).settled_blob opened)) (records_chain m events n t tok last run here there))

-- the record of a token after an event at it, and after one elsewhere
blob_here : (t : ℕ) (tok : Token) (e : Event) → place_of e ≡ AtToken t → TokenNeeds tok e → (token_after tok e).blob ≡ blob_after t tok.blob e
blob_here t tok (WriteBlob cpu k blob) at needs = sym (ap (λ (b : Bool). cond b (Some blob) tok.blob) (eq-eqb k.0 t (ap (λ (p : Place). number_of p) at)))
blob_here t tok (Load cpu k) at needs = refl
blob_here t tok (Take cpu k) at needs = refl
blob_here t tok (Share cpu k) at needs = refl
blob_here t tok (Again cpu k) at needs = refl
blob_here t tok (Mark cpu k) at needs = refl
blob_here t tok (GiveOne cpu k) at needs = refl
blob_here t tok (GiveClean cpu k) at needs = refl
blob_here t tok (GiveWritten cpu k section) at needs = refl
blob_here t tok (Read cpu k cell value) at needs = refl
blob_here t tok (Write cpu k cell value) at needs = refl
blob_here t tok (ReadBlob cpu k blob) at needs = refl
blob_here t tok e at needs = absurd needs

blob_else : (t : ℕ) (blob : Option (List ℕ)) (e : Event) → place_of e ≢ AtToken t → blob_after t blob e ≡ blob
blob_else t blob (WriteBlob cpu k new) away = ap (λ (b : Bool). cond b (Some new) blob) (ne_eqb k.0 t (λ same. away (ap (λ (j : ℕ). AtToken j) same)))
blob_else t blob e away = refl

blob_left : (t : ℕ) (tok tok' : Token) (e : Event) → TokenTurns e t tok tok' → tok'.blob ≡ blob_after t tok.blob e
blob_left t tok tok' e (inl turned) = ap (λ (x : Token). x.blob) turned.1.1 ∙ blob_here t tok e turned.0 turned.1.0
blob_left t tok tok' e (inr stays') = ap (λ (x : Token). x.blob) stays'.1 ∙ sym (blob_else t tok.blob e stays'.0)

-- the records that sections leave
abbrev kept_in : List Section → List (Option (List ℕ))
kept_in sections = map (λ (s : Section). s.kept) sections

kept_step : (t : ℕ) (m : Machine) (e : Event) (events : List Event) (tok : Token) → slice_get m.tokens t ≡ Some tok → kept_in (sections_of t (after m e) events) ≡ blobs_left t (blob_after t tok.blob e) events → kept_in (sections_of t m (e ∷ events)) ≡ blobs_left t tok.blob (e ∷ events)
kept_step t m e events tok here rest = ⊎_elim
    (λ (written : ends_written t e ≡ true).
    ap kept_in (one_section t m e events tok here written)
    ∙ ap (λ (bs : List (Option (List ℕ))). tok.blob ∷ bs) rest
    ∙ ap (λ (b : Bool). cond b (tok.blob ∷ []) [] ++ blobs_left t (blob_after t tok.blob e) events) (sym written))
    (λ (other : ends_written t e ≡ false).
    ap kept_in (no_section t m e events other)
    ∙ rest
    ∙ ap (λ (b : Bool). cond b (tok.blob ∷ []) [] ++ blobs_left t (blob_after t tok.blob e) events) (sym other))
    (cases_Bool (ends_written t e))

pub last_written : RecordsAreLastWritten
last_written m [] n t tok last run here there =
    let same : last ≡ tok = same_Some last tok (sym there ∙ ap (λ (x : Machine). slice_get x.tokens t) run ∙ here) in
    (ap (λ (x : Token). x.blob) same, refl)
last_written m (e ∷ events) n t tok last run here there =
    let left = token_left m run.0 e t tok here run.1.0 in
    let rest = last_written run.0 events n t left.0 last run.1.1 left.1.0 there in
    let one : left.0.blob ≡ blob_after t tok.blob e = blob_left t tok left.0 e left.1.1 in
    let F : Machine → Type 0 = λ x. kept_in (sections_of t x events) ≡ blobs_left t left.0.blob events in
    let G : Option (List ℕ) → Type 0 = λ blob. kept_in (sections_of t (after m e) events) ≡ blobs_left t blob events in (
      rest.0 ∙ ap (λ (blob : Option (List ℕ)). blob_after_all t blob events) one,
      kept_step t m e events tok here (subst G one (subst F run.1.0.1 rest.1)),
    )

-- a number in a list, after one of them was raised
raised_tally : (xs : List ℕ) (i j more : ℕ) → i < length xs → slice_index (set xs i (slice_index xs i + more)) j ≡ slice_index xs j + cond (i == j) more 0
raised_tally xs i j more low = ⊎_elim
    (λ (same : i ≡ j).
    let F : ℕ → Type 0 = λ k. slice_index (set xs i (slice_index xs i + more)) k ≡ slice_index xs k + cond (i == k) more 0 in
    let all : cond (i == i) more 0 ≡ more = ap (λ (b : Bool). cond b more 0) (eq-eqb i i refl) in
    subst F same (get_or-set_same xs i (slice_index xs i + more) 0 low ∙ ap (λ (x : ℕ). slice_index xs i + x) (sym all)))
    (λ (differ : i ≢ j).
    let none : cond (i == j) more 0 ≡ 0 = ap (λ (b : Bool). cond b more 0) (ne_eqb i j differ) in
    let still : slice_index (set xs i (slice_index xs i + more)) j ≡ slice_index xs j = get_or-set_other xs i j (slice_index xs i + more) 0 (λ e. differ (sym e)) in
    omega arith)
    (cases_eq i j)

-- how an event at a Tally token changes what a processor has added to it
raised_after : (t cpu : ℕ) (m : Machine) (tok : Token) (e : Event) → slice_get m.tokens t ≡ Some tok → place_of e ≡ AtToken t → TokenNeeds tok e → tok.law ≡ Tally → length tok.tallies ≡ 8 → cpu_of e < 8 → tally_of (token_after tok e) cpu ≡ tally_of tok cpu + raise_of t cpu m e
raised_after t cpu m tok (Write by k cell value) here at needs tally eight low =
    let more : ℕ = value - slice_index tok.row cell in
    let old_row : slice_index (option_map_or (λ (x : Token). x.row) (slice_get m.tokens t) []) cell ≡ slice_index tok.row cell = ap (λ (o : Option Token). slice_index (option_map_or (λ (x : Token). x.row) o []) cell) here in
    let raise : raise_of t cpu m (Write by k cell value) ≡ cond (by.0 == cpu) more 0 =
    ap (λ (b : Bool). cond (b && (by.0 == cpu)) (value - slice_index (option_map_or (λ (x : Token). x.row) (slice_get m.tokens t) []) cell) 0) (eq-eqb k.0 t (ap (λ (p : Place). number_of p) at))
    ∙ ap (λ (old : ℕ). cond (by.0 == cpu) (value - old) 0) old_row in
    let changed' : tallies_after tok.law tok.tallies by.0 more ≡ set tok.tallies by.0 (slice_index tok.tallies by.0 + more) = ap (λ (l : Law). tallies_after l tok.tallies by.0 more) tally in
    ap (λ (xs : List ℕ). slice_index xs cpu) changed'
    ∙ raised_tally tok.tallies by.0 cpu more (omega arith)
    ∙ ap (λ (x : ℕ). slice_index tok.tallies cpu + x) (sym raise)
raised_after t cpu m tok (Load by k) here at needs tally eight low = omega arith
raised_after t cpu m tok (Take by k) here at needs tally eight low = omega arith
raised_after t cpu m tok (Share by k) here at needs tally eight low = omega arith
raised_after t cpu m tok (Again by k) here at needs tally eight low = omega arith
raised_after t cpu m tok (Mark by k) here at needs tally eight low = omega arith
raised_after t cpu m tok (GiveOne by k) here at needs tally eight low = omega arith
raised_after t cpu m tok (GiveClean by k) here at needs tally eight low = omega arith
raised_after t cpu m tok (GiveWritten by k section) here at needs tally eight low = omega arith
raised_after t cpu m tok (Read by k cell value) here at needs tally eight low = omega arith
raised_after t cpu m tok (ReadBlob by k blob) here at needs tally eight low = omega arith
raised_after t cpu m tok (WriteBlob by k blob) here at needs tally eight low = omega arith
raised_after t cpu m tok e here at needs tally eight low = absurd needs

-- an event elsewhere raises nothing here
raised_else : (t cpu : ℕ) (m : Machine) (e : Event) → place_of e ≢ AtToken t → raise_of t cpu m e ≡ 0
raised_else t cpu m (Write by k cell value) away =
    ap (λ (b : Bool). cond (b && (by.0 == cpu)) (value - slice_index (option_map_or (λ (x : Token). x.row) (slice_get m.tokens t) []) cell) 0) (ne_eqb k.0 t (λ same. away (ap (λ (j : ℕ). AtToken j) same)))
raised_else t cpu m e away = refl

-- an event keeps the law of a token
law_stays : (tok : Token) (e : Event) → (token_after tok e).law ≡ tok.law
law_stays tok (Load cpu t) = refl
law_stays tok (Take cpu t) = refl
law_stays tok (Share cpu t) = refl
law_stays tok (Again cpu t) = refl
law_stays tok (Mark cpu t) = refl
law_stays tok (GiveOne cpu t) = refl
law_stays tok (GiveClean cpu t) = refl
law_stays tok (GiveWritten cpu t section) = refl
law_stays tok (Read cpu t cell value) = refl
law_stays tok (Write cpu t cell value) = refl
law_stays tok (ReadBlob cpu t blob) = refl
law_stays tok (WriteBlob cpu t blob) = refl
law_stays tok e = refl

raise_law : (m : Machine) (e : Event) (t : ℕ) (tok tok' : Token) → TokenTurns e t tok tok' → tok.law ≡ Tally → tok'.law ≡ Tally
raise_law m e t tok tok' (inl turned) tally = ap (λ (x : Token). x.law) turned.1.1 ∙ law_stays tok e ∙ tally
raise_law m e t tok tok' (inr stays') tally = ap (λ (x : Token). x.law) stays'.1 ∙ tally

raise_step : (m : Machine) (e : Event) (t cpu : ℕ) (tok tok' : Token) → IsSafe m → slice_get m.tokens t ≡ Some tok → Needs m e → TokenTurns e t tok tok' → tok.law ≡ Tally → tally_of tok' cpu ≡ tally_of tok cpu + raise_of t cpu m e
raise_step m e t cpu tok tok' safe here needs (inl turned) tally =
    let few = safe.processors in
    let low = needs.processor in
    ap (λ (x : Token). tally_of x cpu) turned.1.1 ∙ raised_after t cpu m tok e here turned.0 turned.1.0 tally (safe_read m t tok safe here).eight_tallies (omega arith)
raise_step m e t cpu tok tok' safe here needs (inr stays') tally =
    let none = raised_else t cpu m e stays'.0 in
    let same : tally_of tok' cpu ≡ tally_of tok cpu = ap (λ (x : Token). tally_of x cpu) stays'.1 in
    omega arith

pub are_raises : TalliesAreRaises
are_raises m [] n t tok last safe run here there tally cpu =
    let same : last ≡ tok = same_Some last tok (sym there ∙ ap (λ (x : Machine). slice_get x.tokens t) run ∙ here) in
    let one : tally_of last cpu ≡ tally_of tok cpu = ap (λ (x : Token). tally_of x cpu) same in
    omega arith
are_raises m (e ∷ events) n t tok last safe run here there tally cpu =
    let left = token_left m run.0 e t tok here run.1.0 in
    let rest = are_raises run.0 events n t left.0 last (IsSafe_left m run.0 e safe run.1.0.0 run.1.0.1) run.1.1 left.1.0 there (raise_law m e t tok left.0 left.1.1 tally) cpu in
    let one = raise_step m e t cpu tok left.0 safe here run.1.0.0 left.1.1 tally in
    let next : raised_by t cpu run.0 events ≡ raised_by t cpu (after m e) events = ap (λ (x : Machine). raised_by t cpu x events) run.1.0.1 in
    omega arith

-- an event at a message raises by 1 how often that was done with it, and leaves the rest
record HasGrown (i : ℕ) (msg msg' : Message) (e : Event) : Type 0 where
  sent : msg'.sends ≡ msg.sends + one_if (sends_message i e)
  taken : msg'.takes ≡ msg.takes + one_if (takes_message i e)
  dropped : msg'.drops ≡ msg.drops + one_if (drops_message i e)
  replied : msg'.replies ≡ msg.replies + one_if (replies_to_message i e)
  reaped : msg'.reaps ≡ msg.reaps + one_if (reaps_message i e)

one_more : (i m n : ℕ) → AtMessage m ≡ AtMessage i → n + 1 ≡ n + one_if (m == i)
one_more i m n at = ap (λ (b : Bool). n + one_if b) (sym (is_at i m at))

none_more : (n : ℕ) → n ≡ n + 0
none_more n = omega arith

counts_grow : (i cpus : ℕ) (msg : Message) (e : Event) → place_of e ≡ AtMessage i → MessageNeeds cpus msg e → HasGrown i msg (message_after msg e) e
counts_grow i cpus msg (Send cpu m to round) at needs = record { sent = one_more i m.0 msg.sends at; taken = none_more msg.takes; dropped = none_more msg.drops; replied = none_more msg.replies; reaped = none_more msg.reaps }
counts_grow i cpus msg (TakeMsg cpu m round) at needs = record { sent = none_more msg.sends; taken = one_more i m.0 msg.takes at; dropped = none_more msg.drops; replied = none_more msg.replies; reaped = none_more msg.reaps }
counts_grow i cpus msg (DropMsg cpu m) at needs = record { sent = none_more msg.sends; taken = none_more msg.takes; dropped = one_more i m.0 msg.drops at; replied = none_more msg.replies; reaped = none_more msg.reaps }
counts_grow i cpus msg (Reply cpu m) at needs = record { sent = none_more msg.sends; taken = none_more msg.takes; dropped = none_more msg.drops; replied = one_more i m.0 msg.replies at; reaped = none_more msg.reaps }
counts_grow i cpus msg (Reap cpu m) at needs = record { sent = none_more msg.sends; taken = none_more msg.takes; dropped = none_more msg.drops; replied = none_more msg.replies; reaped = one_more i m.0 msg.reaps at }
counts_grow i cpus msg (Abort cpu m) at needs = record { sent = none_more msg.sends; taken = none_more msg.takes; dropped = none_more msg.drops; replied = none_more msg.replies; reaped = none_more msg.reaps }
counts_grow i cpus msg e at needs = absurd needs

-- a number of a message that each event of one kind raises by 1, and no other event does
module _ (i : ℕ) (f : Message → ℕ) (p : Event → Bool) (grows : (cpus : ℕ) (msg : Message) (e : Event) → place_of e ≡ AtMessage i → MessageNeeds cpus msg e → f (message_after msg e) ≡ f msg + one_if (p e)) (at_p : (e : Event) → p e ≡ true → place_of e ≡ AtMessage i) where
  grown_by : (m n : Machine) (e : Event) (msg : Message) → slice_get m.messages i ≡ Some msg → Happens m e n → (msg' : Message) × ((slice_get n.messages i ≡ Some msg') × (f msg' ≡ f msg + one_if (p e)))
  grown_by m n e msg there happens =
      let left = message_left m n e i msg there happens in (
        left.0,
        (
          left.1.0,
          ⊎_elim
              (λ turned. ap f turned.1.1 ∙ grows m.cpus msg e turned.0 turned.1.0)
              (λ stays'.
              let not_p : p e ≡ false = ⊎_elim (λ yes'. absurd (stays'.0 (at_p e yes'))) (λ no'. no') (cases_Bool (p e)) in
              let zero' : one_if (p e) ≡ 0 = ap (λ (b : Bool). one_if b) not_p in
              let same : f left.0 ≡ f msg = ap f stays'.1 in
              omega arith)
              left.1.1,
        ),
      )

  grows_along : (events : List Event) (m n : Machine) (msg last : Message) → slice_get m.messages i ≡ Some msg → slice_get n.messages i ≡ Some last → Run m events n → f last ≡ f msg + count_by p events
  grows_along [] m n msg last here there run =
      let same : last ≡ msg = same_Some last msg (sym there ∙ ap (λ (x : Machine). slice_get x.messages i) run ∙ here) in
      let one : f last ≡ f msg = ap f same in
      omega arith
  grows_along (e ∷ events) m n msg last here there run =
      let one = grown_by m run.0 e msg here run.1.0 in
      let step = one.1.1 in
      let rest = grows_along events run.0 n one.0 last one.1.0 there run.1.1 in
      let both = sum_by-cons (λ x. one_if (p x)) e events in
      omega arith

pub are_events : CountsAreEvents
are_events m events n i msg last run here there = (
  grows_along i (λ x. x.sends) (sends_message i) (λ cpus msg e at needs. (counts_grow i cpus msg e at needs).sent) (at_sends i) events m n msg last here there run,
  grows_along i (λ x. x.takes) (takes_message i) (λ cpus msg e at needs. (counts_grow i cpus msg e at needs).taken) (at_takes i) events m n msg last here there run,
  grows_along i (λ x. x.drops) (drops_message i) (λ cpus msg e at needs. (counts_grow i cpus msg e at needs).dropped) (at_drops i) events m n msg last here there run,
  grows_along i (λ x. x.replies) (replies_to_message i) (λ cpus msg e at needs. (counts_grow i cpus msg e at needs).replied) (at_replies i) events m n msg last here there run,
  grows_along i (λ x. x.reaps) (reaps_message i) (λ cpus msg e at needs. (counts_grow i cpus msg e at needs).reaped) (at_reaps i) events m n msg last here there run,
)
