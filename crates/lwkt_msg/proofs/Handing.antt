use Rattle.std.proofs.Common.{◌≡◌, inl, ⊎_elim, ℕ, suc, append-nil, ◌++◌, ◌+◌, ◌<◌, ◌≤◌, true, false, List, [], ◌∷◌, length, refl, ap, sym, ◌∙◌, subst, arith, eq-eqb, ne_eqb}
use mathlib.Core.Logic.{dite}
use mathlib.Core.Option.{some-ne-none}
use native.Mathlib.Decide.{ℕ_discrete}
use Rattle.atomic_table.specs.Seated.{TableId}
use Rattle.atomic_table.specs.Table.{Me}
use Rattle.atomic_table.specs.declared.shared.Seat.{Seat}
use Rattle.lwkt_base.specs.declared.names.CpuId.{CpuId}
use Rattle.lwkt_base.specs.declared.opening_specs.MsgSpec.{MsgSpec}
use Rattle.lwkt_base.specs.declared.records.Rec.{Rec}
use Rattle.lwkt_table.specs.declared.seats.Deed.{Deed}
use Rattle.lwkt_table.specs.Seating.{next_seat}
use Rattle.lwkt_core.specs.Opening.{AreWithin}
use Rattle.lwkt_msg.specs.declared.views.MessageEntry.{MessageEntry}
use Rattle.lwkt_msg.specs.declared.views.View.{View}
use Rattle.lwkt_base.specs.MessageWord.{message_word}
use Rattle.lwkt_core.specs.declared.events.Event.{Event}
use Rattle.lwkt_table.specs.declared.seats.Operation.TheVariants.{Load}
use Rattle.lwkt_table.specs.History.{AreOthers, events_by, steps_by}
use Rattle.lwkt_table.proofs.HistoryLemmas.{part_by-noted}
use Rattle.lwkt_msg.specs.Deeds.{word_step, hands_out}
use Rattle.lwkt_msg.specs.Steps.{rest_word}
use Rattle.lwkt_msg.specs.Views.{new_seat, slot_at, spec_at, seat_cpu, who, first_entry, at, noted, handed}
use Rattle.lwkt_msg.specs.Hands.{IsOwn, IsInHand, AreHands}
use Rattle.lwkt_msg.specs.Desks.{opened_entry, opening_steps, IsHanding, IsClerk}
use Rattle.lwkt_msg.proofs.Knowing.{at-here, at-else}
use Rattle.lwkt_msg.proofs.Carrying.{hands_taken}
use Rattle.lwkt_msg.proofs.Splitting.{at-none}

opening_none : (cpu : ℕ) (specs : List MsgSpec) → opening_steps cpu specs 0 ≡ []
unfolding opening_steps
opening_none cpu specs = refl

one_more : (m : ℕ) → m + 1 ≡ suc m
one_more m = omega arith

-- one message more at the opening: the seat's own, or another processor's
opening_own : (cpu : CpuId) (m : ℕ) (specs : List MsgSpec) → (spec_at specs m).origin.cpu.0 ≡ cpu.0 → opening_steps cpu.0 specs (m + 1) ≡ opening_steps cpu.0 specs m ++ (word_step m Load (message_word (rest_word cpu (spec_at specs m).round)) ∷ [])
unfolding opening_steps
opening_own cpu m specs own = ap (opening_steps cpu.0 specs) (one_more m) ∙ here
  where
    here : opening_steps cpu.0 specs (suc m) ≡ opening_steps cpu.0 specs m ++ (word_step m Load (message_word (rest_word cpu (spec_at specs m).round)) ∷ [])
    here = rw (eq-eqb (spec_at specs m).origin.cpu.0 cpu.0 own) refl

opening_other : (cpu : CpuId) (m : ℕ) (specs : List MsgSpec) → ((spec_at specs m).origin.cpu.0 ≡ cpu.0 → ⊥) → opening_steps cpu.0 specs (m + 1) ≡ opening_steps cpu.0 specs m
unfolding opening_steps
opening_other cpu m specs apart = ap (opening_steps cpu.0 specs) (one_more m) ∙ (here ∙ append-nil (opening_steps cpu.0 specs m))
  where
    here : opening_steps cpu.0 specs (suc m) ≡ opening_steps cpu.0 specs m ++ []
    here = rw (ne_eqb (spec_at specs m).origin.cpu.0 cpu.0 apart) refl

-- the next message is the seat's own, and its record is handed out
pub handing_own : (place place' : Seat Rec View) (cpu : CpuId) (m : ℕ) (between : List Deed) (found : ℕ) (rec : Rec) → IsHanding cpu m place → m < length place.me.0.specs → IsOwn place.me.0 cpu.0 m → place'.table_id ≡ place.table_id
    → AreOthers (who place.me.0).0 between → place'.me.0 ≡ noted between place.me.0 m (handed (at place.me.0 m)) (hands_out (who place.me.0) m found rec) → place'.me.1 ≡ (slot_at m, rec) ∷ place.me.1
    → found ≡ message_word (rest_word (who place.me.0) (at place.me.0 m).round) → IsHanding cpu (m + 1) place'
handing_own place place' cpu m between found rec h within own same others view_is hands_are found_is =
    let v : View = place.me.0 in
    let did : Deed = hands_out (who v) m found rec in
    let who_is : who v ≡ cpu = ap seat_cpu h.kind in
    let others_are : AreOthers cpu.0 between = let O : CpuId → Type 0 = λ c. AreOthers c.0 between in subst O who_is others in
    let did_own : did.cpu.0 ≡ cpu.0 = ap (λ (c : CpuId). c.0) who_is in
    let rest_is : found ≡ message_word (rest_word cpu (spec_at v.specs m).round) = found_is ∙ (λ i. message_word (rest_word (who_is i) (h.todo m (omega arith) i).round)) in
    let e : MessageEntry = at v m in
    let first : e ≡ first_entry (spec_at v.specs m) = h.todo m (omega arith) in
    let words_same = ap (λ (z : TableId). z.words) same in
    let slots_same = ap (λ (z : TableId). z.slots) same in
    let specs_same = ap (λ (w : View). length w.specs) view_is in
    let cpus_same = ap (λ (w : View). w.cpus) view_is in
    let a = h.words in
    let b = h.slots in
    let c = h.few in
    let d = h.cpus in
    let t = h.there in
    let not_taken : e.taken ≡ false = ap (λ (x : MessageEntry). x.taken) first in
    let not_had : e.had ≡ false = ap (λ (x : MessageEntry). x.had) first in
    let home : e.away ≡ false = ap (λ (x : MessageEntry). x.away) first in
    let not_yet : IsInHand v cpu.0 m → ⊥
    = λ hand. ⊎_elim (λ (is : IsOwn v cpu.0 m × (e.had ≡ true) × (e.away ≡ false)). let f : false ≡ true = sym not_had ∙ is.1 in cc) (λ (is : e.taken ≡ true). let f : false ≡ true = sym not_taken ∙ is in cc) hand in
    let now = hands_taken v m (handed e) between did cpu.0 rec place.me.1 within h.hands not_yet (inl (own, refl, home)) (λ is. let f : false ≡ true = sym not_taken ∙ is in absurd cc) in
    let w : View = noted between v m (handed e) did in
    let F : Me Rec View → Type 0 = λ x. AreHands x.0 cpu.0 x.1 in
    let D : View → Type 0 = λ x. (k : ℕ) → k < m + 1 → at x k ≡ opened_entry cpu.0 (spec_at x.specs k) in
    let T : View → Type 0 = λ x. (k : ℕ) → m + 1 ≤ k → at x k ≡ first_entry (spec_at x.specs k) in
    record {
      kind = ap (λ (x : View). x.kind) view_is ∙ h.kind;
      words = omega arith;
      slots = omega arith;
      few = omega arith;
      cpus = omega arith;
      there = omega arith;
      within = subst (λ (x : View). AreWithin x.cpus [] x.specs) (sym view_is) h.within;
      hands = subst F (λ i. (sym view_is i, sym hands_are i)) now;
      done = subst D (sym view_is) (λ k below. dite (ℕ_discrete k m)
          (λ is. let G : ℕ → Type 0 = λ n. at w n ≡ opened_entry cpu.0 (spec_at v.specs n) in
          subst G (sym is) (at-here v m (handed e) between did ∙ (ap handed first ∙ opened (spec_at v.specs m) own)))
          (λ apart. at-else v m (handed e) between did k apart ∙ h.done k (omega arith)));
      todo = subst T (sym view_is) (λ k above. at-else v m (handed e) between did k (λ is. absurd (omega arith)) ∙ h.todo k (omega arith));
      no_events = ap (λ (x : View). events_by cpu.0 x.past) view_is ∙ (part_by-noted cpu.0 (λ d. d.events) v.past between did others_are did_own ∙ ap (λ (es : List Event). es ++ []) h.no_events);
      steps = subst S (sym view_is) (part_by-noted cpu.0 (λ d. d.steps) v.past between did others_are did_own
          ∙ ((λ i. h.steps i ++ (word_step m Load (rest_is i) ∷ [])) ∙ sym (opening_own cpu m v.specs own)));
    }
  where
    S : View → Type 0
    S x = steps_by cpu.0 x.past ≡ opening_steps cpu.0 x.specs (m + 1)

    opened : (spec : MsgSpec) → spec.origin.cpu.0 ≡ cpu.0 → handed (first_entry spec) ≡ opened_entry cpu.0 spec
    opened spec is = rw (eq-eqb spec.origin.cpu.0 cpu.0 is) refl

-- the next message is another processor's
pub handing_other : (place : Seat Rec View) (cpu : CpuId) (m : ℕ) → IsHanding cpu m place → (IsOwn place.me.0 cpu.0 m → ⊥) → IsHanding cpu (m + 1) place
handing_other place cpu m h other = record {
  kind = h.kind;
  words = h.words;
  slots = h.slots;
  few = h.few;
  cpus = h.cpus;
  there = h.there;
  within = h.within;
  hands = h.hands;
  done = λ k below. dite (ℕ_discrete k m)
      (λ is. let G : ℕ → Type 0 = λ n. at place.me.0 n ≡ opened_entry cpu.0 (spec_at place.me.0.specs n) in subst G (sym is) (h.todo m (omega arith) ∙ blank (spec_at place.me.0.specs m) other))
      (λ apart. h.done k (omega arith));
  todo = λ k above. h.todo k (omega arith);
  no_events = h.no_events;
  steps = h.steps ∙ sym (opening_other cpu m place.me.0.specs other);
}
  where
    blank : (spec : MsgSpec) → (spec.origin.cpu.0 ≡ cpu.0 → ⊥) → first_entry spec ≡ opened_entry cpu.0 spec
    blank spec apart = rw (ne_eqb spec.origin.cpu.0 cpu.0 apart) refl

-- a seat that was just made has no record in hand
pub handing_fresh : (clerk place : Seat Rec View) (cpu : CpuId) (cpus : ℕ) (specs : List MsgSpec) → IsClerk cpu.0 cpus specs clerk → cpu.0 < cpus → place.table_id ≡ clerk.table_id → place.me ≡ (new_seat clerk.me.0, []) → IsHanding cpu 0 place
handing_fresh clerk place cpu cpus specs k room same me_is =
    let words_same = ap (λ (z : TableId). z.words) same in
    let slots_same = ap (λ (z : TableId). z.slots) same in
    let specs_is = ap (λ (x : Me Rec View). length x.0.specs) me_is in
    let long = ap (λ (xs : List MsgSpec). length xs) k.specs_is in
    let cpus_is = ap (λ (x : Me Rec View). x.0.cpus) me_is in
    let a = k.words in
    let b = k.slots in
    let c = k.few in
    let d = k.few_cpus in
    let f = k.cpus_is in
    let v : View = new_seat clerk.me.0 in
    let F : Me Rec View → Type 0 = λ x. AreHands x.0 cpu.0 x.1 in
    let T : View → Type 0 = λ x. (m : ℕ) → 0 ≤ m → at x m ≡ first_entry (spec_at x.specs m) in
    let blank : (m : ℕ) → at v m ≡ first_entry (spec_at v.specs m) = λ m. at-none v m k.none_noted in
    record {
      kind = ap (λ (x : Me Rec View). x.0.kind) me_is ∙ ap next_seat k.kind;
      words = omega arith;
      slots = omega arith;
      few = omega arith;
      cpus = omega arith;
      there = omega arith;
      within = subst (λ (x : Me Rec View). AreWithin x.0.cpus [] x.0.specs) (sym me_is) (subst (λ (n : ℕ). AreWithin n [] clerk.me.0.specs) (sym k.cpus_is) (subst (λ (xs : List MsgSpec). AreWithin cpus [] xs) (sym k.specs_is) k.within));
      hands = subst F (sym me_is) record {
        apart = record { one = λ i j slot rec other x y. absurd (some-ne-none (slot, rec) (sym x)) };
        all = λ slot rec has. absurd (some-ne-none (slot, rec) (sym has.1));
        own = λ m within own had home. absurd (let e : false ≡ true = ap (λ (x : MessageEntry). x.had) (sym (blank m)) ∙ had in cc);
        taken = λ m within taken. absurd (let e : false ≡ true = ap (λ (x : MessageEntry). x.taken) (sym (blank m)) ∙ taken in cc);
      };
      done = λ m below. absurd (omega arith);
      todo = subst T (ap (λ (x : Me Rec View). x.0) (sym me_is)) (λ m _. blank m);
      no_events = ap (λ (x : Me Rec View). events_by cpu.0 x.0.past) me_is;
      steps = ap (λ (x : Me Rec View). steps_by cpu.0 x.0.past) me_is ∙ sym (opening_none cpu.0 place.me.0.specs);
    }
