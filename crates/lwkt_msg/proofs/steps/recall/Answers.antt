use Rattle.std.proofs.Common.{subst, ◌≡◌, inl, ⊎_elim, ℕ, ◌<◌, true, false, eqb, refl, ap, sym, ◌∙◌}
use Rattle.atomic_table.specs.Table.{Me, step, Allows}
use mathlib.Core.Option.{none}
use prog.Atomic.{either}
use Rattle.lwkt_base.specs.declared.records.Rec.{Rec}
use Rattle.lwkt_base.specs.MessageWord.{message_word}
use Rattle.lwkt_msg.specs.declared.views.View.{View}
use Rattle.lwkt_msg.specs.Views.{slot_at, at, who, dropped}
use Rattle.lwkt_msg.specs.Deeds.{drops, loses}
use Rattle.lwkt_msg.specs.Hands.{IsOwn, IsInHand}
use Rattle.lwkt_msg.specs.Steps.{rest_word}
use Rattle.lwkt_msg.specs.Ledger.{Ledger}
use Rattle.lwkt_msg.specs.Plays.{HasRecalled, HasMissed, drops_it}
use Rattle.lwkt_msg.proofs.Allowing.{first_same}
use Rattle.lwkt_msg.proofs.Revoking.{drop_allowed}
use Rattle.lwkt_msg.proofs.Sitting.{sat_taken, sat_same, word_inside}
use Rattle.lwkt_msg.proofs.steps.recall.Goals as goal
use Rattle.lwkt_msg.proofs.steps.recall.Goals.{After-compare_exchange-seen}

pub compare_exchange-seen-requires : goal.compare_exchange-seen-requires
compare_exchange-seen-requires c =
    let sat = c.requires.sat in
    let z = c.args.top.now.table_id in
    let w = c.requires.word in
    let own = c.requires.own in
    let new : ℕ = c.make-at_rest.result in
    let new_is : new ≡ message_word (rest_word c.args.word.origin (at c.args.place.now.me.0 c.args.m).round) = c.make-at_rest.ensures ∙ ap message_word (c.requires.home ∙ ap (λ (n : ℕ). rest_word c.args.word.origin n) own.4) in
    let F : ℕ → Type 0 = λ i. (i < z.words) × Allows (Ledger c.args.top.now.key) z.slots c.args.place.now.id c.args.place.now.me i (λ n. either (eqb n c.args.found) new n) (drops_it (step z.slots i c.args.found new none) c.args.place.now.me) in
    let allowed = subst F (sym c.word_of_message.ensures) (word_inside c.args.place.now z c.args.word.origin c.args.m sat c.requires.table c.requires.exists, drop_allowed c.args.top.now.key c.args.place.now.id c.args.place.now.me c.args.word.origin c.args.m sat.kind c.requires.exists z.slots c.args.found new c.args.word w.0 new_is w.1 w.2 own.0 own.1) in
    (c.requires.table, allowed.0, allowed.1)

pub front-requires-clause-held : goal.front-requires-clause-held
front-requires-clause-held c =
    let won = (c.compare_exchange-seen.ensures.2 c.args.m c.word_of_message.ensures c.args.word c.requires.word.1 c.requires.word.0).won c.if-seen-found.true in (won.0, (c.args.place.now.me.1, won.2))

pub returns-then-seen-found-clause-sat : goal.returns-then-seen-found-clause-sat
returns-then-seen-found-clause-sat c =
    let m : ℕ = c.args.m in
    let v : View = c.args.place.now.me.0 in
    let won = (c.compare_exchange-seen.ensures.2 m c.word_of_message.ensures c.args.word c.requires.word.1 c.requires.word.0).won c.if-seen-found.true in
    let same = c.front.ensures.seat in
    let own = c.requires.own in
    let not_yet : IsInHand v c.args.word.origin.0 m → ⊥
    = λ h. ⊎_elim (λ (home : IsOwn v c.args.word.origin.0 m × ((at v m).had ≡ true) × ((at v m).away ≡ false)). let e : true ≡ false = sym own.2 ∙ home.2 in cc)
    (λ (taken : (at v m).taken ≡ true). let e : false ≡ true = sym own.3 ∙ taken in cc) h in
    sat_taken c.args.place.now c.front.new.place c.args.word.origin m (dropped (at v m)) won.1.between (drops (who v) m (message_word c.args.word) c.make-at_rest.result won.0) won.0 c.requires.sat
    (same.0.0 ∙ c.compare_exchange-seen.ensures.0) (ap (λ (x : Me Rec View). x.0) same.1 ∙ won.1.view_is) c.requires.exists not_yet (inl (own.0, own.1, refl)) (λ h. let e : false ≡ true = sym own.3 ∙ h in absurd cc)
    (ap (λ (x : Me Rec View). x.1) same.1 ∙ won.2) refl

pub returns-then-seen-found-clause-view : goal.returns-then-seen-found-clause-view
returns-then-seen-found-clause-view c =
    let m : ℕ = c.args.m in
    let v : View = c.args.place.now.me.0 in
    let won = (c.compare_exchange-seen.ensures.2 m c.word_of_message.ensures c.args.word c.requires.word.1 c.requires.word.0).won c.if-seen-found.true in
    let same = c.front.ensures.seat in
    let value = c.front.ensures.value in
    let is : won.0 ≡ c.front.result = ap (λ (h : ℕ × Rec). h.1) (first_same (slot_at m, won.0) (slot_at m, c.front.result) c.args.place.now.me.1 value.0 (sym won.2 ∙ value.1)) in
    let F : Rec → Type 0 = λ r. HasRecalled m c.args.word c.make-at_rest.result v r c.compare_exchange-seen.new.seat.me.0 in
    let G : View → Type 0 = λ x. HasRecalled m c.args.word c.make-at_rest.result v c.front.result x in
    let H : ℕ → Type 0 = λ n. HasRecalled m c.args.word n v c.front.result c.front.new.place.me.0 in
    subst H c.make-at_rest.ensures (subst G (ap (λ (x : Me Rec View). x.0) (sym same.1)) (subst F is won.1))

pub returns-else-seen-found-clause-sat : goal.returns-else-seen-found-clause-sat
returns-else-seen-found-clause-sat c =
    let lost = (c.compare_exchange-seen.ensures.2 c.args.m c.word_of_message.ensures c.args.word c.requires.word.1 c.requires.word.0).lost c.if-seen-found.false in
    sat_same c.args.place.now c.compare_exchange-seen.new.seat c.args.word.origin c.args.m lost.0.view_is.0 (loses (who c.args.place.now.me.0) c.args.m c.args.found c.make-at_rest.result (message_word lost.0.other)) c.requires.sat c.compare_exchange-seen.ensures.0 lost.0.view_is.1.1 lost.1

pub returns-else-seen-found-clause-view : goal.returns-else-seen-found-clause-view
returns-else-seen-found-clause-view c =
    let lost = (c.compare_exchange-seen.ensures.2 c.args.m c.word_of_message.ensures c.args.word c.requires.word.1 c.requires.word.0).lost c.if-seen-found.false in
    let F : ℕ → Type 0 = λ n. HasMissed c.args.m n (message_word c.args.home) c.args.place.now.me.0 c.compare_exchange-seen.new.seat.me.0 in
    let G : ℕ → Type 0 = λ n. HasMissed c.args.m c.args.found n c.args.place.now.me.0 c.compare_exchange-seen.new.seat.me.0 in
    subst F c.requires.word.0 (subst G c.make-at_rest.ensures lost.0)
