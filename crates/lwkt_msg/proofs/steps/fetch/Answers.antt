use Rattle.std.proofs.Common.{◌≡◌, inl, ⊎_elim, ℕ, ◌<◌, true, false, refl, ap, sym, ◌∙◌, subst}
use mathlib.Core.Option.{none}
use Rattle.atomic_table.specs.Table.{Me, step, Allows}
use Rattle.lwkt_base.specs.declared.records.Rec.{Rec}
use Rattle.lwkt_base.specs.MessageWord.{message_word}
use Rattle.lwkt_msg.specs.declared.views.View.{View}
use Rattle.lwkt_msg.specs.Views.{word_at, slot_at, at, who, reaped}
use Rattle.lwkt_msg.specs.Deeds as deed
use Rattle.lwkt_msg.specs.Ledger.{Ledger}
use Rattle.lwkt_msg.specs.Hands.{IsOwn, IsInHand}
use Rattle.lwkt_msg.specs.Steps.{rest_word}
use Rattle.lwkt_msg.specs.Plays.{HasFetched, reaps_it}
use Rattle.lwkt_msg.proofs.Allowing.{reap_allowed, first_same}
use Rattle.lwkt_msg.proofs.Sitting.{sat_taken, word_inside}
use Rattle.lwkt_msg.proofs.steps.fetch.Goals as goal

pub store-requires : goal.store-requires
store-requires c =
    let me : Me Rec View = c.args.place.now.me in
    let m : ℕ = c.args.m in
    let sat = c.requires.sat in
    let z = c.args.top.now.table_id in
    let i = c.args.place.now.id in
    let n_is : c.make.result ≡ message_word (rest_word c.args.word.origin (at me.0 m).round) = c.make.ensures ∙ ap message_word c.requires.word in
    let G : ℕ → Type 0 = λ n. Allows (Ledger c.args.top.now.key) z.slots i me (word_at m) (λ _. n) (λ _. reaps_it (step z.slots (word_at m) n 0 none) me n) in
    let back = c.requires.back in
    let F : ℕ → Type 0 = λ j. (j < z.words) × Allows (Ledger c.args.top.now.key) z.slots i me j (λ _. c.make.result) (λ _. reaps_it (step z.slots j c.make.result 0 none) me c.make.result) in
    let allowed = subst F (sym c.word_of_message.ensures) (word_inside c.args.place.now z c.args.word.origin m sat c.requires.table c.requires.exists, subst G (sym n_is) (reap_allowed c.args.top.now.key i me c.args.word.origin m sat.kind c.requires.exists z.slots back.0 back.1 back.2)) in
    (c.requires.table, allowed.0, allowed.1)

pub front-requires-clause-held : goal.front-requires-clause-held
front-requires-clause-held c = let got = c.store.ensures.2 c.args.m c.word_of_message.ensures in (got.0, (c.args.place.now.me.1, got.2))

pub returns-clause-sat : goal.returns-clause-sat
returns-clause-sat c =
    let m : ℕ = c.args.m in
    let got = c.store.ensures.2 m c.word_of_message.ensures in
    let same = c.front.ensures.seat in
    let back = c.requires.back in
    let not_yet : IsInHand c.args.place.now.me.0 c.args.word.origin.0 m → ⊥
    = λ h. ⊎_elim (λ (own : IsOwn c.args.place.now.me.0 c.args.word.origin.0 m × ((at c.args.place.now.me.0 m).had ≡ true) × ((at c.args.place.now.me.0 m).away ≡ false)). let e : true ≡ false = sym back.3 ∙ own.2 in cc)
    (λ (taken : (at c.args.place.now.me.0 m).taken ≡ true). let e : false ≡ true = sym back.4 ∙ taken in cc) h in
    sat_taken c.args.place.now c.front.new.place c.args.word.origin m (reaped (at c.args.place.now.me.0 m)) got.1.between (deed.reaps (who c.args.place.now.me.0) m c.make.result got.0) got.0 c.requires.sat
    (same.0.0 ∙ c.store.ensures.0) (ap (λ (x : Me Rec View). x.0) same.1 ∙ got.1.view_is) c.requires.exists not_yet (inl (back.0, back.1, refl)) (λ h. let e : false ≡ true = sym back.4 ∙ h in absurd cc)
    (ap (λ (x : Me Rec View). x.1) same.1 ∙ got.2) refl

pub returns-clause-view : goal.returns-clause-view
returns-clause-view c =
    let m : ℕ = c.args.m in
    let v : View = c.args.place.now.me.0 in
    let got = c.store.ensures.2 m c.word_of_message.ensures in
    let value = c.front.ensures.value in
    let is : got.0 ≡ c.front.result = ap (λ (h : ℕ × Rec). h.1) (first_same (slot_at m, got.0) (slot_at m, c.front.result) c.args.place.now.me.1 value.0 (sym got.2 ∙ value.1)) in
    let F : Rec → Type 0 = λ r. HasFetched m c.make.result v r c.store.new.seat.me.0 in
    let G : View → Type 0 = λ x. HasFetched m c.make.result v c.front.result x in
    let H : ℕ → Type 0 = λ n. HasFetched m n v c.front.result c.front.new.place.me.0 in
    subst H c.make.ensures (subst G (ap (λ (x : Me Rec View). x.0) (sym c.front.ensures.seat.1)) (subst F is got.1))
