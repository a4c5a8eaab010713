use Rattle.std.proofs.Common.{subst, ◌≡◌, inr, ℕ, ◌+◌, ◌<◌, eqb, refl, ap, sym, ◌∙◌}
use Rattle.atomic_table.specs.Table.{Me, step, Allows}
use mathlib.Core.Option.{none}
use prog.Atomic.{either}
use Rattle.lwkt_base.specs.MessageWord.{message_word}
use Rattle.lwkt_msg.specs.Ledger.{Ledger}
use Rattle.lwkt_base.specs.declared.records.Rec.{Rec}
use Rattle.lwkt_msg.specs.declared.views.View.{View}
use Rattle.lwkt_msg.specs.Views.{slot_at, at, who, took}
use Rattle.lwkt_msg.specs.Deeds.{takes, loses}
use Rattle.lwkt_msg.specs.Plays.{HasWon, takes_it}
use Rattle.lwkt_msg.proofs.Allowing.{take_allowed, first_same}
use Rattle.lwkt_msg.proofs.Sitting.{sat_taken, sat_same, word_inside}
use Rattle.lwkt_msg.proofs.steps.win.Goals as goal

pub compare_exchange-seen-requires : goal.compare_exchange-seen-requires
compare_exchange-seen-requires c =
    let sat = c.requires.sat in
    let z = c.args.top.now.table_id in
    let w = c.requires.word in
    let F : ℕ → Type 0 = λ i. (i < z.words) × Allows (Ledger c.args.top.now.key) z.slots c.args.place.now.id c.args.place.now.me i (λ n. either (eqb n c.args.found) (c.args.found + 1) n) (takes_it (step z.slots i c.args.found (c.args.found + 1) none) c.args.place.now.me) in
    let allowed = subst F (sym c.word_of_message.ensures) (word_inside c.args.place.now z c.args.word.target c.args.m sat c.requires.table c.requires.exists, take_allowed c.args.top.now.key c.args.place.now.id c.args.place.now.me c.args.word.target c.args.m sat.kind c.requires.exists z.slots c.args.found (c.args.found + 1) c.args.word w.0 (ap (λ (n : ℕ). n + 1) w.0) w.1 w.2 refl) in
    (c.requires.table, allowed.0, allowed.1)

pub front-requires-clause-held : goal.front-requires-clause-held
front-requires-clause-held c =
    let won = (c.compare_exchange-seen.ensures.2 c.args.m c.word_of_message.ensures c.args.word c.requires.word.1 c.requires.word.0).won c.if-seen-found.true in (won.0, (c.args.place.now.me.1, won.2))

pub returns-then-seen-found-clause-sat : goal.returns-then-seen-found-clause-sat
returns-then-seen-found-clause-sat c =
    let m : ℕ = c.args.m in
    let won = (c.compare_exchange-seen.ensures.2 m c.word_of_message.ensures c.args.word c.requires.word.1 c.requires.word.0).won c.if-seen-found.true in
    let same = c.front.ensures.seat in
    sat_taken c.args.place.now c.front.new.place c.args.word.target m (took won.0 (at c.args.place.now.me.0 m)) won.1.between (takes (who c.args.place.now.me.0) m c.args.word.round (message_word c.args.word) won.0) won.0 c.requires.sat
    (same.0.0 ∙ c.compare_exchange-seen.ensures.0) (ap (λ (x : Me Rec View). x.0) same.1 ∙ won.1.view_is) c.requires.exists c.requires.new (inr refl) (λ _. refl)
    (ap (λ (x : Me Rec View). x.1) same.1 ∙ won.2) refl

pub returns-then-seen-found-clause-view : goal.returns-then-seen-found-clause-view
returns-then-seen-found-clause-view c =
    let m : ℕ = c.args.m in
    let won = (c.compare_exchange-seen.ensures.2 m c.word_of_message.ensures c.args.word c.requires.word.1 c.requires.word.0).won c.if-seen-found.true in
    let same = c.front.ensures.seat in
    let value = c.front.ensures.value in
    let is : won.0 ≡ c.front.result = ap (λ (h : ℕ × Rec). h.1) (first_same (slot_at m, won.0) (slot_at m, c.front.result) c.args.place.now.me.1 value.0 (sym won.2 ∙ value.1)) in
    let F : Rec → Type 0 = λ r. HasWon m c.args.word c.args.place.now.me.0 r c.compare_exchange-seen.new.seat.me.0 in
    let G : View → Type 0 = λ x. HasWon m c.args.word c.args.place.now.me.0 c.front.result x in
    subst G (ap (λ (x : Me Rec View). x.0) (sym same.1)) (subst F is won.1)

pub returns-else-seen-found-clause-sat : goal.returns-else-seen-found-clause-sat
returns-else-seen-found-clause-sat c =
    let lost = (c.compare_exchange-seen.ensures.2 c.args.m c.word_of_message.ensures c.args.word c.requires.word.1 c.requires.word.0).lost c.if-seen-found.false in
    sat_same c.args.place.now c.compare_exchange-seen.new.seat c.args.word.target c.args.m lost.0.0 (loses (who c.args.place.now.me.0) c.args.m c.args.found (c.args.found + 1) c.compare_exchange-seen.result) c.requires.sat c.compare_exchange-seen.ensures.0 lost.0.1.1 lost.1

pub returns-else-seen-found-clause-view : goal.returns-else-seen-found-clause-view
returns-else-seen-found-clause-view c =
    let lost = (c.compare_exchange-seen.ensures.2 c.args.m c.word_of_message.ensures c.args.word c.requires.word.1 c.requires.word.0).lost c.if-seen-found.false in
    (c.compare_exchange-seen.result, c.if-seen-found.false, lost.0)
