use Rattle.std.proofs.Common.{◌≡◌, ℕ, ◌+◌, ◌<◌, ◌∷◌, refl, ap, sym, ◌∙◌, subst, arith}
use mathlib.Core.Option.{none}
use Rattle.atomic_table.specs.Table.{Me, step, Allows}
use Rattle.lwkt_base.specs.declared.message_words.MsgWord.{MsgWord}
use Rattle.lwkt_base.specs.declared.records.Rec.{Rec}
use Rattle.lwkt_base.specs.MessageWord.{message_word, MessageFits}
use Rattle.lwkt_msg.specs.declared.views.View.{View}
use Rattle.lwkt_msg.specs.Views.{word_at, slot_at, call_of, flags_of, at, who, sent}
use Rattle.lwkt_msg.specs.Ledger.{Ledger}
use Rattle.lwkt_msg.specs.Steps.{sent_word}
use Rattle.lwkt_msg.specs.Deeds as deed
use Rattle.lwkt_msg.specs.Plays.{IsAfter, sends_it}
use Rattle.lwkt_msg.proofs.Allowing.{send_allowed}
use Rattle.lwkt_msg.proofs.Sitting.{sat_given, wrote, word_inside}
use Rattle.lwkt_msg.proofs.steps.put.Goals as goal

pub store-requires : goal.store-requires
store-requires c =
    let v : View = c.args.place.now.me.0 in
    let m : ℕ = c.args.m in
    let w : MsgWord = c.args.word in
    let held = c.requires.held in
    let sat = c.requires.sat in
    let front : Me Rec View = (v, (slot_at m, c.args.rec) ∷ held.1.0) in
    let me_is : c.exchange.new.seat.me ≡ front = wrote c.args.place.now.me c.exchange.new.seat.me (slot_at m) c.slot_of_message.result held.0 c.args.rec held.1.0 c.slot_of_message.ensures held.1.1 c.exchange.ensures.3 in
    let n_is : c.make.result ≡ message_word (sent_word w.origin w.target ((at v m).round + 1) w.sync (flags_of w)) = c.make.ensures ∙ ap message_word c.requires.word in
    let z = c.args.top.now.table_id in
    let i = c.exchange.new.seat.id in
    let F : Me Rec View → Type 0 = λ me. Allows (Ledger c.args.top.now.key) z.slots i me (word_at m) (λ _. c.make.result) (λ _. sends_it (step z.slots (word_at m) c.make.result 0 none) me c.make.result) in
    let G : ℕ → Type 0 = λ n. Allows (Ledger c.args.top.now.key) z.slots i front (word_at m) (λ _. n) (λ _. sends_it (step z.slots (word_at m) n 0 none) front n) in
    let few = sat.cpus in
    let there = sat.there in
    let to = c.requires.fits.0 in
    let cpu_few : w.origin.0 < 8 = omega arith in
    let to_few : w.target.0 < 8 = omega arith in
    let home = c.requires.home in
    let allowed = send_allowed c.args.top.now.key i front w.origin m sat.kind c.requires.exists z.slots w.target w.sync (flags_of w) c.args.rec held.1.0 refl home.0 home.2 cpu_few to_few to c.requires.fits.1 c.requires.clean.0 c.requires.clean.1 in
    let H : ℕ → Type 0 = λ j. (j < z.words) × Allows (Ledger c.args.top.now.key) z.slots i c.exchange.new.seat.me j (λ _. c.make.result) (λ _. sends_it (step z.slots j c.make.result 0 none) c.exchange.new.seat.me c.make.result) in
    let here = subst H (sym c.word_of_message.ensures) (word_inside c.args.place.now z w.origin m sat c.requires.table c.requires.exists, subst F (sym me_is) (subst G (sym n_is) allowed)) in
    (c.exchange.ensures.0 ∙ c.requires.table, here.0, here.1)

pub returns-clause-view : goal.returns-clause-view
returns-clause-view c =
    let m : ℕ = c.args.m in
    let held = c.requires.held in
    let me_is = wrote c.args.place.now.me c.exchange.new.seat.me (slot_at m) c.slot_of_message.result held.0 c.args.rec held.1.0 c.slot_of_message.ensures held.1.1 c.exchange.ensures.3 in
    let front_is = ap (λ (me : Me Rec View). me.1) me_is in
    let view_is = ap (λ (me : Me Rec View). me.0) me_is in
    let few = c.requires.sat.cpus in
    let there = c.requires.sat.there in
    let to = c.requires.fits.0 in
    let last = c.requires.fits.1 in
    let round_is = ap (λ (x : MsgWord). x.round) c.requires.word in
    let fits : MessageFits c.args.word = (omega arith, omega arith, omega arith) in
    let did = c.store.ensures.2 m c.word_of_message.ensures c.args.word fits c.make.ensures c.args.rec held.1.0 front_is in
    let F : View → Type 0 = λ x. IsAfter x m (sent c.args.word (call_of c.args.rec) (at x m)) (deed.sends (who x) m c.args.word.target c.args.word.round c.make.result c.args.rec) c.store.new.seat.me.0 in
    let G : ℕ → Type 0 = λ n. IsAfter c.args.place.now.me.0 m (sent c.args.word (call_of c.args.rec) (at c.args.place.now.me.0 m)) (deed.sends (who c.args.place.now.me.0) m c.args.word.target c.args.word.round n c.args.rec) c.store.new.seat.me.0 in
    subst G c.make.ensures (subst F view_is did.0)

pub returns-clause-sat : goal.returns-clause-sat
returns-clause-sat c =
    let m : ℕ = c.args.m in
    let held = c.requires.held in
    let me_is = wrote c.args.place.now.me c.exchange.new.seat.me (slot_at m) c.slot_of_message.result held.0 c.args.rec held.1.0 c.slot_of_message.ensures held.1.1 c.exchange.ensures.3 in
    let front_is = ap (λ (me : Me Rec View). me.1) me_is in
    let view_is = ap (λ (me : Me Rec View). me.0) me_is in
    let few = c.requires.sat.cpus in
    let there = c.requires.sat.there in
    let to = c.requires.fits.0 in
    let last = c.requires.fits.1 in
    let round_is = ap (λ (x : MsgWord). x.round) c.requires.word in
    let fits : MessageFits c.args.word = (omega arith, omega arith, omega arith) in
    let did = c.store.ensures.2 m c.word_of_message.ensures c.args.word fits c.make.ensures c.args.rec held.1.0 front_is in
    let F : View → Type 0 = λ x. IsAfter x m (sent c.args.word (call_of c.args.rec) (at x m)) (deed.sends (who x) m c.args.word.target c.args.word.round c.make.result c.args.rec) c.store.new.seat.me.0 in
    let after = subst F view_is did.0 in
    sat_given c.args.place.now c.store.new.seat c.args.word.origin m (sent c.args.word (call_of c.args.rec) (at c.args.place.now.me.0 m)) after.0 (deed.sends (who c.args.place.now.me.0) m c.args.word.target c.args.word.round c.make.result c.args.rec) held.0 held.1.0 c.requires.sat (c.store.ensures.0 ∙ c.exchange.ensures.0)
    after.1.1
    held.1.1 (λ own had. refl) c.requires.home.3 did.1 refl
