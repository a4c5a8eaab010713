use Rattle.std.proofs.Common.{◌≡◌, ℕ, ◌<◌, ◌+◌, ◌%◌, ◌^◌, ◌∷◌, refl, ap, sym, ◌∙◌, subst}
use mathlib.Core.Option.{none}
use Rattle.atomic_table.specs.Table.{Me, step, Allows}
use Rattle.lwkt_base.specs.declared.records.Call.{Call}
use Rattle.lwkt_base.specs.declared.records.Rec.{Rec}
use Rattle.lwkt_msg.specs.declared.views.View.{View}
use Rattle.lwkt_msg.specs.Views.{word_at, slot_at, call_of, at, who, answered}
use Rattle.lwkt_msg.specs.Ledger.{Ledger}
use Rattle.lwkt_msg.specs.Calls.{answered_rec}
use Rattle.lwkt_msg.specs.Deeds as deed
use Rattle.lwkt_msg.specs.Plays.{IsAfter, replies_to_it}
use Rattle.lwkt_msg.proofs.Allowing.{reply_allowed, first_same}
use Rattle.lwkt_msg.proofs.Sitting.{sat_given, wrote, word_inside}
use Rattle.lwkt_msg.proofs.steps.answer.Goals as goal
use Rattle.lwkt_msg.proofs.steps.answer.Goals.{After-exchange, After-fetch_add}

-- the record that is given back
abbrev given : Rec → ℕ → ℕ → Rec
given rec error outcome = record { arg = rec.arg; result = outcome; op = rec.op; error = error }

pub fetch_add-requires : goal.fetch_add-requires
fetch_add-requires c =
    let me : Me Rec View = c.args.place.now.me in
    let m : ℕ = c.args.m in
    let held = c.requires.held in
    let sat = c.requires.sat in
    let z = c.args.top.now.table_id in
    let i = c.exchange.new.seat.id in
    let value = c.front-rec.ensures.value in
    let is : held.0 ≡ c.front-rec.result = ap (λ (h : ℕ × Rec). h.1) (first_same (slot_at m, held.0) (slot_at m, c.front-rec.result) held.1.0 value.0 (sym held.1.1 ∙ value.1)) in
    let rec : Rec = given c.front-rec.result c.args.error c.args.outcome in
    let before : c.front-rec.new.place.me ≡ me = c.front-rec.ensures.seat.1 in
    let front : Me Rec View = (me.0, (slot_at m, rec) ∷ value.0) in
    let me_is : c.exchange.new.seat.me ≡ front = wrote c.front-rec.new.place.me c.exchange.new.seat.me (slot_at m) c.slot_of_message.result c.front-rec.result rec value.0 c.slot_of_message.ensures (ap (λ (x : Me Rec View). x.1) before ∙ value.1) c.exchange.ensures.3
    ∙ ap (λ (x : Me Rec View). let y : Me Rec View = (x.0, (slot_at m, rec) ∷ value.0) in y) before in
    let F : Me Rec View → Type 0 = λ x. Allows (Ledger c.args.top.now.key) z.slots i x (word_at m) (λ n. (n + 1) % 2 ^ 64) (replies_to_it (step z.slots (word_at m) 1 0 none) x) in
    let call : call_of rec ≡ (at me.0 m).got = ap call_of (sym is) ∙ held.2 in
    let H : ℕ → Type 0 = λ j. (j < z.words) × Allows (Ledger c.args.top.now.key) z.slots i c.exchange.new.seat.me j (λ n. (n + 1) % 2 ^ 64) (replies_to_it (step z.slots j 1 0 none) c.exchange.new.seat.me) in
    let here = subst H (sym c.word_of_message.ensures) (word_inside c.args.place.now z c.args.cpu m sat c.requires.table c.requires.exists, subst F (sym me_is) (reply_allowed c.args.top.now.key i front c.args.cpu m sat.kind c.requires.exists z.slots rec value.0 refl c.requires.taken.0 call)) in
    (c.exchange.ensures.0 ∙ (c.front-rec.ensures.seat.0.0 ∙ c.requires.table), here.0, here.1)

-- what the addition did: the record that was put back has the call that was taken
did : (c : After-fetch_add) → IsAfter c.args.place.now.me.0 c.args.m (answered c.args.error c.args.outcome (at c.args.place.now.me.0 c.args.m)) (deed.replies (who c.args.place.now.me.0) c.args.m c.fetch_add.result (answered_rec (at c.args.place.now.me.0 c.args.m).got c.args.error c.args.outcome)) c.fetch_add.new.seat.me.0
    × (c.fetch_add.new.seat.me.1 ≡ c.front-rec.ensures.value.0)
did c =
    let me : Me Rec View = c.args.place.now.me in
    let m : ℕ = c.args.m in
    let held = c.requires.held in
    let value = c.front-rec.ensures.value in
    let rec : Rec = given c.front-rec.result c.args.error c.args.outcome in
    let before : c.front-rec.new.place.me ≡ me = c.front-rec.ensures.seat.1 in
    let front : Me Rec View = (me.0, (slot_at m, rec) ∷ value.0) in
    let me_is : c.exchange.new.seat.me ≡ front = wrote c.front-rec.new.place.me c.exchange.new.seat.me (slot_at m) c.slot_of_message.result c.front-rec.result rec value.0 c.slot_of_message.ensures (ap (λ (x : Me Rec View). x.1) before ∙ value.1) c.exchange.ensures.3
    ∙ ap (λ (x : Me Rec View). let y : Me Rec View = (x.0, (slot_at m, rec) ∷ value.0) in y) before in
    let view_is : c.exchange.new.seat.me.0 ≡ me.0 = ap (λ (x : Me Rec View). x.0) me_is in
    let now = c.fetch_add.ensures.2 m c.word_of_message.ensures rec value.0 (ap (λ (x : Me Rec View). x.1) me_is) in
    let is : held.0 ≡ c.front-rec.result = ap (λ (h : ℕ × Rec). h.1) (first_same (slot_at m, held.0) (slot_at m, c.front-rec.result) held.1.0 value.0 (sym held.1.1 ∙ value.1)) in
    let call : call_of rec ≡ (at me.0 m).got = ap call_of (sym is) ∙ held.2 in
    let F : View → Type 0 = λ x. IsAfter x m (answered c.args.error c.args.outcome (at x m)) (deed.replies (who x) m c.fetch_add.result rec) c.fetch_add.new.seat.me.0 in
    let G : Call → Type 0 = λ x. IsAfter me.0 m (answered c.args.error c.args.outcome (at me.0 m)) (deed.replies (who me.0) m c.fetch_add.result (answered_rec x c.args.error c.args.outcome)) c.fetch_add.new.seat.me.0 in
    (subst G call (subst F view_is now.0), now.1)

pub returns-clause-sat : goal.returns-clause-sat
returns-clause-sat c =
    let m : ℕ = c.args.m in
    let now = did c in
    let value = c.front-rec.ensures.value in
    sat_given c.args.place.now c.fetch_add.new.seat c.args.cpu m (answered c.args.error c.args.outcome (at c.args.place.now.me.0 m)) now.0.0 (deed.replies (who c.args.place.now.me.0) m c.fetch_add.result (answered_rec (at c.args.place.now.me.0 m).got c.args.error c.args.outcome)) c.front-rec.result value.0 c.requires.sat
    (c.fetch_add.ensures.0 ∙ (c.exchange.ensures.0 ∙ c.front-rec.ensures.seat.0.0)) now.0.1.1 value.1 (λ own had. c.requires.taken.1 own) refl now.1 refl

pub returns-clause-view : goal.returns-clause-view
returns-clause-view c = (c.fetch_add.result, (did c).0)
