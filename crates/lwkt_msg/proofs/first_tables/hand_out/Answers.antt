use Rattle.std.proofs.Common.{◌≡◌, ℕ, ◌+◌, ◌*◌, ◌<◌, List, length, ap, sym, ◌∙◌, subst, arith}
use Rattle.std.proofs.lemmas.Bool.{eqb-true, eqb-false}
use Rattle.atomic_table.specs.Seated.{TableId}
use Rattle.atomic_table.specs.declared.shared.Seat.{Seat}
use Rattle.lwkt_base.specs.declared.opening_specs.MsgSpec.{MsgSpec}
use Rattle.lwkt_base.specs.declared.records.Rec.{Rec}
use Rattle.lwkt_msg.specs.declared.views.MessageEntry.{MessageEntry}
use Rattle.lwkt_msg.specs.declared.views.View.{View}
use Rattle.lwkt_msg.specs.Views.{spec_at}
use Rattle.lwkt_msg.specs.Ledger.{Ledger}
use Rattle.lwkt_msg.specs.Plays.{IsSameSeat, hands_out as hands_it}
use mathlib.Core.Option.{none}
use Rattle.atomic_table.specs.Table.{step, Allows}
use Rattle.lwkt_msg.specs.Hands.{IsOwn}
use Rattle.lwkt_msg.specs.Desks.{IsHanding}
use Rattle.lwkt_msg.proofs.Allowing.{hand_allowed}
use Rattle.lwkt_msg.proofs.Handing.{handing_own, handing_other}
use Rattle.lwkt_msg.proofs.first_tables.hand_out.Goals as goal
use Rattle.lwkt_msg.proofs.first_tables.hand_out.Goals.{then-eq, else-eq}

pub load-requires : goal.load-requires
load-requires c =
    let m : ℕ = c.loop-m.m in
    let inv = c.loop-m.invariant in
    let h = inv.3 in
    let specs_is : c.loop-m.place.me.0.specs ≡ c.args.specs.now = inv.2 ∙ c.requires.specs in
    let test : m < length c.args.specs.now = c.loop-m-test.true in
    let long = ap (λ (xs : List MsgSpec). length xs) specs_is in
    let within : m < length c.loop-m.place.me.0.specs = omega arith in
    let F : List MsgSpec → Type 0 = λ xs. (spec_at xs m).origin.cpu.0 ≡ c.args.cpu.0 in
    let own : IsOwn c.loop-m.place.me.0 c.args.cpu.0 m = subst F (sym specs_is) (eqb-true (spec_at c.args.specs.now m).origin.cpu.0 c.args.cpu.0 (sym c.eq.ensures ∙ c.if-eq.true)) in
    let first = h.todo m (omega arith) in
    let table : c.loop-m.place.table_id ≡ c.args.top.now.table_id = inv.0.0 ∙ c.requires.table in
    let words = h.words in
    let same = ap (λ (z : TableId). z.words) table in
    let inside : 16 * m + 1 < c.args.top.now.table_id.words = omega arith in
    let z = c.args.top.now.table_id in
    let F : ℕ → Type 0 = λ i. (i < z.words) × Allows (Ledger c.args.top.now.key) z.slots c.loop-m.place.id c.loop-m.place.me i (λ n. n) (hands_it (step z.slots i 0 0 none) c.loop-m.place.me) in
    let allowed = subst F (sym c.word_of_message.ensures) (inside, hand_allowed c.args.top.now.key c.loop-m.place.id c.loop-m.place.me c.args.cpu m h.kind within c.args.top.now.table_id.slots own (ap (λ (x : MessageEntry). x.had) first) (ap (λ (x : MessageEntry). x.away) first)) in
    (table, allowed.0, allowed.1)

pub loop-m-preserved : goal.loop-m-preserved
loop-m-preserved c =
    let m : ℕ = c.loop-m.m in
    let inv = c.loop-m.invariant in
    let specs_is : c.loop-m.place.me.0.specs ≡ c.args.specs.now = inv.2 ∙ c.requires.specs in
    let test : m < length c.args.specs.now = c.loop-m-test.true in
    let long = ap (λ (xs : List MsgSpec). length xs) specs_is in
    let within : m < length c.loop-m.place.me.0.specs = omega arith in
    let F : List MsgSpec → Type 0 = λ xs. (spec_at xs m).origin.cpu.0 ≡ c.args.cpu.0 in
    let G : Seat Rec View → Type 0 = λ p. IsSameSeat c.args.place.now p × (p.me.0.cpus ≡ c.args.place.now.me.0.cpus) × (p.me.0.specs ≡ c.args.place.now.me.0.specs) × IsHanding c.args.cpu (m + 1) p in
    elim c.if-eq.branch [
      | then-eq w ↦
          let own : IsOwn c.loop-m.place.me.0 c.args.cpu.0 m = subst F (sym specs_is) (eqb-true (spec_at c.args.specs.now m).origin.cpu.0 c.args.cpu.0 (sym c.eq.ensures ∙ w.if-eq.true)) in
          let did = w.load.ensures.2 m w.word_of_message.ensures in
          subst G (sym w.place-is) (
            (w.load.ensures.0 ∙ inv.0.0, w.load.ensures.1 ∙ inv.0.1),
            ap (λ (v : View). v.cpus) did.1.1.1 ∙ inv.1,
            ap (λ (v : View). v.specs) did.1.1.1 ∙ inv.2,
            handing_own c.loop-m.place w.load.new.seat c.args.cpu m did.1.0 w.load.result did.0 inv.3 within own w.load.ensures.0 did.1.1.0 did.1.1.1 did.2 did.3,
          )
      | else-eq w ↦
          let other : IsOwn c.loop-m.place.me.0 c.args.cpu.0 m → ⊥
          = λ own. eqb-false (spec_at c.args.specs.now m).origin.cpu.0 c.args.cpu.0 (sym c.eq.ensures ∙ w.if-eq.false) (subst F specs_is own) in
          subst G (sym w.place-is) (inv.0, inv.1, inv.2, handing_other c.loop-m.place c.args.cpu m inv.3 other)
    ]
