use Rattle.std.proofs.Common.{◌≡◌, ℕ, Some, List, ◌∷◌, refl, ap, sym, ◌∙◌, subst}
use lib.ListN.{get_elem?}
use Rattle.atomic_table.specs.Table.{Me, rest}
use Rattle.lwkt_bank.specs.declared.views.View.{View}
use Rattle.lwkt_bank.specs.Views.{at, who, noted, wrote_record}
use Rattle.lwkt_bank.specs.Deeds.{writes_blob}
use Rattle.lwkt_bank.specs.Hands.{IsInHand, AreHands, AreSame}
use Rattle.lwkt_bank.specs.Plays.{Amid, WritesBlob}
use Rattle.lwkt_bank.proofs.CallMoves.{of_still, bring_record_asks, write_record_asks}
use Rattle.lwkt_bank.proofs.ViewMoves.{at-tok}
use Rattle.lwkt_bank.proofs.GuardMoves.{hands_written, hands_moved, front_same, front_whole}
use Rattle.lwkt_bank.proofs.steps.write_record.Goals as goal

pub load-requires : goal.load-requires
load-requires c = bring_record_asks c.args.bank.now c.args.seat.now c.args.tok.0 c.requires.of c.requires.there c.word_of_cell-word.result c.word_of_cell-word.ensures c.requires.hands c.requires.held

pub slot_mut-requires : goal.slot_mut-requires
slot_mut-requires c =
    let b = (c.load.ensures.2 c.args.tok.0 c.word_of_cell-word.ensures).1 in
    (c.load.ensures.0 ∙ c.requires.of.table, (b.0, front_whole (c.args.tok.0, b.0) b.1.0 c.load.new.seat.me.1 b.1.1.0))

pub load-requires-2 : goal.load-requires-2
load-requires-2 c =
    let t = c.args.tok.0 in
    let new = c.args.blob.now in
    let view : c.exchange.new.seat.me.0 ≡ c.args.seat.now.me.0 = ap (λ (me : Me (List ℕ) View). me.0) c.exchange.ensures.3 ∙ (c.load.ensures.2 t c.word_of_cell-word.ensures).0 in
    let front = front_whole (t, new) (rest c.load.new.seat.me.1) c.exchange.new.seat.me.1 (ap (λ (me : Me (List ℕ) View). me.1) c.exchange.ensures.3) in
    let F : View → Type 0 = λ w. IsInHand w t in
    write_record_asks c.args.bank.now c.exchange.new.seat t (of_still c.args.bank.now c.args.seat.now c.exchange.new.seat (c.exchange.ensures.0 ∙ c.load.ensures.0) view c.requires.of) c.requires.there c.word_of_cell-word.result new c.word_of_cell-word.ensures front
    (subst F (sym view) c.requires.held) c.requires.short

pub returns-clause-notes : goal.returns-clause-notes
returns-clause-notes c =
    let t = c.args.tok.0 in
    let b = (c.load.ensures.2 t c.word_of_cell-word.ensures).1 in
    let mid = c.load.new.seat.me.1 in
    let known = c.requires.hands.all t b.0 (b.1.1.1.back t b.0 (0, ap (λ (xs : List (ℕ × List ℕ)). get_elem? xs 0) b.1.1.0)) in
    let same = front_same t b.0 c.slot_mut.result.now mid b.1.0 (rest mid) b.1.1.0 c.slot_mut.ensures.value in
    (c.slot_mut.result.now, (known.2 ∙ ap (λ (x : List ℕ). Some x) same, c.write.ensures))

pub returns-clause-writes : goal.returns-clause-writes
returns-clause-writes c =
    let t = c.args.tok.0 in
    let new = c.args.blob.now in
    let view : c.exchange.new.seat.me.0 ≡ c.args.seat.now.me.0 = ap (λ (me : Me (List ℕ) View). me.0) c.exchange.ensures.3 ∙ (c.load.ensures.2 t c.word_of_cell-word.ensures).0 in
    let front = front_whole (t, new) (rest c.load.new.seat.me.1) c.exchange.new.seat.me.1 (ap (λ (me : Me (List ℕ) View). me.1) c.exchange.ensures.3) in
    let F : View → Type 0 = λ v. Amid v (λ between. WritesBlob new between t v c.load-2.new.seat.me.0) in
    subst F view (c.load-2.ensures.2 t new c.word_of_cell-word.ensures front).0

pub returns-clause-hands : goal.returns-clause-hands
returns-clause-hands c =
    let t = c.args.tok.0 in
    let v = c.args.seat.now.me.0 in
    let e = at v.tokens t in
    let new = c.args.blob.now in
    let mid = c.load.new.seat.me.1 in
    let brought = c.load.ensures.2 t c.word_of_cell-word.ensures in
    let b = brought.1 in
    let view : c.exchange.new.seat.me.0 ≡ v = ap (λ (me : Me (List ℕ) View). me.0) c.exchange.ensures.3 ∙ brought.0 in
    let put : c.exchange.new.seat.me.1 ≡ (t, new) ∷ rest mid = ap (λ (me : Me (List ℕ) View). me.1) c.exchange.ensures.3 in
    let x = c.load-2.ensures.2 t new c.word_of_cell-word.ensures (front_whole (t, new) (rest mid) c.exchange.new.seat.me.1 put) in
    let F : View → Type 0 = λ w. Amid w (λ between. WritesBlob new between t w c.load-2.new.seat.me.0) in
    let writes : Amid v (λ between. WritesBlob new between t v c.load-2.new.seat.me.0) = subst F view x.0 in
    let G : List (ℕ × List ℕ) → Type 0 = λ xs. AreSame c.args.seat.now.me.1 xs in
    let after = hands_written v t (wrote_record e new) writes.0 (writes_blob (who v) t new) (at-tok v.tokens t) c.args.seat.now.me.1 b.1.0 b.0 new (subst G b.1.1.0 b.1.1.1) refl refl c.requires.hands in
    let others : b.1.0 ≡ rest mid = sym (ap rest b.1.1.0) in
    let H : List (ℕ × List ℕ) → Type 0 = λ xs. AreHands (noted writes.0 v (wrote_record e new) (writes_blob (who v) t new)) ((t, new) ∷ xs) in
    let K : List (ℕ × List ℕ) → Type 0 = λ xs. AreHands c.load-2.new.seat.me.0 xs in
    subst K (sym (x.1 ∙ put)) (hands_moved (noted writes.0 v (wrote_record e new) (writes_blob (who v) t new)) c.load-2.new.seat.me.0 ((t, new) ∷ rest mid) writes.1.1 (subst H others after))
