use Rattle.std.proofs.Common.{◌≡◌, ℕ, Some, List, ◌∷◌, refl, ap, sym, ◌∙◌, subst}
use lib.ListN.{get_elem?}
use Rattle.atomic_table.specs.Table.{rest}
use Rattle.lwkt_bank.specs.Views.{at, who, noted}
use Rattle.lwkt_bank.specs.Deeds.{reads_blob}
use Rattle.lwkt_bank.specs.Hands.{AreHands}
use Rattle.lwkt_bank.proofs.CallMoves.{read_record_asks}
use Rattle.lwkt_bank.proofs.ViewMoves.{at-tok}
use Rattle.lwkt_bank.proofs.GuardMoves.{hands_alike, hands_moved, front_same}
use Rattle.lwkt_bank.proofs.steps.read_record.Goals as goal

pub load-requires : goal.load-requires
load-requires c = read_record_asks c.args.bank.now c.args.seat.now c.args.tok.0 c.requires.of c.requires.there c.word_of_cell-word.result c.word_of_cell-word.ensures c.requires.hands c.requires.held

pub slot_mut-requires : goal.slot_mut-requires
slot_mut-requires c =
    let b = (c.load.ensures.2 c.args.tok.0 c.word_of_cell-word.ensures).1 in
    let whole : c.load.new.seat.me.1 ≡ (c.args.tok.0, b.0) ∷ rest c.load.new.seat.me.1 = b.1.1.0 ∙ ap (λ (xs : List (ℕ × List ℕ)). (c.args.tok.0, b.0) ∷ xs) (sym (ap rest b.1.1.0)) in
    (c.load.ensures.0 ∙ c.requires.of.table, (b.0, whole))

pub returns-clause-value : goal.returns-clause-value
returns-clause-value c =
    let t = c.args.tok.0 in
    let b = (c.load.ensures.2 t c.word_of_cell-word.ensures).1 in
    let known = c.requires.hands.all t b.0 (b.1.1.1.back t b.0 (0, ap (λ (xs : List (ℕ × List ℕ)). get_elem? xs 0) b.1.1.0)) in
    known.2 ∙ ap (λ (x : List ℕ). Some x) (front_same t b.0 c.slot_mut.result.now c.load.new.seat.me.1 b.1.0 (rest c.load.new.seat.me.1) b.1.1.0 c.slot_mut.ensures.value)

pub returns-clause-reads : goal.returns-clause-reads
returns-clause-reads c = (c.load.ensures.2 c.args.tok.0 c.word_of_cell-word.ensures).0

pub returns-clause-hands : goal.returns-clause-hands
returns-clause-hands c =
    let t = c.args.tok.0 in
    let v = c.args.seat.now.me.0 in
    let x = c.load.ensures.2 t c.word_of_cell-word.ensures in
    let view = x.0.1.1.1.1 in
    let after = hands_alike v t (at v.tokens t) x.0.0 (reads_blob (who v) t x.0.1.1.0) (at-tok v.tokens t) c.args.seat.now.me.1 c.load.new.seat.me.1 (record { held = refl; blob = refl }) c.requires.hands x.1.1.1.1 in
    let F : List (ℕ × List ℕ) → Type 0 = λ xs. AreHands c.load.new.seat.me.0 xs in
    subst F c.slot_mut.ensures.value (hands_moved (noted x.0.0 v (at v.tokens t) (reads_blob (who v) t x.0.1.1.0)) c.load.new.seat.me.0 c.load.new.seat.me.1 view after)
