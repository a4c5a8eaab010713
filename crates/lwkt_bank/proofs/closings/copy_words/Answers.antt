use Rattle.std.proofs.Common.{ap, sym, ◌∙◌, List, ℕ, ◌++◌, ◌∷◌, [], length, length-take, arith}
use Rattle.std.specs.Slots.{slots_items}
use Rattle.lwkt_bank.proofs.KeptMoves.{take_elem}
use Rattle.lwkt_bank.proofs.closings.copy_words.Goals as goal

pub put-requires : goal.put-requires
put-requires c =
    let i = c.loop-i.invariant in
    let long = ap length i.copied in
    let taken = length-take c.loop-i.i (slots_items c.args.closed.now.words) in
    let room = i.room in
    omega arith

pub loop-i-preserved : goal.loop-i-preserved
loop-i-preserved c =
    let i = c.loop-i.invariant in
    let room = i.room in
    let more = c.put.ensures.room in
    record {
      copied = c.put.ensures.items ∙ ap (λ (xs : List ℕ). xs ++ c.word.result ∷ []) i.copied ∙ sym (take_elem (slots_items c.args.closed.now.words) c.loop-i.i c.word.result c.word.ensures);
      room = omega arith;
    }
