use Rattle.std.proofs.Common.{◌≡◌, ℕ, List, ◌<◌, ◌+◌, length, take, arith, ap, sym, refl, ◌∙◌, ◌++◌, ◌∷◌, [], slice_index_or}
use Rattle.std.proofs.lemmas.List.{take_more}
use Rattle.lwkt_plain.specs.Hashes.{key_of_all}
use Rattle.lwkt_plain.proofs.Keys.{key_push}
use Rattle.lwkt_plain.proofs.hashes.key_of_all.Goals as goal

pub loop-part-preserved : goal.loop-part-preserved
loop-part-preserved g c =
    let parts = c.args.parts.now in
    let i = c.loop-part.part-index in
    let x = c.part-item.result in
    let key = g.T.Keyed.key_of in
    let there : i < length parts = c.loop-part-test.true in
    let item : x ≡ slice_index_or parts i x = c.part-item.is in
    let more : take (i + 1) parts ≡ take i parts ++ slice_index_or parts i x ∷ [] = take_more parts i x there in
    let one : take (i + 1) parts ≡ take i parts ++ x ∷ [] = more ∙ ap (λ (y : g.row.T.Denot). take i parts ++ y ∷ []) (sym item) in
    record {
      end = refl;
      so_far = c.key-key.ensures ∙ (ap (λ (k : ℕ). key k x) c.loop-part.invariant.so_far ∙ sym (ap (λ (ps : List g.row.T.Denot). key_of_all key c.args.key ps) one ∙ key_push key c.args.key (take i parts) x));
    }
