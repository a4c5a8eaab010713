use Rattle.std.proofs.Common.{◌≡◌, ℕ, ◌<◌, ◌+◌, length, take, arith, ap, sym, refl, ◌∙◌, ◌++◌, ◌∷◌, [], slice_index_or}
use Rattle.std.proofs.lemmas.List.{take_more}
use Rattle.lwkt_search.specs.Codes.{mixed, key_behind}
use Rattle.lwkt_search.proofs.CodeLemmas.{key_push}
use Rattle.lwkt_search.proofs.codes.key_of.Goals as goal

pub loop-n-preserved : goal.loop-n-preserved
loop-n-preserved c =
    let code = c.args.code.now in
    let i = c.loop-n.n-index in
    let x : ℕ = slice_index_or code i 0 in
    let there : i < length code = omega arith in
    let more : take (i + 1) code ≡ take i code ++ x ∷ [] = take_more code i 0 there in
    let so_far : c.loop-n.key ≡ key_behind 0 (take i code) = c.loop-n.invariant.so_far in
    record {
      end = refl;
      so_far = c.mixed-key.ensures ∙ (ap (λ n. mixed c.loop-n.key n) c.from.ensures ∙ (ap (λ k. mixed k x) so_far ∙ sym (ap (key_behind 0) more ∙ key_push 0 (take i code) x)));
    }
