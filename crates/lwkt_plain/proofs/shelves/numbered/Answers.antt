use Rattle.std.proofs.Common.{◌≡◌, ℕ, ◌<◌, ◌+◌, length, length-append, arith, ap, refl, ◌∙◌, ◌∷◌, [], slice_index_or}
use Rattle.lwkt_plain.proofs.TableLemmas.{index_some, named_push}
use Rattle.lwkt_plain.proofs.shelves.numbered.Goals as goal

pub loop-k-preserved : goal.loop-k-preserved
loop-k-preserved g c =
    let numbers = c.loop-k.numbers.items in
    let n = c.in_ok-number.number in
    let p = c.part.result.now in
    let pushed = c.in_ok-push.ensures.items in
    record {
      end = c.loop-k.invariant.end;
      long = ap length pushed ∙ (length-append numbers (n ∷ []) ∙ ap (λ m. m + 1) c.loop-k.invariant.long);
      table = c.in_ok-number.ensures.table;
      named = named_push c.loop-k.table.parts.items c.number.new.self.parts.items c.args.parts.now numbers c.push.new.list.items c.loop-k.k n p c.in_ok-number.ensures.more c.loop-k.invariant.long pushed (λ d. index_some c.args.parts.now c.loop-k.k p d c.part.ensures) c.in_ok-number.ensures.named c.loop-k.invariant.named;
    }

pub returns-clause-named : goal.returns-clause-named
returns-clause-named g c =
    let end = c.loop-k.invariant.end in
    let long = c.loop-k.invariant.long in
    record {
      long = omega (arith, end, long);
      each = λ j h d. let low : j < c.loop-k.k = omega (arith, long, h) in c.loop-k.invariant.named j low d;
    }
