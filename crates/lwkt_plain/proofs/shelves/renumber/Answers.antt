use Rattle.std.proofs.Common.{◌≡◌, ℕ, ◌<◌, length, arith, sym, ◌∙◌, slice_index_or}
use Rattle.std.proofs.lemmas.List.{get_or_default, get_or-set_other, length-set}
use Rattle.lwkt_plain.proofs.Follows.{number_follows}
use Rattle.lwkt_plain.proofs.TableLemmas.{extends_more, index_some, known_more, numbered_more}
use Rattle.lwkt_plain.proofs.shelves.renumber.Goals as goal

pub loop-k-preserved : goal.loop-k-preserved
loop-k-preserved g c =
    let was = c.loop-k.table.parts.items in
    let new = c.number_of.new.table.parts.items in
    let parts = c.args.parts.now in
    let numbers = c.loop-k.numbers.items in
    let k = c.loop-k.k in
    let n = c.in_ok-number.number in
    let p = c.part.result.now in
    let end = c.loop-k.invariant.end in
    let there : k < length numbers = omega (arith, end) in
    let same = length-set numbers k n in
    record {
      end = end ∙ sym same;
      long = c.loop-k.invariant.long ∙ sym same;
      table = c.in_ok-number.ensures.table;
      more = extends_more c.args.table.now.parts.items was new c.loop-k.invariant.more c.in_ok-number.ensures.more;
      known = known_more was new numbers k n c.in_ok-number.ensures.more c.in_ok-number.ensures.named.there c.loop-k.invariant.known;
      count = same ∙ c.loop-k.invariant.count;
      still = λ j h. get_or-set_other numbers k j n 0 (λ e. omega (arith, h, e)) ∙ c.loop-k.invariant.still j (omega (arith, h));
      named = numbered_more was new parts numbers k n p c.in_ok-number.ensures.more there (λ d. index_some parts k p d c.part.ensures) c.in_ok-number.ensures.named c.loop-k.invariant.named;
    }

pub number_of-requires-clause-follows : goal.number_of-requires-clause-follows
number_of-requires-clause-follows g c =
    let was = c.args.table.now.parts.items in
    let table = c.loop-k.table.parts.items in
    let parts = c.args.parts.now in
    let origin = c.args.numbers.now.items in
    let numbers = c.loop-k.numbers.items in
    let k = c.loop-k.k in
    let end = c.loop-k.invariant.end in
    let count = c.loop-k.invariant.count in
    let own : ℕ = c.index.result.now in
    let there : k < length numbers = omega (arith, end) in
    let same : own ≡ slice_index_or origin k 0 = c.index.ensures ∙ (get_or_default numbers k own 0 there ∙ c.loop-k.invariant.still k (omega arith)) in
    number_follows (g.P.Part.follows c.args.cpu) was table parts origin own k c.part.result.now c.requires.follow c.loop-k.invariant.more c.requires.known (omega (arith, end, count)) same c.part.ensures

pub returns-clause-named : goal.returns-clause-named
returns-clause-named g c = record {
  long = c.loop-k.invariant.long;
  each = λ j h d. let end = c.loop-k.invariant.end in let low : j < c.loop-k.k = omega (arith, end, h) in c.loop-k.invariant.named j low d;
}
