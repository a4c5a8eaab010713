use Rattle.std.proofs.Common.{◌≡◌, ◌<◌, length, arith, ap, sym, refl, ◌∙◌}
use Rattle.lwkt_plain.specs.Tables.{key_at}
use Rattle.lwkt_plain.proofs.TableLemmas.{key_is}
use Rattle.lwkt_plain.proofs.tables.Table.widen.Goals as goal

pub add-requires-clause-room : goal.add-requires-clause-room
add-requires-clause-room g c =
    let few = c.requires.table.few in
    let long = c.loop-at.invariant.index.long in
    let end = c.loop-at.invariant.end in
    omega arith

pub loop-at-preserved : goal.loop-at-preserved
loop-at-preserved g c =
    let parts = c.args.self.now.parts.items in
    let at = c.loop-at.at in
    let x = c.index.result.now in
    let there : at < length parts = omega (arith, c.loop-at.invariant.end) in
    let key : key_at g.P.Part.hash_of parts at ≡ c.hash.result = key_is g.P.Part.hash_of parts at x there ∙ (ap g.P.Part.hash_of (sym c.index.ensures) ∙ sym c.hash.ensures) in
    record {
      end = c.loop-at.invariant.end;
      same = refl;
      index = c.in_ok-add.ensures (key_at g.P.Part.hash_of parts) at c.loop-at.invariant.index key;
    }

pub loop-at-init : goal.loop-at-init
loop-at-init g c =
    let end : c.len-count.result ≡ length c.args.self.now.parts.items = omega arith in
    record { end = end; same = refl; index = c.in_ok-index.ensures.index (key_at g.P.Part.hash_of c.args.self.now.parts.items) }
