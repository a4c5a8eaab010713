use Rattle.std.proofs.Common.{◌≡◌, length}
use Rattle.lwkt_search.specs.Indexes.{IsIndex}
use Rattle.lwkt_plain.specs.Tables.{key_at}
use Rattle.lwkt_plain.proofs.tables.Table.widen.Given as goal

abbrev pub invariant-loop-at : goal.invariant-loop-at
invariant-loop-at g l = record {
  end : l.count ≡ length l.self.parts.items;
  same : l.self.parts ≡ l.fn.self.parts;
  index : IsIndex (key_at g.P.Part.hash_of l.self.parts.items) l.index.heads.items l.index.links.items l.at;
}
