use Rattle.std.proofs.Common.{◌≡◌, length, HoldsAt}
use Rattle.lwkt_search.specs.Indexes.{IsSought}
use Rattle.lwkt_plain.specs.Tables.{key_at}
use Rattle.lwkt_plain.proofs.tables.Table.find.Given as goal

abbrev pub invariant-loop-up : goal.invariant-loop-up
invariant-loop-up g l = record {
  sought : IsSought (length l.self.index.heads.items) (key_at g.P.Part.hash_of l.self.parts.items) l.key (length l.self.parts.items) (HoldsAt (λ p. p ≡ l.part) l.self.parts.items) l.up;
}

abbrev pub decreases-loop-up : goal.decreases-loop-up
decreases-loop-up g l = l.up
