use Rattle.std.proofs.Common.{◌≡◌, ℕ, ◌<◌, ◌≤◌, length, All, slice_index_or}
use Rattle.lwkt_plain.specs.Tables.{IsTable, Extends, IsNamed}
use Rattle.lwkt_plain.proofs.shelves.renumber.Given as goal

abbrev pub invariant-loop-k : goal.invariant-loop-k
invariant-loop-k g l = record {
  end : l.k-end ≡ length l.numbers.items;
  long : length l.parts ≡ length l.numbers.items;
  table : IsTable g.P.Part.hash_of l.table.parts.items l.table.index.heads.items l.table.index.links.items;
  more : Extends l.fn.table.parts.items l.table.parts.items;
  known : All (λ n. n < length l.table.parts.items) l.numbers.items;
  count : length l.numbers.items ≡ length l.fn.numbers.items;
  still : (j : ℕ) → l.k ≤ j → slice_index_or l.numbers.items j 0 ≡ slice_index_or l.fn.numbers.items j 0;
  named : (j : ℕ) → j < l.k → (d : g.row.P.Denot) → IsNamed l.table.parts.items (slice_index_or l.numbers.items j 0) (slice_index_or l.parts j d);
}
