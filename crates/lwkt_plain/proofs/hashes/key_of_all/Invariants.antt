use Rattle.std.proofs.Common.{◌≡◌, length, take}
use Rattle.lwkt_plain.specs.Hashes.{key_of_all}
use Rattle.lwkt_plain.proofs.hashes.key_of_all.Given as goal

abbrev pub invariant-loop-part : goal.invariant-loop-part
invariant-loop-part g l = record {
  end : l.part-index-end ≡ length l.parts;
  so_far : l.key ≡ key_of_all g.T.Keyed.key_of l.fn.key (take l.part-index l.parts);
}
