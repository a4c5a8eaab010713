use Rattle.std.proofs.Common.{◌≡◌, length, take}
use Rattle.lwkt_search.specs.Codes.{key_behind}
use Rattle.lwkt_search.proofs.codes.key_of.Given as goal

abbrev pub invariant-loop-n : goal.invariant-loop-n
invariant-loop-n l = record {
  end : l.n-index-end ≡ length l.code;
  so_far : l.key ≡ key_behind 0 (take l.n-index l.code);
}
