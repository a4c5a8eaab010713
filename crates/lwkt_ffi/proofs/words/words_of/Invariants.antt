use Rattle.std.proofs.Common.{◌≡◌, map, take, string_bytes}
use Rattle.lwkt_ffi.proofs.words.words_of.Given as goal

abbrev pub invariant-loop-part : goal.invariant-loop-part
invariant-loop-part l = map string_bytes l.words.items ≡ map (λ part. part.now) (take l.part-index l.part-items)
