use Rattle.std.proofs.Common.{arith, sym, ◌∙◌}
use Rattle.std.proofs.lemmas.List.{length-take-le}
use Rattle.lwkt_base.proofs.BlobLemmas.{kept_short}
use Rattle.lwkt_base.proofs.blobs.Blob.of.Goals as goal

pub slice_bounds-long-end : goal.slice_bounds-long-end
slice_bounds-long-end c = sym (length-take-le 64 c.args.bytes.now (let h = c.if-bytes-le64.false in omega arith))

pub long-requires-clause-front : goal.long-requires-clause-front
long-requires-clause-front c = length-take-le 64 c.args.bytes.now (let h = c.if-bytes-le64.false in omega arith)

pub returns-then-bytes-le64-clause-kept : goal.returns-then-bytes-le64-clause-kept
returns-then-bytes-le64-clause-kept c = c.short.ensures ∙ sym (kept_short c.args.bytes.now c.if-bytes-le64.true)
