use Rattle.std.specs.Prelude.{length}
use Rattle.std.proofs.lemmas.List.{drop-replicate}
use Rattle.lwkt_base.proofs.BlobLemmas.{padded_is}
use Rattle.lwkt_base.proofs.blobs.Blob.short.Goals as goal

pub invariant_of-result : goal.invariant_of-result
invariant_of-result c = rw (c.copy_from_slice.ensures.after) (padded_is c.args.bytes.now _ c.requires (drop-replicate (length c.args.bytes.now) 64 0))
