use Rattle.std.proofs.Common.{arith}
use Rattle.lwkt_base.proofs.BlobLemmas.{front_by, all_by}
use Rattle.lwkt_base.proofs.blobs.Blob.as_slice.Goals as goal

pub returns-then-self-le64-clause-kept : goal.returns-then-self-le64-clause-kept
returns-then-self-le64-clause-kept c = front_by c.self.inside.bytes c.self.inside.len c.self.invariant c.args.self.now c.self.view_is

pub returns-else-self-le64-clause-kept : goal.returns-else-self-le64-clause-kept
returns-else-self-le64-clause-kept c = all_by c.self.inside.bytes c.self.inside.len c.self.invariant c.args.self.now c.self.view_is (let h = c.if-self-le64.false in omega arith)
