use Rattle.lwkt_base.proofs.BlobLemmas.{len_by, bytes_by}
use Rattle.lwkt_base.proofs.blobs.BlobPartialEq.eq.Goals as goal

pub returns : goal.returns
returns c =
    let one = len_by c.t1-1.inside.bytes c.t1-1.inside.len c.t1-1.invariant c.args.self.now c.t1-1.view_is in
    let two = bytes_by c.t1-1.inside.bytes c.t1-1.inside.len c.t1-1.invariant c.args.self.now c.t1-1.view_is in
    let three = len_by c.t2-1.inside.bytes c.t2-1.inside.len c.t2-1.invariant c.args.other.now c.t2-1.view_is in
    let four = bytes_by c.t2-1.inside.bytes c.t2-1.inside.len c.t2-1.invariant c.args.other.now c.t2-1.view_is in
    rw (one, two, three, four) (rw (← c.eq.ensures) c.and_eq.ensures)
