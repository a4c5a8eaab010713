use Rattle.lwkt_refusals.proofs.Adding.{adds_twice}
use Rattle.lwkt.proofs.folders.try_named.Goals as goal

pub returns-clause-more : goal.returns-clause-more
returns-clause-more g c = adds_twice c.put-3.ensures.more c.put_bytes.ensures.more
