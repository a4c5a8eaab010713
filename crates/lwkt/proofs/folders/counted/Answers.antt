use Rattle.std.proofs.Common.{length}
use Rattle.lwkt.proofs.Countings.{have_failed}
use Rattle.lwkt.proofs.folders.counted.Goals as goal

pub returns-clause-failed : goal.returns-clause-failed
returns-clause-failed g c = λ fine some.
    have_failed (g.O.Write.contents c.put_count.new.sink.writer.writer) (length c.args.files.now) c.in_ok-failed.failed c.tried_all.ensures.more (c.in_ok-put_count.ensures.said.1 fine) c.in_ok-failed.ensures.within some
