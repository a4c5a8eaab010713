use Rattle.lwkt_machine.proofs.StatusMoves.{pushed_more}
use Rattle.lwkt_machine.proofs.statuses.list_of.Goals as goal

pub loop-r-preserved : goal.loop-r-preserved
loop-r-preserved c =
    let e = c.push.ensures in
    pushed_more c.args.refs.now c.loop-r.r-index _ c.loop-r.list c.push.new.self c.push.result c.loop-r-test.true c.requires.few c.requires.lawful c.loop-r.invariant e.ok e.full.0 e.upgrade.0 e.only
