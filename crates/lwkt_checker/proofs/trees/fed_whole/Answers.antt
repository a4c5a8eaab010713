use Rattle.lwkt_checker.proofs.Knowing.{closes_whole}
use Rattle.lwkt_checker.proofs.trees.fed_whole.Goals as goal

pub returns-in-Ok : goal.returns-in-Ok
returns-in-Ok c =
    let parts = c.parted-opening in
    closes_whole c.and_last.result c.args.trace parts.result.0 parts.result.1 parts.result.2 c.in-Ok.judge parts.ensures.opening parts.ensures.events parts.ensures.last c.in-Ok.ensures c.and_last.ensures
