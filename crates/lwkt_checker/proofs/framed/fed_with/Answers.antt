use Rattle.lwkt_checker.proofs.Framing.{still_open, closes_written}
use Rattle.lwkt_checker.proofs.framed.fed_with.Goals as goal

pub closed_by-requires : goal.closed_by-requires
closed_by-requires c =
    let parts = c.parted-opening in still_open c.in-Ok.judge parts.result.0 c.args.trace c.args.text.now parts.ensures.opening c.in-Ok.ensures

pub returns-in-Ok : goal.returns-in-Ok
returns-in-Ok c =
    let parts = c.parted-opening in
    closes_written c.closed_by.result c.in-Ok.judge c.args.trace parts.result.0 parts.result.2 c.args.text.now parts.ensures.opening parts.ensures.last c.in-Ok.ensures c.closed_by.ensures
