use Rattle.std.proofs.Common.{codes, string_bytes}
use Rattle.lwkt_checker.specs.Said.{said, cell_said, raised_said}
use Rattle.lwkt_checker.proofs.Sayings.{then_said, raised_is}
use Rattle.lwkt_checker.proofs.lacks.show_raised.Goals as goal

pub returns : goal.returns
returns c =
    let tok = c.args.token.now in
    let e = c.args.event.now in
    then_said c.say.result (string_bytes c.args.out.now) (string_bytes c.show_cell.new.out) (string_bytes c.say.new.out) (cell_said tok e) (said (codes ", and a tally is only raised")) (raised_said tok e) c.in_ok-show_cell.ensures c.say.ensures (raised_is tok e)
