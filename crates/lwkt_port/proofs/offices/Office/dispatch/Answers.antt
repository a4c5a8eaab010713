use Rattle.std.proofs.Common.{rules, ◌<◌, length}
use Rattle.lwkt_port.specs.Sendings.{MaySend}
use Rattle.lwkt_port.specs.Works.{work}
use Rattle.lwkt_port.proofs.Dispatching.{not_dispatched}
use Rattle.lwkt_port.proofs.offices.Office.dispatch.Goals as goal

pub returns-clause-refused : goal.returns-clause-refused
returns-clause-refused c =
    let o = c.args.self.now in
    let n = c.send_over-sent.new in
    let may : MaySend c.args.sending.now o.counters.room.mails.items = search rules in
    let there : c.from-at.result < length o.lanes.items = search rules in
    not_dispatched c.send_over-sent.result c.args.sending.now o.lanes.items c.index_mut-line.result.now n.line (work o.counters.room c.args.trace.now) (work n.self n.trace) c.from-at.result may there c.index_mut-line.ensures.value c.from-at.ensures c.send_over-sent.ensures.means
