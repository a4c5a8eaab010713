use Rattle.std.proofs.Common.{rules, ◌≡◌, ◌<◌, length}
use Rattle.lwkt_port.specs.Mails.{kept_mail_at}
use Rattle.lwkt_port.specs.Works.{work}
use Rattle.lwkt_port.proofs.Dispatching.{answered_over}
use Rattle.lwkt_port.proofs.offices.Office.answer.Goals as goal

pub returns-clause-means : goal.returns-clause-means
returns-clause-means c =
    let o = c.args.self.now in
    let n = c.reply_over-made.new in
    let there : c.from-at.result < length o.lanes.items = search rules in
    let at : c.from-at.result ≡ (kept_mail_at o.counters.room.mails.items c.args.msg.0).origin.cpu.0 = search rules in
    answered_over c.reply_over-made.result c.args.msg c.args.error c.args.outcome o.lanes.items c.index_mut-line.result.now n.line (work o.counters.room c.args.trace.now) (work n.self n.trace) c.from-at.result there c.index_mut-line.ensures.value at c.reply_over-made.ensures.means
