use Rattle.lwkt_msg.specs.Desks.{desk_cpu}
use Rattle.lwkt_cpu.proofs.MailTraceMoves.{mail_traced}
use Rattle.lwkt_cpu.proofs.mails.reply.Goals as goal

pub returns-clause-traced : goal.returns-clause-traced
returns-clause-traced c =
    let m = c.reply-came in
    mail_traced (desk_cpu c.args.ports.now.seat) 1 c.args.ports.now.seat m.new.self.seat c.args.trace.now m.new.trace m.ensures.traced m.ensures.grew
