use Rattle.lwkt_cpu.proofs.MailTraceMoves.{mail_unmade}
use Rattle.lwkt_cpu.proofs.mails.is_aborted.Goals as goal

pub returns-clause-traced : goal.returns-clause-traced
returns-clause-traced c = let m = c.is_aborted-came in λ events. mail_unmade c.args.ports.now.seat m.new.self.seat events (m.ensures.traced events)
