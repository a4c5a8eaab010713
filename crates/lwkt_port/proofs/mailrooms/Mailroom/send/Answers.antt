use Rattle.lwkt_port.proofs.Deeding.{refused_keeps}
use Rattle.lwkt_port.proofs.mailrooms.Mailroom.send.Goals as goal

pub invariant_of-self-in-Err-1 : goal.invariant_of-self-in-Err-1
invariant_of-self-in-Err-1 c = record { kept = refused_keeps c.args.sending.now.msg c.args.self.now.seat c.send.new.self c.args.self.now.mails.items c.in-Err._fault c.in-Err.ensures.seat c.in-Err.ensures.answer c.args.self.now.kept }
