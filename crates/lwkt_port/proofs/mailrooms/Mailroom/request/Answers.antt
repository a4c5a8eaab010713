use Rattle.std.proofs.Common.{◌<◌, length, rules}
use Rattle.lwkt_port.proofs.Withdrawing.{asked_keeps}
use Rattle.lwkt_port.proofs.mailrooms.Mailroom.request.Goals as goal

pub invariant_of-self : goal.invariant_of-self
invariant_of-self c =
    let r = c.args.self.now in
    let there : c.args.msg.0 < length r.mails.items = search rules in
    record { kept = asked_keeps c.abort.result r.seat c.abort.new.self r.mails.items c.args.msg c.abort.ensures.seat c.abort.ensures.answer there r.kept }
