use Rattle.lwkt_port.proofs.Departing.{owes_none}
use Rattle.lwkt_port.proofs.closings.owe_all.Goals as goal

pub loop-m-init : goal.loop-m-init
loop-m-init c = owes_none c.args.thread c.args.mails.now.items
