use Rattle.lwkt_tie.proofs.MailMoves.{allows}
use Rattle.lwkt_tie.proofs.mails.mail_found_beside.Goals as goal

pub load-requires : goal.load-requires
load-requires g c =
    let table = c.args.table.now in
    let seat = c.args.seat.now in
    let declared = g.D.Declared in
    (c.requires.of, c.requires.there, allows table.key declared.specs declared.cpus table.table_id.slots seat.id c.args.word seat.me.0 seat.me.1 c.requires.declared.0 c.requires.declared.1)
