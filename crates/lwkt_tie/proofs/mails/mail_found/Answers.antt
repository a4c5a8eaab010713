use Rattle.lwkt_tie.proofs.MailMoves.{enters}
use Rattle.lwkt_tie.proofs.mails.mail_found.Goals as goal

pub load_new_seat-found-requires : goal.load_new_seat-found-requires
load_new_seat-found-requires g c =
    let table = c.args.table.now in
    let declared = g.D.Declared in
    (c.requires.there, enters c.looks_from_outside_are_no_deeds.ensures table.key declared.specs declared.cpus table.table_id.slots c.args.word c.requires.declared.0 c.requires.declared.1)
