use Rattle.lwkt_msg.specs.Views.{word_at}
use Rattle.lwkt_tie.proofs.MailMoves.{beside_as, found_beside}
use Rattle.lwkt_tie.proofs.mails.mail_beside.Goals as goal

pub returns : goal.returns
returns c =
    let book = c.args.book.now in
    let m = c.args.msg.0 in
    let key = c.shared.result.now.key in
    let seat = c.into_seat-place.result in
    found_beside c.rule_shows_safety.ensures.safe c.rule_shows_safety.ensures.once c.states_are_reached.ensures.reached book c.args.seat seat c.into_seat-place.ensures.is c.into_seat-place.ensures.kind m c.mail_found_beside.result c.requires.there
    (beside_as key.specs.items book.specs key.cpus book.cpus seat.me.0 c.place_of.result (word_at m) c.mail_found_beside.result c.shared.ensures.specs c.shared.ensures.processors c.place_of.ensures c.mail_found_beside.ensures)
