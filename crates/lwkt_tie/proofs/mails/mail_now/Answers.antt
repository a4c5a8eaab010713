use Rattle.lwkt_msg.specs.Views.{word_at}
use Rattle.lwkt_tie.proofs.MailMoves.{now_as, found}
use Rattle.lwkt_tie.proofs.mails.mail_now.Goals as goal

pub returns : goal.returns
returns c =
    let book = c.args.book.now in
    let m = c.args.msg.0 in
    let key = c.shared.result.now.key in
    found c.rule_shows_safety.ensures.safe c.rule_shows_safety.ensures.once c.states_are_reached.ensures.reached book m c.mail_found.result c.requires
    (now_as key.specs.items book.specs key.cpus book.cpus c.place_of.result (word_at m) c.mail_found.result c.shared.ensures.specs c.shared.ensures.processors c.place_of.ensures c.mail_found.ensures)
