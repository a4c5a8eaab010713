use Rattle.std.proofs.Common.{◌∙◌}
use Rattle.std.specs.Prelude.{Some, None}
use Rattle.lwkt_seats.proofs.Answering.{filled}
use Rattle.lwkt_seats.proofs.desks.Desk.set_down.Goals as goal

pub put_back-requires : goal.put_back-requires
put_back-requires c =
    let key = c.args.self.now.places.shared.key in
    let x = c.args.taken in
    (c.requires.there, c.exchange.ensures.0 ∙ c.requires.table, (x.sitter, (c.exchange.ensures.3 ∙ filled key c.args.number (Some x.sitter) None x.hand.me c.requires.right, c.requires.seated)))
