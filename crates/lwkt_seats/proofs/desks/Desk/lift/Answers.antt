use Rattle.std.proofs.Common.{◌∙◌}
use Rattle.std.specs.Prelude.{Some, None}
use Rattle.lwkt_seats.proofs.Answering.{holds_slot, filled, seated_in}
use Rattle.lwkt_seats.proofs.desks.Desk.lift.Goals as goal

pub exchange-requires : goal.exchange-requires
exchange-requires c = (c.requires.1, holds_slot c.args.self.now.places.shared.key c.args.number c.args.hand.me c.requires.2)

pub returns : goal.returns
returns c =
    let key = c.args.self.now.places.shared.key in
    let out = c.requires.2 in
    record {
      there = c.requires.0;
      table = c.exchange.ensures.0 ∙ c.requires.1;
      right = c.exchange.ensures.3 ∙ filled key c.args.number None (Some out.0) c.args.hand.me out.1.0;
      seated = seated_in key c.args.number c.args.hand.me out c.exchange.result c.in-Some.sitter c.exchange.ensures.2 c.in-Some.is;
    }
