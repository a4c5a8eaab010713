use Rattle.lwkt_seats.proofs.PlaceMoves.{inside, claims_at}
use Rattle.lwkt_seats.proofs.desks.Desk.take_out.Goals as goal

pub swap_new_seat-found-requires : goal.swap_new_seat-found-requires
swap_new_seat-found-requires c =
    let t = c.args.self.now.places.shared in
    let word = c.word_of_place-word in (
      inside t.key t.table_id.slots t.table_id.words c.args.number word.result c.requires c.args.self.now.wide word.ensures,
      claims_at t.key t.table_id.slots t.table_id.words c.args.number word.result c.requires c.args.self.now.wide word.ensures,
    )

pub returns : goal.returns
returns c = (c.requires, c.swap_new_seat-found.ensures.0, c.swap_new_seat-found.ensures.1 c.if-found-ne-AT_REST.false c.args.number c.word_of_place-word.ensures)
