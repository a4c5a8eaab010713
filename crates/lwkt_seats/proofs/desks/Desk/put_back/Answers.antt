use Rattle.lwkt_seats.proofs.PlaceMoves.{inside, leaves_at}
use Rattle.lwkt_seats.proofs.desks.Desk.put_back.Goals as goal

pub store-requires : goal.store-requires
store-requires c =
    let t = c.args.self.now.places.shared in
    let word = c.word_of_place-word in (
      c.requires.1,
      inside t.key t.table_id.slots t.table_id.words c.args.number word.result c.requires.0 c.args.self.now.wide word.ensures,
      leaves_at t.key t.table_id.slots t.table_id.words c.args.number word.result c.requires.0 c.args.self.now.wide word.ensures c.args.hand.id c.args.hand.me c.requires.2,
    )
