use Rattle.lwkt_tie.proofs.LookMoves.{allows}
use Rattle.lwkt_tie.proofs.looks.word_found_beside.Goals as goal

pub load-requires : goal.load-requires
load-requires g c =
    let table = c.args.table.now in
    let seat = c.args.seat.now in
    (c.requires.of.0, c.requires.there, allows table.key.plans.items table.key.cpus g.K.Processors.cpus table.table_id.slots seat.id c.args.word seat.me.0 seat.me.1 c.requires.processors c.requires.of.1)
