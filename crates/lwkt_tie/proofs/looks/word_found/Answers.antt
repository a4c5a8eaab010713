use Rattle.lwkt_tie.proofs.LookMoves.{enters}
use Rattle.lwkt_tie.proofs.looks.word_found.Goals as goal

pub load_new_seat-found-requires : goal.load_new_seat-found-requires
load_new_seat-found-requires g c =
    let table = c.args.table.now in
    (c.requires.there, enters c.looks_from_outside_are_no_deeds.ensures table.key.plans.items table.key.cpus g.K.Processors.cpus table.table_id.slots c.args.word c.requires.processors)
