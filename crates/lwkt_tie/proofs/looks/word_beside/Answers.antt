use Rattle.lwkt_bank.specs.Rule.{token_word}
use Rattle.lwkt_bank.specs.Seats.{id_of, cpus_of}
use Rattle.lwkt_tie.proofs.SoundMoves.{beside_as, found_beside}
use Rattle.lwkt_tie.proofs.looks.word_beside.Goals as goal

pub returns : goal.returns
returns c =
    let bank = c.args.bank.now in
    let t = c.args.tok.0 in
    let key = c.shared.result.now.key in
    let seat = c.into_seat-place.result in
    found_beside (id_of bank) (cpus_of bank) c.args.seat seat c.into_seat-place.ensures t c.word_found_beside.result
    (beside_as key.plans.items (id_of bank).plans key.cpus (cpus_of bank) seat.me.0 c.place_of.result (token_word t) c.word_found_beside.result c.shared.ensures.plans c.shared.ensures.processors c.place_of.ensures c.word_found_beside.ensures)
    c.runs_are_compatible.ensures c.runs_keep_laws.ensures c.requires.there
