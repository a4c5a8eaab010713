use Rattle.lwkt_bank.specs.Rule.{token_word}
use Rattle.lwkt_bank.specs.Seats.{id_of, cpus_of}
use Rattle.lwkt_tie.proofs.SoundMoves.{now_as, found}
use Rattle.lwkt_tie.proofs.looks.word_now.Goals as goal

pub returns : goal.returns
returns c =
    let bank = c.args.bank.now in
    let t = c.args.tok.0 in
    let key = c.shared.result.now.key in
    found c.runs_are_compatible.ensures c.runs_keep_laws.ensures (id_of bank) (cpus_of bank) t c.word_found.result c.requires
    (now_as key.plans.items (id_of bank).plans key.cpus (cpus_of bank) c.place_of.result (token_word t) c.word_found.result c.shared.ensures.plans c.shared.ensures.processors c.place_of.ensures c.word_found.ensures)
