use Rattle.lwkt_bank.specs.Seats.{id_of, cpus_of}
use Rattle.lwkt_tie.proofs.SoundMoves.{ledger_as, sound}
use Rattle.lwkt_tie.proofs.laws.states_are_sound.Goals as goal

pub returns : goal.returns
returns c = λ key s plans cpus holds.
    let bank = c.args.bank.now in
    let ledger = ledger_as key.plans.items (id_of bank).plans key.cpus (cpus_of bank) s plans cpus ((c.bank_keeps_that_rule.ensures key s).0 holds) in
    (ledger, sound c.runs_are_compatible.ensures c.runs_keep_laws.ensures (id_of bank).plans (cpus_of bank) s ledger)
