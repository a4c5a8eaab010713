use Rattle.lwkt_bank.proofs.LedgerMoves.{Ledger-split}
use Rattle.lwkt_bank.proofs.desks.split.Goals as goal

pub split_seat-requires : goal.split_seat-requires
split_seat-requires c =
    let key = c.args.table.now.shared.key in
    (c.requires.same, c.requires.words, λ s ledger here. (Ledger-split key.plans.items key.cpus s c.args.clerk.now.id c.args.clerk.now.me.0 c.args.cpu.0 0 ledger here c.requires.next c.requires.room).0)
