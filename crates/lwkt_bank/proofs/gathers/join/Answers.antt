use Rattle.std.proofs.Common.{◌∙◌, sym}
use Rattle.lwkt_bank.proofs.LedgerMoves.{Ledger-join}
use Rattle.lwkt_table.proofs.SeatingLemmas.{set_else}
use Rattle.lwkt_bank.specs.Views.{joined}
use Rattle.lwkt_bank.proofs.gathers.join.Goals as goal

pub join_seat-requires : goal.join_seat-requires
join_seat-requires c =
    let key = c.args.table.now.shared.key in
    let desk = c.requires.desk in
    let v = c.args.clerk.now.me.0 in
    let w = c.args.other.me.0 in (
      c.requires.same.0,
      c.requires.same.1,
      c.requires.slots,
      c.requires.words,
      λ s ledger here apart there.
          (Ledger-join key.plans.items key.cpus s c.args.clerk.now.id v desk.0 desk.1 c.args.other.id c.args.cpu w ledger here desk.2 apart (sym (set_else s.views c.args.clerk.now.id c.args.other.id (joined v w) apart) ∙ there) c.requires.named c.requires.quiet).0,
    )
