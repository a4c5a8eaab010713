use Rattle.lwkt_bank.proofs.KeptMoves.{clerk_by_number}
use Rattle.lwkt_bank.proofs.banks.Bank.close_in.Goals as goal

pub close_seats-requires-clause-desk : goal.close_seats-requires-clause-desk
close_seats-requires-clause-desk c = clerk_by_number c.into_desk-desk.result.clerk.me.0.kind c.into_desk-desk.result.counts
