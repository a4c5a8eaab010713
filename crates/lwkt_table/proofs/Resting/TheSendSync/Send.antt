use denote.RattleType.{RattleType}
use denote.Param.Send.{IsSend, owning_send}
use Rattle.atomic_table.proofs.shared.Seat.TheSendSync as seat
use Rattle.lwkt_table.specs.contracts.Resting.{the_row, the_type}

pub send : (S V : RattleType) → IsSend S → IsSend (the_row S V)
send S V s = owning_send (the_type S V) (seat.the_send S V s, tt) (λ d. tt) (λ k x w. (tt, tt))
