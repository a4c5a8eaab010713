use denote.RattleType.{RattleType}
use denote.Param.Send.{IsSend, IsSync, part_keyless}
use Rattle.lwkt_table.specs.contracts.Resting.{the_row}
use Rattle.lwkt_table.proofs.Resting.TheSendSync.Send.{send}

-- what a reference holds is a part of the whole, and that names no thread
pub sync : (S V : RattleType) → IsSend S → IsSync (the_row S V)
sync S V s = record { shared = λ d b o ν q. part_keyless (the_row S V) (send S V s) q d b o }
