use denote.RattleType.{RattleType}
use denote.Param.Send.{IsSend, IsSync, Frees, part_keyless}
use Rattle.core.specs.declared.alloc.Allocator.{Ghosts}
use Rattle.lwkt_seats.specs.contracts.raw_boxes.RawBox.{the_row}
use Rattle.lwkt_seats.proofs.raw_boxes.RawBox.TheSendSync.Send.{send}

pub sync : (T A : RattleType) (g : Ghosts A.Denot) → IsSend T → IsSend A → Frees g g.dealloc_token → IsSync (the_row T A g)
sync T A g t s f = record { shared = λ d b o ν q. part_keyless (the_row T A g) (send T A g t s f) q d b o }
