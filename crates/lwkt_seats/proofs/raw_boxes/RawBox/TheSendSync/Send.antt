use mir.Raw.{raw}
use denote.Memory.{lone}
use denote.RattleType.{RattleType}
use denote.Struct.Struct.{exits_of}
use denote.Struct.Owning.{shape, fields, to}
use denote.Param.Send.{IsSend, Frees, AllSend, owning_send, struct_send, sendable}
use Rattle.core.specs.declared.alloc.Allocator.{Ghosts}
use Rattle.std_alloc.proofs.SendSync.{quiet, lies}
use Rattle.lwkt_seats.specs.contracts.raw_boxes.RawBox.{the_row, the_type}

pub send : (T A : RattleType) (g : Ghosts A.Denot) → IsSend T → IsSend A → Frees g g.dealloc_token → IsSend (the_row T A g)
send T A g t s f =
    let O = the_type T A g in
    let all : AllSend (fields O) = (search sendable, (s, tt)) in
    owning_send O all (λ d. (lies T t d.ptr d.value, f.frees d.alloc (raw (lone T.mir)) d.ptr)) (λ k. quiet (to O) (exits_of k (fields O)) ((struct_send (shape O) all).leaving k))
