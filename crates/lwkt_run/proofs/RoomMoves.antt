-- Room for the close of a machine stays enough.
use Rattle.std.proofs.Common.{◌≡◌, ◌∙◌, ℕ, List, length, sym, subst}
use Rattle.lwkt_bank.specs.Seats.{BankId}
use Rattle.lwkt_cpu.specs.Processors.{Processor}
use Rattle.lwkt_msg.specs.Desks.{Shelf}
use Rattle.lwkt_machine.specs.Bodies.{Scripted}
use Rattle.lwkt_machine.specs.Ended.{IsRoomFor}
use Rattle.lwkt_machine.specs.Machines.{Rig}
use Rattle.lwkt_machine.specs.declared.closings.CloseRoom.{CloseRoom}
use Rattle.lwkt_script.specs.declared.scripts.ThreadSpec.{ThreadSpec}
use Rattle.lwkt_run.specs.Running.{HasThreads}

-- where its bank, its book and the number of its processors are the same
pub room_stays : (old new : Rig Scripted) (room : CloseRoom Scripted) → new.bank ≡ old.bank → new.book ≡ old.book → length new.cpus ≡ length old.cpus → IsRoomFor old.bank old.book (length old.cpus) room → IsRoomFor new.bank new.book (length new.cpus) room
room_stays old new room bank book many is =
    let F : BankId → Type 0 = λ b. IsRoomFor b old.book (length old.cpus) room in
    let G : Shelf → Type 0 = λ s. IsRoomFor new.bank s (length old.cpus) room in
    let H : ℕ → Type 0 = λ n. IsRoomFor new.bank new.book n room in
    subst H (sym many) (subst G (sym book) (subst F (sym bank) is))

-- both have the threads of a script
pub as_many : (cpus : ℕ) (threads : List ThreadSpec) (olds news : List (Processor Scripted)) → HasThreads cpus threads olds → HasThreads cpus threads news → length news ≡ length olds
as_many cpus threads olds news old new = new.as_many ∙ sym old.as_many
