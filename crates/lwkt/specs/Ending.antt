-- How the program ends, and its exit status (own).
use Rattle.std.specs.Prelude.{◌≡◌, ℕ, Bool, true, false, Result, Ok, Err}
use Rattle.lwkt_base.specs.declared.faults.Fault.TheVariants as fault
use Rattle.lwkt_report.specs.declared.arguments.WordsFault.{WordsFault}
use Rattle.lwkt_report.specs.declared.arguments.WordsFault.TheVariants as words
use Rattle.lwkt_report.specs.declared.streams.RunFault.{RunFault}
use Rattle.lwkt_report.specs.declared.streams.RunFault.TheVariants as run
use Rattle.lwkt.specs.declared.endings.Ending.{Ending}
use Rattle.lwkt.specs.declared.endings.Ending.TheVariants.{Done, Memory, Stream}

-- the exit status
abbrev pub status_at : Ending → ℕ
status_at (Done status) = status
status_at (Memory refused) = 3
status_at Stream = 3

-- memory was refused
abbrev pub WantsMemory : Ending → Type 0
WantsMemory (Memory refused) = Unit {0}
WantsMemory _ = ⊥

-- memory was refused, or a file or a stream failed
abbrev pub HasFailed : Ending → Type 0
HasFailed (Done status) = ⊥
HasFailed (Memory refused) = Unit {0}
HasFailed Stream = Unit {0}

-- the exit status 3 says that memory was refused, or that a file or a stream failed
abbrev pub OwnsThree : Ending → Type 0
OwnsThree ending = status_at ending ≡ 3 → HasFailed ending

-- how a check ended: with a finding, or with a fault
abbrev pub ending_of_check : Result Bool RunFault → Ending
ending_of_check (Ok true) = Done 0
ending_of_check (Ok false) = Done 4
ending_of_check (Err (run.Fault (fault.Memory refused))) = Memory refused
ending_of_check (Err (run.Fault _)) = Done 1
ending_of_check (Err run.Stream) = Stream

-- how the program ends where its words aren't known
abbrev pub ending_of_words : WordsFault → Ending
ending_of_words (words.Memory refused) = Memory refused
ending_of_words words.NotUtf8 = Done 1
