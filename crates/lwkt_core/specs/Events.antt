use Rattle.std.specs.Prelude.{ℕ, Bool, true, false}
use Rattle.lwkt_core.specs.declared.events.Event.{Event}
use Rattle.lwkt_core.specs.declared.events.Event.TheVariants.{Load, Take, Share, Again, Mark, GiveOne, GiveClean, GiveWritten, Read, Write, ReadBlob, WriteBlob, Send, TakeMsg, DropMsg, Reply, Reap, Abort}
use Rattle.lwkt_core.specs.declared.events.Place.{Place}
use Rattle.lwkt_core.specs.declared.events.Place.TheVariants.{AtToken, AtMessage}

-- the processor whose step an event is
abbrev pub cpu_of : Event → ℕ
cpu_of (Load cpu tok) = cpu.0
cpu_of (Take cpu tok) = cpu.0
cpu_of (Share cpu tok) = cpu.0
cpu_of (Again cpu tok) = cpu.0
cpu_of (Mark cpu tok) = cpu.0
cpu_of (GiveOne cpu tok) = cpu.0
cpu_of (GiveClean cpu tok) = cpu.0
cpu_of (GiveWritten cpu tok section) = cpu.0
cpu_of (Read cpu tok cell value) = cpu.0
cpu_of (Write cpu tok cell value) = cpu.0
cpu_of (ReadBlob cpu tok blob) = cpu.0
cpu_of (WriteBlob cpu tok blob) = cpu.0
cpu_of (Send cpu msg to round) = cpu.0
cpu_of (TakeMsg cpu msg round) = cpu.0
cpu_of (DropMsg cpu msg) = cpu.0
cpu_of (Reply cpu msg) = cpu.0
cpu_of (Reap cpu msg) = cpu.0
cpu_of (Abort cpu msg) = cpu.0

-- the token or message that an event is at
abbrev pub place_of : Event → Place
place_of (Load cpu tok) = AtToken tok.0
place_of (Take cpu tok) = AtToken tok.0
place_of (Share cpu tok) = AtToken tok.0
place_of (Again cpu tok) = AtToken tok.0
place_of (Mark cpu tok) = AtToken tok.0
place_of (GiveOne cpu tok) = AtToken tok.0
place_of (GiveClean cpu tok) = AtToken tok.0
place_of (GiveWritten cpu tok section) = AtToken tok.0
place_of (Read cpu tok cell value) = AtToken tok.0
place_of (Write cpu tok cell value) = AtToken tok.0
place_of (ReadBlob cpu tok blob) = AtToken tok.0
place_of (WriteBlob cpu tok blob) = AtToken tok.0
place_of (Send cpu msg to round) = AtMessage msg.0
place_of (TakeMsg cpu msg round) = AtMessage msg.0
place_of (DropMsg cpu msg) = AtMessage msg.0
place_of (Reply cpu msg) = AtMessage msg.0
place_of (Reap cpu msg) = AtMessage msg.0
place_of (Abort cpu msg) = AtMessage msg.0

-- whether an event takes a reference to a token
abbrev pub adds_reference : Event → Bool
adds_reference (Take cpu tok) = true
adds_reference (Share cpu tok) = true
adds_reference (Again cpu tok) = true
adds_reference (Load cpu tok) = false
adds_reference (Mark cpu tok) = false
adds_reference (GiveOne cpu tok) = false
adds_reference (GiveClean cpu tok) = false
adds_reference (GiveWritten cpu tok section) = false
adds_reference (Read cpu tok cell value) = false
adds_reference (Write cpu tok cell value) = false
adds_reference (ReadBlob cpu tok blob) = false
adds_reference (WriteBlob cpu tok blob) = false
adds_reference (Send cpu msg to round) = false
adds_reference (TakeMsg cpu msg round) = false
adds_reference (DropMsg cpu msg) = false
adds_reference (Reply cpu msg) = false
adds_reference (Reap cpu msg) = false
adds_reference (Abort cpu msg) = false
