-- Faults: their numbers and their messages (own).
use Rattle.std.specs.Prelude.{ℕ, List, [], ◌++◌, codes}
use Rattle.std.specs.Fmt.{decimal}
use Rattle.lwkt_base.specs.declared.faults.Fault.{Fault}
use Rattle.lwkt_base.specs.declared.faults.Fault.TheVariants.{ListFull, Upgrade, NotLast, NotHeld, SwapSame, SwapShort, NoToken, NoCell, SharedWrite, Broken, Worn, Overflow, TallyOnly, Busy, LaneFull, NotOwner, NotOut, NotAbortable, NotDropable, SelfDo, NoPort, NotTaken, Memory, Script, Again, Unlawful, RoundsOut, SharedRecord, RecordLong, Limits, LawBroken, Assertion}

-- want of memory. Each refusal of an allocator is the same value.
abbrev pub no_memory : Fault
no_memory = Memory (record { made = tt })

-- the number by which reports name a fault
abbrev pub number_of : Fault → ℕ
number_of ListFull = 10
number_of Upgrade = 11
number_of NotLast = 12
number_of NotHeld = 13
number_of SwapSame = 14
number_of SwapShort = 15
number_of NoToken = 16
number_of NoCell = 17
number_of SharedWrite = 18
number_of Broken = 19
number_of Worn = 20
number_of Overflow = 21
number_of TallyOnly = 22
number_of Busy = 23
number_of LaneFull = 24
number_of NotOwner = 25
number_of NotOut = 26
number_of NotAbortable = 27
number_of NotDropable = 28
number_of SelfDo = 29
number_of NoPort = 30
number_of NotTaken = 31
number_of (Memory refused) = 32
number_of (Script place) = 33
number_of Again = 34
number_of (Unlawful index) = 35
number_of RoundsOut = 36
number_of SharedRecord = 37
number_of RecordLong = 38
number_of Limits = 39
number_of LawBroken = 40
number_of Assertion = 42

-- the words of a fault's message, but for a number at the end
abbrev pub fault_words : Fault → List ℕ
fault_words ListFull = codes "list full"
fault_words Upgrade = codes "shared reference can't become exclusive"
fault_words NotLast = codes "not the last reference"
fault_words NotHeld = codes "token not held"
fault_words SwapSame = codes "swap of one token"
fault_words SwapShort = codes "swap needs two references"
fault_words NoToken = codes "no such token"
fault_words NoCell = codes "no such cell"
fault_words SharedWrite = codes "write under a shared token"
fault_words Broken = codes "law broken, cells restored"
fault_words Worn = codes "last generation"
fault_words Overflow = codes "sum too large"
fault_words TallyOnly = codes "call and law don't fit"
fault_words Busy = codes "token busy"
fault_words LaneFull = codes "lane full"
fault_words NotOwner = codes "message not owned"
fault_words NotOut = codes "message not out"
fault_words NotAbortable = codes "message not abortable"
fault_words NotDropable = codes "message not dropable"
fault_words SelfDo = codes "synchronous send to itself"
fault_words NoPort = codes "no such port"
fault_words NotTaken = codes "message not taken"
fault_words (Memory refused) = codes "out of memory"
fault_words (Script place) = codes "script refused at "
fault_words Again = codes "lost a race, try again"
fault_words (Unlawful index) = codes "unlawful at "
fault_words RoundsOut = codes "last round"
fault_words SharedRecord = codes "record under a shared token"
fault_words RecordLong = codes "record too long"
fault_words Limits = codes "limit passed"
fault_words LawBroken = codes "opening breaks its law"
fault_words Assertion = codes "assertion failed"

-- the number at the end of a fault's message
abbrev pub fault_place : Fault → List ℕ
fault_place (Script place) = decimal place
fault_place (Unlawful index) = decimal index
fault_place _ = []

-- a fault's message
abbrev pub fault_message : Fault → List ℕ
fault_message fault = fault_words fault ++ fault_place fault
