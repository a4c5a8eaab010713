-- The number that a fault carries beside its own.
use Rattle.std.specs.Prelude.{ℕ}
use Rattle.lwkt_base.specs.declared.faults.Fault.{Fault}
use Rattle.lwkt_base.specs.declared.faults.Fault.TheVariants.{ListFull, Upgrade, NotLast, NotHeld, SwapSame, SwapShort, NoToken, NoCell, SharedWrite, Broken, Worn, Overflow, TallyOnly, Busy, LaneFull, NotOwner, NotOut, NotAbortable, NotDropable, SelfDo, NoPort, NotTaken, Memory, Script, Again, Unlawful, RoundsOut, SharedRecord, RecordLong, Limits, LawBroken, Assertion}

-- the number that a fault carries, or 0
abbrev pub carried : Fault → ℕ
carried ListFull = 0
carried Upgrade = 0
carried NotLast = 0
carried NotHeld = 0
carried SwapSame = 0
carried SwapShort = 0
carried NoToken = 0
carried NoCell = 0
carried SharedWrite = 0
carried Broken = 0
carried Worn = 0
carried Overflow = 0
carried TallyOnly = 0
carried Busy = 0
carried LaneFull = 0
carried NotOwner = 0
carried NotOut = 0
carried NotAbortable = 0
carried NotDropable = 0
carried SelfDo = 0
carried NoPort = 0
carried NotTaken = 0
carried (Memory refused) = 0
carried (Script place) = place
carried Again = 0
carried (Unlawful index) = index
carried RoundsOut = 0
carried SharedRecord = 0
carried RecordLong = 0
carried Limits = 0
carried LawBroken = 0
carried Assertion = 0
