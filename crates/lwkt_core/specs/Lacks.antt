-- Which of an event's needs is the first that isn't met (own).
use Rattle.std.specs.Prelude.{◌≡◌, ◌⊎◌, ℕ, ◌+◌, ◌<◌, ◌≤◌, true, length, Option, Some, slice_get, slice_index, MatchOption}
use Rattle.lwkt_base.specs.declared.names.Mode.TheVariants.{Exclusive}
use Rattle.lwkt_base.specs.declared.holdings.Held.TheVariants.{Nothing, Holds}
use Rattle.lwkt_base.specs.declared.owners.Owner.TheVariants.{Rest}
use Rattle.lwkt_base.specs.declared.limits.TheConstants.{LAST_GENERATION, LAST_ROUND, LIST_LIMIT, RECORD_LIMIT}
use Rattle.lwkt_core.specs.declared.tokens.Token.{Token}
use Rattle.lwkt_core.specs.declared.messages.Message.{Message}
use Rattle.lwkt_core.specs.declared.lacks.Lack.{Lack}
use Rattle.lwkt_core.specs.declared.lacks.Lack.TheVariants.{NoProcessor, NoToken, NoMessage, TooManyReferences, Held, HeldExclusively, HeldAlready, LastGeneration, NotHeld, NotHeldExclusively, LastExclusive, FurtherReferences, RowChanged, RecordChanged, RowUnchanged, LawBroken, OtherSection, NoCell, OtherValue, LessThanBefore, NoRecord, OtherRecord, RecordLong, NotAtRest, NoTarget, LastRound, OtherRound, NotOut, NotTaken, NotReplied, NotAway}
use Rattle.lwkt_core.specs.declared.events.Event.{Event}
use Rattle.lwkt_core.specs.declared.events.Event.TheVariants.{Load, Take, Share, Again, Mark, GiveOne, GiveClean, GiveWritten, Read, Write, ReadBlob, WriteBlob, Send, TakeMsg, DropMsg, Reply, Reap, Abort}
use Rattle.lwkt_core.specs.declared.events.Place.{Place}
use Rattle.lwkt_core.specs.declared.events.Place.TheVariants.{AtToken, AtMessage}
use Rattle.lwkt_core.specs.Events.{cpu_of, place_of, adds_reference}
use Rattle.lwkt_core.specs.Tokens.{held_by, IsFree, IsOpen, IsHolder, IsExclusiveHolder, IsNotLastExclusive, MayWrite, HasRecord, IsClean, IsLawful, section_at, TokenNeeds}
use Rattle.lwkt_core.specs.Messages.{IsOutTo, IsOutFrom, IsWith, IsBackTo, MayBeAborted, MessageNeeds}
use Rattle.lwkt_core.specs.Machine.{Machine, references_of, Needs}

-- the lack is the one of this name, and the need that it names isn't met
abbrev pub Fails : Lack → Lack → Type 0 → Type 0
Fails lack name Need = (lack ≡ name) × (¬ Need)

-- the same of the first of some needs; or that one is met, and the lack is of the needs after it
abbrev pub FirstFails : Lack → Lack → Type 0 → Type 0 → Type 0
FirstFails lack name Need Later = Fails lack name Need ⊎ (Need × Later)

-- which of an event's needs of its token is the first that isn't met; a message's event has no token
abbrev pub TokenLacks : Token → Event → Lack → Type 0
TokenLacks tok (Load cpu t) lack = ⊥
TokenLacks tok (Take cpu t) lack = FirstFails lack Held (IsFree tok) (Fails lack LastGeneration (tok.generation < LAST_GENERATION))
TokenLacks tok (Share cpu t) lack = FirstFails lack HeldExclusively (IsOpen tok) (Fails lack HeldAlready (held_by tok cpu.0 ≡ Nothing))
TokenLacks tok (Again cpu t) lack = Fails lack NotHeld (IsHolder tok cpu.0)
TokenLacks tok (Mark cpu t) lack = ⊥
TokenLacks tok (GiveOne cpu t) lack = FirstFails lack NotHeld (IsHolder tok cpu.0) (Fails lack LastExclusive (IsNotLastExclusive (held_by tok cpu.0)))
TokenLacks tok (GiveClean cpu t) lack = FirstFails lack NotHeldExclusively (IsExclusiveHolder tok cpu.0) (FirstFails lack FurtherReferences (held_by tok cpu.0 ≡ Holds Exclusive 0) (FirstFails lack RowChanged (tok.row ≡ tok.first) (Fails lack RecordChanged (tok.blob ≡ tok.first_blob))))
TokenLacks tok (GiveWritten cpu t section) lack = FirstFails lack NotHeldExclusively (IsExclusiveHolder tok cpu.0) (FirstFails lack FurtherReferences (held_by tok cpu.0 ≡ Holds Exclusive 0) (FirstFails lack RowUnchanged (¬ IsClean tok) (FirstFails lack LawBroken (IsLawful tok) (Fails lack OtherSection (section ≡ section_at t tok)))))
TokenLacks tok (Read cpu t cell value) lack = FirstFails lack NotHeld (IsHolder tok cpu.0) (FirstFails lack NoCell (cell < length tok.row) (Fails lack OtherValue (slice_get tok.row cell ≡ Some value)))
TokenLacks tok (Write cpu t cell value) lack = FirstFails lack NotHeldExclusively (IsExclusiveHolder tok cpu.0) (FirstFails lack NoCell (cell < length tok.row) (Fails lack LessThanBefore (MayWrite tok.law (slice_index tok.row cell) value)))
TokenLacks tok (ReadBlob cpu t blob) lack = FirstFails lack NotHeldExclusively (IsExclusiveHolder tok cpu.0) (FirstFails lack NoRecord (HasRecord tok) (Fails lack OtherRecord (tok.blob ≡ Some blob)))
TokenLacks tok (WriteBlob cpu t blob) lack = FirstFails lack NotHeldExclusively (IsExclusiveHolder tok cpu.0) (FirstFails lack NoRecord (HasRecord tok) (Fails lack RecordLong (length blob ≤ RECORD_LIMIT)))
TokenLacks tok (Send cpu msg to round) lack = lack ≡ NoToken
TokenLacks tok (TakeMsg cpu msg round) lack = lack ≡ NoToken
TokenLacks tok (DropMsg cpu msg) lack = lack ≡ NoToken
TokenLacks tok (Reply cpu msg) lack = lack ≡ NoToken
TokenLacks tok (Reap cpu msg) lack = lack ≡ NoToken
TokenLacks tok (Abort cpu msg) lack = lack ≡ NoToken

-- which of an event's needs of its message is the first that isn't met; a token's event has no message
abbrev pub MessageLacks : ℕ → Message → Event → Lack → Type 0
MessageLacks cpus msg (Send cpu m to round) lack = FirstFails lack NotAtRest (msg.owner ≡ Rest cpu) (FirstFails lack NoTarget (to.0 < cpus) (FirstFails lack LastRound (round ≤ LAST_ROUND) (Fails lack OtherRound (round ≡ msg.round + 1))))
MessageLacks cpus msg (TakeMsg cpu m round) lack = FirstFails lack NotOut (IsOutTo cpu msg.owner) (Fails lack OtherRound (round ≡ msg.round))
MessageLacks cpus msg (DropMsg cpu m) lack = Fails lack NotOut (IsOutFrom cpu msg.owner)
MessageLacks cpus msg (Reply cpu m) lack = Fails lack NotTaken (IsWith cpu msg.owner)
MessageLacks cpus msg (Reap cpu m) lack = Fails lack NotReplied (IsBackTo cpu msg.owner)
MessageLacks cpus msg (Abort cpu m) lack = Fails lack NotAway (MayBeAborted cpu msg.owner)
MessageLacks cpus msg (Load cpu t) lack = lack ≡ NoMessage
MessageLacks cpus msg (Take cpu t) lack = lack ≡ NoMessage
MessageLacks cpus msg (Share cpu t) lack = lack ≡ NoMessage
MessageLacks cpus msg (Again cpu t) lack = lack ≡ NoMessage
MessageLacks cpus msg (Mark cpu t) lack = lack ≡ NoMessage
MessageLacks cpus msg (GiveOne cpu t) lack = lack ≡ NoMessage
MessageLacks cpus msg (GiveClean cpu t) lack = lack ≡ NoMessage
MessageLacks cpus msg (GiveWritten cpu t section) lack = lack ≡ NoMessage
MessageLacks cpus msg (Read cpu t cell value) lack = lack ≡ NoMessage
MessageLacks cpus msg (Write cpu t cell value) lack = lack ≡ NoMessage
MessageLacks cpus msg (ReadBlob cpu t blob) lack = lack ≡ NoMessage
MessageLacks cpus msg (WriteBlob cpu t blob) lack = lack ≡ NoMessage

-- what isn't met at a place: there is nothing of its number, or the first need that what it has doesn't meet
abbrev pub PlaceLacks : Machine → Event → Place → Lack → Type 0
PlaceLacks m e (AtToken i) lack = MatchOption (slice_get m.tokens i) (lack ≡ NoToken) (λ tok. TokenLacks tok e lack)
PlaceLacks m e (AtMessage i) lack = MatchOption (slice_get m.messages i) (lack ≡ NoMessage) (λ msg. MessageLacks m.cpus msg e lack)

-- which of an event's needs is the first that isn't met
abbrev pub Lacks : Machine → Event → Lack → Type 0
Lacks m e lack = FirstFails lack NoProcessor (cpu_of e < m.cpus) (FirstFails lack TooManyReferences (adds_reference e ≡ true → references_of m.tokens (cpu_of e) < LIST_LIMIT) (PlaceLacks m e (place_of e) lack))

-- what is found of an event's needs of its token, or of its message: nothing where they are met, or the first that isn't
abbrev pub FindsTokenLack : Token → Event → Option Lack → Type 0
FindsTokenLack tok e finding = MatchOption finding (TokenNeeds tok e) (λ lack. TokenLacks tok e lack)

abbrev pub FindsMessageLack : ℕ → Message → Event → Option Lack → Type 0
FindsMessageLack cpus msg e finding = MatchOption finding (MessageNeeds cpus msg e) (λ lack. MessageLacks cpus msg e lack)

-- a law: an event that lacks something can't happen
abbrev pub LackRefutes : Type 0
LackRefutes = (m : Machine) (e : Event) (lack : Lack) → Lacks m e lack → ¬ Needs m e
