use Rattle.std.specs.Prelude.{◌≡◌, ℕ, ◌+◌, ◌<◌, ◌≤◌, Bool, true, false}
use Rattle.lwkt_base.specs.declared.names.CpuId.{CpuId}
use Rattle.lwkt_base.specs.declared.owners.Owner.{Owner}
use Rattle.lwkt_base.specs.declared.owners.Owner.TheVariants.{Rest, Out, With, Back}
use Rattle.lwkt_core.specs.declared.messages.Message.{Message}
use Rattle.lwkt_base.specs.declared.limits.TheConstants.{LAST_ROUND}
use Rattle.lwkt_core.specs.declared.events.Event.{Event}
use Rattle.lwkt_core.specs.declared.events.Event.TheVariants.{Load, Take, Share, Again, Mark, GiveOne, GiveClean, GiveWritten, Read, Write, ReadBlob, WriteBlob, Send, TakeMsg, DropMsg, Reply, Reap, Abort}

-- the processor that a message belongs to
abbrev pub origin_of : Owner → CpuId
origin_of (Rest origin) = origin
origin_of (Out origin target) = origin
origin_of (With origin target) = origin
origin_of (Back origin target) = origin

-- the processor that a message was sent to; at rest its origin
abbrev pub target_of : Owner → CpuId
target_of (Rest origin) = origin
target_of (Out origin target) = target
target_of (With origin target) = target
target_of (Back origin target) = target

-- the message is away from its origin
abbrev pub is_away : Owner → Bool
is_away (Rest origin) = false
is_away (Out origin target) = true
is_away (With origin target) = true
is_away (Back origin target) = true

-- 1 in Out, else 0
abbrev pub in_out : Owner → ℕ
in_out (Rest origin) = 0
in_out (Out origin target) = 1
in_out (With origin target) = 0
in_out (Back origin target) = 0

-- 1 in With, else 0
abbrev pub in_with : Owner → ℕ
in_with (Rest origin) = 0
in_with (Out origin target) = 0
in_with (With origin target) = 1
in_with (Back origin target) = 0

-- 1 in Back, else 0
abbrev pub in_back : Owner → ℕ
in_back (Rest origin) = 0
in_back (Out origin target) = 0
in_back (With origin target) = 0
in_back (Back origin target) = 1

-- where a message that is away went is one of so many processors
abbrev pub TargetIsThere : ℕ → Owner → Type 0
TargetIsThere cpus (Rest origin) = Unit {0}
TargetIsThere cpus (Out origin target) = target.0 < cpus
TargetIsThere cpus (With origin target) = target.0 < cpus
TargetIsThere cpus (Back origin target) = target.0 < cpus

-- a message is safe: it has one owner, each send is taken or dropped at most once and replied to at most once, and at rest
-- no abort is asked for (msgport(9); rounds, the drop by the origin and the abort request are own)
pub record IsSafeMessage (cpus : ℕ) (msg : Message) : Type 0 where
  pub home : origin_of msg.owner ≡ msg.origin.cpu
  pub origin_there : msg.origin.cpu.0 < cpus
  pub target_there : TargetIsThere cpus msg.owner
  pub in_range : msg.round ≤ LAST_ROUND
  pub sent : msg.opening + msg.sends ≡ msg.round
  pub taken : msg.takes + msg.drops + in_out msg.owner ≡ msg.sends
  pub replied : msg.replies + in_with msg.owner ≡ msg.takes
  pub reaped : msg.reaps + in_back msg.owner ≡ msg.replies
  pub quiet : is_away msg.owner ≡ false → msg.asked ≡ false

-- sent to this processor, and not taken yet
abbrev pub IsOutTo : CpuId → Owner → Type 0
IsOutTo cpu (Out origin target) = target ≡ cpu
IsOutTo cpu (Rest origin) = ⊥
IsOutTo cpu (With origin target) = ⊥
IsOutTo cpu (Back origin target) = ⊥

-- sent by this processor, and not taken yet
abbrev pub IsOutFrom : CpuId → Owner → Type 0
IsOutFrom cpu (Out origin target) = origin ≡ cpu
IsOutFrom cpu (Rest origin) = ⊥
IsOutFrom cpu (With origin target) = ⊥
IsOutFrom cpu (Back origin target) = ⊥

-- taken by this processor, and not replied to yet
abbrev pub IsWith : CpuId → Owner → Type 0
IsWith cpu (With origin target) = target ≡ cpu
IsWith cpu (Rest origin) = ⊥
IsWith cpu (Out origin target) = ⊥
IsWith cpu (Back origin target) = ⊥

-- replied to, and not taken back yet by this processor
abbrev pub IsBackTo : CpuId → Owner → Type 0
IsBackTo cpu (Back origin target) = origin ≡ cpu
IsBackTo cpu (Rest origin) = ⊥
IsBackTo cpu (Out origin target) = ⊥
IsBackTo cpu (With origin target) = ⊥

-- at rest with this processor, which may send it to another of so many, in the round after its last one (msgport(9); rounds are own)
abbrev pub MayBeSent : ℕ → Message → CpuId → CpuId → ℕ → Type 0
MayBeSent cpus msg cpu to round = (msg.owner ≡ Rest cpu) × (to.0 < cpus) × (round ≡ msg.round + 1) × (round ≤ LAST_ROUND)

-- away, and of this processor, which may ask for it to be aborted (lwkt_abortmsg of msgport(9))
abbrev pub MayBeAborted : CpuId → Owner → Type 0
MayBeAborted cpu owner = (origin_of owner ≡ cpu) × (is_away owner ≡ true)

-- what an event of a machine of so many processors needs of its message (msgport(9); rounds, drop and abort are own)
abbrev pub MessageNeeds : ℕ → Message → Event → Type 0
MessageNeeds cpus msg (Send cpu m to round) = MayBeSent cpus msg cpu to round
MessageNeeds cpus msg (TakeMsg cpu m round) = IsOutTo cpu msg.owner × (round ≡ msg.round)
MessageNeeds cpus msg (DropMsg cpu m) = IsOutFrom cpu msg.owner
MessageNeeds cpus msg (Reply cpu m) = IsWith cpu msg.owner
MessageNeeds cpus msg (Reap cpu m) = IsBackTo cpu msg.owner
MessageNeeds cpus msg (Abort cpu m) = MayBeAborted cpu msg.owner
MessageNeeds cpus msg (Load cpu tok) = ⊥
MessageNeeds cpus msg (Take cpu tok) = ⊥
MessageNeeds cpus msg (Share cpu tok) = ⊥
MessageNeeds cpus msg (Again cpu tok) = ⊥
MessageNeeds cpus msg (Mark cpu tok) = ⊥
MessageNeeds cpus msg (GiveOne cpu tok) = ⊥
MessageNeeds cpus msg (GiveClean cpu tok) = ⊥
MessageNeeds cpus msg (GiveWritten cpu tok section) = ⊥
MessageNeeds cpus msg (Read cpu tok cell value) = ⊥
MessageNeeds cpus msg (Write cpu tok cell value) = ⊥
MessageNeeds cpus msg (ReadBlob cpu tok blob) = ⊥
MessageNeeds cpus msg (WriteBlob cpu tok blob) = ⊥

-- the owner after the message was taken, and after it was replied to
abbrev pub owner_taken : Owner → Owner
owner_taken owner = With (origin_of owner) (target_of owner)

abbrev pub owner_replied : Owner → Owner
owner_replied owner = Back (origin_of owner) (target_of owner)

-- what an event leaves of its message (msgport(9); rounds, drop and abort are own)
abbrev pub message_after : Message → Event → Message
message_after msg (Send cpu m to round) = record msg { owner = Out cpu to; round = round; sends = msg.sends + 1 }
message_after msg (TakeMsg cpu m round) = record msg { owner = owner_taken msg.owner; takes = msg.takes + 1 }
message_after msg (DropMsg cpu m) = record msg { owner = Rest cpu; asked = false; drops = msg.drops + 1 }
message_after msg (Reply cpu m) = record msg { owner = owner_replied msg.owner; replies = msg.replies + 1 }
message_after msg (Reap cpu m) = record msg { owner = Rest cpu; asked = false; reaps = msg.reaps + 1 }
message_after msg (Abort cpu m) = record msg { asked = true }
message_after msg (Load cpu tok) = msg
message_after msg (Take cpu tok) = msg
message_after msg (Share cpu tok) = msg
message_after msg (Again cpu tok) = msg
message_after msg (Mark cpu tok) = msg
message_after msg (GiveOne cpu tok) = msg
message_after msg (GiveClean cpu tok) = msg
message_after msg (GiveWritten cpu tok section) = msg
message_after msg (Read cpu tok cell value) = msg
message_after msg (Write cpu tok cell value) = msg
message_after msg (ReadBlob cpu tok blob) = msg
message_after msg (WriteBlob cpu tok blob) = msg
