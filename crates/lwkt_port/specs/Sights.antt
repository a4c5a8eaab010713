-- Where the ports of two processors are both at hand, the one sees all that the other has put into the queue of the lane between them,
-- and what it has itself put into that of the lane to itself (own).
use Rattle.std.specs.Prelude.{◌≡◌, ◌⊎◌, ℕ, ◌<◌, ◌≤◌, List, ◌++◌, length, IsSome, slice_index_or, Vec}
use Rattle.std.specs.declared.alloc.Global.{Global}
use mathlib.Core.List.{IsPrefix}
use Rattle.lwkt_core.specs.declared.events.Event.{Event}
use Rattle.lwkt_lane.specs.declared.ins.LaneIn.{LaneIn}
use Rattle.lwkt_lane.specs.declared.outs.LaneOut.{LaneOut}
use Rattle.lwkt_lane.specs.Lane.{queued, received, seen_notes, in_lane, IsLane, IsBeside}
use Rattle.lwkt_msg.specs.Desks.{desk_cpu}
use Rattle.lwkt_port.specs.declared.lines.Lane.{Lane}
use Rattle.lwkt_port.specs.Intakes.{PostTakesIn}
use Rattle.lwkt_port.specs.OpenedPorts.{ArePaired}
use Rattle.lwkt_port.specs.Posts.{Post, ChangesOne, IsSamePost}

-- lines of a sender and of a receiver, at these places, have the two ends of one lane
pub record AreEnds (from to : ℕ) (sender lanes : List Lane) : Type 0 where
  pub there : to < length sender
  pub back : from < length lanes
  pub one : (d : Lane) → IsLane (slice_index_or sender to d).out (slice_index_or lanes from d).into

-- a receiving end has seen all that this sending end has put into the queue
pub record SeesQueue (out : LaneOut) (into into' : LaneIn) : Type 0 where
  pub all : received into' ++ seen_notes into' ≡ queued out
  pub received_same : received into' ≡ received into
  pub first : IsPrefix (seen_notes into) (seen_notes into')
  pub lane_same : in_lane into' ≡ in_lane into

-- a line's receiving end has seen all that this sending end has put into the queue; nothing else of the line changed
pub record SeesAll (out : LaneOut) (line line' : Lane) : Type 0 where
  pub into : SeesQueue out line.into line'.into
  pub out_same : line'.out ≡ line.out
  pub kept_same : line'.kept ≡ line.kept

-- the other end was looked at beside a line's sending end; nothing else of the line changed
pub record LooksBeside (line line' : Lane) : Type 0 where
  pub beside : IsBeside line.out line'.out
  pub into_same : line'.into ≡ line.into
  pub kept_same : line'.kept ≡ line.kept

-- a line's receiving end has seen all that the line's own sending end has put into the queue; nothing else of the line changed
pub record SeesOwnLine (line line' : Lane) : Type 0 where
  pub into : SeesQueue line.out line.into line'.into
  pub beside : IsBeside line.out line'.out
  pub kept_same : line'.kept ≡ line.kept

-- of a sender's lines and a receiver's, the receiver saw all that came from the sender's number
pub record SeesAllFrom (from to : ℕ) (sender sender' lanes lanes' : List Lane) : Type 0 where
  pub beside : ChangesOne LooksBeside to sender sender'
  pub sees : ChangesOne (SeesAll beside.old.out) from lanes lanes'

-- the lane from one processor to another, whose ports are these, has its two ends there
abbrev pub AreJoined : Post → Post → Type 0
AreJoined s p = AreEnds (desk_cpu s.seat).0 (desk_cpu p.seat).0 s.lanes p.lanes

-- a receiver's ports saw all that a sender's had put into the queue of the lane between them
pub record PostSees (s s' p p' : Post) : Type 0 where
  pub sees : SeesAllFrom (desk_cpu s.seat).0 (desk_cpu p.seat).0 s.lanes s'.lanes p.lanes p'.lanes
  pub sender_else : s' ≡ record s { lanes = s'.lanes }
  pub else_same : p' ≡ record p { lanes = p'.lanes }

-- a processor's ports saw all that they had put into the queue of the lane to themselves
pub record PostSeesOwn (p p' : Post) : Type 0 where
  pub sees : ChangesOne SeesOwnLine (desk_cpu p.seat).0 p.lanes p'.lanes
  pub else_same : p' ≡ record p { lanes = p'.lanes }

-- all that a sending end had put into the queue of its lane is received at this line, in order, unless the line keeps a note that
-- found its port's queue full, or as many notes were taken in as are allowed
abbrev pub IsDelivered : ℕ → ℕ → LaneOut → Lane → Type 0
IsDelivered limit count out line = IsPrefix (queued out) (received line.into) ⊎ (IsSome line.kept ⊎ (limit ≤ count))

-- what one processor's ports had put into the queue of the lane to another's, which then saw it and took notes in
abbrev pub SentAreDelivered : Type 0
SentAreDelivered = (s s' p q r : Post) (limit count : ℕ) (trace trace' : Vec Event Global) (d e : Lane) → AreJoined s p → PostSees s s' p q → PostTakesIn limit q r trace trace' count
    → IsDelivered limit count (slice_index_or s.lanes (desk_cpu p.seat).0 d).out (slice_index_or r.lanes (desk_cpu s.seat).0 e)

-- what one processor's ports had put into the queue of the lane to themselves, which they then saw and took in
abbrev pub OwnAreDelivered : Type 0
OwnAreDelivered = (p q r : Post) (limit count : ℕ) (trace trace' : Vec Event Global) (d e : Lane) → PostSeesOwn p q → PostTakesIn limit q r trace trace' count
    → IsDelivered limit count (slice_index_or p.lanes (desk_cpu p.seat).0 d).out (slice_index_or r.lanes (desk_cpu p.seat).0 e)

-- whatever calls two processors' ports make, the lane between them has its two ends there still
abbrev pub StayJoined : Type 0
StayJoined = (s s' p p' : Post) → AreJoined s p → IsSamePost s s' → IsSamePost p p' → AreJoined s' p'

-- of the ends that a sender's ports and a receiver's were opened over, those of the lane between them are its two ends
pub record AreEndsOfLane (from to : ℕ) (outs outs' : List LaneOut) (ins ins' : List LaneIn) : Type 0 where
  pub out_there : to < length outs
  pub line_there : to < length ins
  pub in_back : from < length ins'
  pub line_back : from < length outs'
  pub one : (x : LaneOut) (y : LaneIn) → IsLane (slice_index_or outs to x) (slice_index_or ins' from y)

-- ports that are opened over such ends have that lane
abbrev pub OpenedAreJoined : Type 0
OpenedAreJoined = (s p : Post) (outs outs' : List LaneOut) (ins ins' : List LaneIn) → ArePaired outs ins s.lanes → ArePaired outs' ins' p.lanes → AreEndsOfLane (desk_cpu s.seat).0 (desk_cpu p.seat).0 outs outs' ins ins' → AreJoined s p
