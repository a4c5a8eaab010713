-- What a contract sees of the two ends of a lane (own).
use Rattle.std.specs.Prelude.{◌≡◌, ℕ, ◌+◌, ◌≤◌, List, ◌∷◌, ◌++◌, length, Option, Some, None, option_to_list}
use mathlib.Core.List.{IsPrefix}
use denote.RawPtr.{Ptr}
use Rattle.rtrb.specs.Shared.{Names}
use Rattle.rtrb.specs.Ring.{producer_capacity, consumer_capacity, known_items, known_free}
use Rattle.rtrb.specs.Ring as ring
use Rattle.lwkt_lane.specs.declared.notes.Note.{Note}
use Rattle.lwkt_lane.specs.declared.outs.LaneOut.{LaneOut}
use Rattle.lwkt_lane.specs.declared.ins.LaneIn.{LaneIn}

-- the note that waits at the sender for room in the queue, if there is one
abbrev pub in_hand : LaneOut → Option Note
in_hand out = out.hand

-- every note that went into the queue so far, the oldest first
abbrev pub queued : LaneOut → List Note
queued out = ring.sent out.ring

-- every note pushed so far, the oldest first; a note in hand counts as sent
abbrev pub sent_notes : LaneOut → List Note
sent_notes out = queued out ++ option_to_list (in_hand out)

-- how many places of the queue the sending end knows to be free
abbrev pub free : LaneOut → ℕ
free out = known_free out.ring

-- how many notes wait at the sender, 0 or 1
abbrev pub waiting : LaneOut → ℕ
waiting out = length (option_to_list (in_hand out))

-- every note popped so far, the oldest first
abbrev pub received : LaneIn → List Note
received into = ring.received into.ring

-- the notes that the receiving end has seen in the queue, which the next pops give, the oldest first
abbrev pub seen_notes : LaneIn → List Note
seen_notes into = known_items into.ring

-- a pop gives the oldest note that was seen, if one was, and forgets none
abbrev pub IsSeenGone : Option Note → List Note → List Note → Type 0
IsSeenGone None before now = now ≡ before
IsSeenGone (Some note) before now = IsPrefix before (note ∷ now)

-- which lane it is: how many notes its queue has room for, and where the queue lies
pub record LaneId : Type 0 where
  pub room : ℕ
  pub words : Ptr
  pub slots : Ptr
  pub names : Names

-- the lane of a sending end
abbrev pub out_lane : LaneOut → LaneId
out_lane out = record { room = producer_capacity out.ring; words = out.ring.end.words; slots = out.ring.end.slots; names = out.ring.end.names }

-- the lane of a receiving end
abbrev pub in_lane : LaneIn → LaneId
in_lane into = record { room = consumer_capacity into.ring; words = into.ring.end.words; slots = into.ring.end.slots; names = into.ring.end.names }

-- the two are the ends of one lane
abbrev pub IsLane : LaneOut → LaneIn → Type 0
IsLane out into = out_lane out ≡ in_lane into

-- a sending end beside which the other end was looked at: nothing went into the queue, the note in hand stays, and no place that was
-- known to be free is lost
pub record IsBeside (out out' : LaneOut) : Type 0 where
  pub queued_same : queued out' ≡ queued out
  pub hand_same : in_hand out' ≡ in_hand out
  pub places : free out ≤ free out'
  pub lane_same : out_lane out' ≡ out_lane out

-- how many notes a lane keeps at most: those of the queue and the one in hand
abbrev pub lane_capacity : LaneId → ℕ
lane_capacity lane = lane.room + 1
