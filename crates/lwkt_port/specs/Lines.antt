use Rattle.std.specs.Prelude.{◌≡◌, ◌⊎◌, ◌+◌, ◌<◌, ◌≤◌, [], ◌∷◌, ◌++◌, None, IsSome}
use mathlib.Core.List.{IsPrefix}
use Rattle.lwkt_lane.specs.declared.notes.Note.{Note}
use Rattle.lwkt_lane.specs.Lane.{sent_notes, in_hand, waiting, free, out_lane, received, seen_notes, in_lane}
use Rattle.lwkt_port.specs.declared.lines.Lane.{Lane}

-- no note is in hand at a line's sending end
abbrev pub HasNoneInHand : Lane → Type 0
HasNoneInHand line = in_hand line.out ≡ None

-- a note is in hand at a line's sending end only where no place of the queue is known to be free
abbrev pub WaitsForRoom : Lane → Type 0
WaitsForRoom line = IsSome (in_hand line.out) → free line.out ≡ 0

-- the note in hand of a line went on into the queue, if there is one: it stays in hand only where no place is known to be free then,
-- and not where one was known to be free before; it alone takes a place
pub record IsRoomed (line line' : Lane) : Type 0 where
  pub sent_same : sent_notes line'.out ≡ sent_notes line.out
  pub hand : HasNoneInHand line' ⊎ (in_hand line'.out ≡ in_hand line.out)
  pub full : WaitsForRoom line'
  pub moves : 0 < free line.out → HasNoneInHand line'
  pub places : free line.out ≤ free line'.out + waiting line.out
  pub lane_same : out_lane line'.out ≡ out_lane line.out
  pub into_same : line'.into ≡ line.into
  pub kept_same : line'.kept ≡ line.kept

-- a note was sent over a line, after the one in hand: it stays in hand only where no place is known to be free then, and not where
-- there were known to be places for all
pub record HasPosted (note : Note) (line line' : Lane) : Type 0 where
  pub sent_more : sent_notes line'.out ≡ sent_notes line.out ++ note ∷ []
  pub full : WaitsForRoom line'
  pub moves : waiting line.out < free line.out → HasNoneInHand line'
  pub lane_same : out_lane line'.out ≡ out_lane line.out
  pub into_same : line'.into ≡ line.into
  pub kept_same : line'.kept ≡ line.kept

-- a line's lane gave no note: it had none that was seen
pub record IsDrained (line line' : Lane) : Type 0 where
  pub received_same : received line'.into ≡ received line.into
  pub seen_same : seen_notes line'.into ≡ seen_notes line.into
  pub empty : seen_notes line'.into ≡ []
  pub lane_same : in_lane line'.into ≡ in_lane line.into
  pub out_same : line'.out ≡ line.out
  pub kept_same : line'.kept ≡ line.kept

-- a line's lane gave a note, the first one that was seen if any was
pub record HasPopped (note : Note) (line line' : Lane) : Type 0 where
  pub received_is : received line'.into ≡ received line.into ++ note ∷ []
  pub first : IsPrefix (seen_notes line.into) (note ∷ seen_notes line'.into)
  pub lane_same : in_lane line'.into ≡ in_lane line.into
  pub out_same : line'.out ≡ line.out
  pub kept_same : line'.kept ≡ line.kept

-- a line had no note: it keeps none, and its lane has no more
pub record HasNone (line line' : Lane) : Type 0 where
  pub none : line.kept ≡ None
  pub received_same : received line'.into ≡ received line.into
  pub first : IsPrefix (seen_notes line.into) (seen_notes line'.into)
  pub empty : seen_notes line'.into ≡ []
  pub lane_same : in_lane line'.into ≡ in_lane line.into
  pub out_same : line'.out ≡ line.out
  pub kept_same : line'.kept ≡ line.kept

-- the lane of a line that keeps no note was looked at
pub record IsLineLooked (line line' : Lane) : Type 0 where
  pub none : line.kept ≡ None
  pub received_same : received line'.into ≡ received line.into
  pub first : IsPrefix (seen_notes line.into) (seen_notes line'.into)
  pub lane_same : in_lane line'.into ≡ in_lane line.into
  pub out_same : line'.out ≡ line.out
  pub kept_same : line'.kept ≡ line.kept

-- a line was found with a note: it keeps one, or its lane was looked at
abbrev pub HasFoundNote : Lane → Lane → Type 0
HasFoundNote line line' = (line' ≡ line) ⊎ IsLineLooked line line'
