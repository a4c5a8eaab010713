-- Lanes as they are opened, one from each processor to each one (own).
use Rattle.std.specs.Global.{Global}
use Rattle.std.specs.Prelude.{◌≡◌, ℕ, ◌+◌, List, [], ◌∷◌, ◌++◌, length, Vec, Some, None, slice_get}
use Rattle.lwkt_lane.specs.declared.ins.LaneIn.{LaneIn}
use Rattle.lwkt_lane.specs.declared.outs.LaneOut.{LaneOut}
use Rattle.lwkt_lane.specs.Lane.{IsLane, out_lane, lane_capacity, sent_notes, in_hand, received}

-- the ends of one lane that was just made, for 32 notes: nothing was sent, none is in hand, and nothing was received
pub record IsNewLane (out : LaneOut) (into : LaneIn) : Type 0 where
  pub one : IsLane out into
  pub notes : lane_capacity (out_lane out) ≡ 32
  pub unsent : sent_notes out ≡ []
  pub none_in_hand : in_hand out ≡ None
  pub unreceived : received into ≡ []

-- the receiving end of the lane of this sending end was put at the end of a list
pub record HasEnd (old new : List LaneIn) (out : LaneOut) : Type 0 where
  pub into : LaneIn
  pub grown : new ≡ old ++ into ∷ []
  pub lane : IsNewLane out into

-- the same of the list at this place, for the sending end of the same place
abbrev pub HasEndAt : List (Vec LaneIn Global) → List (Vec LaneIn Global) → List LaneOut → ℕ → Type 0
HasEndAt old new outs k = (v w : Vec LaneIn Global) (out : LaneOut) → slice_get old k ≡ Some v → slice_get new k ≡ Some w → slice_get outs k ≡ Some out → HasEnd v.items w.items out

-- the same of each list
pub record HasEnds (old new : List (Vec LaneIn Global)) (outs : List LaneOut) : Type 0 where
  pub as_many : length new ≡ length old
  pub outs_are : length outs ≡ length old
  pub ends : (k : ℕ) → HasEndAt old new outs k

-- each of these lists is so long
abbrev pub AreLong : {A : Type 0} → ℕ → List (Vec A Global) → Type 0
AreLong {A} n lists = (k : ℕ) (v : Vec A Global) → slice_get lists k ≡ Some v → length v.items ≡ n

-- the sending end at i to j, and the receiving end at j from i, are the ends of one new lane
abbrev pub AreCrossed : List (Vec LaneOut Global) → List (Vec LaneIn Global) → Type 0
AreCrossed outs ins = (i j : ℕ) (v : Vec LaneOut Global) (w : Vec LaneIn Global) (out : LaneOut) (into : LaneIn) → slice_get outs i ≡ Some v → slice_get v.items j ≡ Some out → slice_get ins j ≡ Some w → slice_get w.items i ≡ Some into → IsNewLane out into

-- the lanes from the first so many of these processors to all of them: by processor the sending ends, by target, and the receiving
-- ends, by sender
pub record AreLanes (from cpus : ℕ) (outs : List (Vec LaneOut Global)) (ins : List (Vec LaneIn Global)) : Type 0 where
  pub outs_are : length outs ≡ from
  pub ins_are : length ins ≡ cpus
  pub outs_long : AreLong cpus outs
  pub ins_long : AreLong from ins
  pub crossed : AreCrossed outs ins

-- a list is left when the first so many are gone
abbrev pub IsLeft : {A : Type 0} → ℕ → List A → List A → Type 0
IsLeft count all left = (j : ℕ) → slice_get left j ≡ slice_get all (count + j)
