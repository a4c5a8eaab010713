-- Where two processors are both at hand, the one sees all that the other has put into the queue of the lane to it, and what it has
-- itself put into that of its lane to itself (own).
use Rattle.std.specs.Prelude.{◌≡◌}
use Rattle.lwkt_port.specs.Posts.{ChangesOne}
use Rattle.lwkt_port.specs.Sights.{AreEnds, SeesAllFrom as LanesSee, SeesOwnLine as LineSeesOwn}
use Rattle.lwkt_cpu.specs.Processors.{Processor}

-- the lane from one processor to another has its two ends there
abbrev pub AreLinked : {B : Type 0} → Processor B → Processor B → Type 0
AreLinked s p = AreEnds s.seat.cpu.0 p.seat.cpu.0 s.post.lanes p.post.lanes

-- a processor saw all that another had put into the queue of the lane to it; but for lanes that were looked at, nothing of the two
-- changed
pub record SeesLane {B : Type 0} (s s' p p' : Processor B) : Type 0 where
  pub lanes : LanesSee s.seat.cpu.0 p.seat.cpu.0 s.post.lanes s'.post.lanes p.post.lanes p'.post.lanes
  pub sender_else : s' ≡ record s { post = record s.post { lanes = s'.post.lanes } }
  pub else_same : p' ≡ record p { post = record p.post { lanes = p'.post.lanes } }

-- a processor saw all that it had put into the queue of the lane to itself; but for this lane, which was looked at, nothing of it changed
pub record SeesOwnLane {B : Type 0} (p p' : Processor B) : Type 0 where
  pub sees : ChangesOne LineSeesOwn p.seat.cpu.0 p.post.lanes p'.post.lanes
  pub else_same : p' ≡ record p { post = record p.post { lanes = p'.post.lanes } }
