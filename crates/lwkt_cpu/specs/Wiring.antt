-- The lines that the processors of a machine have as it is opened (own).
use Rattle.std.specs.Global.{Global}
use Rattle.std.specs.Prelude.{◌≡◌, ℕ, List, length, Vec, Some, None, slice_get}
use Rattle.lwkt_lane.specs.declared.ins.LaneIn.{LaneIn}
use Rattle.lwkt_lane.specs.declared.outs.LaneOut.{LaneOut}
use Rattle.lwkt_lane.specs.Crossed.{IsNewLane}
use Rattle.lwkt_port.specs.declared.lines.Lane.{Lane}
use Rattle.lwkt_port.specs.OpenedPorts.{ArePaired}
use Rattle.lwkt_cpu.specs.Processors.{Processor}

-- a processor has the lines of the ends at this number
pub record HasLines {B : Type 0} (outs : List (Vec LaneOut Global)) (ins : List (Vec LaneIn Global)) (k : ℕ) (p : Processor B) : Type 0 where
  pub out : Vec LaneOut Global
  pub into : Vec LaneIn Global
  pub out_at : slice_get outs k ≡ Some out
  pub in_at : slice_get ins k ≡ Some into
  pub lines : ArePaired out.items into.items p.post.lanes

-- each processor has those of its number
abbrev pub HaveLines : {B : Type 0} → List (Vec LaneOut Global) → List (Vec LaneIn Global) → List (Processor B) → Type 0
HaveLines {B} outs ins cpus = (k : ℕ) (p : Processor B) → slice_get cpus k ≡ Some p → HasLines outs ins k p

-- the lines of processors as they are opened: each processor has one for each; what the one sends to the other over its line, the
-- other receives over its own, by a lane of their own that is new; and no line keeps a note
pub record AreWired {B : Type 0} (cpus : List (Processor B)) : Type 0 where
  pub lines_are : (k : ℕ) (p : Processor B) → slice_get cpus k ≡ Some p → length p.post.lanes ≡ length cpus
  pub lanes : (i j : ℕ) (p q : Processor B) (there back : Lane) → slice_get cpus i ≡ Some p → slice_get cpus j ≡ Some q → slice_get p.post.lanes j ≡ Some there → slice_get q.post.lanes i ≡ Some back → IsNewLane there.out back.into
  pub none_kept : (k j : ℕ) (p : Processor B) (line : Lane) → slice_get cpus k ≡ Some p → slice_get p.post.lanes j ≡ Some line → line.kept ≡ None
