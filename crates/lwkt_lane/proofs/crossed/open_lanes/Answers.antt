use Rattle.std.specs.Global.{Global}
use Rattle.std.proofs.Common.{rules, ◌≡◌, ◌++◌, List, ℕ, length, take, drop, sym, ◌∙◌, subst}
use Rattle.std.specs.Prelude.{Vec}
use Rattle.lwkt_lane.specs.declared.ins.LaneIn.{LaneIn}
use Rattle.lwkt_lane.specs.Crossed.{AreLanes}
use Rattle.lwkt_lane.proofs.PlaceMoves.{refilled}
use Rattle.lwkt_lane.proofs.crossed.open_lanes.Goals as goal

pub returns : goal.returns
returns c =
    let now = c.deref_mut.result.now in
    let made : AreLanes (length now) (length now) c.in_ok-outs.outs.items c.lanes_from_all.new.ins = c.in_ok-outs.ensures in
    let back = refilled c.lanes_from_all.new.ins c.in_ok-ins.ins.items c.in_ok-ins.ins.len (made.ins_are ∙ c.deref_mut.ensures.len) in
    let F : List (Vec LaneIn Global) → Type 0 = λ xs. AreLanes (length now) (length now) c.in_ok-outs.outs.items xs in
    let whole = subst F (sym back) made in
    let long : length now ≡ c.args.cpus = search rules in
    let G : ℕ → Type 0 = λ n. AreLanes n n c.in_ok-outs.outs.items (take c.in_ok-ins.ins.len (c.lanes_from_all.new.ins ++ drop (length c.lanes_from_all.new.ins) c.in_ok-ins.ins.items)) in
    subst G long whole
