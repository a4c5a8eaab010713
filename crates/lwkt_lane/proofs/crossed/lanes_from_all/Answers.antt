use Rattle.std.specs.Global.{Global}
use Rattle.std.proofs.Common.{◌≡◌, ◌∷◌, [], ◌++◌, ℕ, ◌+◌, List, length, sym, subst, arith}
use Rattle.std.specs.Prelude.{Vec}
use Rattle.std.proofs.lemmas.Grind.{common_steps}
use Rattle.lwkt_lane.specs.declared.outs.LaneOut.{LaneOut}
use Rattle.lwkt_lane.specs.Crossed.{AreLanes}
use Rattle.lwkt_lane.proofs.CrossedMoves.{lanes_none, lanes_more}
use Rattle.lwkt_lane.proofs.crossed.lanes_from_all.Goals as goal

pub loop-from-init : goal.loop-from-init
loop-from-init c =
    let F : List (Vec LaneOut Global) → Type 0 = λ xs. AreLanes 0 (length c.args.ins.now) xs c.args.ins.now in
    subst F (sym c.new-outs.ensures.items) (lanes_none c.args.ins.now c.requires)

pub loop-from-preserved : goal.loop-from-preserved
loop-from-preserved c =
    let l = c.loop-from in
    let row = c.in_ok-row.row in
    let grown : c.push.new.list.items ≡ l.outs.items ++ row ∷ [] = grind (arith, common_steps) in
    let F : List (Vec LaneOut Global) → Type 0 = λ xs. AreLanes (l.from + 1) (length c.args.ins.now) xs c.lanes_to_all.new.ins in
    subst F (sym grown) (lanes_more l.from (length c.args.ins.now) l.outs.items l.ins c.lanes_to_all.new.ins row c.in_ok-row.ensures l.invariant)

pub returns : goal.returns
returns c =
    let l = c.loop-from in
    let all : l.from ≡ length c.args.ins.now = omega (arith, c.loop-from-test.false, l.auto.from-end) in
    let F : ℕ → Type 0 = λ n. AreLanes n (length c.args.ins.now) l.outs.items l.ins in
    subst F all l.invariant
