use Rattle.std.specs.Global.{Global}
use Rattle.std.proofs.Common.{◌≡◌, ◌+◌, ◌∷◌, [], ◌++◌, List, length, set, refl, sym, subst, arith}
use Rattle.std.specs.Prelude.{Vec}
use Rattle.std.proofs.lemmas.Grind.{common_steps}
use Rattle.std.proofs.lemmas.Option.{slice_get_read}
use Rattle.lwkt_lane.specs.declared.ins.LaneIn.{LaneIn}
use Rattle.lwkt_lane.specs.declared.outs.LaneOut.{LaneOut}
use Rattle.lwkt_lane.specs.Crossed.{HasEnd}
use Rattle.lwkt_lane.proofs.CrossedMoves.{HasEndsBelow, ends_none, ends_more, ends_all}
use Rattle.lwkt_lane.proofs.crossed.lanes_to_all.Goals as goal

pub loop-to-init : goal.loop-to-init
loop-to-init c =
    let F : List LaneOut → Type 0 = λ xs. HasEndsBelow 0 c.args.ins.now c.args.ins.now xs in
    subst F (sym c.new-outs.ensures.items) (ends_none c.args.ins.now)

pub loop-to-preserved : goal.loop-to-preserved
loop-to-preserved c =
    let l = c.loop-to in
    let out = c.in_ok-out.out in
    let grown : c.push.new.list.items ≡ l.outs.items ++ out ∷ [] = grind (arith, common_steps) in
    let at = slice_get_read l.ins (length l.ins) l.to c.index-ins-to.result refl (omega (arith, c.loop-to-test.true, l.auto.ins)) c.index-ins-to.is in
    let F : List LaneOut → Type 0 = λ xs. HasEndsBelow (l.to + 1) c.args.ins.now (set l.ins l.to c.lane_to.new.ends) xs in
    let G : Vec LaneIn Global → Type 0 = λ v. HasEnd v.items c.lane_to.new.ends.items out in
    subst F (sym grown) (ends_more l.to c.args.ins.now l.ins l.outs.items c.index-ins-to.result c.lane_to.new.ends out at (subst G (sym c.index-ins-to.is) c.in_ok-out.ensures) l.invariant)

pub returns : goal.returns
returns c =
    let l = c.loop-to in
    let all : l.to ≡ length c.args.ins.now = omega (arith, c.loop-to-test.false, l.auto.to-end) in
    ends_all l.to c.args.ins.now l.ins l.outs.items all l.invariant
