use Rattle.std.specs.Global.{Global}
use Rattle.std.proofs.Common.{◌≡◌, ◌∷◌, [], ◌++◌, ◌+◌, List, length, length-append, ap, sym, ◌∙◌, subst}
use Rattle.std.specs.Prelude.{Vec}
use Rattle.lwkt_lane.specs.declared.ins.LaneIn.{LaneIn}
use Rattle.lwkt_lane.specs.Crossed.{AreLong}
use Rattle.lwkt_lane.proofs.CrossedMoves.{long_none, long_more}
use Rattle.lwkt_lane.proofs.crossed.no_ends.Goals as goal

pub loop-made-init : goal.loop-made-init
loop-made-init c =
    let F : List (Vec LaneIn Global) → Type 0 = λ xs. AreLong {A = LaneIn} 0 xs in
    record {
      as_many = ap length c.new-ins.ensures.items;
      empty = subst F (sym c.new-ins.ensures.items) (long_none {A = LaneIn} 0);
    }

pub loop-made-preserved : goal.loop-made-preserved
loop-made-preserved c =
    let l = c.loop-made in
    let grown : c.push.new.list.items ≡ l.ins.items ++ c.new.result ∷ [] = c.in_ok-push.ensures.items in
    let F : List (Vec LaneIn Global) → Type 0 = λ xs. AreLong {A = LaneIn} 0 xs in
    record {
      as_many = ap length grown ∙ length-append l.ins.items (c.new.result ∷ []) ∙ ap (λ n. n + 1) l.invariant.as_many;
      empty = subst F (sym grown) (long_more {A = LaneIn} 0 l.ins.items c.new.result (ap length c.new.ensures.items) l.invariant.empty);
    }
