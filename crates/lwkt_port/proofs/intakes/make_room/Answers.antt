use Rattle.std.proofs.Common.{◌<◌, ℕ, List, length, refl, rules}
use Rattle.lwkt_port.specs.declared.lines.Lane.{Lane}
use Rattle.lwkt_port.specs.Lines.{IsRoomed}
use Rattle.lwkt_port.specs.Posts.{ChangesOne}
use Rattle.lwkt_port.proofs.Chaining.{chain_none, chain_more}
use Rattle.lwkt_port.proofs.Dispatching.{changed, line_kept}
use Rattle.lwkt_port.proofs.HandMoves.{hands_put, room_none}
use Rattle.lwkt_port.proofs.intakes.make_room.Goals as goal

pub loop-at-init : goal.loop-at-init
loop-at-init c = record { rooms = chain_none (List Lane) (λ i x y. ChangesOne IsRoomed i x y) c.args.lanes.now.items; len = refl; named = λ n h. h; hands = λ h. h }

pub loop-at-preserved : goal.loop-at-preserved
loop-at-preserved c =
    let l = c.loop-at in
    let there : l.at < length l.lanes.items = search rules in
    let Step : ℕ → List Lane → List Lane → Type 0 = λ i x y. ChangesOne IsRoomed i x y in
    let does = c.has_room.ensures.roomed in record {
      rooms = chain_more (List Lane) Step l.at c.args.lanes.now.items l.lanes.items _ l.invariant.rooms (changed Lane IsRoomed l.at l.at l.lanes.items c.index_mut.result.now c.has_room.new.line there c.index_mut.ensures.value refl does);
      len = l.invariant.len;
      named = λ n h. line_kept n l.lanes.items l.at c.index_mut.result.now c.has_room.new.line there c.index_mut.ensures.value does.kept_same (l.invariant.named n h);
      hands = λ h. hands_put l.lanes.items l.at c.index_mut.result.now c.has_room.new.line there c.index_mut.ensures.value (room_none c.index_mut.result.now c.has_room.new.line does) (l.invariant.hands h);
    }
