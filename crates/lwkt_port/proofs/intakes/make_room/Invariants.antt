use Rattle.std.proofs.Common.{◌≡◌, ℕ, List, vec_len}
use Rattle.std.specs.Prelude.{All}
use Rattle.lwkt_port.specs.declared.lines.Lane.{Lane}
use Rattle.lwkt_port.specs.Chains.{Chain}
use Rattle.lwkt_port.specs.Lines.{HasNoneInHand, IsRoomed}
use Rattle.lwkt_port.specs.Posts.{ChangesOne, KeepsNamed}
use Rattle.lwkt_port.proofs.intakes.make_room.Given as goal

abbrev pub invariant-loop-at : goal.invariant-loop-at
invariant-loop-at l = record {
  rooms : Chain (List Lane) (λ i x y. ChangesOne IsRoomed i x y) l.at l.initial.lanes.items l.lanes.items;
  len : vec_len l.lanes ≡ vec_len l.initial.lanes;
  named : (n : ℕ) → All (KeepsNamed n) l.initial.lanes.items → All (KeepsNamed n) l.lanes.items;
  hands : All HasNoneInHand l.initial.lanes.items → All HasNoneInHand l.lanes.items;
}
