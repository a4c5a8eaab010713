use Rattle.std.proofs.Common.{◌≡◌, ◌+◌, ◌*◌, ◌≤◌, drop}
use Rattle.std.specs.Prelude.{min}
use Rattle.serde_json.specs.View.{items_view}
use Rattle.lwkt_script.specs.Frames.{size_sum, size_one, size_in}
use Rattle.lwkt_script.proofs.frames.+sizes.Given as goal

abbrev pub decreases-size_in : goal.decreases-size_in
decreases-size_in l = 4 * l.deep + 3

abbrev pub decreases-size_one : goal.decreases-size_one
decreases-size_one l = 4 * l.deep + 2

abbrev pub decreases-size_of : goal.decreases-size_of
decreases-size_of l = 4 * l.deep + 5

abbrev pub decreases-size_at : goal.decreases-size_at
decreases-size_at l = 4 * l.deep + 4

abbrev pub invariant-size_in-loop-item : goal.invariant-size_in-loop-item
invariant-size_in-loop-item l =
    (l.sum ≤ 4294967295) × (min (l.sum + size_sum (size_one l.deep) (items_view (drop l.item-index l.items))) 4294967295 ≡ size_in l.deep (items_view l.items))
