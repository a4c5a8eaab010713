use Rattle.std.proofs.Common.{◌≡◌, [], length, take, drop}
use Rattle.serde_json.specs.View.{items_view}
use Rattle.lwkt_trace.specs.Words.{numbers_behind}
use Rattle.lwkt_trace.proofs.sections.row_of.Given as goal

-- there are four cells, and those so far, with the numbers to come, are all numbers
abbrev pub invariant-loop-place : goal.invariant-loop-place
invariant-loop-place l = (length l.cells ≡ 4) × (numbers_behind (take l.place l.cells) (items_view (drop l.place l.items)) ≡ numbers_behind [] (items_view l.items))
