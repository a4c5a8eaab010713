use Rattle.std.proofs.Common.{◌≡◌, ◌+◌, ◌*◌, ◌≤◌, drop}
use Rattle.serde_json.specs.View.{items_view}
use Rattle.lwkt_script.specs.Sentences.{sentences}
use Rattle.lwkt_script.proofs.sentences.+sentences.Given as goal

abbrev pub decreases-sentences : goal.decreases-sentences
decreases-sentences l = 4 * l.deep + 3

abbrev pub decreases-turn : goal.decreases-turn
decreases-turn l = 4 * l.deep + 2

abbrev pub decreases-sentence : goal.decreases-sentence
decreases-sentence l = 4 * l.deep + 5

abbrev pub decreases-frame_read : goal.decreases-frame_read
decreases-frame_read l = 4 * l.deep + 4

abbrev pub invariant-sentences-loop-item : goal.invariant-sentences-loop-item
invariant-sentences-loop-item l =
    (l.next.said ≤ 256) × (sentences l.deep l.n l.scope l.next (items_view (drop l.item-index l.items)) ≡ sentences l.deep l.n l.scope l.initial.next (items_view l.items))
