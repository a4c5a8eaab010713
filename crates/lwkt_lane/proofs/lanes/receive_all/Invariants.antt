use Rattle.std.proofs.Common.{◌≡◌, ◌≤◌, ◌++◌, vec_len, vec_capacity}
use Rattle.lwkt_lane.specs.Lane.{seen_notes}
use Rattle.lwkt_lane.proofs.lanes.receive_all.Given as goal

abbrev pub invariant-loop-turn : goal.invariant-loop-turn
invariant-loop-turn l =
    (seen_notes l.fn.into ≡ l.notes.items ++ seen_notes l.into)
    × (vec_len l.notes ≡ l._turn)
    × (l.count ≤ vec_capacity l.notes)
    × (vec_capacity l.fn.notes ≤ vec_capacity l.notes)
