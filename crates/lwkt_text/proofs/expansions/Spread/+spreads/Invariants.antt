use Rattle.std.proofs.Common.{◌≡◌, ◌+◌, ◌-◌, ◌*◌, drop}
use Rattle.lwkt_text.specs.Expanding.{rounds, spread, spread_rest}
use Rattle.lwkt_text.proofs.expansions.Spread.+spreads.Given as goal

abbrev pub decreases-put_all : goal.decreases-put_all
decreases-put_all l = 4 * l.deep + 1

abbrev pub decreases-put_for : goal.decreases-put_for
decreases-put_for l = 4 * l.deep

abbrev pub decreases-put_range : goal.decreases-put_range
decreases-put_range l = 4 * l.deep + 3

abbrev pub decreases-put_rounds : goal.decreases-put_rounds
decreases-put_rounds l = 4 * l.deep + 2

abbrev pub invariant-put_rounds-loop-value : goal.invariant-put_rounds-loop-value
invariant-put_rounds-loop-value l =
    rounds (spread l.deep l.body) l.count l.depth l.name (l.fn.range.to - l.value) l.value l.self ≡ rounds (spread l.deep l.body) l.count l.depth l.name (l.fn.range.to - l.fn.range.from) l.fn.range.from l.initial.self

abbrev pub invariant-put_all-loop-at : goal.invariant-put_all-loop-at
invariant-put_all-loop-at l = spread_rest l.deep l.skip (drop l.at l.sentences) l.self ≡ spread l.deep l.sentences l.initial.self
