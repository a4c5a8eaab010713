use Rattle.std.proofs.Common.{◌≡◌, ◌≤◌, ◌+◌, get_or, map, min, sum}
use Rattle.lwkt_explore.specs.Texts.{Form, later_forms, group_count}
use Rattle.lwkt_explore.proofs.forms.group_count.Given as goal

-- the sum, with those to come, is that of all
abbrev pub invariant-loop-at : goal.invariant-loop-at
invariant-loop-at l = record {
  sum : min 18446744073709551615 (l.total + sum (map (λ (form : Form). form.1) (later_forms l.outcome l.at l.outcomes)))
      ≡ group_count ((l.outcome, get_or l.outcomes.counts.items l.place 0), later_forms l.outcome (l.place + 1) l.outcomes);
  small : l.total ≤ 18446744073709551615;
}
