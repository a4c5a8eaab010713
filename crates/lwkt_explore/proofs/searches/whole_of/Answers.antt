use Rattle.std.proofs.Common.{rules, ◌≡◌, ◌∙◌, ap, sym, true, false, Bool, not, None, Option}
use Rattle.std.specs.Option.{is_some}
use Rattle.lwkt_explore.specs.declared.losses.Lost.{Lost}
use Rattle.lwkt_explore.proofs.searches.whole_of.Goals as goal
use Rattle.lwkt_explore.proofs.searches.whole_of.Goals.{else-is_none-via-then-is_none+else-not-have_ended, else-is_none-via-else-is_none}

pub returns-clause-ended : goal.returns-clause-ended
returns-clause-ended c = λ complete none.
    elim c.else-is_none.branch [
      | else-is_none-via-then-is_none+else-not-have_ended w ↦ search rules
      | else-is_none-via-else-is_none w ↦ search rules
    ]
