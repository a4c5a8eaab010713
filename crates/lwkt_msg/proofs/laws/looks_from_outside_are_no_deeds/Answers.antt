use Rattle.lwkt_msg.proofs.Spending.{spent_is_no_deed}
use Rattle.lwkt_msg.proofs.laws.looks_from_outside_are_no_deeds.Goals as goal

pub returns : goal.returns
returns c = spent_is_no_deed
