use Rattle.lwkt_msg.proofs.Picturing.{noted_is_done, unnoted_changes_nothing}
use Rattle.lwkt_msg.proofs.laws.made_as_noted.Goals as goal

pub returns-clause-made : goal.returns-clause-made
returns-clause-made c = noted_is_done

pub returns-clause-nothing : goal.returns-clause-nothing
returns-clause-nothing c = unnoted_changes_nothing
