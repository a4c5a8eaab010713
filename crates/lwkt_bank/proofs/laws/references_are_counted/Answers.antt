use Rattle.lwkt_bank.proofs.HoldMoves.{nothing_counts, added_counts}
use Rattle.lwkt_bank.proofs.laws.references_are_counted.Goals as goal

pub returns-clause-nothing : goal.returns-clause-nothing
returns-clause-nothing c = nothing_counts

pub returns-clause-added : goal.returns-clause-added
returns-clause-added c = added_counts
