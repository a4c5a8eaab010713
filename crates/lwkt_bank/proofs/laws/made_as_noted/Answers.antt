use Rattle.lwkt_bank.proofs.MadeMoves.{made_as_noted, nothing_unnoted}
use Rattle.lwkt_bank.proofs.laws.made_as_noted.Goals as goal

pub returns-clause-made : goal.returns-clause-made
returns-clause-made c = made_as_noted

pub returns-clause-nothing : goal.returns-clause-nothing
returns-clause-nothing c = nothing_unnoted
