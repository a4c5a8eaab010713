use Rattle.lwkt_cpu.proofs.LawMoves.{turn_parts, mail_parts}
use Rattle.lwkt_cpu.proofs.laws.turns_are_parts_of_runs.Goals as goal

pub returns-clause-tokens : goal.returns-clause-tokens
returns-clause-tokens g c = turn_parts {B = g.row.B.Denot} g.B.Body.polled c.states_are_reached.ensures.reached

pub returns-clause-messages : goal.returns-clause-messages
returns-clause-messages g c = mail_parts g.row.B.Denot c.rule_shows_safety.ensures.safe c.states_are_reached-2.ensures.reached
