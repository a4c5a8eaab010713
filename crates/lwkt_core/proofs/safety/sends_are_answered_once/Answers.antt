use Rattle.lwkt_core.proofs.SafetyLemmas.{once}
use Rattle.lwkt_core.proofs.safety.sends_are_answered_once.Goals as goal

pub returns : goal.returns
returns c = once
