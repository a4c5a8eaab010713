use Rattle.lwkt_core.proofs.TraceLemmas.{is_only}
use Rattle.lwkt_core.proofs.checks.failure_is_only.Goals as goal

pub returns : goal.returns
returns c = is_only
