use Rattle.lwkt_checker.proofs.StatedRuns.{only_stated}
use Rattle.lwkt_checker.proofs.plays.stated_is_only.Goals as goal

pub returns : goal.returns
returns c = only_stated
