use Rattle.std.proofs.Common.{sym, subst}
use Rattle.lwkt_code.specs.Programs.{IsSound}
use Rattle.lwkt_code.proofs.Lists.{lists_are_sound}
use Rattle.lwkt_code.proofs.codes.Code.listed.Goals as goal

pub invariant_of-result : goal.invariant_of-result
invariant_of-result c = subst IsSound (sym c.in_ok-steps.ensures) (lists_are_sound c.args.asks.now)
