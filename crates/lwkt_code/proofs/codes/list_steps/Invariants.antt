use Rattle.std.proofs.Common.{◌≡◌, ◌++◌, drop}
use Rattle.lwkt_code.specs.Programs.{listed}
use Rattle.lwkt_code.proofs.codes.list_steps.Given as goal

abbrev pub invariant-loop-ask : goal.invariant-loop-ask
invariant-loop-ask l = l.steps.items ++ listed (drop l.ask-index l.asks) ≡ listed l.asks
