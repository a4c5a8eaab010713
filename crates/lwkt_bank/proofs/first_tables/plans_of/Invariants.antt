use Rattle.std.proofs.Common.{◌≡◌, take}
use Rattle.lwkt_bank.specs.Opened.{plans_of}
use Rattle.lwkt_bank.proofs.first_tables.plans_of.Given as goal

abbrev pub invariant-loop-spec : goal.invariant-loop-spec
invariant-loop-spec l = l.plans.items ≡ plans_of (take l.spec-index l.specs)
