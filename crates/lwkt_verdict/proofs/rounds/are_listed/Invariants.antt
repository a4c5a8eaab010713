use Rattle.std.proofs.Common.{drop}
use Rattle.std.specs.Prelude.{◌↔◌}
use Rattle.lwkt_verdict.specs.Run.{AreListed}
use Rattle.lwkt_verdict.proofs.rounds.are_listed.Given as goal

-- the lines are in order exactly if those that are left are, from the least number that is left
abbrev pub invariant-loop-line : goal.invariant-loop-line
invariant-loop-line l = AreListed l.cpus 0 l.lines ↔ AreListed l.cpus l.least (drop l.line-index l.lines)
