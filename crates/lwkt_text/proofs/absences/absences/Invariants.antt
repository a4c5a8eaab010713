use Rattle.std.proofs.Common.{◌≡◌, ◌++◌, drop}
use Rattle.std.specs.List.{filter_map}
use Rattle.lwkt_text.specs.Absence.{absence}
use Rattle.lwkt_text.proofs.absences.absences.Given as goal

abbrev pub invariant-loop-expectation : goal.invariant-loop-expectation
invariant-loop-expectation l = l.wrongs ++ filter_map (absence l.script) (drop l.expectation-index l.expectations) ≡ filter_map (absence l.script) l.expectations
