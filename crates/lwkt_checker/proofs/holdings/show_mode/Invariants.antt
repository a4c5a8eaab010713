use Rattle.std.proofs.Common.{◌≡◌, ◌++◌, false, string_bytes, drop}
use Rattle.lwkt_checker.specs.Said.{mode_said}
use Rattle.lwkt_checker.proofs.holdings.show_mode.Given as goal

-- what is written, with the processors to come, is the whole text
abbrev pub invariant-loop-cpu : goal.invariant-loop-cpu
invariant-loop-cpu l = string_bytes l.out ++ mode_said l.mode l.words l.found l.cpu (drop l.cpu l.holders) ≡ string_bytes l.initial.out ++ mode_said l.mode l.words false 0 l.holders
