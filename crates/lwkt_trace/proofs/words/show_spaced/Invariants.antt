use Rattle.std.proofs.Common.{◌≡◌, ◌++◌, string_bytes, drop}
use Rattle.lwkt_trace.specs.Words.{spaced_numbers}
use Rattle.lwkt_trace.proofs.words.show_spaced.Given as goal

-- what is written, with the text of the numbers to come, is the whole text
abbrev pub invariant-loop-number : goal.invariant-loop-number
invariant-loop-number l = string_bytes l.out ++ spaced_numbers (drop l.number-index l.numbers) ≡ string_bytes l.initial.out ++ spaced_numbers l.numbers
