use Rattle.std.proofs.Common.{◌≡◌, ◌++◌, string_bytes, drop}
use Rattle.lwkt_trace.specs.Written.{parted, line_at, token_text}
use Rattle.lwkt_trace.proofs.writers.show_specs.Given as goal

-- what is written, with the parts to come, is the whole text
abbrev pub invariant-loop-number : goal.invariant-loop-number
invariant-loop-number l = string_bytes l.out ++ parted line_at token_text l.number (drop l.number l.specs) ≡ string_bytes l.initial.out ++ parted line_at token_text 0 l.specs
