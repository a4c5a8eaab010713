use Rattle.std.proofs.Common.{◌≡◌, ◌++◌, string_bytes, drop, decimal}
use Rattle.lwkt_trace.specs.Written.{parted, comma_at}
use Rattle.lwkt_trace.proofs.writers.show_parts.Given as goal

-- what is written, with the parts to come, is the whole text
abbrev pub invariant-loop-place : goal.invariant-loop-place
invariant-loop-place l = string_bytes l.out ++ parted comma_at decimal l.place (drop l.place l.numbers) ≡ string_bytes l.initial.out ++ parted comma_at decimal 0 l.numbers
