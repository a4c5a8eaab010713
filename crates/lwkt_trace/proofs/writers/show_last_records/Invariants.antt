use Rattle.std.proofs.Common.{◌≡◌, ◌++◌, string_bytes, drop}
use Rattle.lwkt_trace.specs.Written.{parted, comma_at, last_record_text}
use Rattle.lwkt_trace.proofs.writers.show_last_records.Given as goal

-- what is written, with the parts to come, is the whole text
abbrev pub invariant-loop-number : goal.invariant-loop-number
invariant-loop-number l = string_bytes l.out ++ parted comma_at last_record_text l.number (drop l.number l.lines) ≡ string_bytes l.initial.out ++ parted comma_at last_record_text 0 l.lines
