use Rattle.std.proofs.Common.{◌≡◌, ◌<◌, ℕ, None, string_bytes}
use Rattle.lwkt_checker.specs.Said.{SaysMessage}
use Rattle.lwkt_checker.proofs.differences.show_messages.Given as goal

-- nothing is said of the messages so far, and nothing is written
abbrev pub invariant-loop-place : goal.invariant-loop-place
invariant-loop-place l = ((p : ℕ) → p < l.place → SaysMessage l.state l.last p None) × (string_bytes l.out ≡ string_bytes l.initial.out)
