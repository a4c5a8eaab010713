use Rattle.std.proofs.Common.{◌≡◌, flat_map, map, string_bytes}
use Rattle.lwkt.specs.Answering.{line_shown}
use Rattle.lwkt.proofs.errors.lines_shown.Given as goal

abbrev pub invariant-loop-line : goal.invariant-loop-line
invariant-loop-line l = string_bytes l.shown ≡ flat_map line_shown (map (λ x. x.now) l.yielded)
