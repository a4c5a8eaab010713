use Rattle.std.proofs.Common.{◌≡◌, drop}
use Rattle.std.specs.Prelude.{filter, slice_get, ◌==◌}
use Rattle.lwkt_script.specs.declared.scripts.ThreadSpec.{ThreadSpec}
use Rattle.lwkt_plain.proofs.polls.spec_at.Given as goal

abbrev pub invariant-loop-spec : goal.invariant-loop-spec
invariant-loop-spec l = slice_get (filter (λ (t : ThreadSpec). t.cpu.0 == l.c) (drop l.spec-index l.script.threads)) l.left ≡ slice_get (filter (λ (t : ThreadSpec). t.cpu.0 == l.c) l.script.threads) l.k
