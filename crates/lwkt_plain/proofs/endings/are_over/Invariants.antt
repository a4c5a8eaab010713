use Rattle.std.proofs.Common.{◌≡◌, length, drop}
use Rattle.std.specs.Prelude.{filter, ◌==◌}
use Rattle.lwkt_script.specs.declared.scripts.ThreadSpec.{ThreadSpec}
use Rattle.lwkt_plain.specs.Endings.{are_over}
use Rattle.lwkt_plain.proofs.endings.are_over.Given as goal

abbrev pub invariant-loop-spec : goal.invariant-loop-spec
invariant-loop-spec l = record {
  end : l.spec-index-end ≡ length l.specs;
  same : are_over (filter (λ (spec : ThreadSpec). spec.cpu.0 == l.c) l.specs) l.threads ≡ are_over (filter (λ (spec : ThreadSpec). spec.cpu.0 == l.c) (drop l.spec-index l.specs)) (drop l.k l.threads);
}
