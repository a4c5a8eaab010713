use Rattle.std.proofs.Common.{◌≡◌, take, map}
use Rattle.std.specs.Prelude.{replicate, filter, ◌==◌}
use Rattle.lwkt_core.specs.Opening.{opened_token}
use Rattle.lwkt_script.specs.declared.scripts.ThreadSpec.{ThreadSpec}
use Rattle.lwkt_plain.specs.Intakes.{below}
use Rattle.lwkt_plain.specs.Letters.{opened_letter}
use Rattle.lwkt_plain.specs.Places.{empty_lane, empty_port}
use Rattle.lwkt_plain.specs.Openings.{opened_thread, opened_cpu}
use Rattle.lwkt_plain.proofs.openings.opened_threads.Given as goal

abbrev pub invariant-loop-spec : goal.invariant-loop-spec
invariant-loop-spec l = l.threads.items ≡ map opened_thread (filter (λ (spec : ThreadSpec). spec.cpu.0 == l.c) (take l.spec-index l.script.threads))
