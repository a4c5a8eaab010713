use Rattle.std.proofs.Common.{◌≡◌, take, map}
use Rattle.std.specs.Prelude.{replicate, filter, ◌==◌}
use Rattle.lwkt_core.specs.Opening.{opened_token}
use Rattle.lwkt_script.specs.declared.scripts.ThreadSpec.{ThreadSpec}
use Rattle.lwkt_plain.specs.Intakes.{below}
use Rattle.lwkt_plain.specs.Letters.{opened_letter}
use Rattle.lwkt_plain.specs.Places.{empty_lane, empty_port}
use Rattle.lwkt_plain.specs.Openings.{opened_thread, opened_cpu}
use Rattle.lwkt_plain.proofs.openings.empty_ports.Given as goal

abbrev pub invariant-loop-made : goal.invariant-loop-made
invariant-loop-made l = l.ports.items ≡ replicate l.made empty_port
