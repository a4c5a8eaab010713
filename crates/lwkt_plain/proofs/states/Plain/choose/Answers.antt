use Rattle.std.proofs.Common.{◌≡◌, ap, ◌∙◌, Option, None}
use Rattle.lwkt_plain.specs.declared.states.Processor.{Processor}
use Rattle.lwkt_plain.proofs.Soundness.{cpu_got}
use Rattle.lwkt_plain.proofs.states.Plain.choose.Goals as goal

pub choose_new-requires-clause-idle : goal.choose_new-requires-clause-idle
choose_new-requires-clause-idle c = ap (λ (x : Processor). x.running) (cpu_got c.args.self.now c.args.c c.part-cpu.result.now c.part-cpu.ensures) ∙ c.in-None.is
