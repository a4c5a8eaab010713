use Rattle.std.proofs.Common.{sym, ◌∙◌, subst}
use Rattle.lwkt_bank.specs.declared.seats.CpuSeat.{CpuSeat}
use Rattle.lwkt_cpu.specs.Processors.{IsAtRest, processor_of}
use Rattle.std.specs.Prelude.{None}
use Rattle.lwkt_cpu.proofs.WakeMoves.{rest_new}
use Rattle.lwkt_cpu.proofs.cpus.Cpu.new.Goals as goal

pub invariant_of-result : goal.invariant_of-result
invariant_of-result g c =
    let threads = c.in_ok-threads.threads.items in
    let fit = c.fits.ensures.yes c.if-not-fits.false in
    let F : CpuSeat → Type 0 = λ s. IsAtRest {B = g.row.B.Denot} (processor_of s c.args.ports c.args.bodies.items threads None 0) in
    subst F (sym c.new.ensures) (rest_new {B = g.row.B.Denot} c.args.seat c.args.ports c.args.bodies.items threads c.len-count.result c.in_ok-threads.ensures (c.len-count.ensures ∙ c.args.bodies.ok.0) fit.0 fit.1 c.requires.mine c.requires.empty)
