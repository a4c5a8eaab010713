use Rattle.std.proofs.Common.{ap, sym, ◌∙◌, subst, List}
use Rattle.lwkt_bank.specs.Seats.{holding}
use Rattle.lwkt_cpu.specs.declared.threads.Thread.{Thread}
use Rattle.lwkt_cpu.specs.Processors.{Processor, AllOver}
use Rattle.lwkt_cpu.proofs.StopMoves.{over_empty}
use Rattle.lwkt_cpu.proofs.cpus.Cpu.retire.Goals as goal

pub into_seat-requires : goal.into_seat-requires
into_seat-requires g c =
    let i = c.self.inside in
    let F : List Thread → Type 0 = λ xs. AllOver xs in
    over_empty i.hold.seat i.threads.items i.running (subst F (sym (ap (λ (p : Processor g.row.B.Denot). p.threads) c.self.view_is)) c.requires) c.self.invariant.held

pub returns-clause-empty : goal.returns-clause-empty
returns-clause-empty g c =
    let i = c.self.inside in
    let F : List Thread → Type 0 = λ xs. AllOver xs in
    ap holding c.into_seat.ensures ∙ over_empty i.hold.seat i.threads.items i.running (subst F (sym (ap (λ (p : Processor g.row.B.Denot). p.threads) c.self.view_is)) c.requires) c.self.invariant.held
