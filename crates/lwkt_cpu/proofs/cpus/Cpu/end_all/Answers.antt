use Rattle.std.proofs.Common.{◌≡◌, ap, sym, ◌∙◌, subst, List, length, None}
use Rattle.lwkt_cpu.specs.declared.threads.Thread.{Thread}
use Rattle.lwkt_cpu.specs.Processors.{Processor, IsAtRest, processor_of}
use Rattle.lwkt_cpu.specs.Stopping.{AreThreadsStopped}
use Rattle.lwkt_cpu.proofs.RestMoves.{refilled}
use Rattle.lwkt_cpu.proofs.ShutMoves.{rest_posted}
use Rattle.lwkt_cpu.proofs.StopMoves.{rest_stopped, long_stopped}
use Rattle.lwkt_cpu.proofs.cpus.Cpu.end_all.Goals as goal

pub invariant_of-self : goal.invariant_of-self
invariant_of-self g c =
    let i = c.self.inside in
    let s = c.stop_all in
    let q = c.close_all.new.ports in
    let news = s.new.threads in
    let none : i.running ≡ None = ap (λ (x : Processor g.row.B.Denot). x.running) c.self.view_is ∙ c.requires in
    let F : List Thread → Type 0 = λ xs. IsAtRest {B = g.row.B.Denot} (processor_of i.hold.seat q i.bodies.items xs i.running i.cursor) in
    let G : List Thread → Type 0 = λ xs. AreThreadsStopped xs news in
    let long : length news ≡ i.threads.len = long_stopped c.deref_mut.result.now news s.ensures ∙ c.deref_mut.ensures.len in
    subst F (sym (refilled news i.threads.items i.threads.len long))
    (rest_stopped {B = g.row.B.Denot} i.hold.seat q i.bodies.items i.threads.items news i.running i.cursor none (subst G c.deref_mut.ensures.value s.ensures)
    (rest_posted {B = g.row.B.Denot} i.hold.seat i.ports q i.bodies.items i.threads.items i.running i.cursor c.close_all.ensures.same c.self.invariant))
