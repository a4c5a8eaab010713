use Rattle.std.proofs.Common.{subst, sym}
use Rattle.lwkt_cpu.specs.Processors.{Processor, processor_of}
use Rattle.lwkt_cpu.specs.Sights.{AreLinked, SeesLane}
use Rattle.lwkt_cpu.proofs.ShutMoves.{rest_posted}
use Rattle.lwkt_cpu.proofs.SightMoves.{joined_posts, see_posts}
use Rattle.lwkt_cpu.proofs.cpus.Cpu.see.Goals as goal

pub see-requires : goal.see-requires
see-requires g c =
    let i = c.self.inside in
    let j = c.sender.inside in
    let p = processor_of {B = g.row.B.Denot} i.hold.seat i.ports i.bodies.items i.threads.items i.running i.cursor in
    let s = processor_of {B = g.row.B.Denot} j.hold.seat j.ports j.bodies.items j.threads.items j.running j.cursor in
    let F : Processor g.row.B.Denot → Type 0 = λ x. AreLinked {B = g.row.B.Denot} c.args.sender.now x in
    let G : Processor g.row.B.Denot → Type 0 = λ x. AreLinked {B = g.row.B.Denot} x p in
    joined_posts {B = g.row.B.Denot} s p c.sender.invariant.mine c.self.invariant.mine (subst G (sym c.sender.view_is) (subst F (sym c.self.view_is) c.requires))

pub invariant_of-self : goal.invariant_of-self
invariant_of-self g c =
    let i = c.self.inside in
    rest_posted {B = g.row.B.Denot} i.hold.seat i.ports c.see.new.self i.bodies.items i.threads.items i.running i.cursor c.see.ensures.same c.self.invariant

pub invariant_of-sender : goal.invariant_of-sender
invariant_of-sender g c =
    let j = c.sender.inside in
    rest_posted {B = g.row.B.Denot} j.hold.seat j.ports c.see.new.sender j.bodies.items j.threads.items j.running j.cursor c.see.ensures.sender c.sender.invariant

pub returns-clause-sees : goal.returns-clause-sees
returns-clause-sees g c =
    let i = c.self.inside in
    let j = c.sender.inside in
    let p = processor_of {B = g.row.B.Denot} i.hold.seat i.ports i.bodies.items i.threads.items i.running i.cursor in
    let s = processor_of {B = g.row.B.Denot} j.hold.seat j.ports j.bodies.items j.threads.items j.running j.cursor in
    let q : Processor g.row.B.Denot = record p { post = c.see.new.self } in
    let r : Processor g.row.B.Denot = record s { post = c.see.new.sender } in
    let F : Processor g.row.B.Denot → Type 0 = λ x. SeesLane {B = g.row.B.Denot} c.args.sender.now r x q in
    let G : Processor g.row.B.Denot → Type 0 = λ x. SeesLane {B = g.row.B.Denot} x r p q in
    subst F c.self.view_is (subst G c.sender.view_is (see_posts {B = g.row.B.Denot} s p c.see.new.sender c.see.new.self c.sender.invariant.mine c.self.invariant.mine c.see.ensures.sees))
