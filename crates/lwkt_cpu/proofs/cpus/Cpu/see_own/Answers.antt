use Rattle.std.proofs.Common.{subst, sym}
use Rattle.lwkt_cpu.specs.Processors.{Processor, processor_of}
use Rattle.lwkt_cpu.specs.Sights.{AreLinked, SeesOwnLane}
use Rattle.lwkt_cpu.proofs.ShutMoves.{rest_posted}
use Rattle.lwkt_cpu.proofs.SightMoves.{joined_posts, see_own_post}
use Rattle.lwkt_cpu.proofs.cpus.Cpu.see_own.Goals as goal

pub see_own-requires : goal.see_own-requires
see_own-requires g c =
    let i = c.self.inside in
    let p = processor_of {B = g.row.B.Denot} i.hold.seat i.ports i.bodies.items i.threads.items i.running i.cursor in
    let F : Processor g.row.B.Denot → Type 0 = λ x. AreLinked {B = g.row.B.Denot} x x in
    joined_posts {B = g.row.B.Denot} p p c.self.invariant.mine c.self.invariant.mine (subst F (sym c.self.view_is) c.requires)

pub invariant_of-self : goal.invariant_of-self
invariant_of-self g c =
    let i = c.self.inside in
    rest_posted {B = g.row.B.Denot} i.hold.seat i.ports c.see_own.new.self i.bodies.items i.threads.items i.running i.cursor c.see_own.ensures.same c.self.invariant

pub returns-clause-sees : goal.returns-clause-sees
returns-clause-sees g c =
    let i = c.self.inside in
    let p = processor_of {B = g.row.B.Denot} i.hold.seat i.ports i.bodies.items i.threads.items i.running i.cursor in
    let q : Processor g.row.B.Denot = record p { post = c.see_own.new.self } in
    let F : Processor g.row.B.Denot → Type 0 = λ x. SeesOwnLane {B = g.row.B.Denot} x q in
    subst F c.self.view_is (see_own_post {B = g.row.B.Denot} p c.see_own.new.self c.self.invariant.mine c.see_own.ensures.sees)
