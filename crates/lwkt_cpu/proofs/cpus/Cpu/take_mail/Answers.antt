use Rattle.std.proofs.Common.{◌*◌, ◌≤◌, List, length, refl, ap, sym, ◌∙◌, subst, arith}
use Rattle.lwkt_hold.specs.Runs.{Ran}
use Rattle.lwkt_msg.specs.Desks.{desk_cpu}
use Rattle.lwkt_port.specs.Posts.{IsSamePost}
use Rattle.lwkt_port.proofs.Tracing.{deeds_then}
use Rattle.lwkt_cpu.specs.Traced.{TracesMail}
use Rattle.lwkt_cpu.proofs.MailMoves.{ran_mail}
use Rattle.lwkt_cpu.proofs.MailTraceMoves.{mail_traced}
use Rattle.lwkt_cpu.specs.declared.threads.Thread.{Thread}
use Rattle.lwkt_cpu.specs.Processors.{Processor, IsAtRest, processor_of}
use Rattle.lwkt_cpu.specs.Turning.{IsMailed}
use Rattle.lwkt_cpu.specs.Waking.{TakesMail, WakesAll, ward, AreWoken}
use Rattle.lwkt_cpu.proofs.RestMoves.{refilled}
use Rattle.lwkt_cpu.proofs.WakeMoves.{post_then, grew_more, rest_mailed, held_mailed}
use Rattle.lwkt_cpu.proofs.cpus.Cpu.take_mail.Goals as goal

pub invariant_of-self : goal.invariant_of-self
invariant_of-self g c =
    let i = c.self.inside in
    let w = c.wake_all in
    let F : List Thread → Type 0 = λ xs. IsAtRest {B = g.row.B.Denot} (processor_of i.hold.seat w.new.ports i.bodies.items xs i.running i.cursor) in
    let G : List Thread → Type 0 = λ xs. AreWoken xs w.new.threads in
    subst F (sym (refilled w.new.threads i.threads.items i.threads.len (w.ensures.woken.0 ∙ c.deref_mut.ensures.len)))
    (rest_mailed {B = g.row.B.Denot} i.hold.seat i.ports w.new.ports i.bodies.items i.threads.items w.new.threads i.running i.cursor (post_then i.ports c.take_in-count.new.self w.new.ports c.take_in-count.ensures.same w.ensures.same) (subst G c.deref_mut.ensures.value w.ensures.woken) c.self.invariant)

pub returns-clause-mail : goal.returns-clause-mail
returns-clause-mail g c =
    let i = c.self.inside in
    let w = c.wake_all in
    let t = c.take_in-count in
    let old = processor_of {B = g.row.B.Denot} i.hold.seat i.ports i.bodies.items i.threads.items i.running i.cursor in
    let new : List Thread → Processor g.row.B.Denot = λ xs. processor_of i.hold.seat w.new.ports i.bodies.items xs i.running i.cursor in
    let F : List Thread → Type 0 = λ xs. TakesMail {B = g.row.B.Denot} c.args.self.now (new xs) c.args.trace.now w.new.trace in
    let G : Processor g.row.B.Denot → Type 0 = λ p. TakesMail {B = g.row.B.Denot} p (new w.new.threads) c.args.trace.now w.new.trace in
    let H : List Thread → Type 0 = λ xs. WakesAll (ward t.new.self xs t.new.trace) (ward w.new.ports w.new.threads w.new.trace) in
    subst F (sym (refilled w.new.threads i.threads.items i.threads.len (w.ensures.woken.0 ∙ c.deref_mut.ensures.len)))
    (subst G c.self.view_is (record {
      post = t.new.self;
      v = t.new.trace;
      count = t.result;
      takes = t.ensures.takes;
      wakes = subst H c.deref_mut.ensures.value w.ensures.wakes;
      seat = refl;
      bodies = refl;
      running = refl;
      cursor = refl;
    }))

pub returns-clause-ran : goal.returns-clause-ran
returns-clause-ran g c =
    let i = c.self.inside in
    let w = c.wake_all in
    let t = c.take_in-count in
    let F : Processor g.row.B.Denot → Type 0 = λ p. Ran (IsMailed p.threads) 2304 p.seat i.hold.seat c.args.trace.now w.new.trace in
    let few : length c.deref_mut.result.now ≤ 16 = omega (arith, c.self.invariant.few, ap length c.deref_mut.ensures.value) in
    subst F c.self.view_is (ran_mail (IsMailed i.threads.items) (desk_cpu i.ports.seat) 2304 i.hold.seat c.args.trace.now w.new.trace c.self.invariant.mine (held_mailed i.hold.seat i.threads.items i.running c.self.invariant.held)
    (grew_more i.ports t.new.self 256 (128 * length c.deref_mut.result.now) 2304 c.args.trace.now t.new.trace w.new.trace (omega (arith, few)) t.ensures.same t.ensures.grew w.ensures.grew))

pub returns-clause-traced : goal.returns-clause-traced
returns-clause-traced g c =
    let i = c.self.inside in
    let w = c.wake_all in
    let t = c.take_in-count in
    let F : Processor g.row.B.Denot → Type 0 = λ p. TracesMail p.post.seat w.new.ports.seat c.args.trace.now.items w.new.trace.items in
    let few : length c.deref_mut.result.now ≤ 16 = omega (arith, c.self.invariant.few, ap length c.deref_mut.ensures.value) in
    subst F c.self.view_is (mail_traced (desk_cpu i.ports.seat) 2304 i.ports.seat w.new.ports.seat c.args.trace.now w.new.trace
    (deeds_then i.ports.seat t.new.self.seat w.new.ports.seat c.args.trace.now.items t.new.trace.items w.new.trace.items t.ensures.traced w.ensures.traced)
    (grew_more i.ports t.new.self 256 (128 * length c.deref_mut.result.now) 2304 c.args.trace.now t.new.trace w.new.trace (omega (arith, few)) t.ensures.same t.ensures.grew w.ensures.grew))

pub returns-clause-same : goal.returns-clause-same
returns-clause-same g c =
    let i = c.self.inside in
    let w = c.wake_all in
    let t = c.take_in-count in
    let F : Processor g.row.B.Denot → Type 0 = λ p. IsSamePost p.post w.new.ports in
    subst F c.self.view_is (post_then i.ports t.new.self w.new.ports t.ensures.same w.ensures.same)
