use Rattle.std.proofs.Common.{ap, subst}
use Rattle.lwkt_msg.specs.Desks.{Desk}
use Rattle.lwkt_port.specs.Posts.{Post}
use Rattle.lwkt_port.specs.Traced.{TracesDeeds}
use Rattle.lwkt_port.specs.Works.{work}
use Rattle.lwkt_port.proofs.Tracing.{withdraw_traced}
use Rattle.lwkt_port.proofs.posts.Ports.drop_msg.Goals as goal

pub returns-clause-traced : goal.returns-clause-traced
returns-clause-traced c =
    let r = c.self.inside.office.counters.room in
    let n = c.withdraw in
    let F : Desk → Type 0 = λ d. TracesDeeds d n.new.self.seat c.args.trace.now.items n.new.trace.items in
    subst F (ap (λ (p : Post). p.seat) c.self.view_is) (withdraw_traced c.args.msg (work r c.args.trace.now) (work n.new.self n.new.trace) n.result n.ensures.drops n.ensures.refused)
