use Rattle.std.proofs.Common.{ap, refl, subst}
use Rattle.lwkt_msg.specs.Desks.{Desk}
use Rattle.lwkt_port.specs.Intakes.{hall}
use Rattle.lwkt_port.specs.Posts.{Post, IsSamePost}
use Rattle.lwkt_port.specs.Traced.{TracesDeeds}
use Rattle.lwkt_port.proofs.Passing.{takes_within}
use Rattle.lwkt_port.proofs.SameLanes.{taken_lanes}
use Rattle.lwkt_port.proofs.Tracing.{takes_in_traced}
use Rattle.lwkt_port.proofs.posts.Ports.take_in.Goals as goal

pub returns-clause-traced : goal.returns-clause-traced
returns-clause-traced c =
    let n = c.take_in in
    let F : Desk → Type 0 = λ d. TracesDeeds d n.new.self.counters.room.seat c.args.trace.now.items n.new.trace.items in
    subst F (ap (λ (p : Post). p.seat) c.self.view_is) (takes_in_traced c.args.limit (hall c.self.inside.office c.args.trace.now) (hall n.new.self n.new.trace) n.result n.ensures.takes)

pub returns-clause-same : goal.returns-clause-same
returns-clause-same c =
    let o = c.self.inside.office in
    let n = c.take_in in
    let now : Post = record { seat = n.new.self.counters.room.seat; lanes = n.new.self.lanes.items; ports = n.new.self.counters.ports.items; mails = n.new.self.counters.room.mails.items; threads = c.self.inside.threads } in
    let F : Post → Type 0 = λ p. IsSamePost p now in
    subst F c.self.view_is (record { seat = n.ensures.grew_so.same; lanes = taken_lanes c.args.limit n.result (hall o c.args.trace.now) (hall n.new.self n.new.trace) n.ensures.takes; threads = refl })

pub returns-clause-within : goal.returns-clause-within
returns-clause-within c = let n = c.take_in in takes_within c.args.limit n.result (hall c.self.inside.office c.args.trace.now) (hall n.new.self n.new.trace) n.ensures.takes
