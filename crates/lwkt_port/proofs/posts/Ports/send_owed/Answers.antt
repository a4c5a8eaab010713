use Rattle.std.proofs.Common.{ap, refl, subst}
use Rattle.lwkt_msg.specs.Desks.{Desk}
use Rattle.lwkt_port.specs.Intakes.{payer}
use Rattle.lwkt_port.specs.Posts.{Post, IsSamePost}
use Rattle.lwkt_port.specs.Traced.{TracesDeeds}
use Rattle.lwkt_port.specs.Works.{work}
use Rattle.lwkt_port.proofs.SameLanes.{paid_lanes}
use Rattle.lwkt_port.proofs.Tracing.{owed_all_traced}
use Rattle.lwkt_port.proofs.posts.Ports.send_owed.Goals as goal

pub returns-clause-traced : goal.returns-clause-traced
returns-clause-traced c =
    let r = c.self.inside.office.counters.room in
    let n = c.pay_owed in
    let F : Desk → Type 0 = λ d. TracesDeeds d n.new.self.counters.room.seat c.args.trace.now.items n.new.trace.items in
    subst F (ap (λ (p : Post). p.seat) c.self.view_is) (owed_all_traced _ (record { work = work r c.args.trace.now; lanes = c.make_room.new.lanes.items }) (payer n.new.self n.new.trace) n.ensures.pays)

pub returns-clause-same : goal.returns-clause-same
returns-clause-same c =
    let o = c.self.inside.office in
    let n = c.pay_owed in
    let now : Post = record { seat = n.new.self.counters.room.seat; lanes = n.new.self.lanes.items; ports = n.new.self.counters.ports.items; mails = n.new.self.counters.room.mails.items; threads = c.self.inside.threads } in
    let F : Post → Type 0 = λ p. IsSamePost p now in
    subst F c.self.view_is (record { seat = n.ensures.grew_so.same; lanes = paid_lanes _ _ o.lanes.items c.make_room.new.lanes.items (work o.counters.room c.args.trace.now) (payer n.new.self n.new.trace) c.make_room.ensures.rooms n.ensures.pays; threads = refl })
