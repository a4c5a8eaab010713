use Rattle.std.proofs.Common.{true, ap, refl, subst}
use Rattle.lwkt_msg.specs.Desks.{Desk}
use Rattle.lwkt_msg.specs.Views.{no_flags}
use Rattle.lwkt_port.specs.declared.deeds.Sending.{Sending}
use Rattle.lwkt_port.specs.Posts.{Post, IsSamePost}
use Rattle.lwkt_port.specs.Traced.{TracesDeeds}
use Rattle.lwkt_port.specs.Works.{work}
use Rattle.lwkt_port.proofs.SameLanes.{dispatch_lanes}
use Rattle.lwkt_port.proofs.Tracing.{dispatch_traced}
use Rattle.lwkt_port.proofs.posts.Ports.send_sync.Goals as goal

pub returns-clause-traced : goal.returns-clause-traced
returns-clause-traced c =
    let r = c.self.inside.office.counters.room in
    let n = c.dispatch in
    let s : Sending = record { thread = c.args.thread; msg = c.args.msg; to = c.args.to; call = c.args.call; flags = no_flags; sync = true } in
    let F : Desk → Type 0 = λ d. TracesDeeds d n.new.self.counters.room.seat c.args.trace.now.items n.new.trace.items in
    subst F (ap (λ (p : Post). p.seat) c.self.view_is) (dispatch_traced s c.self.inside.office.lanes.items n.new.self.lanes.items (work r c.args.trace.now) (work n.new.self.counters.room n.new.trace) n.result n.ensures.sent n.ensures.refused)

pub returns-clause-same : goal.returns-clause-same
returns-clause-same c =
    let o = c.self.inside.office in
    let n = c.dispatch in
    let s : Sending = record { thread = c.args.thread; msg = c.args.msg; to = c.args.to; call = c.args.call; flags = no_flags; sync = true } in
    let now : Post = record { seat = n.new.self.counters.room.seat; lanes = n.new.self.lanes.items; ports = n.new.self.counters.ports.items; mails = n.new.self.counters.room.mails.items; threads = c.self.inside.threads } in
    let F : Post → Type 0 = λ p. IsSamePost p now in
    subst F c.self.view_is (record { seat = n.ensures.beside.grew_so.same; lanes = dispatch_lanes s o.lanes.items n.new.self.lanes.items (work o.counters.room c.args.trace.now) (work n.new.self.counters.room n.new.trace) n.result n.ensures.sent n.ensures.refused; threads = refl })
