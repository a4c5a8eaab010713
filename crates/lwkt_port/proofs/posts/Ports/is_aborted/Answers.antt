use Rattle.std.proofs.Common.{ap, subst, rules}
use Rattle.std.specs.Prelude.{IfOk}
use Rattle.lwkt_msg.specs.Desks.{Desk}
use Rattle.lwkt_port.specs.Posts.{Post}
use Rattle.lwkt_port.specs.Sendings.{IsShownTo}
use Rattle.lwkt_port.specs.Traced.{TracesDeeds}
use Rattle.lwkt_port.specs.Withdrawals.{PostHears}
use Rattle.lwkt_port.specs.Works.{Work}
use Rattle.lwkt_port.proofs.Tracing.{hear_traced}
use Rattle.lwkt_port.proofs.Withdrawing.{hears, post_hears}
use Rattle.lwkt_port.proofs.posts.Ports.is_aborted.Goals as goal

pub returns-clause-traced : goal.returns-clause-traced
returns-clause-traced c = λ events.
    let i = c.self.inside.office.counters.room in
    let r = c.hear in
    let F : Desk → Type 0 = λ d. TracesDeeds d r.new.self.seat events events in
    let w : Work = record { seat = i.seat; mails = i.mails.items; trace = events } in
    let w' : Work = record { seat = r.new.self.seat; mails = r.new.self.mails.items; trace = events } in
    subst F (ap (λ (p : Post). p.seat) c.self.view_is) (hear_traced c.args.msg w w' r.result r.ensures.always (hears r.result i.seat r.new.self.seat i.mails.items r.new.self.mails.items c.args.msg events r.ensures.heard))

pub returns-clause-heard : goal.returns-clause-heard
returns-clause-heard c =
    let o = c.self.inside.office in
    let i = o.counters.room in
    let r = c.hear in
    let p : Post = record { seat = i.seat; lanes = o.lanes.items; ports = o.counters.ports.items; mails = i.mails.items; threads = c.self.inside.threads } in
    let shown : IsShownTo c.args.thread c.args.msg i.mails.items = search rules in
    let F : Post → Type 0 = λ x. IfOk r.result (λ aborted. PostHears c.args.thread c.args.msg x (record p { seat = r.new.self.seat; mails = r.new.self.mails.items }) aborted) in
    subst F c.self.view_is (post_hears r.result c.args.thread c.args.msg p r.new.self.seat r.new.self.mails.items shown r.ensures.heard)
