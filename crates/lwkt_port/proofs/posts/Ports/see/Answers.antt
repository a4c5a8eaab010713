use Rattle.std.proofs.Common.{refl, subst}
use Rattle.lwkt_port.specs.Posts.{Post, IsSamePost}
use Rattle.lwkt_port.proofs.Growing.{same_none}
use Rattle.lwkt_port.proofs.SightMoves.{sight_lanes}
use Rattle.lwkt_port.proofs.posts.Ports.see.Goals as goal

pub returns-clause-same : goal.returns-clause-same
returns-clause-same c =
    let o = c.self.inside.office in
    let n = c.see_from in
    let now : Post = record { seat = o.counters.room.seat; lanes = n.new.lanes.items; ports = o.counters.ports.items; mails = o.counters.room.mails.items; threads = c.self.inside.threads } in
    let F : Post → Type 0 = λ p. IsSamePost p now in
    subst F c.self.view_is (record { seat = same_none o.counters.room.seat; lanes = (sight_lanes _ _ _ _ _ _ n.ensures.sees).0; threads = refl })

pub returns-clause-sender : goal.returns-clause-sender
returns-clause-sender c =
    let o = c.sender.inside.office in
    let n = c.see_from in
    let now : Post = record { seat = o.counters.room.seat; lanes = n.new.sender.items; ports = o.counters.ports.items; mails = o.counters.room.mails.items; threads = c.sender.inside.threads } in
    let F : Post → Type 0 = λ p. IsSamePost p now in
    subst F c.sender.view_is (record { seat = same_none o.counters.room.seat; lanes = (sight_lanes _ _ _ _ _ _ n.ensures.sees).1; threads = refl })
