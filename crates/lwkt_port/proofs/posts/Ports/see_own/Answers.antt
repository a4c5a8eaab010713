use Rattle.std.proofs.Common.{refl, subst}
use Rattle.lwkt_port.specs.Posts.{Post, IsSamePost}
use Rattle.lwkt_port.proofs.Growing.{same_none}
use Rattle.lwkt_port.proofs.SightMoves.{own_lanes}
use Rattle.lwkt_port.proofs.posts.Ports.see_own.Goals as goal

pub returns-clause-same : goal.returns-clause-same
returns-clause-same c =
    let o = c.self.inside.office in
    let n = c.see_at in
    let now : Post = record { seat = o.counters.room.seat; lanes = n.new.lanes.items; ports = o.counters.ports.items; mails = o.counters.room.mails.items; threads = c.self.inside.threads } in
    let F : Post → Type 0 = λ p. IsSamePost p now in
    subst F c.self.view_is (record { seat = same_none o.counters.room.seat; lanes = own_lanes _ _ _ n.ensures.sees; threads = refl })
