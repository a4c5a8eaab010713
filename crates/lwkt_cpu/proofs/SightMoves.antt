-- A processor sees what another has put into the queue of the lane to it, over the ports of both.
use Rattle.std.proofs.Common.{◌≡◌, ℕ, List, set, get_or, refl, ap, sym, ◌∙◌, subst, get_or-set_same, get_or-set_other}
use Rattle.std.proofs.lemmas.List.{get_or_default}
use mathlib.Core.Logic.{dite}
use native.Mathlib.Decide.{ℕ_discrete}
use Rattle.lwkt_base.specs.declared.names.CpuId.{CpuId}
use Rattle.lwkt_lane.specs.Lane.{queued, in_lane}
use Rattle.lwkt_msg.specs.Desks.{Desk, desk_cpu, IsSameDesk}
use Rattle.lwkt_port.specs.declared.lines.Lane.{Lane}
use Rattle.lwkt_port.specs.Posts.{Post, ChangesOne, AreSameLanes, IsSamePost}
use Rattle.lwkt_port.specs.Sights.{AreEnds, LooksBeside, PostSees, PostSeesOwn, SeesAllFrom as LanesSee, SeesOwnLine as LineSeesOwn}
use Rattle.lwkt_port.specs.Sights as port
use Rattle.lwkt_port.proofs.Growing.{same_none}
use Rattle.lwkt_port.proofs.JoinMoves.{same_ends}
use Rattle.lwkt_port.proofs.SameLanes.{lanes_change}
use Rattle.lwkt_port.proofs.SightMoves.{sight_lanes, own_lanes}
use Rattle.lwkt_cpu.specs.Processors.{Processor}
use Rattle.lwkt_cpu.specs.Sights.{AreLinked, SeesLane, SeesOwnLane}

-- the ports of joined processors are joined
pub joined_posts : {B : Type 0} (s p : Processor B) → desk_cpu s.post.seat ≡ s.seat.cpu → desk_cpu p.post.seat ≡ p.seat.cpu → AreLinked s p → port.AreJoined s.post p.post
joined_posts {B} s p one two joined =
    let F : CpuId × CpuId → Type 0 = λ k. AreEnds k.0.0 k.1.0 s.post.lanes p.post.lanes in
    subst F (λ k. (sym one k, sym two k)) joined

-- what their ports see they see
pub see_posts : {B : Type 0} (s p : Processor B) (q r : Post) → desk_cpu s.post.seat ≡ s.seat.cpu → desk_cpu p.post.seat ≡ p.seat.cpu → PostSees s.post q p.post r → SeesLane s (record s { post = q }) p (record p { post = r })
see_posts {B} s p q r one two sees =
    let F : CpuId × CpuId → Type 0 = λ k. LanesSee k.0.0 k.1.0 s.post.lanes q.lanes p.post.lanes r.lanes in
    record {
      lanes = subst F (λ k. (one k, two k)) sees.sees;
      sender_else = ap (λ (x : Post). record s { post = x }) sees.sender_else;
      else_same = ap (λ (x : Post). record p { post = x }) sees.else_same;
    }

-- so it is with what they see of what they have sent to themselves
pub see_own_post : {B : Type 0} (p : Processor B) (r : Post) → desk_cpu p.post.seat ≡ p.seat.cpu → PostSeesOwn p.post r → SeesOwnLane p (record p { post = r })
see_own_post {B} p r mine sees =
    let F : CpuId → Type 0 = λ k. ChangesOne LineSeesOwn k.0 p.post.lanes r.lanes in
    record {
      sees = subst F mine sees.sees;
      else_same = ap (λ (x : Post). record p { post = x }) sees.else_same;
    }

-- joined processors stay joined while their ports are the same ones
pub joined_stay : {B : Type 0} (s s' p p' : Processor B) → s'.seat.cpu ≡ s.seat.cpu → p'.seat.cpu ≡ p.seat.cpu → IsSamePost s.post s'.post → IsSamePost p.post p'.post → AreLinked s p → AreLinked s' p'
joined_stay {B} s s' p p' one two ones twos joined =
    let F : CpuId × CpuId → Type 0 = λ k. AreEnds k.0.0 k.1.0 s'.post.lanes p'.post.lanes in
    subst F (λ k. (sym one k, sym two k)) (same_ends s.seat.cpu.0 p.seat.cpu.0 s.post.lanes s'.post.lanes p.post.lanes p'.post.lanes joined ones.lanes twos.lanes)

-- a processor's lanes were looked at: they are the same ones, nothing went into their queues, and nothing else of it changed
pub record IsLooked {B : Type 0} (p q : Processor B) : Type 0 where
  pub lanes : AreSameLanes p.post.lanes q.post.lanes
  pub queues : (to : ℕ) (d : Lane) → queued (get_or q.post.lanes to d).out ≡ queued (get_or p.post.lanes to d).out
  pub else_same : q ≡ record p { post = record p.post { lanes = q.post.lanes } }

pub looked_none : {B : Type 0} (p : Processor B) → IsLooked p p
looked_none p = record { lanes = record { outs = refl; ins = refl }; queues = λ to d. refl; else_same = refl }

pub looked_then : {B : Type 0} (p q r : Processor B) → IsLooked p q → IsLooked q r → IsLooked p r
looked_then {B} p q r one two = record {
  lanes = record { outs = two.lanes.outs ∙ one.lanes.outs; ins = two.lanes.ins ∙ one.lanes.ins };
  queues = λ to d. two.queues to d ∙ one.queues to d;
  else_same = two.else_same ∙ ap (λ (x : Processor B). record x { post = record x.post { lanes = r.post.lanes } }) one.else_same;
}

pub looked_seat : {B : Type 0} (p q : Processor B) → IsLooked p q → q.seat ≡ p.seat
looked_seat {B} p q looked = ap (λ (x : Processor B). x.seat) looked.else_same

pub looked_post : {B : Type 0} (p q : Processor B) → IsLooked p q → IsSamePost p.post q.post
looked_post {B} p q looked = record {
  seat = let F : Desk → Type 0 = λ d. IsSameDesk p.post.seat d in subst F (sym (ap (λ (x : Processor B). x.post.seat) looked.else_same)) (same_none p.post.seat);
  lanes = looked.lanes;
  threads = ap (λ (x : Processor B). x.post.threads) looked.else_same;
}

-- one line changed, whose queue stays
queues_change : (R : Lane → Lane → Type 0) (i : ℕ) (a b : List Lane) (c : ChangesOne R i a b) → queued c.new.out ≡ queued c.old.out → (to : ℕ) (d : Lane) → queued (get_or b to d).out ≡ queued (get_or a to d).out
queues_change R i a b c stays to d = dite (ℕ_discrete to i)
    (λ same. ap (λ l. queued (get_or l to d).out) c.now ∙ ap (λ n. queued (get_or (set a i c.new) n d).out) same ∙ ap (λ (l : Lane). queued l.out) (get_or-set_same a i c.new d c.there) ∙ stays ∙ ap (λ (l : Lane). queued l.out) (sym (get_or_default a i d c.old c.there ∙ c.was)) ∙ sym (ap (λ n. queued (get_or a n d).out) same))
    (λ apart. ap (λ l. queued (get_or l to d).out) c.now ∙ ap (λ (l : Lane). queued l.out) (get_or-set_other a i to c.new d apart))

-- beside whose line to a number another one looked, it is looked at
pub beside_looked : {B : Type 0} (to : ℕ) (s s' : Processor B) → ChangesOne LooksBeside to s.post.lanes s'.post.lanes → s' ≡ record s { post = record s.post { lanes = s'.post.lanes } } → IsLooked s s'
beside_looked to s s' c is = record {
  lanes = lanes_change LooksBeside to s.post.lanes s'.post.lanes c c.does.beside.lane_same (ap (λ i. in_lane i) c.does.into_same);
  queues = queues_change LooksBeside to s.post.lanes s'.post.lanes c c.does.beside.queued_same;
  else_same = is;
}

-- where a processor sees what another has sent, both are looked at
pub sees_looked : {B : Type 0} (s s' p p' : Processor B) → SeesLane s s' p p' → IsLooked p p' × IsLooked s s'
sees_looked s s' p p' sees =
    let same = sight_lanes s.seat.cpu.0 p.seat.cpu.0 s.post.lanes s'.post.lanes p.post.lanes p'.post.lanes sees.lanes in
    let c = sees.lanes.sees in (
      record { lanes = same.0; queues = queues_change _ s.seat.cpu.0 p.post.lanes p'.post.lanes c (ap (λ o. queued o) c.does.out_same); else_same = sees.else_same },
      beside_looked p.seat.cpu.0 s s' sees.lanes.beside sees.sender_else,
    )

-- where a processor sees what it has sent to itself, it is looked at
pub sees_own_looked : {B : Type 0} (p p' : Processor B) → SeesOwnLane p p' → IsLooked p p'
sees_own_looked p p' own = record {
  lanes = own_lanes p.seat.cpu.0 p.post.lanes p'.post.lanes own.sees;
  queues = queues_change _ p.seat.cpu.0 p.post.lanes p'.post.lanes own.sees own.sees.does.beside.queued_same;
  else_same = own.else_same;
}
