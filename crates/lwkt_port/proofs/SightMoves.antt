-- What was put into the queue of a lane is seen at its other end, and received where notes are taken in.
use Rattle.std.proofs.Common.{◌≡◌, ⊎_elim, ℕ, ◌<◌, ◌≤◌, inl, inr, List, ◌++◌, length, set, get_or, refl, ap, sym, ◌∙◌, subst, arith, append_assoc, length-set, get_or-set_same}
use Rattle.std.proofs.lemmas.List.{get_or_default}
use mathlib.Core.List.{IsPrefix}
use Rattle.std.specs.Prelude.{◌⊎◌, IsSome, slice_index_or, Vec}
use Rattle.std.specs.declared.alloc.Global.{Global}
use Rattle.lwkt_core.specs.declared.events.Event.{Event}
use Rattle.lwkt_lane.specs.declared.ins.LaneIn.{LaneIn}
use Rattle.lwkt_lane.specs.declared.notes.Note.{Note}
use Rattle.lwkt_lane.specs.declared.outs.LaneOut.{LaneOut}
use Rattle.lwkt_lane.specs.Lane.{received, seen_notes, out_lane, in_lane, IsLane}
use Rattle.lwkt_msg.specs.Desks.{desk_cpu}
use Rattle.lwkt_port.specs.declared.lines.Lane.{Lane}
use Rattle.lwkt_port.specs.Intakes.{PostTakesIn}
use Rattle.lwkt_port.specs.Laws.{TakesSeen}
use Rattle.lwkt_port.specs.Posts.{Post, ChangesOne, AreSameLanes}
use Rattle.lwkt_port.specs.Sights.{AreEnds, SeesQueue, SeesAll, LooksBeside, SeesOwnLine, SeesAllFrom, IsDelivered, SentAreDelivered, OwnAreDelivered}
use Rattle.lwkt_port.proofs.DeliveryMoves.{seen_taken}
use Rattle.lwkt_port.proofs.Dispatching.{changed}
use Rattle.lwkt_port.proofs.SameLanes.{lanes_change}

pub lines_see : (from to : ℕ) (sender lanes : List Lane) (s s' line line' : Lane) → to < length sender → s ≡ slice_index_or sender to s → from < length lanes → line ≡ slice_index_or lanes from line → LooksBeside s s' → SeesAll s.out line line' → SeesAllFrom from to sender (set sender to s') lanes (set lanes from line')
lines_see from to sender lanes s s' line line' there was back at beside sees = record {
  beside = record { old = s; new = s'; there = there; was = sym was; now = refl; does = beside };
  sees = changed Lane (SeesAll s.out) from from lanes line line' back at refl sees;
}

pub sight_lanes : (from to : ℕ) (sender sender' lanes lanes' : List Lane) → SeesAllFrom from to sender sender' lanes lanes' → AreSameLanes lanes lanes' × AreSameLanes sender sender'
sight_lanes from to sender sender' lanes lanes' s = (
  lanes_change (SeesAll s.beside.old.out) from lanes lanes' s.sees (ap (λ o. out_lane o) s.sees.does.out_same) s.sees.does.into.lane_same,
  lanes_change LooksBeside to sender sender' s.beside s.beside.does.beside.lane_same (ap (λ i. in_lane i) s.beside.does.into_same),
)

-- so it is with a line whose two ends are of one lane
pub line_sees : (at : ℕ) (lanes : List Lane) (line line' : Lane) → at < length lanes → line ≡ slice_index_or lanes at line → SeesOwnLine line line' → ChangesOne SeesOwnLine at lanes (set lanes at line')
line_sees at lanes line line' there was sees = changed Lane SeesOwnLine at at lanes line line' there was refl sees

pub own_lanes : (at : ℕ) (lanes lanes' : List Lane) → ChangesOne SeesOwnLine at lanes lanes' → AreSameLanes lanes lanes'
own_lanes at lanes lanes' c = lanes_change SeesOwnLine at lanes lanes' c c.does.beside.lane_same c.does.into.lane_same

-- the two ends at one place are of one lane
pub own_ends : (at : ℕ) (lanes : List Lane) (line : Lane) → AreEnds at at lanes lanes → line ≡ slice_index_or lanes at line → IsLane line.out line.into
own_ends at lanes line ends was = let F : Lane → Type 0 = λ l. IsLane l.out l.into in subst F (sym was) (ends.one line)

front : (a b c : List Note) → IsPrefix a b → IsPrefix (c ++ a) (c ++ b)
front a b c p = (p.0, append_assoc c a p.0 ∙ ap (λ l. c ++ l) p.1)

-- what a line has seen of a queue is received, where notes are taken in
line_delivered : (at limit count : ℕ) (out : LaneOut) (into : LaneIn) (line : Lane) (q r : Post) (t u : Vec Event Global) (e : Lane) → at < length q.lanes → slice_index_or q.lanes at e ≡ line → SeesQueue out into line.into → PostTakesIn limit q r t u count → IsDelivered limit count out (slice_index_or r.lanes at e)
line_delivered at limit count out into line q r t u e there is sees takes =
    let taken : TakesSeen limit count (slice_index_or q.lanes at e).into (slice_index_or r.lanes at e) = seen_taken limit count _ _ takes.takes at e there in
    let F : Lane → Type 0 = λ l. TakesSeen limit count l.into (slice_index_or r.lanes at e) in
    let got : TakesSeen limit count line.into (slice_index_or r.lanes at e) = subst F is taken in
    let after : Lane = slice_index_or r.lanes at e in
    let G : List Note → Type 0 = λ l. IsPrefix l (received after.into) in
    let H : List Note → Type 0 = λ l. IsPrefix (received line.into ++ seen_notes line.into) l in
    ⊎_elim
    (λ (first : IsPrefix (seen_notes line.into) got.popped). inl (subst G sees.all (subst H (sym got.received_is) (front (seen_notes line.into) got.popped (received line.into) first))))
    (λ (held : IsSome after.kept ⊎ (limit ≤ count)). inr held)
    got.rest

pub sent_delivered : SentAreDelivered
sent_delivered s s' p q r limit count t u d e ends sight takes =
    let from : ℕ = (desk_cpu s.seat).0 in
    let to : ℕ = (desk_cpu p.seat).0 in
    let b = sight.sees.beside in
    let c = sight.sees.sees in
    let many : length q.lanes ≡ length p.lanes = ap length c.now ∙ length-set p.lanes from c.new in
    let out_is : slice_index_or s.lanes to d ≡ b.old = get_or_default s.lanes to d b.old b.there ∙ b.was in
    let line_is : slice_index_or q.lanes from e ≡ c.new = ap (λ l. get_or l from e) c.now ∙ get_or-set_same p.lanes from c.new e c.there in
    let there : from < length q.lanes = (let h : from < length p.lanes = c.there in omega (arith, h, many)) in
    let D : Lane → Type 0 = λ l. IsDelivered limit count l.out (slice_index_or r.lanes from e) in
    subst D (sym out_is) (line_delivered from limit count b.old.out c.old.into c.new q r t u e there line_is c.does.into takes)

pub own_delivered : OwnAreDelivered
own_delivered p q r limit count t u d e sight takes =
    let own : ℕ = (desk_cpu p.seat).0 in
    let c = sight.sees in
    let many : length q.lanes ≡ length p.lanes = ap length c.now ∙ length-set p.lanes own c.new in
    let out_is : slice_index_or p.lanes own d ≡ c.old = get_or_default p.lanes own d c.old c.there ∙ c.was in
    let line_is : slice_index_or q.lanes own e ≡ c.new = ap (λ l. get_or l own e) c.now ∙ get_or-set_same p.lanes own c.new e c.there in
    let there : own < length q.lanes = (let h : own < length p.lanes = c.there in omega (arith, h, many)) in
    let D : Lane → Type 0 = λ l. IsDelivered limit count l.out (slice_index_or r.lanes own e) in
    subst D (sym out_is) (line_delivered own limit count c.old.out c.old.into c.new q r t u e there line_is c.does.into takes)
