-- The lane between two processors' ports has its two ends there.
use Rattle.std.proofs.Common.{◌≡◌, ℕ, zero, suc, ◌<◌, List, [], ◌∷◌, length, map, get_or, refl, ap, sym, ◌∙◌, subst, arith}
use Rattle.std.proofs.lemmas.List.{length-map, get_or-map}
use Rattle.std.specs.Prelude.{zip}
use Rattle.lwkt_base.specs.declared.names.CpuId.{CpuId}
use Rattle.lwkt_lane.specs.declared.ins.LaneIn.{LaneIn}
use Rattle.lwkt_lane.specs.declared.outs.LaneOut.{LaneOut}
use Rattle.lwkt_lane.specs.Lane.{LaneId, out_lane, in_lane}
use Rattle.lwkt_msg.specs.Desks.{desk_cpu}
use Rattle.lwkt_msg.specs.Views.{seat_cpu}
use Rattle.lwkt_port.specs.declared.lines.Lane.{Lane}
use Rattle.lwkt_port.specs.OpenedPorts.{new_line}
use Rattle.lwkt_port.specs.Posts.{AreSameLanes}
use Rattle.lwkt_port.specs.Sights.{AreEnds, StayJoined, AreEndsOfLane, OpenedAreJoined}

abbrev out_of : Lane → LaneId
out_of line = out_lane line.out

abbrev in_of : Lane → LaneId
in_of line = in_lane line.into

pub same_many : (a b : List Lane) → AreSameLanes a b → length b ≡ length a
same_many a b s =
    let before : length (map out_of a) ≡ length a = length-map a out_of in
    let now : length (map out_of b) ≡ length b = length-map b out_of in
    sym now ∙ ap length s.outs ∙ before

same_out : (a b : List Lane) (i : ℕ) (d : Lane) → i < length a → AreSameLanes a b → out_of (get_or b i d) ≡ out_of (get_or a i d)
same_out a b i d there s =
    let many : length b ≡ length a = same_many a b s in
    sym (get_or-map out_of b i d (out_of d) (omega (arith, there, many))) ∙ ap (λ l. get_or l i (out_of d)) s.outs ∙ get_or-map out_of a i d (out_of d) there

same_into : (a b : List Lane) (i : ℕ) (d : Lane) → i < length a → AreSameLanes a b → in_of (get_or b i d) ≡ in_of (get_or a i d)
same_into a b i d there s =
    let many : length b ≡ length a = same_many a b s in
    sym (get_or-map in_of b i d (in_of d) (omega (arith, there, many))) ∙ ap (λ l. get_or l i (in_of d)) s.ins ∙ get_or-map in_of a i d (in_of d) there

-- ends of one lane stay so
pub same_ends : (from to : ℕ) (sender sender' lanes lanes' : List Lane) → AreEnds from to sender lanes → AreSameLanes sender sender' → AreSameLanes lanes lanes' → AreEnds from to sender' lanes'
same_ends from to sender sender' lanes lanes' ends s p = record {
  there = (let many : length sender' ≡ length sender = same_many sender sender' s in omega (arith, many, ends.there));
  back = (let many : length lanes' ≡ length lanes = same_many lanes lanes' p in omega (arith, many, ends.back));
  one = λ d. same_out sender sender' to d ends.there s ∙ ends.one d ∙ sym (same_into lanes lanes' from d ends.back p);
}

pub stay_joined : StayJoined
stay_joined s s' p p' ends one two =
    let F : CpuId × CpuId → Type 0 = λ k. AreEnds k.0.0 k.1.0 s'.lanes p'.lanes in
    subst F (λ k. (sym (ap seat_cpu one.seat.kind) k, sym (ap seat_cpu two.seat.kind) k)) (same_ends (desk_cpu s.seat).0 (desk_cpu p.seat).0 s.lanes s'.lanes p.lanes p'.lanes ends one.lanes two.lanes)

-- the line of two ends
lines_long : (outs : List LaneOut) (ins : List LaneIn) (i : ℕ) → i < length outs → i < length ins → i < length (map new_line (zip outs ins))
lines_long [] ins i a b = absurd (omega (arith, a))
lines_long (o ∷ outs) [] i a b = absurd (omega (arith, b))
lines_long (o ∷ outs) (n ∷ ins) zero a b = omega arith
lines_long (o ∷ outs) (n ∷ ins) (suc i) a b = let less : i < length (map new_line (zip outs ins)) = lines_long outs ins i (omega (arith, a)) (omega (arith, b)) in omega (arith, less)

line_out : (outs : List LaneOut) (ins : List LaneIn) (i : ℕ) (d : Lane) (x : LaneOut) → i < length outs → i < length ins → (get_or (map new_line (zip outs ins)) i d).out ≡ get_or outs i x
line_out [] ins i d x a b = absurd (omega (arith, a))
line_out (o ∷ outs) [] i d x a b = absurd (omega (arith, b))
line_out (o ∷ outs) (n ∷ ins) zero d x a b = refl
line_out (o ∷ outs) (n ∷ ins) (suc i) d x a b = line_out outs ins i d x (omega (arith, a)) (omega (arith, b))

line_into : (outs : List LaneOut) (ins : List LaneIn) (i : ℕ) (d : Lane) (y : LaneIn) → i < length outs → i < length ins → (get_or (map new_line (zip outs ins)) i d).into ≡ get_or ins i y
line_into [] ins i d y a b = absurd (omega (arith, a))
line_into (o ∷ outs) [] i d y a b = absurd (omega (arith, b))
line_into (o ∷ outs) (n ∷ ins) zero d y a b = refl
line_into (o ∷ outs) (n ∷ ins) (suc i) d y a b = line_into outs ins i d y (omega (arith, a)) (omega (arith, b))

wired_ends : (from to : ℕ) (outs outs' : List LaneOut) (ins ins' : List LaneIn) → AreEndsOfLane from to outs outs' ins ins' → AreEnds from to (map new_line (zip outs ins)) (map new_line (zip outs' ins'))
wired_ends from to outs outs' ins ins' w = record {
  there = lines_long outs ins to w.out_there w.line_there;
  back = lines_long outs' ins' from w.line_back w.in_back;
  one = λ d. ap (λ o. out_lane o) (line_out outs ins to d d.out w.out_there w.line_there) ∙ w.one d.out d.into ∙ sym (ap (λ i. in_lane i) (line_into outs' ins' from d d.into w.line_back w.in_back));
}

pub opened_joined : OpenedAreJoined
opened_joined s p outs outs' ins ins' a b w =
    let F : List Lane × List Lane → Type 0 = λ l. AreEnds (desk_cpu s.seat).0 (desk_cpu p.seat).0 l.0 l.1 in
    subst F (λ k. (sym a k, sym b k)) (wired_ends (desk_cpu s.seat).0 (desk_cpu p.seat).0 outs outs' ins ins' w)
