-- The lines that processors make of the lanes' ends.
use Rattle.std.specs.Global.{Global}
use Rattle.std.proofs.Common.{◌≡◌, ℕ, zero, suc, ◌+◌, List, [], ◌∷◌, ◌++◌, length, map, refl, ap, sym, ◌∙◌, subst, inl, inr, arith, Option, Some, None}
use Rattle.std.specs.Prelude.{Vec, slice_get, zip}
use Rattle.lwkt_lane.specs.declared.ins.LaneIn.{LaneIn}
use Rattle.lwkt_lane.specs.declared.outs.LaneOut.{LaneOut}
use Rattle.lwkt_lane.specs.Crossed.{AreLanes, IsLeft}
use Rattle.lwkt_lane.proofs.PlaceMoves.{some_same, get_pushed}
use Rattle.lwkt_port.specs.declared.lines.Lane.{Lane}
use Rattle.lwkt_port.specs.OpenedPorts.{new_line}
use Rattle.lwkt_cpu.specs.Processors.{Processor}
use Rattle.lwkt_cpu.specs.Wiring.{HasLines, HaveLines, AreWired}

none_is_some : {A : Type 0} (x : A) → ◌≡◌ {A = Option A} None (Some x) → ⊥
none_is_some x is = cc

-- a line is that of two ends, and keeps nothing
pub get_paired : (xs : List LaneOut) (ys : List LaneIn) (j : ℕ) (line : Lane) → slice_get (map new_line (zip xs ys)) j ≡ Some line → (slice_get xs j ≡ Some line.out) × ((slice_get ys j ≡ Some line.into) × (line.kept ≡ None))
get_paired [] ys zero line at = absurd (none_is_some line at)
get_paired [] ys (suc j) line at = absurd (none_is_some line at)
get_paired (x ∷ xs) [] zero line at = absurd (none_is_some line at)
get_paired (x ∷ xs) [] (suc j) line at = absurd (none_is_some line at)
get_paired (x ∷ xs) (y ∷ ys) zero line at =
    let e : new_line (x, y) ≡ line = some_same (new_line (x, y)) line (Some (new_line (x, y))) refl at in
    (ap (λ (l : Lane). Some l.out) e, (ap (λ (l : Lane). Some l.into) e, ap (λ (l : Lane). l.kept) (sym e)))
get_paired (x ∷ xs) (y ∷ ys) (suc j) line at = get_paired xs ys j line at

pub length_paired : (xs : List LaneOut) (ys : List LaneIn) → length xs ≡ length ys → length (map new_line (zip xs ys)) ≡ length xs
length_paired [] ys same = refl
length_paired (x ∷ xs) [] same = absurd (omega (arith, same))
length_paired (x ∷ xs) (y ∷ ys) same = ap suc (length_paired xs ys (omega (arith, same)))

-- the lines of the first ends that are left
pub lines_later : {B : Type 0} (count : ℕ) (outs outs' : List (Vec LaneOut Global)) (ins ins' : List (Vec LaneIn Global)) (p : Processor B) → IsLeft count outs outs' → IsLeft count ins ins' → HasLines outs' ins' 0 p → HasLines outs ins count p
lines_later {B} count outs outs' ins ins' p outs_left ins_left h =
    let n : count ≡ count + 0 = omega arith in
    record {
      out = h.out;
      into = h.into;
      out_at = ap (λ k. slice_get outs k) n ∙ sym (outs_left 0) ∙ h.out_at;
      in_at = ap (λ k. slice_get ins k) n ∙ sym (ins_left 0) ∙ h.in_at;
      lines = h.lines;
    }

pub lines_more : {B : Type 0} (outs : List (Vec LaneOut Global)) (ins : List (Vec LaneIn Global)) (cpus : List (Processor B)) (p : Processor B) → HasLines outs ins (length cpus) p → HaveLines outs ins cpus → HaveLines outs ins (cpus ++ p ∷ [])
lines_more {B} outs ins cpus p new each = λ k q at. elim (get_pushed cpus p q k at) [
  | inl there ↦ each k q there
  | inr last ↦
      let F : ℕ → Type 0 = λ n. HasLines outs ins n q in
      let G : Processor B → Type 0 = λ x. HasLines outs ins (length cpus) x in
      subst F (sym last.0) (subst G (sym last.1) new)
]

-- processors with the lines of crossed lanes are wired
pub wired : {B : Type 0} (n : ℕ) (outs : List (Vec LaneOut Global)) (ins : List (Vec LaneIn Global)) (cpus : List (Processor B)) → AreLanes n n outs ins → HaveLines outs ins cpus → length cpus ≡ n → AreWired cpus
wired {B} n outs ins cpus l lines long = record {
  lines_are = λ k p at.
      let h = lines k p at in
      let o = l.outs_long k h.out h.out_at in
      ap length h.lines ∙ length_paired h.out.items h.into.items (o ∙ sym (l.ins_long k h.into h.in_at)) ∙ o ∙ sym long;
  lanes = λ i j p q there back at_p at_q at_there at_back.
      let h = lines i p at_p in
      let g = lines j q at_q in
      let a = get_paired h.out.items h.into.items j there (ap (λ xs. slice_get xs j) (sym h.lines) ∙ at_there) in
      let b = get_paired g.out.items g.into.items i back (ap (λ xs. slice_get xs i) (sym g.lines) ∙ at_back) in
      l.crossed i j h.out g.into there.out back.into h.out_at a.0 g.in_at b.1.0;
  none_kept = λ k j p line at_p at_line.
      let h = lines k p at_p in
      (get_paired h.out.items h.into.items j line (ap (λ xs. slice_get xs j) (sym h.lines) ∙ at_line)).1.1;
}
