-- The ends of lanes from each processor to each one.
use Rattle.std.specs.Global.{Global}
use Rattle.std.proofs.Common.{◌≡◌, ℕ, suc, ◌+◌, ◌<◌, ◌≤◌, List, [], ◌∷◌, ◌++◌, length, length-append, get_or, set, refl, ap, sym, ◌∙◌, subst, inl, inr, arith, Some}
use Rattle.std.specs.Prelude.{Vec, slice_get}
use Rattle.std.specs.List.{remove}
use Rattle.std.proofs.lemmas.Bool.{cases_eq}
use Rattle.std.proofs.lemmas.List.{length-set}
use Rattle.std.proofs.lemmas.Option.{slice_get_read, slice_get_within}
use Rattle.lwkt_lane.specs.declared.ins.LaneIn.{LaneIn}
use Rattle.lwkt_lane.specs.declared.outs.LaneOut.{LaneOut}
use Rattle.lwkt_lane.specs.Crossed.{IsNewLane, HasEnd, HasEndAt, HasEnds, AreLong, AreLanes, IsLeft}
use Rattle.lwkt_lane.proofs.PlaceMoves.{some_same, get_there, get_set_same, get_set_other, get_pushed, get_removed}

-- no list, and one more, each so long
pub long_none : {A : Type 0} (n : ℕ) → AreLong {A = A} n []
long_none {A} n = λ k v at. absurd (omega (arith, slice_get_within [] k v at))

pub long_more : {A : Type 0} (n : ℕ) (xs : List (Vec A Global)) (v : Vec A Global) → length v.items ≡ n → AreLong {A = A} n xs → AreLong {A = A} n (xs ++ v ∷ [])
long_more {A} n xs v long each = λ k w at. elim (get_pushed xs v w k at) [
  | inl there ↦ each k w there
  | inr last ↦ ap (λ (x : Vec A Global). length x.items) last.1 ∙ long
]

-- of lists that are each so long, the first one is, and so are those behind it
pub first_long : {A : Type 0} (n : ℕ) (lists : List (Vec A Global)) (v : Vec A Global) → 0 < length lists → v ≡ get_or lists 0 v → AreLong {A = A} n lists → length v.items ≡ n
first_long {A} n lists v some is each = each 0 v (slice_get_read lists (length lists) 0 v refl some is)

pub rest_long : {A : Type 0} (n : ℕ) (xs ys : List (Vec A Global)) → ys ≡ remove xs 0 → AreLong {A = A} n xs → AreLong {A = A} n ys
rest_long {A} n xs ys is each = λ j v at. each (suc j) v (sym (get_removed xs j) ∙ ap (λ zs. slice_get zs j) (sym is) ∙ at)

-- the ends of lanes were put at the first so many places of these, and the others are as they were
pub record HasEndsBelow (n : ℕ) (old new : List (Vec LaneIn Global)) (outs : List LaneOut) : Type 0 where
  pub as_many : length new ≡ length old
  pub outs_are : length outs ≡ n
  pub below : (k : ℕ) → k < n → HasEndAt old new outs k
  pub above : (k : ℕ) → n ≤ k → slice_get new k ≡ slice_get old k

pub ends_none : (ins : List (Vec LaneIn Global)) → HasEndsBelow 0 ins ins []
ends_none ins = record {
  as_many = refl;
  outs_are = refl;
  below = λ k less. absurd (omega (arith, less));
  above = λ k more. refl;
}

-- the end at the next place
end_here : (n : ℕ) (old mid : List (Vec LaneIn Global)) (outs : List LaneOut) (v w : Vec LaneIn Global) (out : LaneOut) → slice_get mid n ≡ Some v → HasEnd v.items w.items out → HasEndsBelow n old mid outs → HasEndAt old (set mid n w) (outs ++ out ∷ []) n
end_here n old mid outs v w out at end b = λ a c o at_old at_new at_out.
    let va : v ≡ a = some_same v a (Some v) refl (sym at ∙ b.above n (omega arith) ∙ at_old) in
    let wc : w ≡ c = some_same w c (Some w) refl (sym (get_set_same mid n w (slice_get_within mid n v at)) ∙ at_new) in
    let F : Vec LaneIn Global → Type 0 = λ x. HasEnd x.items w.items out in
    let G : Vec LaneIn Global → Type 0 = λ x. HasEnd a.items x.items out in
    let H : LaneOut → Type 0 = λ x. HasEnd a.items c.items x in
    elim (get_pushed outs out o n at_out) [
      | inl there ↦ absurd (omega (arith, slice_get_within outs n o there, b.outs_are))
      | inr last ↦ subst H (sym last.1) (subst G wc (subst F va end))
    ]

end_before : (n k : ℕ) (old mid : List (Vec LaneIn Global)) (outs : List LaneOut) (w : Vec LaneIn Global) (out : LaneOut) → (k ≡ n → ⊥) → k < n → HasEndsBelow n old mid outs → HasEndAt old (set mid n w) (outs ++ out ∷ []) k
end_before n k old mid outs w out apart less b = λ a c o at_old at_new at_out. elim (get_pushed outs out o k at_out) [
  | inl there ↦ b.below k less a c o at_old (sym (get_set_other mid n k w apart) ∙ at_new) there
  | inr last ↦ absurd (apart (last.0 ∙ b.outs_are))
]

pub ends_more : (n : ℕ) (old mid : List (Vec LaneIn Global)) (outs : List LaneOut) (v w : Vec LaneIn Global) (out : LaneOut) → slice_get mid n ≡ Some v → HasEnd v.items w.items out → HasEndsBelow n old mid outs → HasEndsBelow (n + 1) old (set mid n w) (outs ++ out ∷ [])
ends_more n old mid outs v w out at end b = record {
  as_many = length-set mid n w ∙ b.as_many;
  outs_are = length-append outs (out ∷ []) ∙ ap (λ k. k + 1) b.outs_are;
  below = λ k less. elim (cases_eq k n) [
    | inl here ↦
        let F : ℕ → Type 0 = λ i. HasEndAt old (set mid n w) (outs ++ out ∷ []) i in
        subst F (sym here) (end_here n old mid outs v w out at end b)
    | inr apart ↦ end_before n k old mid outs w out apart (omega (arith, less, apart)) b
  ];
  above = λ k more. get_set_other mid n k w (λ e. omega (arith, e, more)) ∙ b.above k (omega (arith, more));
}

pub ends_all : (n : ℕ) (old new : List (Vec LaneIn Global)) (outs : List LaneOut) → n ≡ length old → HasEndsBelow n old new outs → HasEnds old new outs
ends_all n old new outs is b = record {
  as_many = b.as_many;
  outs_are = b.outs_are ∙ is;
  ends = λ k v w out at_old at_new at_out. b.below k (omega (arith, is, slice_get_within old k v at_old)) v w out at_old at_new at_out;
}

-- the lanes from no processor, and from one more
pub lanes_none : (ins : List (Vec LaneIn Global)) → AreLong {A = LaneIn} 0 ins → AreLanes 0 (length ins) [] ins
lanes_none ins empty = record {
  outs_are = refl;
  ins_are = refl;
  outs_long = long_none (length ins);
  ins_long = empty;
  crossed = λ i j v w out into at at_out at_w at_into. absurd (omega (arith, slice_get_within [] i v at));
}

-- what the row of one more processor did to the list of a receiver
record Received (from : ℕ) (old : List (Vec LaneIn Global)) (w : Vec LaneIn Global) (j : ℕ) : Type 0 where
  before : Vec LaneIn Global
  at_before : slice_get old j ≡ Some before
  long : length before.items ≡ from
  out : LaneOut
  end : HasEnd before.items w.items out

received : (from cpus : ℕ) (outs : List (Vec LaneOut Global)) (old new : List (Vec LaneIn Global)) (row : List LaneOut) (j : ℕ) (w : Vec LaneIn Global) → HasEnds old new row → AreLanes from cpus outs old → slice_get new j ≡ Some w → Received from old w j
received from cpus outs old new row j w e l at =
    let within = slice_get_within new j w at in
    let v = get_there old j (omega (arith, within, e.as_many)) in
    let o = get_there row j (omega (arith, within, e.as_many, e.outs_are)) in
    record { before = v.0; at_before = v.1; long = l.ins_long j v.0 v.1; out = o.0; end = e.ends j v.0 w o.0 v.1 at o.1 }

-- a lane from a processor before
crossed_before : (from cpus : ℕ) (outs : List (Vec LaneOut Global)) (old new : List (Vec LaneIn Global)) (row : List LaneOut) (i j : ℕ) (v : Vec LaneOut Global) (w : Vec LaneIn Global) (out : LaneOut) (into : LaneIn) → HasEnds old new row → AreLanes from cpus outs old → slice_get outs i ≡ Some v → slice_get v.items j ≡ Some out → slice_get new j ≡ Some w → slice_get w.items i ≡ Some into → IsNewLane out into
crossed_before from cpus outs old new row i j v w out into e l at_v at_out at_w at_into =
    let r = received from cpus outs old new row j w e l at_w in
    elim (get_pushed r.before.items r.end.into into i (ap (λ xs. slice_get xs i) (sym r.end.grown) ∙ at_into)) [
      | inl there ↦ l.crossed i j v r.before out into at_v at_out r.at_before there
      | inr last ↦ absurd (omega (arith, last.0, r.long, slice_get_within outs i v at_v, l.outs_are))
    ]

-- a lane from the one more
crossed_last : (from cpus : ℕ) (outs : List (Vec LaneOut Global)) (old new : List (Vec LaneIn Global)) (row : List LaneOut) (i j : ℕ) (w : Vec LaneIn Global) (out : LaneOut) (into : LaneIn) → HasEnds old new row → AreLanes from cpus outs old → i ≡ from → slice_get row j ≡ Some out → slice_get new j ≡ Some w → slice_get w.items i ≡ Some into → IsNewLane out into
crossed_last from cpus outs old new row i j w out into e l is at_out at_w at_into =
    let r = received from cpus outs old new row j w e l at_w in
    let end : HasEnd r.before.items w.items out = e.ends j r.before w out r.at_before at_w at_out in
    let F : LaneIn → Type 0 = λ x. IsNewLane out x in
    elim (get_pushed r.before.items end.into into i (ap (λ xs. slice_get xs i) (sym end.grown) ∙ at_into)) [
      | inl there ↦ absurd (omega (arith, slice_get_within r.before.items i into there, r.long, is))
      | inr last ↦ subst F (sym last.1) end.lane
    ]

pub lanes_more : (from cpus : ℕ) (outs : List (Vec LaneOut Global)) (old new : List (Vec LaneIn Global)) (row : Vec LaneOut Global) → HasEnds old new row.items → AreLanes from cpus outs old → AreLanes (from + 1) cpus (outs ++ row ∷ []) new
lanes_more from cpus outs old new row e l = record {
  outs_are = length-append outs (row ∷ []) ∙ ap (λ k. k + 1) l.outs_are;
  ins_are = e.as_many ∙ l.ins_are;
  outs_long = long_more cpus outs row (e.outs_are ∙ l.ins_are) l.outs_long;
  ins_long = λ j w at.
      let r = received from cpus outs old new row.items j w e l at in
      ap length r.end.grown ∙ length-append r.before.items (r.end.into ∷ []) ∙ ap (λ k. k + 1) r.long;
  crossed = λ i j v w out into at_v at_out at_w at_into. elim (get_pushed outs row v i at_v) [
    | inl there ↦ crossed_before from cpus outs old new row.items i j v w out into e l there at_out at_w at_into
    | inr last ↦
        let F : Vec LaneOut Global → Type 0 = λ x. slice_get x.items j ≡ Some out in
        crossed_last from cpus outs old new row.items i j w out into e l (last.0 ∙ l.outs_are) (subst F last.1 at_out) at_w at_into
  ];
}

-- what is left when the first element of a list is gone, none, or one more
pub first_gone : {A : Type 0} (xs ys : List A) → ys ≡ remove xs 0 → IsLeft 1 xs ys
first_gone xs ys is j =
    let F : ℕ → Type 0 = λ n. slice_get ys j ≡ slice_get xs n in
    let e : suc j ≡ 1 + j = omega arith in
    subst F e (ap (λ zs. slice_get zs j) is ∙ get_removed xs j)

pub none_gone : {A : Type 0} (xs : List A) → IsLeft 0 xs xs
none_gone xs j =
    let e : j ≡ 0 + j = omega arith in
    ap (λ n. slice_get xs n) e

pub more_gone : {A : Type 0} (count : ℕ) (xs ys zs : List A) → IsLeft count xs ys → IsLeft 1 ys zs → IsLeft (count + 1) xs zs
more_gone count xs ys zs left one j =
    let e : count + (1 + j) ≡ count + 1 + j = omega arith in
    one j ∙ left (1 + j) ∙ ap (λ n. slice_get xs n) e
