-- Marks at the places from which a way leads back to the beginning of a loop.
use Rattle.std.proofs.Common.{◌≡◌, ◌≢◌, ℕ, zero, suc, ◌+◌, ◌-◌, ◌*◌, ◌<◌, ◌≤◌, true, cond, List, [], ◌∷◌, length, replicate, get_or, Option, Some, None, refl, sym, ap, ◌∙◌, subst, inl, inr, ⊎_elim, arith}
use Rattle.std.specs.Prelude.{nat_lt, slice_index, ◌==◌, ◌⊎◌, MatchOption, if◌then◌else◌}
use Rattle.std.proofs.Math.ListN.{set}
use Rattle.std.proofs.lemmas.Bool.{lt-ltb, le-ltb, cases_lt, ne_eqb, eq-eqb}
use Rattle.std.proofs.lemmas.List.{get_or-set_same, get_or-set_other, get_or_past, get_or-replicate, length-replicate}
use Rattle.std.proofs.lemmas.Option.{slice_get_past}
use Rattle.lwkt_code.specs.declared.steps.Step.{Step}
use Rattle.lwkt_code.specs.Accepted.{leads_to, leads_from, IsOneOf, IsInside, IsAccepted, LeadsBack, IsCircle}
use Rattle.lwkt_code.specs.Marks.{back_by, back_of, back_from, bit, marked, AreMarks, IsReady, Opens}

pub same_or_other : (m n : ℕ) → (m ≡ n) ⊎ (m ≢ n)
same_or_other m n =
    ⊎_elim (λ l. inr (λ e. absurd (omega arith)))
    (λ g. ⊎_elim (λ l. inr (λ e. absurd (omega arith))) (λ k. inl (omega arith)) (cases_lt n m))
    (cases_lt m n)

behind : (k m : ℕ) → m ≤ k → k ≢ m → m < k
behind k m l n = ⊎_elim (λ a. a) (λ g. let e : k ≡ m = omega arith in absurd (n e)) (cases_lt m k)

eqb_refl : (n : ℕ) → (n == n) ≡ true
eqb_refl n = eq-eqb n n refl

-- how many places have no mark
abbrev bare : ℕ → ℕ
bare zero = 1
bare (suc n) = 0

abbrev pub unmarked : List ℕ → ℕ
unmarked [] = 0
unmarked (m ∷ marks) = bare m + unmarked marks

bare_set : (m : ℕ) → 0 < m → bare m ≡ 0
bare_set zero l = absurd (omega arith)
bare_set (suc m) l = refl

-- one more place has a mark
pub one_less : (marks : List ℕ) (i m : ℕ) → i < length marks → get_or marks i 0 ≡ 0 → 0 < m → unmarked (set marks i m) < unmarked marks
one_less [] i m a b c = absurd (omega arith)
one_less (x ∷ marks) zero m a b c = let e = bare_set m c in let f : bare x ≡ 1 = rw b refl in omega arith
one_less (x ∷ marks) (suc i) m a b c = let h = one_less marks i m (omega arith) b c in omega arith

-- so many places have a mark
bit_set : (m : ℕ) → 0 < m → bit m ≡ 1
bit_set zero l = absurd (omega arith)
bit_set (suc m) l = refl

bit_few : (m : ℕ) → bit m ≤ 1
bit_few zero = omega arith
bit_few (suc m) = omega arith

pub marked_few : (marks : List ℕ) → marked marks ≤ length marks
marked_few [] = omega arith
marked_few (m ∷ marks) = let b = bit_few m in let h = marked_few marks in omega arith

one_more : (marks : List ℕ) (i m : ℕ) → i < length marks → get_or marks i 0 ≡ 0 → 0 < m → marked (set marks i m) ≡ suc (marked marks)
one_more [] i m a b c = absurd (omega arith)
one_more (x ∷ marks) zero m a b c = let e = bit_set m c in let f : bit x ≡ 0 = rw b refl in omega arith
one_more (x ∷ marks) (suc i) m a b c = let h = one_more marks i m (omega arith) b c in omega arith

-- what leads back over so many places does over more
longer : (steps : List Step) (begin at end m n : ℕ) → m ≤ n → LeadsBack steps begin at end m → LeadsBack steps begin at end n
longer steps begin at end m n l r = let s = r.short in record { way = r.way; short = omega arith; behind = r.behind; goes = r.goes; ends = r.ends; back = r.back }

-- a way that leads back, over one of these places
record Over (steps : List Step) (begin at : ℕ) (targets : List ℕ) (end most : ℕ) : Type 0 where
  pub to : ℕ
  pub one : IsOneOf to targets
  pub leads : ((to ≡ begin) × (end ≡ at)) ⊎ ((begin < to) × LeadsBack steps begin to end most)

over_more : (steps : List Step) (begin at x end most : ℕ) (targets : List ℕ) → Over steps begin at targets end most → Over steps begin at (x ∷ targets) end most
over_more steps begin at x end most targets o = record { to = o.to; one = inr o.one; leads = o.leads }

-- what a place gets as its mark by one that it leads to stands for such a way
by_one : (steps : List Step) (marks : List ℕ) (begin at to : ℕ) → AreMarks steps begin marks → 0 < back_by marks begin at to → (to ≡ begin) ⊎ (to ≢ begin)
    → ((to ≡ begin) × (back_by marks begin at to - 1 ≡ at)) ⊎ ((begin < to) × LeadsBack steps begin to (back_by marks begin at to - 1) (marked marks))
by_one steps marks begin at to h l (inl e) =
    let f : back_by marks begin at to ≡ at + 1 = rw (e, eqb_refl begin) refl in
    inl (e, omega arith)
by_one steps marks begin at to h l (inr n) =
    ⊎_elim
    (λ w. let f : back_by marks begin at to ≡ slice_index marks to = rw (ne_eqb to begin n, lt-ltb begin to w) refl in
    let r = h to (omega arith) in
    inr (w, subst (λ n. LeadsBack steps begin to (n - 1) (marked marks)) (sym f) r.1))
    (λ g. let f : back_by marks begin at to ≡ 0 = rw (ne_eqb to begin n, le-ltb begin to g) refl in absurd (omega arith))
    (cases_lt begin to)

over : (steps : List Step) (marks : List ℕ) (begin at : ℕ) (targets : List ℕ) → AreMarks steps begin marks → 0 < back_of marks begin at targets → Over steps begin at targets (back_of marks begin at targets - 1) (marked marks)
over steps marks begin at [] h l = absurd (omega arith)
over steps marks begin at (x ∷ targets) h l =
    ⊎_elim
    (λ w. let f : back_of marks begin at (x ∷ targets) ≡ back_by marks begin at x = rw (lt-ltb 0 (back_by marks begin at x) w) refl in
    subst (λ n. Over steps begin at (x ∷ targets) (n - 1) (marked marks)) (sym f) (record { to = x; one = inl refl; leads = by_one steps marks begin at x h w (same_or_other x begin) }))
    (λ g. let f : back_of marks begin at (x ∷ targets) ≡ back_of marks begin at targets = rw (le-ltb 0 (back_by marks begin at x) g) refl in
    subst (λ n. Over steps begin at (x ∷ targets) (n - 1) (marked marks)) (sym f) (over_more steps begin at x _ (marked marks) targets (over steps marks begin at targets h (omega arith))))
    (cases_lt 0 (back_by marks begin at x))

-- such a way is one from the place
from_over : (steps : List Step) (begin at end most : ℕ) (o : Over steps begin at (leads_from steps at) end most) → ((o.to ≡ begin) × (end ≡ at)) ⊎ ((begin < o.to) × LeadsBack steps begin o.to end most) → LeadsBack steps begin at end (suc most)
from_over steps begin at end most o (inl h) = record {
  way = [];
  short = omega arith;
  behind = tt;
  goes = tt;
  ends = sym h.1;
  back = subst (λ n. IsOneOf n (leads_from steps end)) h.0 (subst (λ n. IsOneOf o.to (leads_from steps n)) (sym h.1) o.one);
}
from_over steps begin at end most o (inr h) = record {
  way = o.to ∷ h.1.way;
  short = let s = h.1.short in omega arith;
  behind = (h.0, h.1.behind);
  goes = (o.one, h.1.goes);
  ends = h.1.ends;
  back = h.1.back;
}

pub leads_back : (steps : List Step) (marks : List ℕ) (begin at : ℕ) → AreMarks steps begin marks → 0 < back_from steps marks begin at → LeadsBack steps begin at (back_from steps marks begin at - 1) (suc (marked marks))
leads_back steps marks begin at h l = let o = over steps marks begin at (leads_from steps at) h l in from_over steps begin at _ (marked marks) o o.leads

-- one more mark stands for such a way, too
with_one : (steps : List Step) (marks : List ℕ) (begin at back : ℕ) → at < length marks → AreMarks steps begin marks → IsReady steps marks begin at back
    → (k : ℕ) → 0 < get_or (set marks at back) k 0 → (k ≡ at) ⊎ (k ≢ at) → (begin < k) × LeadsBack steps begin k (get_or (set marks at back) k 0 - 1) (marked (set marks at back))
with_one steps marks begin at back w h r k l (inl e) =
    let f : get_or (set marks at back) k 0 ≡ back = ap (λ n. get_or (set marks at back) n 0) e ∙ get_or-set_same marks at back 0 w in
    let m : suc (marked marks) ≡ marked (set marks at back) = sym (one_more marks at back w r.free r.some) in
    let b : LeadsBack steps begin at (back - 1) (suc (marked marks)) = subst (λ n. LeadsBack steps begin at (n - 1) (suc (marked marks))) (sym r.gets) (leads_back steps marks begin at h (subst (λ n. 0 < n) r.gets r.some)) in
    let c : LeadsBack steps begin at (back - 1) (marked (set marks at back)) = subst (λ n. LeadsBack steps begin at (back - 1) n) m b in
    (subst (λ n. begin < n) (sym e) r.behind, subst (λ n. LeadsBack steps begin k (n - 1) (marked (set marks at back))) (sym f) (subst (λ n. LeadsBack steps begin n (back - 1) (marked (set marks at back))) (sym e) c))
with_one steps marks begin at back w h r k l (inr n) =
    let f : get_or (set marks at back) k 0 ≡ get_or marks k 0 = get_or-set_other marks at k back 0 n in
    let o = h k (omega arith) in
    let m = one_more marks at back w r.free r.some in
    (o.0, subst (λ n. LeadsBack steps begin k (n - 1) (marked (set marks at back))) (sym f) (longer steps begin k _ (marked marks) (marked (set marks at back)) (omega arith) o.1))

pub one_marked : (steps : List Step) (marks : List ℕ) (begin at back : ℕ) → at < length marks → AreMarks steps begin marks → IsReady steps marks begin at back
    → AreMarks steps begin (set marks at back) × (unmarked (set marks at back) < unmarked marks)
one_marked steps marks begin at back w h r = (λ k l. with_one steps marks begin at back w h r k l (same_or_other k at), one_less marks at back w r.free r.some)

-- before anything is marked
no_marks : (n k : ℕ) → slice_index (replicate n 0) k ≡ 0
no_marks n k = ⊎_elim (λ l. get_or-replicate n k 0 0 l) (λ g. get_or_past (replicate n 0) k 0 (let e : length (replicate {A = ℕ} n 0) ≡ n = length-replicate _ _ in omega arith)) (cases_lt k n)

pub none_marked : (steps : List Step) (begin : ℕ) (marks : List ℕ) (n : ℕ) → marks ≡ replicate n 0 → AreMarks steps begin marks
none_marked steps begin marks n e k l = let z : get_or marks k 0 ≡ 0 = ap (λ (xs : List ℕ). get_or xs k 0) e ∙ no_marks n k in absurd (omega arith)

-- where a place gets no mark, it gets none by what it leads to
none_by : (marks : List ℕ) (begin at to : ℕ) (targets : List ℕ) → back_of marks begin at targets ≡ 0 → IsOneOf to targets → back_by marks begin at to ≡ 0
none_by marks begin at to [] e m = absurd m
none_by marks begin at to (x ∷ targets) e m =
    ⊎_elim
    (λ w. let f : back_of marks begin at (x ∷ targets) ≡ back_by marks begin at x = rw (lt-ltb 0 (back_by marks begin at x) w) refl in absurd (omega arith))
    (λ g. let f : back_of marks begin at (x ∷ targets) ≡ back_of marks begin at targets = rw (le-ltb 0 (back_by marks begin at x) g) refl in
    ⊎_elim (λ (i : to ≡ x). subst (λ n. back_by marks begin at n ≡ 0) (sym i) (omega arith)) (λ o. none_by marks begin at to targets (sym f ∙ e) o) m)
    (cases_lt 0 (back_by marks begin at x))

open_to : (marks : List ℕ) (begin at to : ℕ) → back_by marks begin at to ≡ 0 → (to ≢ begin) × (begin < to → slice_index marks to ≡ 0)
open_to marks begin at to e = (
  λ i. let f : back_by marks begin at to ≡ at + 1 = rw (i, eqb_refl begin) refl in absurd (omega arith),
  λ w. let n : to ≢ begin = (λ i. absurd (omega arith)) in
      let f : back_by marks begin at to ≡ slice_index marks to = rw (ne_eqb to begin n, lt-ltb begin to w) refl in sym f ∙ e,
)

no_target : (steps : List Step) (at to : ℕ) → length steps ≤ at → IsOneOf to (leads_from steps at) → ⊥
no_target steps at to w h = subst (λ (o : Option Step). IsOneOf to (leads_to o at)) (slice_get_past steps at w) h

-- where the beginning gets no mark, no way leads back there
pub opens : (steps : List Step) (marks : List ℕ) (begin : ℕ) → ((k : ℕ) → begin < k → k < length steps → slice_index marks k ≡ 0 → back_from steps marks begin k ≡ 0) → back_from steps marks begin begin ≡ 0 → Opens steps begin
opens steps marks begin h e = (
  marks,
  λ at to b f m.
      ⊎_elim
      (λ (i : at ≡ begin). open_to marks begin at to (none_by marks begin at to (leads_from steps at) (subst (λ n. back_from steps marks begin n ≡ 0) (sym i) e) m))
      (λ (n : at ≢ begin).
      ⊎_elim
      (λ w. open_to marks begin at to (none_by marks begin at to (leads_from steps at) (h at (omega arith) w (f n)) m))
      (λ g. absurd (no_target steps at to g m))
      (cases_lt at (length steps)))
      (same_or_other at begin),
)

-- what the mark of the beginning says
pub found_circle : (steps : List Step) (marks : List ℕ) (begin back : ℕ) → length marks ≡ 769 → back ≡ back_from steps marks begin begin → AreMarks steps begin marks
    → ((k : ℕ) → begin < k → k < length steps → slice_index marks k ≡ 0 → back_from steps marks begin k ≡ 0)
    → MatchOption (if back == 0 then None else Some (back - 1)) (Opens steps begin) (IsCircle steps begin)
found_circle steps marks begin zero d e h all = opens steps marks begin all (sym e)
found_circle steps marks begin (suc n) d e h all =
    let b : LeadsBack steps begin begin (suc n - 1) (suc (marked marks)) = subst (λ m. LeadsBack steps begin begin (m - 1) (suc (marked marks))) (sym e) (leads_back steps marks begin begin h (omega arith)) in
    let f = marked_few marks in
    let c : IsCircle steps begin (suc n - 1) = longer steps begin begin (suc n - 1) (suc (marked marks)) 770 (omega arith) b in
    rw (ne_eqb (suc n) 0 (λ z. omega arith)) c

-- ranks of the places from one on, as far as they lead there
record Ranked (steps : List Step) (m : ℕ) : Type 0 where
  pub rank : ℕ → ℕ
  pub most : ℕ
  pub few : (k : ℕ) → rank k ≤ most
  pub falls : (at to : ℕ) → m ≤ at → m ≤ to → IsOneOf to (leads_from steps at) → rank to < rank at

none_ranked : (steps : List Step) → Ranked steps (length steps)
none_ranked steps = record { rank = λ k. 0; most = 0; few = λ k. omega arith; falls = λ at to a b h. absurd (no_target steps at to a h) }

module _ (steps : List Step) (m : ℕ) (marks : List ℕ) (is_open : (at to : ℕ) → m ≤ at → (at ≢ m → slice_index marks at ≡ 0) → IsOneOf to (leads_from steps at) → (to ≢ m) × (m < to → slice_index marks to ≡ 0)) (r : Ranked steps (suc m)) where
  -- places that lead back come above the beginning, and that above all others
  abbrev new : ℕ → ℕ
  new k = cond (k == m) (r.most + 1) (r.rank k + cond (nat_lt 0 (slice_index marks k)) (r.most + 2) 0)

  new_begin : (k : ℕ) → k ≡ m → new k ≡ r.most + 1
  new_begin k e = rw (e, eqb_refl m) refl

  new_bare : (k : ℕ) → k ≢ m → slice_index marks k ≡ 0 → new k ≡ r.rank k
  new_bare k n z = rw (ne_eqb k m n, z) (omega arith)

  new_marked : (k : ℕ) → k ≢ m → 0 < slice_index marks k → new k ≡ r.rank k + (r.most + 2)
  new_marked k n l = rw (ne_eqb k m n, lt-ltb 0 (slice_index marks k) l) refl

  new_few : (k : ℕ) → new k ≤ 2 * r.most + 2
  new_few k =
      let f = r.few k in
      ⊎_elim (λ (e : k ≡ m). let a = new_begin k e in omega arith)
      (λ (n : k ≢ m). ⊎_elim (λ l. let a = new_marked k n l in omega arith) (λ g. let a = new_bare k n (omega arith) in omega arith) (cases_lt 0 (slice_index marks k)))
      (same_or_other k m)

  -- from a place that doesn't lead back
  falls_bare : (at to : ℕ) → m ≤ at → m ≤ to → (at ≢ m → slice_index marks at ≡ 0) → IsOneOf to (leads_from steps at) → (at ≡ m) ⊎ (at ≢ m) → new to < new at
  falls_bare at to a b z h (inl e) =
      let o = is_open at to a z h in
      let w : new to ≡ r.rank to = new_bare to o.0 (o.1 (behind to m b o.0)) in
      let v = new_begin at e in
      let f = r.few to in
      omega arith
  falls_bare at to a b z h (inr n) =
      let o = is_open at to a z h in
      let w : new to ≡ r.rank to = new_bare to o.0 (o.1 (behind to m b o.0)) in
      let v : new at ≡ r.rank at = new_bare at n (z n) in
      let f = r.falls at to (behind at m a n) (behind to m b o.0) h in
      omega arith

  -- from one that leads back
  falls_marked : (at to : ℕ) → m ≤ at → m ≤ to → at ≢ m → 0 < slice_index marks at → IsOneOf to (leads_from steps at) → (to ≡ m) ⊎ (to ≢ m) → new to < new at
  falls_marked at to a b n l h (inl e) = let v = new_marked at n l in let w = new_begin to e in omega arith
  falls_marked at to a b n l h (inr k) =
      let v = new_marked at n l in
      let f = r.falls at to (behind at m a n) (behind to m b k) h in
      let t = r.few to in
      ⊎_elim (λ u. let w = new_marked to k u in omega arith) (λ g. let w = new_bare to k (omega arith) in omega arith) (cases_lt 0 (slice_index marks to))

  new_falls : (at to : ℕ) → m ≤ at → m ≤ to → IsOneOf to (leads_from steps at) → new to < new at
  new_falls at to a b h =
      ⊎_elim (λ (e : at ≡ m). falls_bare at to a b (λ n. absurd (n e)) h (inl e))
      (λ (n : at ≢ m).
      ⊎_elim (λ l. falls_marked at to a b n l h (same_or_other to m))
      (λ g. falls_bare at to a b (λ k. omega arith) h (inr n))
      (cases_lt 0 (slice_index marks at)))
      (same_or_other at m)

  one_ranked : Ranked steps m
  one_ranked = record { rank = new; most = 2 * r.most + 2; few = new_few; falls = new_falls }

all_ranked : (steps : List Step) (m : ℕ) → ((k : ℕ) → k < m → Opens steps k) → Ranked steps m → Ranked steps 0
all_ranked steps zero o r = r
all_ranked steps (suc m) o r = let p = o m (omega arith) in all_ranked steps m (λ k w. o k (omega arith)) (one_ranked steps m p.0 p.1 r)

-- where no way leads back to any place, the program is accepted
pub accepted : (steps : List Step) → IsInside steps → ((k : ℕ) → k < length steps → Opens steps k) → IsAccepted steps
accepted steps inside o = let r = all_ranked steps (length steps) o (none_ranked steps) in record { inside = inside; rank = r.rank; falls = λ at to h. r.falls at to (omega arith) (omega arith) h }
