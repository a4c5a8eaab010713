-- How many steps a thread of an accepted program makes at most before it asks.
use Rattle.std.proofs.Common.{◌≡◌, ℕ, zero, suc, ◌+◌, ◌-◌, ◌*◌, ◌<◌, ◌≤◌, Bool, true, false, cond, List, length, Option, Some, None, refl, subst, inl, inr, ⊎_elim, arith}
use Rattle.std.specs.Prelude.{nat_lt, slice_get, slice_index, ◌==◌, ◌||◌, not}
use Rattle.std.proofs.lemmas.Bool.{cases_lt, lt-ltb, le-ltb}
use Rattle.lwkt_base.specs.declared.asks.Ask.{Ask}
use Rattle.lwkt_base.specs.declared.asks.Ask.TheVariants.{Exit, Fail}
use Rattle.lwkt_code.specs.declared.steps.Step.{Step}
use Rattle.lwkt_code.specs.declared.steps.Step.TheVariants.{Fixed, Make, Set, Fault, Unless, Goto, Count, Again, Assert}
use Rattle.lwkt_code.specs.declared.locals.Local.{Local}
use Rattle.lwkt_code.specs.Values.{holds_in}
use Rattle.lwkt_code.specs.Accepted.{leads_to, leads_from, IsOneOf, IsRanked, IsInside}
use Rattle.lwkt_code.specs.Next.{ask_at, moved}

-- 1 if a number is below another, and else 0
abbrev bit : ℕ → ℕ → ℕ
bit x r = cond (nat_lt x r) 1 0

bit_low : (x r : ℕ) → x < r → bit x r ≡ 1
bit_low x r l = rw (lt-ltb x r l) refl

bit_high : (x r : ℕ) → r ≤ x → bit x r ≡ 0
bit_high x r l = rw (le-ltb x r l) refl

bit_few : (x r : ℕ) → bit x r ≤ 1
bit_few x r = ⊎_elim (λ l. let e = bit_low x r l in omega arith) (λ g. let e = bit_high x r g in omega arith) (cases_lt x r)

bit_grows : (x r q : ℕ) → r ≤ q → bit x r ≤ bit x q
bit_grows x r q l =
    ⊎_elim (λ a. let e = bit_low x r a in let f = bit_low x q (omega arith) in omega arith)
    (λ g. let e = bit_high x r g in omega arith) (cases_lt x r)

-- how many of the first places have a smaller rank than r
abbrev pub lower : (ℕ → ℕ) → ℕ → ℕ → ℕ
lower rank r zero = 0
lower rank r (suc m) = bit (rank m) r + lower rank r m

lower_few : (rank : ℕ → ℕ) (r m : ℕ) → lower rank r m ≤ m
lower_few rank r zero = omega arith
lower_few rank r (suc m) = let b = bit_few (rank m) r in let l = lower_few rank r m in omega arith

lower_grows : (rank : ℕ → ℕ) (r q m : ℕ) → r ≤ q → lower rank r m ≤ lower rank q m
lower_grows rank r q zero l = omega arith
lower_grows rank r q (suc m) l = let b = bit_grows (rank m) r q l in let h = lower_grows rank r q m l in omega arith

-- more places have a smaller rank than q if one of them hasn't a smaller one than r
lower_more : (rank : ℕ → ℕ) (r q t m : ℕ) → t < m → r ≤ rank t → rank t < q → lower rank r m < lower rank q m
lower_more rank r q t zero w a b = absurd (omega arith)
lower_more rank r q t (suc m) w a b =
    ⊎_elim (λ l. let h = lower_more rank r q t m l a b in let g = bit_grows (rank m) r q (omega arith) in omega arith)
    (λ g. let e : t ≡ m = omega arith in
    let f : bit (rank m) r ≡ 0 = bit_high (rank m) r (subst (λ n. r ≤ rank n) e a) in
    let k : bit (rank m) q ≡ 1 = bit_low (rank m) q (subst (λ n. rank n < q) e b) in
    let h = lower_grows rank r q m (omega arith) in omega arith)
    (cases_lt t m)

-- a place's rank among those of a program: how many places have a smaller one
abbrev pub low : List Step → (ℕ → ℕ) → ℕ → ℕ
low steps rank at = lower rank (rank at) (length steps + 1)

low_falls : (steps : List Step) (rank : ℕ → ℕ) → IsInside steps → IsRanked steps rank → (at to : ℕ) → IsOneOf to (leads_from steps at) → low steps rank to < low steps rank at
low_falls steps rank inside falls at to h =
    let i = inside at to h in
    let f = falls at to h in
    lower_more rank (rank to) (rank at) to (length steps + 1) (omega arith) (omega arith) f

-- what a thread has before it: the places to the end, and, if it has asked, those from the beginning
abbrev pub height : List Step → (ℕ → ℕ) → Local → ℕ
height steps rank s = low steps rank s.at + cond s.asked (length steps + 2) 0

cond_few : (b : Bool) (n : ℕ) → cond b n 0 ≤ n
cond_few true n = omega arith
cond_few false n = omega arith

pub height_few : (steps : List Step) (rank : ℕ → ℕ) (s : Local) → height steps rank s < suc (2 * length steps + 3)
height_few steps rank s =
    let l = lower_few rank (rank s.at) (length steps + 1) in
    let c = cond_few s.asked (length steps + 2) in
    omega arith

-- the end asks, or leads to the beginning of a repetition that hasn't asked
lead_end : (z a : Bool) (n : ℕ) (f : ℕ → ℕ) (s t : Local) → s.asked ≡ a → t.asked ≡ false → f t.at ≤ n → cond (z || not a) (Some Exit) None ≡ None
    → f (cond (z || not a) s t).at + cond (cond (z || not a) s t).asked (suc n) 0 < f s.at + cond s.asked (suc n) 0
lead_end true a n f s t p q b e = absurd (cc)
lead_end false false n f s t p q b e = absurd (cc)
lead_end false true n f s t p q b e = rw (p, q) (omega arith)

either : (P : ℕ → Type 0) (b : Bool) (x y : ℕ) → P x → P y → P (cond b x y)
either P true x y p q = p
either P false x y p q = q

lead_assert : (b a : Bool) (n f g : ℕ) (ask : Ask) → f < g → cond b None (Some ask) ≡ None → f + cond (cond b a true) n 0 < g + cond a n 0
lead_assert true a n f g ask l e = omega arith
lead_assert false a n f g ask l e = absurd (cc)

-- a step that asks nothing leads down
lead : (n : ℕ) (f : ℕ → ℕ) (o : Option Step) (s : Local) → ((to : ℕ) → IsOneOf to (leads_to o s.at) → f to < f s.at) → ((to : ℕ) → f to ≤ n) → ask_at o s ≡ None
    → f (moved o s).at + cond (moved o s).asked (suc n) 0 < f s.at + cond s.asked (suc n) 0
lead n f None s h b e = lead_end (s.left == 0) s.asked n f s (record s { at = 0; left = s.left - 1; asked = false }) refl refl (b 0) e
lead n f (Some (Fixed ask)) s h b e = absurd (cc)
lead n f (Some (Make wish places)) s h b e = absurd (cc)
lead n f (Some (Set v x)) s h b e = let w = h (s.at + 1) (inl refl) in omega arith
lead n f (Some (Fault v)) s h b e = let w = h (s.at + 1) (inl refl) in omega arith
lead n f (Some (Unless test c to)) s h b e =
    let w = either (λ t. f t < f s.at) (holds_in c s.vars) (s.at + 1) to (h (s.at + 1) (inl refl)) (h to (inr (inl refl))) in
    omega arith
lead n f (Some (Goto jump to)) s h b e = let w = h to (inl refl) in omega arith
lead n f (Some (Count k m)) s h b e = let w = h (s.at + 1) (inl refl) in omega arith
lead n f (Some (Again k to)) s h b e =
    let w = either (λ t. f t < f s.at) (nat_lt 1 (slice_index s.counts k)) to (s.at + 1) (h to (inr (inl refl))) (h (s.at + 1) (inl refl)) in
    omega arith
lead n f (Some (Assert c m)) s h b e = lead_assert (holds_in c s.vars) s.asked (suc n) (f (s.at + 1)) (f s.at) (Fail m) (h (s.at + 1) (inl refl)) e

pub height_falls : (steps : List Step) (rank : ℕ → ℕ) → IsInside steps → IsRanked steps rank → (s : Local) → ask_at (slice_get steps s.at) s ≡ None → height steps rank (moved (slice_get steps s.at) s) < height steps rank s
height_falls steps rank inside falls s e =
    let k : suc (length steps + 1) ≡ length steps + 2 = omega arith in
    let r = lead (length steps + 1) (low steps rank) (slice_get steps s.at) s (low_falls steps rank inside falls s.at) (λ to. lower_few rank (rank to) (length steps + 1)) e in
    subst (λ n. low steps rank (moved (slice_get steps s.at) s).at + cond (moved (slice_get steps s.at) s).asked n 0 < low steps rank s.at + cond s.asked n 0) k r
