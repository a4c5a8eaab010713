use Rattle.std.proofs.Common.{◌≡◌, ◌≢◌, ◌⊎◌, inl, inr, ⊎_elim, ℕ, zero, suc, ◌+◌, ◌<◌, ◌≤◌, List, [], ◌∷◌, ◌++◌, length, map, set, get_or, refl, ap, sym, ◌∙◌, subst, arith}
use Rattle.std.proofs.lemmas.List.Sums.{sum_by-cons, sum_by_push}
use mathlib.Core.Option.{some, some-injective, some-ne-none}
use lib.ListN.{get_elem?}
use Rattle.lwkt_base.specs.declared.names.CpuId.{CpuId}
use Rattle.lwkt_table.specs.declared.seats.SeatKind.{SeatKind}
use Rattle.lwkt_table.specs.declared.seats.SeatKind.TheVariants.{Clerk, Of, Spent}
use Rattle.lwkt_table.specs.Seating.{total, weight, AreSeated}

-- a list read by place, after a change of one place and after one more element
module _ {A : Type 0} where
  pub at_set : (xs : List A) (i j : ℕ) (x y : A) → get_elem? (set xs i x) j ≡ some y → ((j ≡ i) × (x ≡ y)) ⊎ ((j ≢ i) × (get_elem? xs j ≡ some y))
  at_set [] i j x y e = absurd (some-ne-none y (sym e))
  at_set (z ∷ zs) zero zero x y e = inl (refl, some-injective x y e)
  at_set (z ∷ zs) zero (suc j) x y e = inr ((λ h. omega arith), e)
  at_set (z ∷ zs) (suc i) zero x y e = inr ((λ h. omega arith), e)
  at_set (z ∷ zs) (suc i) (suc j) x y e = ⊎_elim (λ t. inl (ap suc t.0, t.1)) (λ t. let apart = t.0 in inr ((λ h. apart (omega arith)), t.1)) (at_set zs i j x y e)

  pub set_here : (xs : List A) (i : ℕ) (x : A) → i < length xs → get_elem? (set xs i x) i ≡ some x
  set_here [] i x h = absurd (omega arith)
  set_here (z ∷ zs) zero x h = refl
  set_here (z ∷ zs) (suc i) x h = set_here zs i x (omega arith)

  pub set_else : (xs : List A) (i j : ℕ) (x : A) → j ≢ i → get_elem? (set xs i x) j ≡ get_elem? xs j
  set_else [] i j x apart = refl
  set_else (z ∷ zs) zero zero x apart = absurd (apart refl)
  set_else (z ∷ zs) zero (suc j) x apart = refl
  set_else (z ∷ zs) (suc i) zero x apart = refl
  set_else (z ∷ zs) (suc i) (suc j) x apart = set_else zs i j x (λ e. apart (ap suc e))

  pub set_again : (xs : List A) (i : ℕ) (x : A) → get_elem? xs i ≡ some x → set xs i x ≡ xs
  set_again [] i x e = refl
  set_again (z ∷ zs) zero x e = λ k. sym (some-injective z x e) k ∷ zs
  set_again (z ∷ zs) (suc i) x e = λ k. z ∷ set_again zs i x e k

  pub at_longer : (xs ys : List A) (i : ℕ) (x : A) → get_elem? xs i ≡ some x → get_elem? (xs ++ ys) i ≡ some x
  at_longer [] ys i x e = absurd (some-ne-none x (sym e))
  at_longer (z ∷ zs) ys zero x e = e
  at_longer (z ∷ zs) ys (suc i) x e = at_longer zs ys i x e

  pub at_last : (xs : List A) (x : A) → get_elem? (xs ++ x ∷ []) (length xs) ≡ some x
  at_last [] x = refl
  at_last (z ∷ zs) x = at_last zs x

  pub at_snoc : (xs : List A) (x y : A) (j : ℕ) → get_elem? (xs ++ x ∷ []) j ≡ some y → (get_elem? xs j ≡ some y) ⊎ ((j ≡ length xs) × (x ≡ y))
  at_snoc [] x y zero e = inr (refl, some-injective x y e)
  at_snoc [] x y (suc j) e = absurd (some-ne-none y (sym e))
  at_snoc (z ∷ zs) x y zero e = inl e
  at_snoc (z ∷ zs) x y (suc j) e = ⊎_elim (λ old. inl old) (λ new. inr (ap suc new.0, new.1)) (at_snoc zs x y j e)

  pub inside : (xs : List A) (i : ℕ) (x : A) → get_elem? xs i ≡ some x → i < length xs
  inside [] i x e = absurd (some-ne-none x (sym e))
  inside (z ∷ zs) zero x e = omega arith
  inside (z ∷ zs) (suc i) x e = let h = inside zs i x e in omega arith

  pub at_map : {B : Type 0} (g : A → B) (xs : List A) (i : ℕ) (x : A) → get_elem? xs i ≡ some x → get_elem? (map g xs) i ≡ some (g x)
  at_map g [] i x e = absurd (some-ne-none x (sym e))
  at_map g (z ∷ zs) zero x e = ap (λ (y : A). some (g y)) (some-injective z x e)
  at_map g (z ∷ zs) (suc i) x e = at_map g zs i x e

  -- an element within the length of a list is there
  pub at_within : (xs : List A) (i : ℕ) (d : A) → i < length xs → get_elem? xs i ≡ some (get_or xs i d)
  at_within [] i d h = absurd (omega arith)
  at_within (z ∷ zs) zero d h = refl
  at_within (z ∷ zs) (suc i) d h = at_within zs i d (omega arith)

  -- what stands in a mapped list is made of what stands in the list
  pub of_map : {B : Type 0} (g : A → B) (xs : List A) (i : ℕ) (y : B) → get_elem? (map g xs) i ≡ some y → (x : A) × (get_elem? xs i ≡ some x) × (g x ≡ y)
  of_map g [] i y e = absurd (some-ne-none y (sym e))
  of_map g (z ∷ zs) zero y e = (z, refl, some-injective (g z) y e)
  of_map g (z ∷ zs) (suc i) y e = of_map g zs i y e

  -- a change of one place, mapped
  pub map-set : {B : Type 0} (g : A → B) (xs : List A) (i : ℕ) (x : A) → map g (set xs i x) ≡ set (map g xs) i (g x)
  map-set g [] i x = refl
  map-set g (z ∷ zs) zero x = refl
  map-set g (z ∷ zs) (suc i) x = λ k. g z ∷ map-set g zs i x k

  -- one element more, mapped
  pub map-snoc : {B : Type 0} (g : A → B) (xs : List A) (x : A) → map g (xs ++ x ∷ []) ≡ map g xs ++ g x ∷ []
  map-snoc g [] x = refl
  map-snoc g (z ∷ zs) x = λ k. g z ∷ map-snoc g zs x k

module _ {A : Type 0} (f : A → ℕ) where
  -- the total with one view more in front
  pub total-cons : (x : A) (xs : List A) → total f (x ∷ xs) ≡ f x + total f xs
  total-cons x xs = sum_by-cons f x xs

  -- the total after one view has changed
  pub total-set : (xs : List A) (i : ℕ) (x y : A) → get_elem? xs i ≡ some x → total f (set xs i y) + f x ≡ total f xs + f y
  total-set [] i x y e = absurd (some-ne-none x (sym e))
  total-set (z ∷ zs) zero x y e =
      let same : f z ≡ f x = ap f (some-injective z x e) in
      let a = total-cons y zs in
      let b = total-cons z zs in
      omega arith
  total-set (z ∷ zs) (suc i) x y e =
      let a = total-cons z (set zs i y) in
      let b = total-cons z zs in
      let c = total-set zs i x y e in
      omega arith

  -- the total with one view more at the end
  pub total-snoc : (xs : List A) (y : A) → total f (xs ++ y ∷ []) ≡ total f xs + f y
  total-snoc xs y = sum_by_push f xs y

  -- one view has at most the total
  pub total-at : (xs : List A) (i : ℕ) (x : A) → get_elem? xs i ≡ some x → f x ≤ total f xs
  total-at [] i x e = absurd (some-ne-none x (sym e))
  total-at (z ∷ zs) zero x e =
      let same : f z ≡ f x = ap f (some-injective z x e) in
      let b = total-cons z zs in
      omega arith
  total-at (z ∷ zs) (suc i) x e =
      let b = total-cons z zs in
      let c = total-at zs i x e in
      omega arith

  -- two views have at most the total together
  pub total-two_in : (xs : List A) (i j : ℕ) (x y : A) → get_elem? xs i ≡ some x → get_elem? xs j ≡ some y → i ≢ j → f x + f y ≤ total f xs
  total-two_in [] i j x y e d apart = absurd (some-ne-none x (sym e))
  total-two_in (z ∷ zs) zero zero x y e d apart = absurd (apart refl)
  total-two_in (z ∷ zs) zero (suc j) x y e d apart =
      let same : f z ≡ f x = ap f (some-injective z x e) in
      let b = total-cons z zs in
      let c = total-at zs j y d in
      omega arith
  total-two_in (z ∷ zs) (suc i) zero x y e d apart =
      let same : f z ≡ f y = ap f (some-injective z y d) in
      let b = total-cons z zs in
      let c = total-at zs i x e in
      omega arith
  total-two_in (z ∷ zs) (suc i) (suc j) x y e d apart =
      let b = total-cons z zs in
      let c = total-two_in zs i j x y e d (λ h. apart (ap suc h)) in
      omega arith

  -- where one view has the total, every other has nothing
  pub total-alone : (xs : List A) (i j : ℕ) (x y : A) → get_elem? xs i ≡ some x → total f xs ≤ f x → get_elem? xs j ≡ some y → j ≢ i → f y ≡ 0
  total-alone xs i j x y e all d apart = let b = total-two_in xs i j x y e d (λ h. apart (sym h)) in omega arith

  -- the total of nothing but zeros
  pub total-zero : (xs : List A) → ((j : ℕ) (y : A) → get_elem? xs j ≡ some y → f y ≡ 0) → total f xs ≡ 0
  total-zero [] none = refl
  total-zero (z ∷ zs) none =
      let b = total-cons z zs in
      let here = none zero z refl in
      let c = total-zero zs (λ j y e. none (suc j) y e) in
      omega arith

  -- the total where each view gives the same as by another number
  pub total-like : (g : A → ℕ) (xs : List A) → ((j : ℕ) (y : A) → get_elem? xs j ≡ some y → g y ≡ f y) → total g xs ≡ total f xs
  total-like g [] same = refl
  total-like g (z ∷ zs) same =
      let a = sum_by-cons g z zs in
      let b = total-cons z zs in
      let here = same zero z refl in
      let c = total-like g zs (λ j y e. same (suc j) y e) in
      omega arith

  -- where every other view has nothing, one view has the total
  pub total-only : (xs : List A) (i : ℕ) (x : A) → get_elem? xs i ≡ some x → ((j : ℕ) (y : A) → get_elem? xs j ≡ some y → j ≢ i → f y ≡ 0) → total f xs ≡ f x
  total-only [] i x e none = absurd (some-ne-none x (sym e))
  total-only (z ∷ zs) zero x e none =
      let same : f z ≡ f x = ap f (some-injective z x e) in
      let b = total-cons z zs in
      let c = total-zero zs (λ j y d. none (suc j) y d (λ h. absurd (omega arith))) in
      omega arith
  total-only (z ∷ zs) (suc i) x e none =
      let b = total-cons z zs in
      let here = none zero z refl (λ h. absurd (omega arith)) in
      let c = total-only zs i x e (λ j y d apart. none (suc j) y d (λ h. apart (omega arith))) in
      omega arith

-- the total over a column that was made of another
pub total-map : {A B : Type 0} (f : B → ℕ) (g : A → B) (xs : List A) → total f (map g xs) ≡ total (λ x. f (g x)) xs
total-map f g [] = refl
total-map f g (x ∷ xs) = total-cons f (g x) (map g xs) ∙ ap (λ n. f (g x) + n) (total-map f g xs) ∙ sym (total-cons (λ y. f (g y)) x xs)

-- what stands in a list after a change of two places
pub at_two : {A : Type 0} (xs : List A) (i j k : ℕ) (x y z : A) → get_elem? (set (set xs i x) j y) k ≡ some z → ((k ≡ j) × (y ≡ z)) ⊎ (((k ≡ i) × (x ≡ z)) ⊎ ((k ≢ i) × (k ≢ j) × (get_elem? xs k ≡ some z)))
at_two xs i j k x y z e =
    ⊎_elim (λ here. inl here) (λ other. inr (⊎_elim (λ there. inl there) (λ else_. inr (else_.0, other.0, else_.1)) (at_set xs i k x z other.1))) (at_set (set xs i x) j k y z e)

-- the number of a processor by which a kind is told apart from others
abbrev cpu_in : SeatKind → ℕ
cpu_in (Clerk made back) = 0
cpu_in (Of cpu) = cpu.0
cpu_in Spent = 0

-- at the opening there is the clerk alone
pub AreSeated-opening : (cpus : ℕ) → AreSeated cpus (Clerk 0 0 ∷ [])
AreSeated-opening cpus = record {
  desk = 0;
  made = 0;
  back = 0;
  clerk = refl;
  one_clerk = only_first;
  within = omega arith;
  below = λ j cpu e. absurd (no_seat j cpu e);
  one_seat = λ j k cpu e d. absurd (no_seat j cpu e);
  all_seats = omega arith;
}
  where
    only_first : (j m b : ℕ) → get_elem? (Clerk 0 0 ∷ []) j ≡ some (Clerk m b) → j ≡ 0
    only_first zero m b e = refl
    only_first (suc j) m b e = absurd (some-ne-none (Clerk m b) (sym e))

    no_seat : (j : ℕ) (cpu : CpuId) → get_elem? (Clerk 0 0 ∷ []) j ≡ some (Of cpu) → ⊥
    no_seat zero cpu e = let h : Clerk 0 0 ≡ Of cpu = some-injective (Clerk 0 0) (Of cpu) e in cc
    no_seat (suc j) cpu e = some-ne-none (Of cpu) (sym e)

-- a step that keeps the kind of its seat keeps the seating
pub AreSeated-kept : (cpus : ℕ) (kinds : List SeatKind) (i : ℕ) (kind : SeatKind) → get_elem? kinds i ≡ some kind → AreSeated cpus kinds → AreSeated cpus (set kinds i kind)
AreSeated-kept cpus kinds i kind e seated = let F : List SeatKind → Type 0 = λ ks. AreSeated cpus ks in subst F (sym (set_again kinds i kind e)) seated

-- a processor that has a seat is one of so many
pub AreSeated-there : (cpus : ℕ) (kinds : List SeatKind) (i : ℕ) (cpu : CpuId) → AreSeated cpus kinds → get_elem? kinds i ≡ some (Of cpu) → cpu.0 < cpus
AreSeated-there cpus kinds i cpu seated e = let h = seated.below i cpu e in let w = seated.within in omega arith

-- the clerk's numbers are those of the seating
clerk_is : (cpus : ℕ) (kinds : List SeatKind) (i made back : ℕ) (seated : AreSeated cpus kinds) → get_elem? kinds i ≡ some (Clerk made back) → (seated.desk ≡ i) × (seated.made ≡ made) × (seated.back ≡ back)
clerk_is cpus kinds i made back seated e =
    let at_desk : i ≡ seated.desk = seated.one_clerk i made back e in
    let F : ℕ → Type 0 = λ n. get_elem? kinds n ≡ some (Clerk seated.made seated.back) in
    let h : some (Clerk made back) ≡ some (Clerk seated.made seated.back) = sym e ∙ subst F (sym at_desk) seated.clerk in (sym at_desk, cc, cc)

-- the clerk has made at most so many seats
pub AreSeated-made : (cpus : ℕ) (kinds : List SeatKind) (i made back : ℕ) → AreSeated cpus kinds → get_elem? kinds i ≡ some (Clerk made back) → made ≤ cpus
AreSeated-made cpus kinds i made back seated e = let c = clerk_is cpus kinds i made back seated e in let w = seated.within in let s = c.1 in omega arith

-- a seat's processor is one of those for which the clerk has made seats
pub AreSeated-below : (cpus : ℕ) (kinds : List SeatKind) (i made back j : ℕ) (cpu : CpuId) → AreSeated cpus kinds → get_elem? kinds i ≡ some (Clerk made back) → get_elem? kinds j ≡ some (Of cpu) → cpu.0 < made
AreSeated-below cpus kinds i made back j cpu seated e d = let c = clerk_is cpus kinds i made back seated e in let h = seated.below j cpu d in let s = c.1 in omega arith

-- another clerk, or another place with the clerk, than this one: there is none
pub AreSeated-clerk : (cpus : ℕ) (kinds : List SeatKind) (i made back j m b : ℕ) → AreSeated cpus kinds → get_elem? kinds i ≡ some (Clerk made back) → get_elem? kinds j ≡ some (Clerk m b) → j ≡ i
AreSeated-clerk cpus kinds i made back j m b seated e d = seated.one_clerk j m b d ∙ sym (seated.one_clerk i made back e)

-- the clerk makes the seat of the next processor
pub AreSeated-split : (cpus : ℕ) (kinds : List SeatKind) (i made back : ℕ) → AreSeated cpus kinds → get_elem? kinds i ≡ some (Clerk made back) → made < cpus → AreSeated cpus (set kinds i (Clerk (made + 1) back) ++ Of (record { 0 = made }) ∷ [])
AreSeated-split cpus kinds i made back seated e room =
    let next : SeatKind = Clerk (made + 1) back in
    let seat : SeatKind = Of (record { 0 = made }) in
    let front : List SeatKind = set kinds i next in
    let old_of : (j : ℕ) (cpu : CpuId) → get_elem? front j ≡ some (Of cpu) → get_elem? kinds j ≡ some (Of cpu)
    = λ j cpu old. ⊎_elim (λ here. absurd (let h : Clerk (made + 1) back ≡ Of cpu = here.1 in cc)) (λ else_. else_.1) (at_set kinds i j next (Of cpu) old) in
    let old_below : (j : ℕ) (cpu : CpuId) → get_elem? front j ≡ some (Of cpu) → cpu.0 < made
    = λ j cpu old. AreSeated-below cpus kinds i made back j cpu seated e (old_of j cpu old) in
    record {
      desk = i;
      made = made + 1;
      back = back;
      clerk = at_longer front (seat ∷ []) i next (set_here kinds i next (inside kinds i (Clerk made back) e));
      one_clerk = λ j m b d. ⊎_elim
          (λ old. ⊎_elim (λ here. here.0) (λ else_. AreSeated-clerk cpus kinds i made back j m b seated e else_.1) (at_set kinds i j next (Clerk m b) old))
          (λ new. absurd (let h : Of (record { 0 = made }) ≡ Clerk m b = new.1 in cc))
          (at_snoc front seat (Clerk m b) j d);
      within = omega arith;
      below = λ j cpu d. ⊎_elim (λ old. let h = old_below j cpu old in omega arith) (λ new. let h : made ≡ cpu.0 = ap cpu_in new.1 in omega arith) (at_snoc front seat (Of cpu) j d);
      one_seat = λ j k cpu d f. ⊎_elim
          (λ old. ⊎_elim
          (λ older. seated.one_seat j k cpu (old_of j cpu old) (old_of k cpu older))
          (λ new. absurd (let h : made ≡ cpu.0 = ap cpu_in new.1 in let b = old_below j cpu old in omega arith))
          (at_snoc front seat (Of cpu) k f))
          (λ new. ⊎_elim
          (λ old. absurd (let h : made ≡ cpu.0 = ap cpu_in new.1 in let b = old_below k cpu old in omega arith))
          (λ newer. new.0 ∙ sym newer.0)
          (at_snoc front seat (Of cpu) k f))
          (at_snoc front seat (Of cpu) j d);
      all_seats =
          let a = total-snoc (weight cpus) front seat in
          let b = total-set (weight cpus) kinds i (Clerk made back) next e in
          let c = seated.all_seats in
          omega arith;
    }

-- the clerk takes a seat back
pub AreSeated-join : (cpus : ℕ) (kinds : List SeatKind) (i made back other : ℕ) (cpu : CpuId) → AreSeated cpus kinds → get_elem? kinds i ≡ some (Clerk made back) → other ≢ i → get_elem? kinds other ≡ some (Of cpu) → AreSeated cpus (set (set kinds i (Clerk made (back + 1))) other Spent)
AreSeated-join cpus kinds i made back other cpu seated e apart d =
    let next : SeatKind = Clerk made (back + 1) in
    let front : List SeatKind = set kinds i next in
    let still : get_elem? front other ≡ some (Of cpu) = set_else kinds i other next apart ∙ d in
    let old_of : (j : ℕ) (c : CpuId) → get_elem? (set front other Spent) j ≡ some (Of c) → get_elem? kinds j ≡ some (Of c)
    = λ j c f. ⊎_elim
    (λ here. absurd (let h : Spent ≡ Of c = here.1 in cc))
    (λ else_. ⊎_elim (λ there. absurd (let h : Clerk made (back + 1) ≡ Of c = there.1 in cc)) (λ old. old.1) (at_set kinds i j next (Of c) else_.1))
    (at_set front other j Spent (Of c) f) in
    record {
      desk = i;
      made = made;
      back = back + 1;
      clerk = set_else front other i Spent (λ h. apart (sym h)) ∙ set_here kinds i next (inside kinds i (Clerk made back) e);
      one_clerk = λ j m b f. ⊎_elim
          (λ here. absurd (let h : Spent ≡ Clerk m b = here.1 in cc))
          (λ else_. ⊎_elim (λ there. there.0) (λ old. AreSeated-clerk cpus kinds i made back j m b seated e old.1) (at_set kinds i j next (Clerk m b) else_.1))
          (at_set front other j Spent (Clerk m b) f);
      within = AreSeated-made cpus kinds i made back seated e;
      below = λ j c f. AreSeated-below cpus kinds i made back j c seated e (old_of j c f);
      one_seat = λ j k c f g. seated.one_seat j k c (old_of j c f) (old_of k c g);
      all_seats =
          let a = total-set (weight cpus) front other (Of cpu) Spent still in
          let b = total-set (weight cpus) kinds i (Clerk made back) next e in
          let c = seated.all_seats in
          omega arith;
    }

-- once the clerk has taken as many seats back as there are processors, no seat is left
pub AreSeated-closed : (cpus : ℕ) (kinds : List SeatKind) (i made back : ℕ) → AreSeated cpus kinds → get_elem? kinds i ≡ some (Clerk made back) → cpus ≤ back → (made ≡ cpus) × (back ≡ cpus) × ((j : ℕ) (kind : SeatKind) → j ≢ i → get_elem? kinds j ≡ some kind → kind ≡ Spent)
AreSeated-closed cpus kinds i made back seated e all =
    let c = seated.all_seats in
    let t = total-at (weight cpus) kinds i (Clerk made back) e in
    let m = AreSeated-made cpus kinds i made back seated e in
    (omega arith, omega arith, spent)
  where
    spent : (j : ℕ) (kind : SeatKind) → j ≢ i → get_elem? kinds j ≡ some kind → kind ≡ Spent
    spent j Spent apart d = refl
    spent j (Clerk m b) apart d = absurd (apart (AreSeated-clerk cpus kinds i made back j m b seated e d))
    spent j (Of cpu) apart d =
        let c = seated.all_seats in
        let none = total-two_in (weight cpus) kinds i j (Clerk made back) (Of cpu) e d (λ h. apart (sym h)) in
        absurd (omega arith)
