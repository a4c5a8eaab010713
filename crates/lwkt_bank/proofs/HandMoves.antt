use Rattle.std.proofs.Common.{eqb, eq-eqb, Bool, true, false, ◌≡◌, ◌≢◌, ◌⊎◌, inl, inr, ⊎_elim, ℕ, zero, suc, ◌<◌, List, [], ◌∷◌, length, set, refl, ap, sym, ◌∙◌, subst, arith, length-set}
use Rattle.std.proofs.lemmas.List.{set-set}
use mathlib.Core.Logic.{dite}
use mathlib.Core.Option.{Option, some, none, some-injective, some-ne-none}
use native.Mathlib.Decide.{ℕ_discrete}
use lib.ListN.{get_elem?}
use Rattle.atomic_table.specs.Table.{Act, keeps, takes, gives, chain, carried_after, homes_after, Valid}
use Rattle.lwkt_table.proofs.SeatingLemmas.{set_here, set_else, set_again, inside}
use Rattle.std.specs.Prelude.{◌||◌}
use Rattle.std.specs.List.{list_any}
use Rattle.std.proofs.lemmas.Bool.{eqb-true, false≢true}
use Rattle.lwkt_bank.specs.Hands.{Has, is_there, AreApart, AreSame}

abbrev Hand : Type 0
Hand = ℕ × (List ℕ)

set-comm : {A : Type 0} (xs : List A) (i j : ℕ) (x y : A) → i ≢ j → set (set xs i x) j y ≡ set (set xs j y) i x
set-comm [] i j x y apart = refl
set-comm (z ∷ zs) zero zero x y apart = absurd (apart refl)
set-comm (z ∷ zs) zero (suc j) x y apart = refl
set-comm (z ∷ zs) (suc i) zero x y apart = refl
set-comm (z ∷ zs) (suc i) (suc j) x y apart = ap (λ (w : _). z ∷ w) (set-comm zs i j x y (λ h. apart (ap suc h)))

pub AreSame-refl : (hands : List Hand) → AreSame hands hands
AreSame-refl hands = record { there = λ slot rec h. h; back = λ slot rec h. h; apart = λ h. h }

pub AreApart-rest : (x : Hand) (xs : List Hand) → AreApart (x ∷ xs) → AreApart xs
AreApart-rest x xs apart = record { one = λ i j slot rec other a b. let h : suc i ≡ suc j = apart.one (suc i) (suc j) slot rec other a b in omega arith }

-- the first slot is not among the rest
pub not_again : (x : Hand) (xs : List Hand) (slot : ℕ) (rec : (List ℕ)) → AreApart (x ∷ xs) → Has xs slot rec → slot ≢ x.0
not_again x xs slot rec apart has same =
    let first : get_elem? (x ∷ xs) zero ≡ some (slot, x.1) = λ k. some (sym same k, x.1) in
    let h : zero ≡ suc has.0 = apart.one zero (suc has.0) slot x.1 rec first has.1 in omega arith

-- one slot more, which is not there yet
pub AreApart-more : (slot : ℕ) (rec : (List ℕ)) (xs : List Hand) → AreApart xs → ((other : (List ℕ)) → Has xs slot other → ⊥) → AreApart ((slot, rec) ∷ xs)
AreApart-more slot rec xs apart new = record { one = go }
  where
    go : (i j k : ℕ) (y z : (List ℕ)) → get_elem? ((slot, rec) ∷ xs) i ≡ some (k, y) → get_elem? ((slot, rec) ∷ xs) j ≡ some (k, z) → i ≡ j
    go zero zero k y z a b = refl
    go zero (suc j) k y z a b =
        let first : (slot, rec) ≡ (k, y) = some-injective (slot, rec) (k, y) a in
        let F : ℕ → Type 0 = λ n. get_elem? xs j ≡ some (n, z) in
        absurd (new z (j, subst F (sym (ap (λ (h : Hand). h.0) first)) b))
    go (suc i) zero k y z a b =
        let first : (slot, rec) ≡ (k, z) = some-injective (slot, rec) (k, z) b in
        let F : ℕ → Type 0 = λ n. get_elem? xs i ≡ some (n, y) in
        absurd (new y (i, subst F (sym (ap (λ (h : Hand). h.0) first)) a))
    go (suc i) (suc j) k y z a b = ap suc (apart.one i j k y z a b)

-- one more behind the first
behind : (a x : Hand) (ys : List Hand) → AreApart (a ∷ ys) → ((slot : ℕ) (rec : (List ℕ)) → Has (a ∷ ys) slot rec → slot ≢ x.0) → AreApart (a ∷ x ∷ ys)
behind a x ys apart other =
    AreApart-more a.0 a.1 (x ∷ ys) (AreApart-more x.0 x.1 ys (AreApart-rest a ys apart) (λ rec has. other x.0 rec (suc has.0, has.1) refl)) first
  where
    first : (rec : (List ℕ)) → Has (x ∷ ys) a.0 rec → ⊥
    first rec (zero, e) = other a.0 a.1 (zero, refl) (sym (ap (λ (h : Hand). h.0) (some-injective x (a.0, rec) e)))
    first rec (suc i, e) = not_again a ys a.0 rec apart (i, e) refl

-- a record that is in hand, or none of this slot
pub find_slot : (hands : List Hand) (slot : ℕ) → ((rec : (List ℕ)) × Has hands slot rec) ⊎ ((rec : (List ℕ)) → Has hands slot rec → ⊥)
find_slot [] slot = inr (λ rec has. some-ne-none (slot, rec) (sym has.1))
find_slot (x ∷ xs) slot = dite (ℕ_discrete x.0 slot)
    (λ same. inl (x.1, (zero, λ k. some (same k, x.1))))
    (λ other. ⊎_elim (λ found. inl (found.0, (suc found.1.0, found.1.1))) (λ not_there. inr (none_there other not_there)) (find_slot xs slot))
  where
    none_there : x.0 ≢ slot → ((rec : (List ℕ)) → Has xs slot rec → ⊥) → (rec : (List ℕ)) → Has (x ∷ xs) slot rec → ⊥
    none_there other not_there rec (zero, e) = other (ap (λ (h : Hand). h.0) (some-injective x (slot, rec) e))
    none_there other not_there rec (suc i, e) = not_there rec (i, e)

-- an act that brings a record to the front, and leaves everything at home as it was
pub record Brought (hands : List Hand) (homes : List (Option (List ℕ))) (slot : ℕ) (rec : (List ℕ)) : Type 0 where
  pub act : Act (List ℕ)
  pub others : List Hand
  pub valid : Valid homes hands act
  pub carried : carried_after hands act ≡ (slot, rec) ∷ others
  pub homes_same : homes_after homes hands act ≡ homes
  pub same : AreSame hands ((slot, rec) ∷ others)

brought_first : (x : Hand) (xs : List Hand) (homes : List (Option (List ℕ))) (slot : ℕ) (rec : (List ℕ)) → x ≡ (slot, rec) → Brought (x ∷ xs) homes slot rec
brought_first x xs homes slot rec e = record {
  act = keeps;
  others = xs;
  valid = tt;
  carried = λ k. e k ∷ xs;
  homes_same = refl;
  same = let F : Hand → Type 0 = λ h. AreSame (x ∷ xs) (h ∷ xs) in subst F e (AreSame-refl (x ∷ xs));
}

brought_next : (x : Hand) (xs : List Hand) (homes : List (Option (List ℕ))) (slot : ℕ) (rec : (List ℕ)) → AreApart (x ∷ xs) → get_elem? homes x.0 ≡ some none → get_elem? homes slot ≡ some none → x.0 ≢ slot
    → Brought xs (set homes x.0 (some x.1)) slot rec → Brought (x ∷ xs) homes slot rec
brought_next x xs homes slot rec apart x_out slot_out other b = record {
  act = chain gives (chain b.act tail);
  others = x ∷ b.others;
  valid = (tt, (b.valid, subst V (sym b.homes_same) (subst W (sym b.carried) tail_valid)));
  carried = ap (λ (c : List Hand). carried_after c tail) b.carried;
  homes_same = ap (λ (h : List (Option (List ℕ))). homes_after h (carried_after xs b.act) tail) b.homes_same ∙ (ap (λ (c : List Hand). homes_after given c tail) b.carried ∙ tail_homes);
  same = record { there = there; back = back; apart = λ a. behind (slot, rec) x b.others (b.same.apart (AreApart-rest x xs a)) (λ k y has. not_again x xs k y a (b.same.back k y has)) };
}
  where
    given : List (Option (List ℕ))
    given = set homes x.0 (some x.1)

    tail : Act (List ℕ)
    tail = chain gives (chain (takes x.0 x.1) (takes slot rec))

    V : List (Option (List ℕ)) → Type 0
    V h = Valid h (carried_after xs b.act) tail

    W : List Hand → Type 0
    W c = Valid given c tail

    apart_back : slot ≢ x.0
    apart_back h = other (sym h)

    x_in : x.0 < length homes
    x_in = inside homes x.0 none x_out

    slot_in : slot < length given
    slot_in = let h = inside homes slot none slot_out in let l = length-set homes x.0 (some x.1) in omega arith

    tail_valid : Valid given ((slot, rec) ∷ b.others) tail
    tail_valid = (
      tt,
      (
        set_else given slot x.0 (some rec) other ∙ set_here homes x.0 (some x.1) x_in,
        set_else (set given slot (some rec)) x.0 slot none apart_back ∙ set_here given slot (some rec) slot_in,
      ),
    )

    slot_given : get_elem? given slot ≡ some none
    slot_given = set_else homes x.0 slot (some x.1) apart_back ∙ slot_out

    tail_homes : set (set (set given slot (some rec)) x.0 none) slot none ≡ homes
    tail_homes = set-comm (set given slot (some rec)) x.0 slot none none other
        ∙ (ap (λ (h : List (Option (List ℕ))). set h x.0 none) (set-set given slot (some rec) none ∙ set_again given slot none slot_given)
        ∙ (set-set homes x.0 (some x.1) none ∙ set_again homes x.0 none x_out))

    there : (k : ℕ) (y : (List ℕ)) → Has (x ∷ xs) k y → Has ((slot, rec) ∷ x ∷ b.others) k y
    there k y (zero, e) = (suc zero, e)
    there k y (suc i, e) = further (b.same.there k y (i, e))
      where
        further : Has ((slot, rec) ∷ b.others) k y → Has ((slot, rec) ∷ x ∷ b.others) k y
        further (zero, d) = (zero, d)
        further (suc j, d) = (suc (suc j), d)

    back : (k : ℕ) (y : (List ℕ)) → Has ((slot, rec) ∷ x ∷ b.others) k y → Has (x ∷ xs) k y
    back k y (zero, e) = let h = b.same.back k y (zero, e) in (suc h.0, h.1)
    back k y (suc zero, e) = (zero, e)
    back k y (suc (suc j), e) = let h = b.same.back k y (suc j, e) in (suc h.0, h.1)

-- a record that is in hand can be brought to the front, where each slot in hand is empty at home
pub bring : (hands : List Hand) (i : ℕ) (homes : List (Option (List ℕ))) (slot : ℕ) (rec : (List ℕ)) → AreApart hands → ((k : ℕ) (y : (List ℕ)) → Has hands k y → get_elem? homes k ≡ some none) → get_elem? hands i ≡ some (slot, rec) → Brought hands homes slot rec
bring [] i homes slot rec apart out e = absurd (some-ne-none (slot, rec) (sym e))
bring (x ∷ xs) zero homes slot rec apart out e = brought_first x xs homes slot rec (some-injective x (slot, rec) e)
bring (x ∷ xs) (suc i) homes slot rec apart out e =
    let other : x.0 ≢ slot = λ h. not_again x xs slot rec apart (i, e) (sym h) in
    brought_next x xs homes slot rec apart (out x.0 x.1 (zero, refl)) (out slot rec (suc i, e)) other
    (bring xs i (set homes x.0 (some x.1)) slot rec (AreApart-rest x xs apart)
    (λ k y has. set_else homes x.0 k (some x.1) (not_again x xs k y apart has) ∙ out k y (suc has.0, has.1)) e)

or_true : (b : Bool) → (b || true) ≡ true
or_true true = refl
or_true false = refl

-- a record is in hand where its token is found there
pub to_there : (hands : List Hand) (tok : ℕ) (bytes : List ℕ) → Has hands tok bytes → is_there hands tok ≡ true
to_there [] tok bytes has = absurd (some-ne-none (tok, bytes) (sym has.1))
to_there (x ∷ xs) tok bytes (zero, e) =
    let test : eqb x.0 tok ≡ true = eq-eqb x.0 tok (ap (λ (h : Hand). h.0) (some-injective x (tok, bytes) e)) in
    ap (λ (b : Bool). b || list_any (λ (h : Hand). eqb h.0 tok) xs) test
to_there (x ∷ xs) tok bytes (suc i, e) =
    ap (λ (b : Bool). eqb x.0 tok || b) (to_there xs tok bytes (i, e)) ∙ or_true (eqb x.0 tok)

pub from_there : (hands : List Hand) (tok : ℕ) → is_there hands tok ≡ true → (bytes : List ℕ) × Has hands tok bytes
from_there [] tok is = absurd (false≢true is)
from_there (x ∷ xs) tok is = go (eqb x.0 tok) refl is (λ found. from_there xs tok found)
  where
    go : (b : Bool) → eqb x.0 tok ≡ b → (b || list_any (λ (h : Hand). eqb h.0 tok) xs) ≡ true → (is_there xs tok ≡ true → (bytes : List ℕ) × Has xs tok bytes) → (bytes : List ℕ) × Has (x ∷ xs) tok bytes
    go true test found rest = let same : x.0 ≡ tok = eqb-true x.0 tok test in (x.1, (zero, λ k. some (same k, x.1)))
    go false test found rest = let h = rest found in (h.0, (suc h.1.0, h.1.1))
