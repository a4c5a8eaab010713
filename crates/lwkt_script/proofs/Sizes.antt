-- How many places a list of sentences takes, as a loop counts them.
use Rattle.std.proofs.Common.{◌≡◌, ℕ, suc, ◌+◌, ◌-◌, ◌<◌, ◌≤◌, List, ◌∷◌, length, drop, get_or, Option, Some, None, refl, sym, ap, ◌∙◌, subst, ⊎_elim, arith}
use Rattle.std.specs.Prelude.{min, option_map, unwrap_or}
use Rattle.std.proofs.Math.Nat.{min-eq_left, min-eq_right}
use Rattle.std.proofs.lemmas.Bool.{cases_lt}
use Rattle.std.proofs.lemmas.List.{drop_more, drop_all}
use Rattle.serde_json.specs.Data.{Data}
use Rattle.serde_json.specs.View.{view, items_view}
use Rattle.serde_json.specs.declared.value.Value.{Value}
use Rattle.lwkt_script.specs.Frames.{sentence_word, size_of, size_sum, size_one, size_in}

-- a list with an item at its front
front_sum : (f : Data → ℕ) (items : List Value) (i : ℕ) (v : Value) → i < length items → v ≡ get_or items i v → size_sum f (items_view (drop i items)) ≡ f (view v) + size_sum f (items_view (drop (i + 1) items))
front_sum f items i v within is = ap (λ (vs : List Value). size_sum f (items_view vs)) (drop_more items i v within ∙ ap (λ (w : Value). w ∷ drop (i + 1) items) (sym is))

min_more : (s a r m : ℕ) → min (min (s + a) m + r) m ≡ min (s + (a + r)) m
min_more s a r m =
    ⊎_elim
    (λ l. let e : min (s + a) m ≡ s + a = min-eq_left (omega arith) in ap (λ n. min n m) (let f : min (s + a) m + r ≡ s + (a + r) = omega arith in f))
    (λ g. let e : min (s + a) m ≡ m = min-eq_right (omega arith) in
    min-eq_right (let f : m ≤ min (s + a) m + r = omega arith in f) ∙ sym (min-eq_right (let f : m ≤ s + (a + r) = omega arith in f)))
    (cases_lt (s + a) m)

-- one sentence more
pub size_on : (deep sum : ℕ) (items : List Value) (i : ℕ) (v : Value) (total : ℕ) → i < length items → v ≡ get_or items i v
    → min (sum + size_sum (size_one deep) (items_view (drop i items))) 4294967295 ≡ total
    → min (min (sum + size_one deep (view v)) 4294967295 + size_sum (size_one deep) (items_view (drop (i + 1) items))) 4294967295 ≡ total
size_on deep sum items i v total within is so_far =
    min_more sum (size_one deep (view v)) (size_sum (size_one deep) (items_view (drop (i + 1) items))) 4294967295
    ∙ ap (λ n. min (sum + n) 4294967295) (sym (front_sum (size_one deep) items i v within is)) ∙ so_far

-- by the levels that may stand in the list
pub size_none : (deep : ℕ) (d : Data) → deep ≡ 0 → size_one deep d ≡ 0
unfolding size_one
size_none deep d e = rw e refl

size_suc : (deep : ℕ) (d : Data) → size_one (suc deep) d ≡ unwrap_or (option_map (λ word. size_of (size_in deep) word d) (sentence_word d)) 1
unfolding size_one
size_suc deep d = refl

pub size_later : (deep : ℕ) (d : Data) → 0 < deep → size_one deep d ≡ unwrap_or (option_map (λ word. size_of (size_in (deep - 1)) word d) (sentence_word d)) 1
size_later deep d w =
    let e : suc (deep - 1) ≡ deep = omega arith in
    subst (λ n. size_one n d ≡ unwrap_or (option_map (λ word. size_of (size_in (deep - 1)) word d) (sentence_word d)) 1) e (size_suc (deep - 1) d)

-- the same of what the reader returns
pub size_without : (deep : ℕ) (d : Data) → 0 < deep → sentence_word d ≡ None → 1 ≡ size_one deep d
size_without deep d w e = sym (size_later deep d w ∙ ap (λ (o : Option (List ℕ)). unwrap_or (option_map (λ word. size_of (size_in (deep - 1)) word d) o) 1) e)

pub size_with : (deep n : ℕ) (d : Data) (word : List ℕ) → 0 < deep → sentence_word d ≡ Some word → n ≡ size_of (size_in (deep - 1)) word d → n ≡ size_one deep d
size_with deep n d word w e is = is ∙ sym (size_later deep d w ∙ ap (λ (o : Option (List ℕ)). unwrap_or (option_map (λ word. size_of (size_in (deep - 1)) word d) o) 1) e)

pub size_no_level : (deep : ℕ) (d : Data) → deep ≡ 0 → 0 ≡ size_one deep d
size_no_level deep d e = sym (size_none deep d e)

-- all sentences
pub size_all : (deep sum : ℕ) (items : List Value) (i total : ℕ) → length items ≤ i → sum ≤ 4294967295 → min (sum + size_sum (size_one deep) (items_view (drop i items))) 4294967295 ≡ total → sum ≡ total
size_all deep sum items i total past few h =
    let rest : size_sum (size_one deep) (items_view (drop i items)) ≡ 0 = ap (λ (vs : List Value). size_sum (size_one deep) (items_view vs)) (drop_all i items past) in
    let e : sum ≡ sum + size_sum (size_one deep) (items_view (drop i items)) = omega arith in
    sym (min-eq_left few) ∙ ap (λ n. min n 4294967295) e ∙ h
