-- Sentences that stand for others, by how deep they may stand, and one after the other.
use Rattle.std.proofs.Common.{◌≡◌, ℕ, zero, suc, ◌+◌, ◌-◌, ◌<◌, ◌≤◌, List, [], ◌∷◌, ◌++◌, length, drop, get_or, Option, Some, None, refl, sym, ap, subst, ◌∙◌, arith, true, false}
use Rattle.std.specs.Prelude.{codes, slice_get}
use Rattle.std.proofs.lemmas.List.{append-nil, append_assoc, drop_more}
use Rattle.lwkt_text.specs.declared.expansions.FoundWord.{FoundWord}
use Rattle.lwkt_text.specs.declared.expansions.Spread.{Spread}
use Rattle.lwkt_text.specs.declared.words.Sentence.{Sentence}
use Rattle.lwkt_text.specs.declared.words.Word.{Word}
use Rattle.lwkt_text.specs.Expanding.{found_at, members_from, with_round, with_first, is_full, inside, rounds, own, for_put, plain_put, spread, spread_rest, spread_for}
use Rattle.lwkt_text.specs.Looking.{is_at}

-- the next value of a name
rounds_suc : (inner : Spread → Spread) (count depth : ℕ) (name : List ℕ) (n value : ℕ) (s : Spread) → is_full s ≡ false
    → rounds inner count depth name (suc n) value s ≡ rounds inner count depth name n (value + 1) (with_first count depth (inner (with_round name value s)))
rounds_suc inner count depth name n value s room = rw room refl

pub rounds_on : (inner : Spread → Spread) (count depth : ℕ) (name : List ℕ) (to value : ℕ) (s : Spread) → value < to → is_full s ≡ false
    → rounds inner count depth name (to - value) value s ≡ rounds inner count depth name (to - (value + 1)) (value + 1) (with_first count depth (inner (with_round name value s)))
rounds_on inner count depth name to value s within room =
    let e : suc (to - (value + 1)) ≡ to - value = omega arith in
    subst (λ n. rounds inner count depth name n value s ≡ rounds inner count depth name (to - (value + 1)) (value + 1) (with_first count depth (inner (with_round name value s)))) e (rounds_suc inner count depth name (to - (value + 1)) value s room)

-- no value is left
pub rounds_done : (inner : Spread → Spread) (count depth : ℕ) (name : List ℕ) (to value : ℕ) (s : Spread) → to ≤ value → rounds inner count depth name (to - value) value s ≡ s
rounds_done inner count depth name to value s none =
    let e : to - value ≡ 0 = omega arith in
    ap (λ n. rounds inner count depth name n value s) e

rounds_full_suc : (inner : Spread → Spread) (count depth : ℕ) (name : List ℕ) (n value : ℕ) (s : Spread) → is_full s ≡ true → rounds inner count depth name n value s ≡ s
rounds_full_suc inner count depth name zero value s full = refl
rounds_full_suc inner count depth name (suc n) value s full = rw full refl

-- nothing more where there is no room
pub rounds_full : (inner : Spread → Spread) (count depth : ℕ) (name : List ℕ) (n value : ℕ) (s : Spread) → is_full s ≡ true → rounds inner count depth name n value s ≡ s
rounds_full inner count depth name n value s full = rounds_full_suc inner count depth name n value s full

-- a `for` that may hold others
for_suc : (deep : ℕ) (ws : List Word) (ss : List Sentence) (s : Spread) → spread_for (suc deep) ws ss s ≡ for_put (suc deep) (spread deep) ws ss (inside 0 0 ss) s
for_suc deep ws ss s = refl

pub for_later : (deep : ℕ) (ws : List Word) (ss : List Sentence) (s : Spread) → 0 < deep → spread_for deep ws ss s ≡ for_put deep (spread (deep - 1)) ws ss (inside 0 0 ss) s
for_later deep ws ss s some =
    let e : suc (deep - 1) ≡ deep = omega arith in
    subst (λ n. spread_for n ws ss s ≡ for_put n (spread (deep - 1)) ws ss (inside 0 0 ss) s) e (for_suc (deep - 1) ws ss s)

-- all sentences, of which none is left out first
pub spread_begun : (deep : ℕ) (ss : List Sentence) (s : Spread) → spread deep ss s ≡ spread_rest deep 0 ss s
unfolding spread
spread_begun zero ss s = refl
spread_begun (suc deep) ss s = refl

pub rest_none : (deep skip : ℕ) (s : Spread) → spread_rest deep skip [] s ≡ s
rest_none zero skip s = refl
rest_none (suc deep) skip s = refl

rest_skip : (deep skip : ℕ) (x : Sentence) (ss : List Sentence) (s : Spread) → spread_rest deep (suc skip) (x ∷ ss) s ≡ spread_rest deep skip ss s
rest_skip zero skip x ss s = refl
rest_skip (suc deep) skip x ss s = refl

rest_for : (deep : ℕ) (x : Sentence) (ss : List Sentence) (s : Spread) → is_at x.words 0 (codes "for") ≡ true → spread_rest deep 0 (x ∷ ss) s ≡ spread_rest deep (own (inside 0 0 ss)) ss (spread_for deep x.words ss s)
rest_for zero x ss s is = rw is refl
rest_for (suc deep) x ss s is = rw is refl

rest_plain : (deep : ℕ) (x : Sentence) (ss : List Sentence) (s : Spread) → is_at x.words 0 (codes "for") ≡ false → spread_rest deep 0 (x ∷ ss) s ≡ spread_rest deep 0 ss (plain_put x.words s)
rest_plain zero x ss s is = rw is refl
rest_plain (suc deep) x ss s is = rw is refl

-- a list with a sentence at its front
front : (deep skip : ℕ) (ss : List Sentence) (at : ℕ) (x : Sentence) (s : Spread) → at < length ss → x ≡ get_or ss at x → spread_rest deep skip (drop at ss) s ≡ spread_rest deep skip (x ∷ drop (at + 1) ss) s
front deep skip ss at x s within is = ap (λ (xs : List Sentence). spread_rest deep skip xs s) (drop_more ss at x within ∙ ap (λ (y : Sentence). y ∷ drop (at + 1) ss) (sym is))

-- a sentence that is left out
pub skip_on : (deep skip at : ℕ) (ss : List Sentence) (x : Sentence) (s t : Spread) → at < length ss → x ≡ get_or ss at x → 0 < skip
    → spread_rest deep skip (drop at ss) s ≡ t → spread_rest deep (skip - 1) (drop (at + 1) ss) s ≡ t
skip_on deep skip at ss x s t within is some so_far =
    let e : suc (skip - 1) ≡ skip = omega arith in
    sym (rest_skip deep (skip - 1) x (drop (at + 1) ss) s) ∙ ap (λ n. spread_rest deep n (x ∷ drop (at + 1) ss) s) e ∙ sym (front deep skip ss at x s within is) ∙ so_far

-- a `for`
pub for_on : (deep skip at : ℕ) (ss : List Sentence) (x : Sentence) (s t : Spread) → at < length ss → x ≡ get_or ss at x → skip ≡ 0 → is_at x.words 0 (codes "for") ≡ true
    → spread_rest deep skip (drop at ss) s ≡ t → spread_rest deep (own (inside 0 0 (drop (at + 1) ss))) (drop (at + 1) ss) (spread_for deep x.words (drop (at + 1) ss) s) ≡ t
for_on deep skip at ss x s t within is none named so_far =
    sym (rest_for deep x (drop (at + 1) ss) s named) ∙ ap (λ n. spread_rest deep n (x ∷ drop (at + 1) ss) s) (sym none) ∙ sym (front deep skip ss at x s within is) ∙ so_far

-- another sentence
pub plain_on : (deep skip at : ℕ) (ss : List Sentence) (x : Sentence) (s t : Spread) → at < length ss → x ≡ get_or ss at x → skip ≡ 0 → is_at x.words 0 (codes "for") ≡ false
    → spread_rest deep skip (drop at ss) s ≡ t → spread_rest deep 0 (drop (at + 1) ss) (plain_put x.words s) ≡ t
plain_on deep skip at ss x s t within is none named so_far =
    sym (rest_plain deep x (drop (at + 1) ss) s named) ∙ ap (λ n. spread_rest deep n (x ∷ drop (at + 1) ss) s) (sym none) ∙ sym (front deep skip ss at x s within is) ∙ so_far

-- words of which those of a member are one: where no word is left
members_none : (ws : List Word) (i : ℕ) (x : Word) (rest : List Word) → slice_get ws i ≡ None → members_from ws i (x ∷ rest) ≡ []
members_none ws i x rest none = rw none refl

-- and with the next word, or the member that it begins
members_some : (ws : List Word) (i : ℕ) (w x : Word) (rest : List Word) → slice_get ws i ≡ Some w → members_from ws i (x ∷ rest) ≡ (found_at ws i w).word ∷ members_from ws (found_at ws i w).end rest
members_some ws i w x rest there = rw there refl

pub members_end : (ws list total : List Word) (n i : ℕ) (x : Word) → n < length ws → slice_get ws i ≡ None → list ++ members_from ws i (drop n ws) ≡ total → list ≡ total
members_end ws list total n i x within none so_far =
    sym (append-nil list)
    ∙ ap (λ (l : List Word). list ++ l) (sym (ap (λ (rest : List Word). members_from ws i rest) (drop_more ws n x within) ∙ members_none ws i (get_or ws n x) (drop (n + 1) ws) none))
    ∙ so_far

pub members_on : (ws list total : List Word) (n i : ℕ) (w x : Word) (f : FoundWord) → n < length ws → slice_get ws i ≡ Some w → f ≡ found_at ws i w → list ++ members_from ws i (drop n ws) ≡ total
    → (list ++ f.word ∷ []) ++ members_from ws f.end (drop (n + 1) ws) ≡ total
members_on ws list total n i w x f within there is so_far =
    append_assoc list (f.word ∷ []) (members_from ws f.end (drop (n + 1) ws))
    ∙ ap (λ (g : FoundWord). list ++ g.word ∷ members_from ws g.end (drop (n + 1) ws)) is
    ∙ ap (λ (l : List Word). list ++ l) (sym (ap (λ (rest : List Word). members_from ws i rest) (drop_more ws n x within) ∙ members_some ws i w (get_or ws n x) (drop (n + 1) ws) there))
    ∙ so_far
