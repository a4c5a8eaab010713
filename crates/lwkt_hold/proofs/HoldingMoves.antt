use Rattle.std.proofs.Common.{◌≡◌, ℕ, zero, suc, ◌+◌, ◌-◌, ◌<◌, ◌≤◌, Bool, true, false, cond, eqb, length, take, get_or, List, [], ◌∷◌, ◌++◌, refl, ap, ◌∙◌, arith, ne_eqb}
use Rattle.std.specs.Prelude.{fold}
use Rattle.std.proofs.lemmas.List.Sums.{fold-append}
use Rattle.std.proofs.lemmas.Bool.{eqb-true}
use Rattle.std.proofs.lemmas.Grind.{common_steps}
use Rattle.std.proofs.Math.Path.{fun_ext}
use Rattle.lwkt_base.specs.declared.names.Mode.{Mode}
use Rattle.lwkt_base.specs.declared.names.Mode.TheVariants.{Shared}
use Rattle.lwkt_base.specs.declared.names.Ref.{Ref}
use Rattle.lwkt_base.specs.declared.holdings.Held.{Held}
use Rattle.lwkt_base.specs.declared.holdings.Held.TheVariants.{Nothing, Holds}
use Rattle.lwkt_base.specs.Holding.{Holding, references_in, is_held, one_more, one_less, added, removed, holding_of, holds_nothing}
use Rattle.lwkt_bank.specs.Views.{count_from}

-- what a list with one reference more holds
pub holding_of_push : (refs : List Ref) (r : Ref) → holding_of (refs ++ r ∷ []) ≡ added (holding_of refs) r.tok.0 r.mode
holding_of_push refs r = fold-append (λ h r. added h r.tok.0 r.mode) holds_nothing refs (r ∷ [])

-- what the front with one reference more holds
pub holding_of_more : (refs : List Ref) (i : ℕ) (d : Ref) → i < length refs → holding_of (take (i + 1) refs) ≡ added (holding_of (take i refs)) (get_or refs i d).tok.0 (get_or refs i d).mode
holding_of_more refs i d within =
    let e : take (i + 1) refs ≡ take i refs ++ (get_or refs i d ∷ []) = grind (arith, common_steps) in
    ap holding_of e ∙ holding_of_push (take i refs) (get_or refs i d)

-- a reference more and one less leave what was
less_of_more : (held : Held) (mode : Mode) → one_less (one_more held mode) ≡ held
less_of_more Nothing mode = refl
less_of_more (Holds first further) mode =
    let e : eqb (further + 1) 0 ≡ false = ne_eqb (further + 1) 0 (λ is. absurd (omega (arith, is))) in
    let f : (further + 1) - 1 ≡ further = omega arith in
    rw e (ap (λ n. Holds first n) f)

less_if : (b : Bool) (held : Held) (mode : Mode) → cond b (one_less (cond b (one_more held mode) held)) (cond b (one_more held mode) held) ≡ held
less_if true held mode = less_of_more held mode
less_if false held mode = refl

-- taking a reference back after it was added
pub removed_added : (h : Holding) (tok : ℕ) (mode : Mode) → removed (added h tok mode) tok ≡ h
removed_added h tok mode = fun_ext (λ other. less_if (eqb other tok) (h other) mode)

-- a further reference keeps the mode of the first
pub more_in_any_mode : (held : Held) (mode : Mode) → is_held held ≡ true → one_more held Shared ≡ one_more held mode
more_in_any_mode Nothing mode is = cc
more_in_any_mode (Holds first further) mode is = refl

-- one reference more counts at most one more
references_more : (held : Held) (mode : Mode) → references_in (one_more held mode) ≡ references_in held + 1
references_more Nothing mode = refl
references_more (Holds first further) mode = refl

references_away : (b : Bool) (held : Held) (mode : Mode) → b ≡ false → references_in (cond b (one_more held mode) held) ≡ references_in held
references_away true held mode is = cc
references_away false held mode is = refl

references_if : (b : Bool) (held : Held) (mode : Mode) → references_in (cond b (one_more held mode) held) ≤ references_in held + 1
references_if true held mode = let e = references_more held mode in omega arith
references_if false held mode = omega arith

-- references to a token below those counted don't count
count_below : (n k tok : ℕ) (mode : Mode) (h : Holding) → tok < k → count_from k n (added h tok mode) ≡ count_from k n h
count_below zero k tok mode h low = refl
count_below (suc n) k tok mode h low =
    let apart : k ≡ tok → ⊥ = λ is. absurd (omega (arith, is)) in
    let e = count_below n (suc k) tok mode h (omega arith) in
    let f = references_away (eqb k tok) (h k) mode (ne_eqb k tok apart) in
    ap (λ c. c + count_from (suc k) n (added h tok mode)) f ∙ ap (λ c. references_in (h k) + c) e

count_at : (b : Bool) (n k tok : ℕ) (mode : Mode) (h : Holding) → eqb k tok ≡ b → count_from (suc k) n (added h tok mode) ≤ count_from (suc k) n h + 1 → references_in (cond (eqb k tok) (one_more (h k) mode) (h k)) + count_from (suc k) n (added h tok mode) ≤ references_in (h k) + count_from (suc k) n h + 1
count_at true n k tok mode h is rest =
    let same : k ≡ tok = eqb-true k tok is in
    let e = count_below n (suc k) tok mode h (omega arith) in
    let f = references_if (eqb k tok) (h k) mode in
    omega arith
count_at false n k tok mode h is rest =
    let f = references_away (eqb k tok) (h k) mode is in
    omega arith

-- one reference more counts at most one more
pub count_added : (n k tok : ℕ) (mode : Mode) (h : Holding) → count_from k n (added h tok mode) ≤ count_from k n h + 1
count_added zero k tok mode h = omega arith
count_added (suc n) k tok mode h = count_at (eqb k tok) n k tok mode h refl (count_added n (suc k) tok mode h)

-- nothing counts nothing
pub count_nothing : (n k : ℕ) → count_from k n holds_nothing ≡ 0
count_nothing zero k = refl
count_nothing (suc n) k = let e = count_nothing n (suc k) in omega arith

-- a list's holding has at most as many references more than what was held before, as the list has
count_fold : (n : ℕ) (refs : List Ref) (h : Holding) → count_from 0 n (fold (λ held r. added held r.tok.0 r.mode) h refs) ≤ count_from 0 n h + length refs
count_fold n [] h = omega arith
count_fold n (r ∷ refs) h =
    let rest = count_fold n refs (added h r.tok.0 r.mode) in
    let one = count_added n 0 r.tok.0 r.mode h in
    omega arith

-- the references of a list are at most as many as it is long
pub count_of_list : (n : ℕ) (refs : List Ref) → count_from 0 n (holding_of refs) ≤ length refs
count_of_list n refs =
    let e = count_fold n refs holds_nothing in
    let f = count_nothing n 0 in
    omega arith
