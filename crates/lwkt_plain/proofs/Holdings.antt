-- What a processor holds that holds the references of a list.
use Rattle.std.proofs.Common.{◌≡◌, ◌<◌, ◌≤◌, ◌+◌, ℕ, zero, suc, List, [], ◌∷◌, ◌++◌, length, set, refl, ap, sym, ◌∙◌, subst, arith, inl, inr, Option, Some, None, Bool, true, false}
use Rattle.std.specs.Prelude.{slice_get, fold, All, if◌then◌else◌, ◌==◌}
use Rattle.std.specs.Option.{option_map_or}
use Rattle.std.proofs.lemmas.Bool.{cases_lt, cases_eq, eq-eqb, ne_eqb, false≢true}
use Rattle.std.proofs.lemmas.List.Sums.{sum_by-cons}
use Rattle.std.proofs.lemmas.Option.{slice_get_past}
use Rattle.lwkt_base.specs.declared.names.Mode.{Mode}
use Rattle.lwkt_base.specs.declared.names.Ref.{Ref}
use Rattle.lwkt_base.specs.declared.holdings.Held.{Held}
use Rattle.lwkt_base.specs.declared.holdings.Held.TheVariants.{Nothing, Holds}
use Rattle.lwkt_base.specs.Holding.{Holding, holds_nothing, added, references_in, one_more, is_held, holding_of}
use Rattle.lwkt_base.specs.Refs.{names}
use Rattle.lwkt_base.proofs.HoldingLemmas.{holding_of-push, held_named}
use Rattle.lwkt_core.specs.declared.tokens.Token.{Token}
use Rattle.lwkt_core.specs.Machine.{references_of}
use Rattle.lwkt_core.specs.Tokens.{held_by}
use Rattle.lwkt_plain.specs.Sound.{holding_in, AreHeld}

-- how many references a holding has to the first tokens
abbrev total : Holding → ℕ → ℕ
total h zero = 0
total h (suc n) = references_in (h 0) + total (λ t. h (suc t)) n

total_same : (g h : Holding) (n : ℕ) → ((t : ℕ) → g t ≡ h t) → total g n ≡ total h n
total_same g h zero same = refl
total_same g h (suc n) same =
    ap (λ (held : Held). references_in held + total (λ t. g (suc t)) n) (same 0)
    ∙ ap (λ (k : ℕ). references_in (h 0) + k) (total_same (λ t. g (suc t)) (λ t. h (suc t)) n (λ t. same (suc t)))

total_tokens : (tokens : List Token) (c : ℕ) → references_of tokens c ≡ total (holding_in tokens c) (length tokens)
total_tokens [] c = refl
total_tokens (x ∷ xs) c =
    sum_by-cons (λ (tok : Token). references_in (held_by tok c)) x xs ∙ ap (λ (k : ℕ). references_in (held_by x c) + k) (total_tokens xs c)

one_reference : (h : Held) (mode : Mode) → references_in (one_more h mode) ≡ references_in h + 1
one_reference Nothing mode = refl
one_reference (Holds first further) mode = refl

-- tests of numbers that are one more
pub eqb_suc : (a b : ℕ) → (suc a == suc b) ≡ (a == b)
eqb_suc a b = elim (cases_eq a b) [
  | inl same ↦ eq-eqb (suc a) (suc b) (ap suc same) ∙ sym (eq-eqb a b same)
  | inr differ ↦ ne_eqb (suc a) (suc b) (λ same. differ (omega (arith, same))) ∙ sym (ne_eqb a b differ)
]

pub if_not : (b : Bool) (x y : Held) → b ≡ false → (if b then x else y) ≡ y
if_not true x y is = absurd (false≢true (sym is))
if_not false x y is = refl

total_added : (h : Holding) (tok n : ℕ) (mode : Mode) → tok < n → total (added h tok mode) n ≡ total h n + 1
total_added h tok zero mode there = absurd (omega arith)
total_added h zero (suc n) mode there =
    let first : references_in (added h 0 mode 0) ≡ references_in (h 0) + 1 = one_reference (h 0) mode in
    let rest : total (λ t. added h 0 mode (suc t)) n ≡ total (λ t. h (suc t)) n =
    total_same (λ t. added h 0 mode (suc t)) (λ t. h (suc t)) n (λ t. if_not (suc t == 0) (one_more (h (suc t)) mode) (h (suc t)) (ne_eqb (suc t) 0 (λ same. omega (arith, same)))) in
    omega (arith, first, rest)
total_added h (suc tok) (suc n) mode there =
    let g : Holding = λ t. h (suc t) in
    let first : references_in (added h (suc tok) mode 0) ≡ references_in (h 0) =
    ap references_in (if_not (0 == suc tok) (one_more (h 0) mode) (h 0) (ne_eqb 0 (suc tok) (λ same. omega (arith, same)))) in
    let more : total (λ t. added h (suc tok) mode (suc t)) n ≡ total (added g tok mode) n =
    total_same (λ t. added h (suc tok) mode (suc t)) (added g tok mode) n (λ t. ap (λ (b : Bool). if b then one_more (h (suc t)) mode else h (suc t)) (eqb_suc t tok)) in
    let rest : total (added g tok mode) n ≡ total g n + 1 = total_added g tok n mode (omega arith) in
    omega (arith, first, more, rest)

total_nothing : (n : ℕ) → total holds_nothing n ≡ 0
total_nothing zero = refl
total_nothing (suc n) = (let rest = total_nothing n in omega (arith, rest))

total_of : (refs : List Ref) (h : Holding) (n : ℕ) → All (λ (r : Ref). r.tok.0 < n) refs → total (fold (λ holding r. added holding r.tok.0 r.mode) h refs) n ≡ total h n + length refs
total_of [] h n all = omega arith
total_of (r ∷ refs) h n all =
    let rest = total_of refs (added h r.tok.0 r.mode) n (λ k d inside. all (suc k) d (omega arith)) in
    let one = total_added h r.tok.0 n r.mode (all 0 r (omega arith)) in
    omega (arith, rest, one)

-- a processor that holds exactly the references of a list has as many
pub references_held : (tokens : List Token) (c : ℕ) (refs : List Ref) → AreHeld c refs tokens → All (λ (r : Ref). r.tok.0 < length tokens) refs → references_of tokens c ≡ length refs
references_held tokens c refs held all =
    let sum = total_tokens tokens c in
    let same = total_same (holding_in tokens c) (holding_of refs) (length tokens) held in
    let of = total_of refs holds_nothing (length tokens) all in
    let none = total_nothing (length tokens) in
    omega (arith, sum, same, of, none)

-- a token that is held is there
pub held_there : (tokens : List Token) (c t : ℕ) (refs : List Ref) → AreHeld c refs tokens → is_held (holding_of refs t) ≡ true → t < length tokens
held_there tokens c t refs held is = elim (cases_lt t (length tokens)) [
  | inl inside ↦ inside
  | inr past ↦ absurd (false≢true (sym (ap is_held (sym (held t) ∙ ap (λ o. option_map_or (λ (tok : Token). held_by tok c) o Nothing) (slice_get_past tokens t past))) ∙ is))
]

held_more : (b : Bool) (h : Held) (mode : Mode) → b ≡ true → is_held (if b then one_more h mode else h) ≡ true
held_more true Nothing mode is = refl
held_more true (Holds first further) mode is = refl
held_more false h mode is = absurd (false≢true is)

-- a list's last reference is held
pub last_held : (front : List Ref) (r : Ref) → is_held (holding_of (front ++ r ∷ []) r.tok.0) ≡ true
last_held front r =
    ap (λ (h : Holding). is_held (h r.tok.0)) (holding_of-push front r) ∙ held_more (r.tok.0 == r.tok.0) (holding_of front r.tok.0) r.mode (eq-eqb r.tok.0 r.tok.0 refl)
