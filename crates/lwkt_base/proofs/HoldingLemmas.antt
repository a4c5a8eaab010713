use Rattle.std.proofs.Common.{◌+◌, ◌-◌, ◌≡◌, ℕ, Bool, true, false, cond, eqb, eq-eqb, inl, inr, List, [], ◌∷◌, Option, Some, None, refl, ap, sym, ◌∙◌, arith}
use Rattle.std.specs.Prelude.{◌||◌, fold, find, option_map}
use Rattle.std.specs.Option.{option_or}
use Rattle.std.proofs.lemmas.List.Sums.{fold-append, sum_by-cons}
use Rattle.std.proofs.lemmas.Bool.{eqb-true, eqb-false, ne_eqb, cases_eq, cases_Bool}
use Rattle.std.proofs.Math.Path.{fun_ext}
use Rattle.lwkt_base.specs.declared.names.Mode.{Mode}
use Rattle.lwkt_base.specs.declared.names.Ref.{Ref}
use Rattle.lwkt_base.specs.declared.holdings.Held.{Held}
use Rattle.lwkt_base.specs.declared.holdings.Held.TheVariants.{Nothing, Holds}
use Rattle.lwkt_base.specs.Refs.{is_to, names, first_mode, references_to}
use Rattle.lwkt_base.specs.Holding.{Holding, holds_nothing, added, removed, one_more, one_less, holding_of, mode_of, is_held, references_in, ListsAreHeld, AcquiringAdds, ReleasingRemoves, RemovingUndoesAdding}

-- a further reference given back
less_more : (held : Held) (mode : Mode) → one_less (one_more held mode) ≡ held
less_more Nothing mode = refl
less_more (Holds first further) mode = less (eqb (further + 1) 0) refl
  where
    less : (b : Bool) → eqb (further + 1) 0 ≡ b → cond b Nothing (Holds first (further + 1 - 1)) ≡ Holds first further
    less true e = absurd (let z = eqb-true (further + 1) 0 e in omega arith)
    less false e = ap (λ n. Holds first n) (omega arith)

pub removed-added : RemovingUndoesAdding
removed-added holding tok mode = fun_ext (λ other. at other (eqb other tok) refl)
  where
    at : (other : ℕ) (b : Bool) → eqb other tok ≡ b → removed (added holding tok mode) tok other ≡ holding other
    at other true e = rw e (less_more (holding other) mode)
    at other false e = rw e refl

pub holding_of-push : AcquiringAdds
holding_of-push refs r = fold-append (λ holding q. added holding q.tok.0 q.mode) holds_nothing refs (r ∷ [])

pub holding_of-front : ReleasingRemoves
holding_of-front refs r = sym (ap (λ holding. removed holding r.tok.0) (holding_of-push refs r) ∙ removed-added (holding_of refs) r.tok.0 r.mode)

-- no mode more
or_none : (o : Option Mode) → o ≡ option_or o None
or_none None = refl
or_none (Some mode) = refl

-- the mode after one reference more
mode_of-one_more : (held : Held) (mode : Mode) → mode_of (one_more held mode) ≡ option_or (mode_of held) (Some mode)
mode_of-one_more Nothing mode = refl
mode_of-one_more (Holds first further) mode = refl

mode_of-added : (holding : Holding) (r : Ref) (tok : ℕ) → mode_of (added holding r.tok.0 r.mode tok) ≡ option_or (mode_of (holding tok)) (cond (is_to tok r) (Some r.mode) None)
mode_of-added holding r tok =
    elim (cases_eq tok r.tok.0) [
      | inl same ↦ rw (eq-eqb tok r.tok.0 same, eq-eqb r.tok.0 tok (sym same)) (mode_of-one_more (holding tok) r.mode)
      | inr differ ↦ rw (ne_eqb tok r.tok.0 differ, ne_eqb r.tok.0 tok (λ e. differ (sym e))) (or_none (mode_of (holding tok)))
    ]

-- the first of two finds, by modes
first_of_two : (o : Option Mode) (b : Bool) (r : Ref) (found : Option Ref) → option_or (option_or o (cond b (Some r.mode) None)) (option_map (λ q. q.mode) found) ≡ option_or o (option_map (λ q. q.mode) (cond b (Some r) found))
first_of_two (Some mode) b r found = refl
first_of_two None true r found = refl
first_of_two None false r found = refl

-- what is held after the references of a list
abbrev held_after : Holding → List Ref → Holding
held_after holding refs = fold (λ h r. added h r.tok.0 r.mode) holding refs

-- the mode after the references of a list
mode_of-after : (holding : Holding) (refs : List Ref) (tok : ℕ) → mode_of (held_after holding refs tok) ≡ option_or (mode_of (holding tok)) (first_mode refs tok)
mode_of-after holding [] tok = or_none (mode_of (holding tok))
mode_of-after holding (r ∷ refs) tok =
    mode_of-after (added holding r.tok.0 r.mode) refs tok
    ∙ ap (λ o. option_or o (first_mode refs tok)) (mode_of-added holding r tok)
    ∙ first_of_two (mode_of (holding tok)) (is_to tok r) r (find (is_to tok) refs)

-- the number of references after one more
references-one_more : (held : Held) (mode : Mode) → references_in (one_more held mode) ≡ references_in held + 1
references-one_more Nothing mode = refl
references-one_more (Holds first further) mode = refl

references-added : (holding : Holding) (r : Ref) (tok : ℕ) → references_in (added holding r.tok.0 r.mode tok) ≡ references_in (holding tok) + cond (is_to tok r) 1 0
references-added holding r tok =
    elim (cases_eq tok r.tok.0) [
      | inl same ↦ rw (eq-eqb tok r.tok.0 same, eq-eqb r.tok.0 tok (sym same)) (references-one_more (holding tok) r.mode)
      | inr differ ↦ rw (ne_eqb tok r.tok.0 differ, ne_eqb r.tok.0 tok (λ e. differ (sym e))) (omega arith)
    ]

-- the number of references after those of a list
references-after : (holding : Holding) (refs : List Ref) (tok : ℕ) → references_in (held_after holding refs tok) ≡ references_in (holding tok) + references_to refs tok
references-after holding [] tok = omega arith
references-after holding (r ∷ refs) tok =
    let rest = references-after (added holding r.tok.0 r.mode) refs tok in
    let first = references-added holding r tok in
    let all = sum_by-cons (λ (q : Ref). cond (is_to tok q) 1 0) r refs in omega (arith, rest, first, all)

pub holding_of-known : ListsAreHeld
holding_of-known refs tok = (mode_of-after holds_nothing refs tok, (references-after holds_nothing refs tok ∙ omega arith))

-- what a reference more does to whether a token is held
held_if : (b : Bool) (held : Held) (mode : Mode) → is_held (cond b (one_more held mode) held) ≡ (b || is_held held)
held_if true Nothing mode = refl
held_if true (Holds first further) mode = refl
held_if false held mode = refl

or_nothing : (b : Bool) → (b || false) ≡ b
or_nothing true = refl
or_nothing false = refl

or_turn : (a b c : Bool) → (a || (b || c)) ≡ (b || a || c)
or_turn true true c = refl
or_turn true false c = refl
or_turn false true c = refl
or_turn false false c = refl

eqb_turn : (a b : ℕ) → eqb a b ≡ eqb b a
eqb_turn a b = elim (cases_Bool (eqb a b)) [
  | inl is ↦ is ∙ sym (eq-eqb b a (sym (eqb-true a b is)))
  | inr is ↦ is ∙ sym (ne_eqb b a (λ same. eqb-false a b is (sym same)))
]

names_fold : (refs : List Ref) (h : Holding) (tok : ℕ) → is_held (fold (λ held r. added held r.tok.0 r.mode) h refs tok) ≡ (names refs tok || is_held (h tok))
names_fold [] h tok = refl
names_fold (r ∷ refs) h tok =
    names_fold refs (added h r.tok.0 r.mode) tok
    ∙ ap (λ b. names refs tok || b) (held_if (eqb tok r.tok.0) (h tok) r.mode ∙ ap (λ b. b || is_held (h tok)) (eqb_turn tok r.tok.0))
    ∙ or_turn (names refs tok) (is_to tok r) (is_held (h tok))

-- a list holds the tokens that it names
pub held_named : (refs : List Ref) (tok : ℕ) → is_held (holding_of refs tok) ≡ names refs tok
held_named refs tok = names_fold refs holds_nothing tok ∙ or_nothing (names refs tok)
