-- The last references of lists: released, and exchanged.
use Rattle.std.proofs.Common.{◌≡◌, ◌≢◌, ◌<◌, ◌≤◌, ◌+◌, ◌-◌, ◌⊎◌, ◌↔◌, ℕ, zero, suc, List, [], ◌∷◌, ◌++◌, length, get_or, take, drop, reverse, refl, ap, sym, ◌∙◌, subst, arith, inl, inr, Option, Some, None, Bool, true, false}
use Rattle.std.specs.Prelude.{slice_get, All, if◌then◌else◌, ◌==◌, not, nat_lt, Result, Ok, Err}
use Rattle.std.specs.Option.{option_map_or}
use Rattle.std.proofs.lemmas.Bool.{eqb-true, eq-eqb, ne_eqb, false≢true, cases_Bool, le-ltb, lt-ltb}
use Rattle.std.proofs.lemmas.List.{length-append, take_at, drop_at, take_more, take_all}
use Rattle.std.proofs.lemmas.List.Elements.{All-take}
use Rattle.std.proofs.lemmas.Option.{slice_get_within, get_or_from_slice_get, none-some}
use Rattle.lwkt_base.specs.declared.names.CpuId.{CpuId}
use Rattle.lwkt_base.specs.declared.names.TokId.{TokId}
use Rattle.lwkt_base.specs.declared.names.Ref.{Ref}
use Rattle.lwkt_base.specs.declared.faults.Fault.{Fault}
use Rattle.lwkt_base.specs.declared.faults.Fault.TheVariants.{NotHeld, NotLast, SwapShort, SwapSame}
use Rattle.lwkt_base.specs.declared.asks.Answer.TheVariants.{Done}
use Rattle.lwkt_base.specs.Holding.{is_held, holding_of}
use Rattle.lwkt_base.specs.Refs.{names, first_mode, IsLastTo, AreExchanged, EndsInOneToken}
use Rattle.lwkt_base.proofs.HoldingLemmas.{held_named}
use Rattle.lwkt_core.specs.declared.tokens.Token.{Token}
use Rattle.lwkt_plain.specs.declared.nexts.Next.TheVariants.{Runs}
use Rattle.lwkt_plain.specs.TokenAsks.{Asked, asked, refused, last_of, front_of, released, rel, exchanged, swapped, tok_at, are_same}
use Rattle.lwkt_plain.proofs.Holdings.{last_held}
use Rattle.lwkt_plain.proofs.AskMoves.{named, unnamed}

-- the last reference of a list
last_at : (front : List Ref) (r : Ref) → slice_get (front ++ r ∷ []) (length front) ≡ Some r
last_at [] r = refl
last_at (x ∷ xs) r = last_at xs r

places : (front : List Ref) (r : Ref) → length (front ++ r ∷ []) - 1 ≡ length front
places front r = (let long = length-append front (r ∷ []) in omega (arith, long))

pub last_is : (front : List Ref) (r : Ref) → last_of (front ++ r ∷ []) ≡ Some r
last_is front r = ap (slice_get (front ++ r ∷ [])) (places front r) ∙ last_at front r

pub front_is : (front : List Ref) (r : Ref) → front_of (front ++ r ∷ []) ≡ front
front_is front r = take_at front (r ∷ []) (length (front ++ r ∷ []) - 1) (sym (places front r))

pub last_split : (refs : List Ref) (r : Ref) → last_of refs ≡ Some r → refs ≡ front_of refs ++ r ∷ []
last_split refs r last =
    let inside : length refs - 1 < length refs = slice_get_within refs (length refs - 1) r last in
    let e : length refs - 1 + 1 ≡ length refs = omega (arith, inside) in
    let one : get_or refs (length refs - 1) r ≡ r = get_or_from_slice_get refs (length refs - 1) r r last in
    sym (take_all (length refs) refs (omega arith))
    ∙ ap (λ (n : ℕ). take n refs) (sym e)
    ∙ take_more refs (length refs - 1) r inside
    ∙ ap (λ (q : Ref). take (length refs - 1) refs ++ q ∷ []) one

last_named : (front : List Ref) (r : Ref) → names (front ++ r ∷ []) r.tok.0 ≡ true
last_named front r = sym (held_named (front ++ r ∷ []) r.tok.0) ∙ last_held front r

-- a release
abbrev on_last : CpuId → List Token → List Ref → TokId → Option Ref → Asked
on_last cpu tokens refs tok o = option_map_or (λ r. if r.tok.0 == tok.0 then released cpu tokens (front_of refs) r else refused tokens refs NotLast) o (refused tokens refs NotLast)

abbrev on_named : CpuId → List Token → List Ref → TokId → Bool → Asked
on_named cpu tokens refs tok b = if not b then refused tokens refs NotHeld else on_last cpu tokens refs tok (last_of refs)

rel_last : (cpu : CpuId) (tokens : List Token) (front : List Ref) (r : Ref) (tok : TokId) → r.tok.0 ≡ tok.0 → rel cpu tokens (front ++ r ∷ []) tok ≡ released cpu tokens front r
rel_last cpu tokens front r tok same =
    let refs = front ++ r ∷ [] in
    ap (on_named cpu tokens refs tok) (ap (names refs) (sym same) ∙ last_named front r)
    ∙ ap (on_last cpu tokens refs tok) (last_is front r)
    ∙ ap (λ (b : Bool). if b then released cpu tokens (front_of refs) r else refused tokens refs NotLast) (eq-eqb r.tok.0 tok.0 same)
    ∙ ap (λ (f : List Ref). released cpu tokens f r) (front_is front r)

pub rel_ok : (cpu : CpuId) (tokens : List Token) (refs front : List Ref) (r : Ref) (tok : TokId) → refs ≡ front ++ r ∷ [] → r.tok.0 ≡ tok.0 → rel cpu tokens refs tok ≡ released cpu tokens front r
rel_ok cpu tokens refs front r tok split same = ap (λ (all : List Ref). rel cpu tokens all tok) split ∙ rel_last cpu tokens front r tok same

not_last : (cpu : CpuId) (tokens : List Token) (refs : List Ref) (tok : TokId) (o : Option Ref) → last_of refs ≡ o → ¬ IsLastTo refs tok.0 → on_last cpu tokens refs tok o ≡ refused tokens refs NotLast
not_last cpu tokens refs tok None last isnt = refl
not_last cpu tokens refs tok (Some r) last isnt =
    ap (λ (b : Bool). if b then released cpu tokens (front_of refs) r else refused tokens refs NotLast)
    (ne_eqb r.tok.0 tok.0 (λ same. isnt (front_of refs, (r, (last_split refs r last, same)))))

same_fault : (fault other : Fault) → ◌≡◌ {A = Result Ref Fault} (Err fault) (Err other) → fault ≡ other
same_fault fault other is = cc

pub rel_refused : (cpu : CpuId) (tokens : List Token) (refs : List Ref) (tok : TokId) (fault : Fault) → ◌≡◌ {A = Result Ref Fault} (Err fault) (Err NotHeld) ↔ (first_mode refs tok.0 ≡ None) → ◌≡◌ {A = Result Ref Fault} (Err fault) (Err NotLast) ↔ ((first_mode refs tok.0 ≢ None) × ¬ IsLastTo refs tok.0) → (◌≡◌ {A = Result Ref Fault} (Err fault) (Err NotHeld)) ⊎ (◌≡◌ {A = Result Ref Fault} (Err fault) (Err NotLast)) → rel cpu tokens refs tok ≡ refused tokens refs fault
rel_refused cpu tokens refs tok fault not_held not_its only = elim only [
  | inl is ↦ ap (on_named cpu tokens refs tok) (unnamed refs tok.0 (not_held.0 is)) ∙ ap (refused tokens refs) (sym (same_fault fault NotHeld is))
  | inr is ↦
      ap (on_named cpu tokens refs tok) (named refs tok.0 (not_its.0 is).0)
      ∙ not_last cpu tokens refs tok (last_of refs) refl (not_its.0 is).1
      ∙ ap (refused tokens refs) (sym (same_fault fault NotLast is))
]

-- an exchange
two_places : (front : List Ref) (a b : Ref) → length (front ++ (a ∷ b ∷ [])) ≡ length front + 2
two_places front a b = length-append front (a ∷ b ∷ [])

pub exchanged_is : (front : List Ref) (a b : Ref) → exchanged (front ++ (a ∷ b ∷ [])) ≡ front ++ (b ∷ a ∷ [])
exchanged_is front a b =
    let long = two_places front a b in
    let n : ℕ = length (front ++ (a ∷ b ∷ [])) - 2 in
    let e : length front ≡ n = omega (arith, long) in
    ap (λ (xs : List Ref). xs ++ reverse (drop n (front ++ (a ∷ b ∷ [])))) (take_at front (a ∷ b ∷ []) n e)
    ∙ ap (λ (xs : List Ref). front ++ reverse xs) (drop_at front (a ∷ b ∷ []) n e)

-- the numbers of the two last references
tok_last : (front : List Ref) (a b : Ref) → tok_at (front ++ (a ∷ b ∷ [])) (length front + 1) ≡ Some b.tok.0
tok_last [] a b = refl
tok_last (x ∷ xs) a b = ap (λ (n : ℕ). tok_at (x ∷ (xs ++ (a ∷ b ∷ []))) n) (more (length xs)) ∙ tok_last xs a b
  where
    more : (n : ℕ) → suc n + 1 ≡ suc (n + 1)
    more n = omega arith

tok_before : (front : List Ref) (a b : Ref) → tok_at (front ++ (a ∷ b ∷ [])) (length front) ≡ Some a.tok.0
tok_before [] a b = refl
tok_before (x ∷ xs) a b = tok_before xs a b

abbrev on_places : List Token → List Ref → Option ℕ → Option ℕ → Asked
on_places tokens refs last before = if are_same last before then refused tokens refs SwapSame else asked tokens (exchanged refs) (Runs Done)

abbrev on_short : List Token → List Ref → Bool → Asked
on_short tokens refs b = if b then refused tokens refs SwapShort else on_places tokens refs (tok_at refs (length refs - 1)) (tok_at refs (length refs - 2))

pub not_short : (tokens : List Token) (front : List Ref) (a b : Ref) → swapped tokens (front ++ (a ∷ b ∷ [])) ≡ (if b.tok.0 == a.tok.0 then refused tokens (front ++ (a ∷ b ∷ [])) SwapSame else asked tokens (exchanged (front ++ (a ∷ b ∷ []))) (Runs Done))
not_short tokens front a b =
    let refs = front ++ (a ∷ b ∷ []) in
    let long = two_places front a b in
    let last : length refs - 1 ≡ length front + 1 = omega (arith, long) in
    let before : length refs - 2 ≡ length front = omega (arith, long) in
    let no : nat_lt (length refs) 2 ≡ false = le-ltb (length refs) 2 (omega (arith, long)) in
    ap (on_short tokens refs) no
    ∙ ap (λ (o : Option ℕ). on_places tokens refs o (tok_at refs (length refs - 2))) (ap (tok_at refs) last ∙ tok_last front a b)
    ∙ ap (on_places tokens refs (Some b.tok.0)) (ap (tok_at refs) before ∙ tok_before front a b)

pub swap_ok : (tokens : List Token) (old new : List Ref) → AreExchanged old new → ¬ EndsInOneToken old → swapped tokens old ≡ asked tokens new (Runs Done)
swap_ok tokens old new is apart =
    let front = is.0 in
    let a = is.1.0 in
    let b = is.1.1.0 in
    let was = is.1.1.1.0 in
    let now = is.1.1.1.1 in
    let differ : b.tok.0 ≢ a.tok.0 = (λ same. apart (front, (a, (b, (was, sym same))))) in
    ap (swapped tokens) was
    ∙ not_short tokens front a b
    ∙ ap (λ (c : Bool). if c then refused tokens (front ++ (a ∷ b ∷ [])) SwapSame else asked tokens (exchanged (front ++ (a ∷ b ∷ []))) (Runs Done)) (ne_eqb b.tok.0 a.tok.0 differ)
    ∙ ap (λ (refs : List Ref). asked tokens refs (Runs Done)) (exchanged_is front a b ∙ sym now)

swap_same : (tokens : List Token) (old : List Ref) → EndsInOneToken old → swapped tokens old ≡ refused tokens old SwapSame
swap_same tokens old is =
    let front = is.0 in
    let a = is.1.0 in
    let b = is.1.1.0 in
    let was = is.1.1.1.0 in
    let refs = front ++ (a ∷ b ∷ []) in
    ap (swapped tokens) was
    ∙ not_short tokens front a b
    ∙ ap (λ (c : Bool). if c then refused tokens refs SwapSame else asked tokens (exchanged refs) (Runs Done)) (eq-eqb b.tok.0 a.tok.0 (sym is.1.1.1.1))
    ∙ ap (λ (all : List Ref). refused tokens all SwapSame) (sym was)

unit_fault : (fault other : Fault) → ◌≡◌ {A = Result (Unit {0}) Fault} (Err fault) (Err other) → fault ≡ other
unit_fault fault other is = cc

pub swap_refused : (tokens : List Token) (old : List Ref) (fault : Fault) → ◌≡◌ {A = Result (Unit {0}) Fault} (Err fault) (Err SwapShort) ↔ (length old < 2) → ◌≡◌ {A = Result (Unit {0}) Fault} (Err fault) (Err SwapSame) ↔ EndsInOneToken old → (◌≡◌ {A = Result (Unit {0}) Fault} (Err fault) (Err SwapShort)) ⊎ (◌≡◌ {A = Result (Unit {0}) Fault} (Err fault) (Err SwapSame)) → swapped tokens old ≡ refused tokens old fault
swap_refused tokens old fault short same only = elim only [
  | inl is ↦ ap (on_short tokens old) (lt-ltb (length old) 2 (short.0 is)) ∙ ap (refused tokens old) (sym (unit_fault fault SwapShort is))
  | inr is ↦ swap_same tokens old (same.0 is) ∙ ap (refused tokens old) (sym (unit_fault fault SwapSame is))
]

pub ok_not_err : (u : Unit {0}) (fault : Fault) → ◌≡◌ {A = Result (Unit {0}) Fault} (Ok u) (Err fault) → ⊥
ok_not_err u fault is = cc
