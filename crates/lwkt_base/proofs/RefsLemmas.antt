use Rattle.std.proofs.Common.{◌+◌, ◌<◌, ◌≤◌, ◌-◌, length, take, get_or, set, inl, inr, ◌≡◌, ◌≢◌, ℕ, true, eqb, List, [], ◌∷◌, ◌++◌, Option, Some, None, refl, ap, sym, ◌∙◌, subst, arith, All, append_assoc}
use Rattle.std.specs.Prelude.{find, option_map}
use Rattle.std.specs.List.{AllByRecursion}
use Rattle.std.specs.Option.{option_or}
use Rattle.std.proofs.lemmas.List.Elements.{All-pop, All-drop, All-take, All-same, All-append, All-push, All-from_recursion, recursion_from_All}
use Rattle.std.proofs.lemmas.List.{drop_at, take_at, take_more_set, same_from_push}
use Rattle.std.proofs.lemmas.List.Folds.{find-append}
use Rattle.std.proofs.lemmas.List.Sums.{fold-append}
use Rattle.std.proofs.lemmas.Bool.{eqb-true, eqb-false, cases_Bool, eq-eqb}
use Rattle.std.proofs.lemmas.Grind.{common_steps}
use Rattle.std.proofs.Math.Path.{fun_ext}
use Rattle.lwkt_base.specs.declared.names.Mode.{Mode}
use Rattle.lwkt_base.specs.declared.names.Mode.TheVariants.{Exclusive, Shared}
use Rattle.lwkt_base.specs.declared.names.Ref.{Ref}
use Rattle.lwkt_base.specs.Refs.{is_to, first_mode, IsLawfulList, IsLastTo, EndsInOneToken, AreExchanged}
use Rattle.lwkt_base.specs.Holding.{Holding, added, holding_of, holds_nothing}

-- a reference to the token is shared
abbrev pub SharedTo : ℕ → Ref → Type 0
SharedTo tok r = r.tok.0 ≡ tok → r.mode ≡ Shared

-- where no reference is to the token, each is what you like
shared_if_none : (tok : ℕ) (refs : List Ref) → find (is_to tok) refs ≡ None → AllByRecursion (SharedTo tok) refs
shared_if_none tok [] none = tt
shared_if_none tok (r ∷ refs) none =
    elim (cases_Bool (is_to tok r)) [
      | inl same ↦ absurd (let e : Some r ≡ None = rw same at none in cc)
      | inr other ↦ (λ to. absurd (eqb-false r.tok.0 tok other to), shared_if_none tok refs (rw other at none))
    ]

-- the first mode after one more reference
first_mode-push : (refs : List Ref) (r : Ref) (tok : ℕ) → first_mode (refs ++ r ∷ []) tok ≡ option_map (λ q. q.mode) (option_or (find (is_to tok) refs) (find (is_to tok) (r ∷ [])))
first_mode-push refs r tok = ap (option_map (λ q. q.mode)) (find-append (is_to tok) refs (r ∷ []))

-- a lawful list stays lawful under a push that upgrades nothing
pub IsLawfulList-push : (refs : List Ref) (r : Ref) → IsLawfulList refs → (r.mode ≡ Exclusive → first_mode refs r.tok.0 ≡ Some Shared → ⊥) → IsLawfulList (refs ++ r ∷ [])
IsLawfulList-push refs r lawful fits = λ tok shared. go tok (find (is_to tok) refs) refl (rw first_mode-push at shared)
  where
    last_shared : (tok : ℕ) → first_mode refs tok ≡ Some Shared → r.tok.0 ≡ tok → (m : Mode) → r.mode ≡ m → r.mode ≡ Shared
    last_shared tok shared to Shared is = is
    last_shared tok shared to Exclusive is = absurd (fits is (subst (λ t. first_mode refs t ≡ Some Shared) (sym to) shared))

    go : (tok : ℕ) (found : Option Ref) → find (is_to tok) refs ≡ found → option_map (λ q. q.mode) (option_or found (find (is_to tok) (r ∷ []))) ≡ Some Shared → All (SharedTo tok) (refs ++ r ∷ [])
    go tok (Some q) is shared =
        let before : first_mode refs tok ≡ Some Shared = ap (option_map (λ (x : Ref). x.mode)) is ∙ shared in
        All-push (SharedTo tok) refs r (lawful tok before) (λ to. last_shared tok before to r.mode refl)
    go tok None is shared =
        All-push (SharedTo tok) refs r (All-from_recursion (SharedTo tok) refs (shared_if_none tok refs is))
        (λ to. let hit : is_to tok r ≡ true = eq-eqb r.tok.0 tok to in let e : Some r.mode ≡ Some Shared = rw hit at shared in cc)

-- a front of a lawful list is lawful
pub IsLawfulList-front : (refs : List Ref) (r : Ref) → IsLawfulList (refs ++ r ∷ []) → IsLawfulList refs
IsLawfulList-front refs r lawful = λ tok shared. go tok (find (is_to tok) refs) refl shared
  where
    go : (tok : ℕ) (found : Option Ref) → find (is_to tok) refs ≡ found → option_map (λ q. q.mode) found ≡ Some Shared → All (SharedTo tok) refs
    go tok (Some q) is shared =
        let e : first_mode (refs ++ r ∷ []) tok ≡ Some Shared = first_mode-push refs r tok ∙ (rw is shared) in
        (All-pop (SharedTo tok) (refs ++ r ∷ []) refs (Some r) refl (lawful tok e)).0
    go tok None is shared = cc

-- the first reference to a token, where the two last are to different tokens and change places
find-exchanged : (tok : ℕ) (before last : Ref) → before.tok.0 ≢ last.tok.0 → find (is_to tok) (before ∷ last ∷ []) ≡ find (is_to tok) (last ∷ before ∷ [])
find-exchanged tok before last apart =
    elim (cases_Bool (is_to tok before)) [
      | inl one ↦ elim (cases_Bool (is_to tok last)) [
        | inl two ↦ absurd (apart (eqb-true before.tok.0 tok one ∙ sym (eqb-true last.tok.0 tok two)))
        | inr two ↦ rw (one, two) refl
      ]
      | inr one ↦ elim (cases_Bool (is_to tok last)) [
        | inl two ↦ rw (one, two) refl
        | inr two ↦ rw (one, two) refl
      ]
    ]

-- an exchange of the two last keeps a list lawful
pub IsLawfulList-exchanged : (front : List Ref) (before last : Ref) → before.tok.0 ≢ last.tok.0 → IsLawfulList (front ++ (before ∷ last ∷ [])) → IsLawfulList (front ++ (last ∷ before ∷ []))
IsLawfulList-exchanged front before last apart lawful = λ tok shared.
    let P = SharedTo tok in
    let same : first_mode (front ++ (before ∷ last ∷ [])) tok ≡ Some Shared =
    ap (option_map (λ (q : Ref). q.mode)) (find-append (is_to tok) front (before ∷ last ∷ []) ∙ ap (option_or (find (is_to tok) front)) (find-exchanged tok before last apart) ∙ sym (find-append (is_to tok) front (last ∷ before ∷ []))) ∙ shared in
    let all = lawful tok same in
    let ends = All-drop P (length front) (front ++ (before ∷ last ∷ [])) all in
    let pair : AllByRecursion P (before ∷ last ∷ []) = recursion_from_All P (before ∷ last ∷ []) (rw drop_at at ends) in
    let fronts : All P front = All-same P front (take (length front) (front ++ (before ∷ last ∷ []))) (sym (take_at front (before ∷ last ∷ []) (length front) refl)) (All-take P (length front) (front ++ (before ∷ last ∷ [])) all) in
    All-append P front (last ∷ before ∷ []) fronts (All-from_recursion P (last ∷ before ∷ []) (pair.1.0, (pair.0, tt)))

-- two references to different tokens can be added in either order
added-exchanged : (holding : Holding) (before last : Ref) → before.tok.0 ≢ last.tok.0 → added (added holding before.tok.0 before.mode) last.tok.0 last.mode ≡ added (added holding last.tok.0 last.mode) before.tok.0 before.mode
added-exchanged holding before last apart = fun_ext (λ tok.
    elim (cases_Bool (eqb tok before.tok.0)) [
      | inl one ↦ elim (cases_Bool (eqb tok last.tok.0)) [
        | inl two ↦ absurd (apart (sym (eqb-true tok before.tok.0 one) ∙ eqb-true tok last.tok.0 two))
        | inr two ↦ rw (one, two) refl
      ]
      | inr one ↦ elim (cases_Bool (eqb tok last.tok.0)) [
        | inl two ↦ rw (one, two) refl
        | inr two ↦ rw (one, two) refl
      ]
    ])

-- an exchange of the two last keeps what a list holds
pub holding_of-exchanged : (front : List Ref) (before last : Ref) → before.tok.0 ≢ last.tok.0 → holding_of (front ++ (last ∷ before ∷ [])) ≡ holding_of (front ++ (before ∷ last ∷ []))
holding_of-exchanged front before last apart =
    fold-append (λ h r. added h r.tok.0 r.mode) holds_nothing front (last ∷ before ∷ [])
    ∙ sym (added-exchanged (holding_of front) before last apart)
    ∙ sym (fold-append (λ h r. added h r.tok.0 r.mode) holds_nothing front (before ∷ last ∷ []))

-- a list of two or more, by its two last
pub take_two : (refs : List Ref) (n : ℕ) (d : Ref) → 2 ≤ n → n ≤ length refs → take n refs ≡ take (n - 2) refs ++ (get_or refs (n - 2) d ∷ get_or refs (n - 1) d ∷ [])
take_two refs n d two within = grind (arith, common_steps)

-- a list whose two last were written
pub take_two-set : (refs : List Ref) (n : ℕ) (a b : Ref) → 2 ≤ n → n ≤ length refs → take n (set (set refs (n - 2) a) (n - 1) b) ≡ take (n - 2) refs ++ (a ∷ b ∷ [])
take_two-set refs n a b two within = grind (arith, common_steps)

-- what a push into the array leaves is lawful
pub IsLawful_pushed : (items : List Ref) (n : ℕ) (r : Ref) → n < length items → IsLawfulList (take n items) → (r.mode ≡ Exclusive → first_mode (take n items) r.tok.0 ≡ Some Shared → ⊥) → IsLawfulList (take (n + 1) (set items n r))
IsLawful_pushed items n r room lawful fits =
    let F : List Ref → Type 0 = λ refs. IsLawfulList refs in
    subst F (sym (take_more_set items n r room)) (IsLawfulList-push (take n items) r lawful fits)

-- what a pop leaves is lawful
pub IsLawful_popped : (items : List Ref) (n : ℕ) (d : Ref) → 0 < n → n ≤ length items → IsLawfulList (take n items) → IsLawfulList (take (n - 1) items)
IsLawful_popped items n d some within lawful =
    let F : List Ref → Type 0 = λ refs. IsLawfulList refs in
    let e : take n items ≡ take (n - 1) items ++ get_or items (n - 1) d ∷ [] = grind (arith, common_steps) in
    IsLawfulList-front (take (n - 1) items) (get_or items (n - 1) d) (subst F e lawful)

-- what an exchange leaves is lawful
pub IsLawful_swapped : (items : List Ref) (n : ℕ) (d : Ref) → 2 ≤ n → n ≤ length items → (get_or items (n - 1) d).tok.0 ≢ (get_or items (n - 2) d).tok.0 → IsLawfulList (take n items) → IsLawfulList (take n (set (set items (n - 2) (get_or items (n - 1) d)) (n - 1) (get_or items (n - 2) d)))
IsLawful_swapped items n d two within apart lawful =
    let F : List Ref → Type 0 = λ refs. IsLawfulList refs in
    let before = get_or items (n - 2) d in
    let last = get_or items (n - 1) d in
    subst F (sym (take_two-set items n last before two within))
    (IsLawfulList-exchanged (take (n - 2) items) before last (λ e. apart (sym e)) (subst F (take_two items n d two within) lawful))

-- the last reference of what the array has
last_of : (items : List Ref) (n : ℕ) (d : Ref) → 0 < n → n ≤ length items → take n items ≡ take (n - 1) items ++ (get_or items (n - 1) d ∷ [])
last_of items n d some within = grind (arith, common_steps)

-- the last reference is to this token
pub IsLastTo_read : (items : List Ref) (n : ℕ) (d : Ref) (tok : ℕ) → 0 < n → n ≤ length items → (get_or items (n - 1) d).tok.0 ≡ tok → IsLastTo (take n items) tok
IsLastTo_read items n d tok some within to = (take (n - 1) items, (get_or items (n - 1) d, (last_of items n d some within, to)))

-- the two last references are to one token
pub EndsInOneToken_read : (items : List Ref) (n : ℕ) (d : Ref) → 2 ≤ n → n ≤ length items → (get_or items (n - 1) d).tok.0 ≡ (get_or items (n - 2) d).tok.0 → EndsInOneToken (take n items)
EndsInOneToken_read items n d two within same = (take (n - 2) items, (get_or items (n - 2) d, (get_or items (n - 1) d, (take_two items n d two within, sym same))))

-- the two last references are to different tokens
pub not_EndsInOneToken_read : (items : List Ref) (n : ℕ) (d : Ref) → 2 ≤ n → n ≤ length items → (get_or items (n - 1) d).tok.0 ≢ (get_or items (n - 2) d).tok.0 → EndsInOneToken (take n items) → ⊥
not_EndsInOneToken_read items n d two within apart (front, (before, (last, (is, same)))) =
    let a = get_or items (n - 2) d in
    let b = get_or items (n - 1) d in
    let joined : (take (n - 2) items ++ a ∷ []) ++ b ∷ [] ≡ (front ++ before ∷ []) ++ last ∷ [] =
    append_assoc (take (n - 2) items) (a ∷ []) (b ∷ []) ∙ sym (take_two items n d two within) ∙ is ∙ sym (append_assoc front (before ∷ []) (last ∷ [])) in
    let e = same_from_push (take (n - 2) items ++ a ∷ []) (front ++ before ∷ []) b last joined in
    let f = same_from_push (take (n - 2) items) front a before e.0 in
    apart (ap (λ (r : Ref). r.tok.0) e.1 ∙ sym same ∙ sym (ap (λ (r : Ref). r.tok.0) f.1))

-- an exchange in the array
pub AreExchanged_read : (items : List Ref) (n : ℕ) (d : Ref) → 2 ≤ n → n ≤ length items → AreExchanged (take n items) (take n (set (set items (n - 2) (get_or items (n - 1) d)) (n - 1) (get_or items (n - 2) d)))
AreExchanged_read items n d two within = (
  take (n - 2) items,
  (
    get_or items (n - 2) d,
    (
      get_or items (n - 1) d,
      (take_two items n d two within, take_two-set items n (get_or items (n - 1) d) (get_or items (n - 2) d) two within),
    ),
  ),
)

-- an exchange in the array keeps what the list holds
pub holding_of_swapped : (items : List Ref) (n : ℕ) (d : Ref) → 2 ≤ n → n ≤ length items → (get_or items (n - 1) d).tok.0 ≢ (get_or items (n - 2) d).tok.0 → holding_of (take n (set (set items (n - 2) (get_or items (n - 1) d)) (n - 1) (get_or items (n - 2) d))) ≡ holding_of (take n items)
holding_of_swapped items n d two within apart =
    let before = get_or items (n - 2) d in
    let last = get_or items (n - 1) d in
    ap holding_of (take_two-set items n last before two within) ∙ holding_of-exchanged (take (n - 2) items) before last (λ e. apart (sym e)) ∙ ap holding_of (sym (take_two items n d two within))

-- what the array is read with past its end
abbrev pub unused : Ref
unused = record { tok = record { 0 = 0 }; mode = Exclusive }
