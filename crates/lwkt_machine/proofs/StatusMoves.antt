-- The standings of threads, one after another.
use Rattle.std.proofs.Common.{◌≡◌, ℕ, zero, suc, ◌+◌, ◌<◌, ◌≤◌, Bool, true, false, List, [], ◌∷◌, ◌++◌, length, take, get_or, refl, ap, sym, ◌∙◌, subst, inl, inr, arith, Option, Some, None, Result, Ok, Err, length-take}
use Rattle.std.specs.Prelude.{◌⊎◌, OnOk, OnErr}
use Rattle.std.proofs.lemmas.List.{take_more}
use Rattle.std.proofs.lemmas.List.Elements.{All-get_or}
use Rattle.lwkt_base.specs.declared.faults.Fault.{Fault}
use Rattle.lwkt_base.specs.declared.faults.Fault.TheVariants.{ListFull, Upgrade}
use Rattle.lwkt_base.specs.declared.names.Mode.{Mode}
use Rattle.lwkt_base.specs.declared.names.Mode.TheVariants.{Exclusive, Shared}
use Rattle.lwkt_base.specs.declared.names.Ref.{Ref}
use Rattle.lwkt_base.specs.Refs.{is_to, first_mode, IsLawfulList}

first_more : (b : Bool) (tok : ℕ) (r : Ref) (xs ys : List Ref) (m : Mode) → is_to tok r ≡ b → (first_mode xs tok ≡ Some m → first_mode ys tok ≡ Some m) → first_mode (r ∷ xs) tok ≡ Some m → first_mode (r ∷ ys) tok ≡ Some m
first_more true tok r xs ys m is more first = rw is (rw is at first)
first_more false tok r xs ys m is more first = rw is (more (rw is at first))

-- the first reference of a front to a token is the list's first one to it
first_front : (refs : List Ref) (i tok : ℕ) (m : Mode) → first_mode (take i refs) tok ≡ Some m → first_mode refs tok ≡ Some m
first_front [] zero tok m is = is
first_front [] (suc i) tok m is = is
first_front (r ∷ refs) zero tok m is = absurd (let e : ◌≡◌ {A = Option Mode} None (Some m) = is in cc)
first_front (r ∷ refs) (suc i) tok m is = first_more (is_to tok r) tok r (take i refs) refs m refl (first_front refs i tok m) is

no_upgrade : (refs : List Ref) (i : ℕ) (d : Ref) → i < length refs → IsLawfulList refs → (get_or refs i d).mode ≡ Exclusive → first_mode (take i refs) (get_or refs i d).tok.0 ≡ Some Shared → ⊥
no_upgrade refs i d within lawful exclusive first =
    let tok = (get_or refs i d).tok.0 in
    let P : Ref → Type 0 = λ r. r.tok.0 ≡ tok → r.mode ≡ Shared in
    let shared : (get_or refs i d).mode ≡ Shared = All-get_or P refs i d within (lawful tok (first_front refs i tok Shared first)) refl in
    let e : Exclusive ≡ Shared = sym exclusive ∙ shared in
    cc

-- a lawful list of few references is pushed one by one
pub pushed_more : (refs : List Ref) (i : ℕ) (d : Ref) (old new : List Ref) (r : Result (Unit {0}) Fault) → i < length refs → length refs ≤ 32 → IsLawfulList refs → old ≡ take i refs → OnOk r (new ≡ old ++ get_or refs i d ∷ []) → ((r ≡ Err ListFull) → (length old ≡ 32)) → ((r ≡ Err Upgrade) → ((length old < 32) × ((get_or refs i d).mode ≡ Exclusive) × (first_mode old (get_or refs i d).tok.0 ≡ Some Shared))) → OnErr r ((r ≡ Err ListFull) ⊎ (r ≡ Err Upgrade)) → new ≡ take (i + 1) refs
pushed_more refs i d old new (Ok done) within few lawful are ok full upgrade only = ok ∙ ap (λ xs. xs ++ get_or refs i d ∷ []) are ∙ sym (take_more refs i d within)
pushed_more refs i d old new (Err fault) within few lawful are ok full upgrade only = absurd (elim only [
  | inl is ↦
      let long = full is in
      let same = ap length are in
      let short = length-take i refs in
      omega (arith, long, same, short, within, few)
  | inr is ↦
      let facts = upgrade is in
      let F : List Ref → Type 0 = λ xs. first_mode xs (get_or refs i d).tok.0 ≡ Some Shared in
      no_upgrade refs i d within lawful facts.1 (subst F are facts.2)
])
