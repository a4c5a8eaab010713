-- What `collect` has listed of a chain whose items are known.
use Rattle.std.proofs.Common.{◌≡◌, ℕ, Option, List, length, sym, subst, ◌∙◌}
use mathlib.Core.List.{map-id}
use Rattle.std.specs.Iterator.{DrainsIf}
use Rattle.std.specs.Iterator.Runs.{WholeRun}
use Rattle.std.proofs.iter.runs.Made.{took}
use Rattle.std.proofs.lemmas.Iterator.{YieldsList, items_from_drains}

pub items_from_whole : {S A : Type 0} {steps : S → Option A → S → Type 0} {s : S} {all : List A} (n : ℕ) (xs : List A) → WholeRun steps s (λ p. (xs ≡ p.items) × (n ≡ length p.items)) → YieldsList steps (λ x. x) s all → xs ≡ all
items_from_whole {S} {A} {steps} {s} {all} n xs run road =
    let p = run.0 in
    let t = took p in
    let F : S → Type 0 = λ k. DrainsIf steps (Unit {0}) k p.items in
    let drains : F s = subst F run.1 (t.0, t.1, λ _. t.2 run.2) in
    run.3.0 ∙ sym (map-id p.items) ∙ items_from_drains p.items drains road
