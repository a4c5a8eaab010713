use Rattle.std.proofs.Common.{◌≡◌, ℕ, ◌+◌, ◌<◌, ◌≤◌, inl, inr, List, [], ◌∷◌, length, length-append, ap, arith, ◌∙◌}
use Rattle.lwkt_search.specs.Graphs.{IsTurned}

-- what is kept stays, where a turn is made
pub turned_longer : {S : Type 0} (turn : S → ℕ → S) (old new : List S) (at cpu next : ℕ) → IsTurned turn old new at cpu next → length old ≤ length new
turned_longer {S} turn old new at cpu next (inl seen) = let same : length new ≡ length old = ap (λ (xs : List S). length xs) seen.same in omega arith
turned_longer {S} turn old new at cpu next (inr fresh) =
    let more : length new ≡ length old + 1 = ap (λ (xs : List S). length xs) fresh.grown ∙ length-append old (fresh.state ∷ []) in
    omega arith

-- and the state that it leads to is kept
pub turned_there : {S : Type 0} (turn : S → ℕ → S) (old new : List S) (at cpu next : ℕ) → IsTurned turn old new at cpu next → next < length new
turned_there {S} turn old new at cpu next (inl seen) = let same : length new ≡ length old = ap (λ (xs : List S). length xs) seen.same in omega (arith, seen.there)
turned_there {S} turn old new at cpu next (inr fresh) =
    let more : length new ≡ length old + 1 = ap (λ (xs : List S). length xs) fresh.grown ∙ length-append old (fresh.state ∷ []) in
    omega (arith, fresh.last)
