use Rattle.std.proofs.Common.{◌≡◌, ◌+◌, ℕ, zero, suc, List, [], ◌∷◌, ◌++◌, None, Some, slice_get, append_assoc, subst, refl, arith}
use Rattle.lwkt_report.specs.Report.{numbered_lines}
use Rattle.lwkt_explore.specs.Laws.{StandIn, OutcomesAreNumbered}
use Rattle.lwkt_explore.specs.Texts.{Group, by_kind, end_lines, outcome_lines, sum_line, text_in}

-- the lines of an item stand in those of all
numbered_at : (line : ℕ → Group → List ℕ) (n : ℕ) (all : List Group) (place : ℕ) (one : Group) → slice_get all place ≡ Some one → StandIn (numbered_lines line n all) (line (n + place) one)
numbered_at line n [] place one is = absurd cc
numbered_at line n (first ∷ all) zero one is =
    let same : first ≡ one = cc in
    let there : n + 0 ≡ n = omega arith in
    record { front = []; back = numbered_lines line (n + 1) all; there = rw (there, same) refl }
numbered_at line n (first ∷ all) (suc place) one is =
    let rest = numbered_at line (n + 1) all place one is in
    let there : n + suc place ≡ n + 1 + place = omega arith in
    record {
      front = line n first ++ rest.front;
      back = rest.back;
      there = rw (there, rest.there) (simp append_assoc);
    }

-- what stands in a text stands in what begins with it
behind : (text lines rest : List ℕ) → StandIn text lines → StandIn (text ++ rest) lines
behind text lines rest is = record { front = is.front; back = is.back ++ rest; there = rw is.there (simp append_assoc) }

pub numbered : OutcomesAreNumbered
unfolding text_in
numbered found place one is =
    let line = outcome_lines None found.tried in
    let all = numbered_lines line 1 (by_kind found.outcomes) in
    let lost = end_lines found in
    let N : ℕ → Type 0 = λ n. StandIn all (line n one) in
    let next : 1 + place ≡ place + 1 = omega arith in
    let there = subst N next (numbered_at line 1 (by_kind found.outcomes) place one is) in
    behind (all ++ lost) (line (place + 1) one) (sum_line found) (behind all (line (place + 1) one) lost there)
