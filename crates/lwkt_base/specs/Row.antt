use Rattle.std.specs.Prelude.{◌≡◌, ℕ, ◌-◌, ◌≤◌, List, ◌++◌, length, take, drop, replicate}
use Rattle.std.proofs.Common.{ap, ◌∙◌, sym, subst}
use Rattle.std.proofs.lemmas.List.{take-append-drop, length-take-le}
use Rattle.lwkt_base.specs.declared.limits.TheConstants.{CELL_LIMIT}
use Rattle.lwkt_base.specs.declared.rows.Row.TheInside.{Inside}

-- a row with as many cells of value 0 behind it as it has fewer than four
abbrev pub filled : List ℕ → List ℕ
filled row = row ++ replicate (CELL_LIMIT - length row) 0

-- of four cells, so many are the row, and the others are 0 (own)
pub record IsFilledUp (cells : List ℕ) (len : ℕ) : Type 0 where
  pub few : len ≤ CELL_LIMIT
  pub four : length cells ≡ CELL_LIMIT
  pub others : drop len cells ≡ replicate (CELL_LIMIT - len) 0

-- the cells by their parts
abbrev pub inside : List ℕ → ℕ → Inside
inside cells len = record { cells = cells; len = len }

-- the row gives its cells back
pub given_back : (cells : List ℕ) (len : ℕ) → IsFilledUp cells len → inside (filled (take len cells)) (length (take len cells)) ≡ inside cells len
given_back cells len is =
    let within : len ≤ length cells = subst (λ (n : ℕ). len ≤ n) (sym is.four) is.few in
    let long : length (take len cells) ≡ len = length-take-le len cells within in
    let all : filled (take len cells) ≡ cells =
    ap (λ (n : ℕ). take len cells ++ replicate (CELL_LIMIT - n) 0) long
    ∙ ap (λ (xs : List ℕ). take len cells ++ xs) (sym is.others)
    ∙ take-append-drop len cells in
    ap (λ (xs : List ℕ). inside xs (length (take len cells))) all ∙ ap (λ (n : ℕ). inside cells n) long
