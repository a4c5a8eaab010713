use Rattle.std.specs.Prelude.{ℕ, Option, Some, None, option_map, option_and_then, slice_get, nat_lt, if◌then◌else◌, List}
use Rattle.lwkt_base.specs.declared.laws.Law.{Law}
use Rattle.lwkt_base.specs.declared.laws.Law.TheVariants.{Any, Sum, Order, Cap, Tally, Len}
use Rattle.lwkt_core.specs.Machine.{Machine}

-- the value of a cell, if there is such a token with such a cell
abbrev pub cell_at : Machine → ℕ → ℕ → Option ℕ
cell_at m tok cell = option_and_then (λ t. slice_get t.row cell) (slice_get m.tokens tok)

-- the value of a cell in the first row
abbrev pub first_at : Machine → ℕ → ℕ → Option ℕ
first_at m tok cell = option_and_then (λ t. slice_get t.first cell) (slice_get m.tokens tok)

-- the generation of a token, if there is such a token
abbrev pub generation_at : Machine → ℕ → Option ℕ
generation_at m tok = option_map (λ t. t.generation) (slice_get m.tokens tok)

-- the tallies that a law keeps: those of a Tally token
abbrev pub kept_tallies : Law → List ℕ → Option (List ℕ)
kept_tallies Tally tallies = Some tallies
kept_tallies Any tallies = None
kept_tallies Sum tallies = None
kept_tallies Order tallies = None
kept_tallies Cap tallies = None
kept_tallies Len tallies = None

-- what a processor has added to the cell of a Tally token, if there is such a processor and such a token
abbrev pub tally_at : Machine → ℕ → ℕ → Option ℕ
tally_at m cpu tok = if nat_lt cpu m.cpus then option_and_then (λ t. option_and_then (λ tallies. slice_get tallies cpu) (kept_tallies t.law t.tallies)) (slice_get m.tokens tok) else None
