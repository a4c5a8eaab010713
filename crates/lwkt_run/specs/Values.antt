-- The closing values of a machine and the lines that show them (own).
use Rattle.std.specs.Prelude.{◌≡◌, ℕ, Bool, true, false, List, [], length, map, is_some, unwrap_or, Some, slice_get}
use Rattle.lwkt_base.specs.declared.laws.Law.{Law}
use Rattle.lwkt_base.specs.declared.laws.Law.TheVariants.{Any, Sum, Order, Cap, Tally, Len}
use Rattle.lwkt_base.specs.declared.opening_specs.TokSpec.{TokSpec}
use Rattle.lwkt_core.specs.declared.finals.Final.{Final}
use Rattle.lwkt_report.specs.declared.closings.TokenLine.{TokenLine}

-- whether a law keeps tallies
abbrev pub is_tally : Law → Bool
is_tally Tally = true
is_tally Any = false
is_tally Sum = false
is_tally Order = false
is_tally Cap = false
is_tally Len = false

-- closing values of these tokens: one of each kind for each token, and tallies under a Tally law alone
pub record AreValuesOf (specs : List TokSpec) (last : Final) : Type 0 where
  pub rows : length last.rows.items ≡ length specs
  pub gens : length last.gens.items ≡ length specs
  pub tallies : length last.tallies.items ≡ length specs
  pub blobs : length last.blobs.items ≡ length specs
  pub none : (k : ℕ) (spec : TokSpec) → slice_get specs k ≡ Some spec → is_tally spec.law ≡ false → slice_get last.tallies.items k ≡ Some []

-- the lines of tokens show these closing values, records too, and tallies exactly under a Tally law
pub record ShowTokens (specs : List TokSpec) (lines : List TokenLine) (last : Final) : Type 0 where
  pub kinds : map (λ line. is_some line.tallies) lines ≡ map (λ spec. is_tally spec.law) specs
  pub rows : map (λ line. line.cells) lines ≡ last.rows.items
  pub gens : map (λ line. line.generation) lines ≡ last.gens.items
  pub tallies : map (λ line. unwrap_or line.tallies []) lines ≡ last.tallies.items
  pub blobs : map (λ line. line.blob) lines ≡ last.blobs.items
