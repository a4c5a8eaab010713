-- Tokens are read as they are written.
use Rattle.std.proofs.Common.{◌≡◌, ℕ, ◌+◌, ◌≤◌, ◌<◌, List, [], length, true, Option, Some, None, Ok, refl, ap, ◌∙◌, arith, le-leb, lt-ltb}
use Rattle.std.specs.Prelude.{◌==◌, option_map}
use Rattle.lwkt_base.specs.declared.laws.Law.{Law}
use Rattle.lwkt_base.specs.declared.laws.Law.TheVariants.{Any, Sum, Order, Cap, Tally, Len}
use Rattle.lwkt_base.specs.declared.opening_specs.TokSpec.{TokSpec}
use Rattle.lwkt_script.specs.declared.versions.Version.TheVariants.{First, Second}
use Rattle.lwkt_script.specs.Format.{token_read}
use Rattle.lwkt_script.specs.Limits.{IsToken}
use Rattle.lwkt_script.specs.Member.{law_of, allows}
use Rattle.lwkt_script.specs.Record.{guard_in, may_guard}
use Rattle.lwkt_script.specs.Version.{has_law}
use Rattle.lwkt_trace.specs.Guard.{version_in, guarded}
use Rattle.lwkt_trace.specs.Readback.{number_data, blob_data, AreBytes}
use Rattle.lwkt_trace.specs.Values.{token_data, IsTyped, TokensAreReadBack}
use Rattle.lwkt_trace.specs.Written.{law_text}
use Rattle.lwkt_trace.proofs.BlobTexts.{guard_digits}
use Rattle.lwkt_trace.proofs.ListReads.{list_read, cells_read, items_counted, map_same}

-- a law is the one of its name
law_named : (law : Law) → law_of (law_text law) ≡ Some law
law_named Any = refl
law_named Sum = refl
law_named Order = refl
law_named Cap = refl
law_named Tally = refl
law_named Len = refl

-- as many cells as a law allows
few_allowed : (law : Law) (count : ℕ) → count ≤ 4 → (law ≡ Tally → count ≡ 1) → (law ≡ Len → 0 < count) → allows law count ≡ true
few_allowed Any count few one some = le-leb count 4 few
few_allowed Sum count few one some = le-leb count 4 few
few_allowed Order count few one some = le-leb count 4 few
few_allowed Cap count few one some = le-leb count 4 few
few_allowed Tally count few one some = ap (λ (n : ℕ). n == 1) (one refl)
few_allowed Len count few one some = rw (lt-ltb 0 count (some refl), le-leb count 4 few) refl

-- a law that guards no record is in the first version
first_has : (law : Law) → (law ≡ Len → ⊥) → has_law First law ≡ true
first_has Any other = refl
first_has Sum other = refl
first_has Order other = refl
first_has Cap other = refl
first_has Tally other = refl
first_has Len other = absurd (other refl)

second_has : (law : Law) → has_law Second law ≡ true
second_has Any = refl
second_has Sum = refl
second_has Order = refl
second_has Cap = refl
second_has Tally = refl
second_has Len = refl

none_guarded : (law : Law) → (law ≡ Len → ⊥) → may_guard law None ≡ true
none_guarded Any other = refl
none_guarded Sum other = refl
none_guarded Order other = refl
none_guarded Cap other = refl
none_guarded Tally other = refl
none_guarded Len other = absurd (other refl)

some_guarded : (law : Law) (blob : List ℕ) → (law ≡ Tally → ⊥) → may_guard law (Some blob) ≡ true
some_guarded Any blob other = refl
some_guarded Sum blob other = refl
some_guarded Order blob other = refl
some_guarded Cap blob other = refl
some_guarded Tally blob other = absurd (other refl)
some_guarded Len blob other = refl

-- a record that a token may guard is read from its digits
pub guard_read : (blob : List ℕ) → length blob ≤ 64 → AreBytes blob → guard_in (blob_data blob) ≡ Some (Some blob)
guard_read blob short bytes = ap (λ (o : Option (List ℕ)). option_map (λ b. Some b) o) (guard_digits 64 blob short short bytes)

abbrev spec : List ℕ → Law → ℕ → ℕ → Option (List ℕ) → TokSpec
spec cells law param generation blob = record { cells = cells; law = law; param = param; generation = generation; blob = blob }

token_is : (place : ℕ) (cells : List ℕ) (law : Law) (param generation : ℕ) (blob : Option (List ℕ)) → IsToken (spec cells law param generation blob) → IsTyped (spec cells law param generation blob)
    → token_read (version_in (token_data (spec cells law param generation blob))) place (token_data (spec cells law param generation blob)) ≡ Ok (spec cells law param generation blob)
unfolding token_read
token_is place cells law param generation None is typed =
    let other : law ≡ Len → ⊥ = λ e. is.guarded e refl in
    rw (
      law_named law,
      items_counted number_data cells,
      few_allowed law (length cells) is.few_cells is.one_cell is.some_cell,
      first_has law other,
      le-leb 0 param (omega arith),
      le-leb param 18446744073709551615 typed.param,
      le-leb 0 generation (omega arith),
      le-leb generation 70368744177663 is.generation,
      none_guarded law other,
      cells_read place cells,
    ) refl
token_is place cells law param generation (Some blob) is typed =
    let other : law ≡ Tally → ⊥ = λ e. (let none = is.unguarded e in cc) in
    rw (
      law_named law,
      items_counted number_data cells,
      few_allowed law (length cells) is.few_cells is.one_cell is.some_cell,
      second_has law,
      le-leb 0 param (omega arith),
      le-leb param 18446744073709551615 typed.param,
      le-leb 0 generation (omega arith),
      le-leb generation 70368744177663 is.generation,
      guard_read blob is.short typed.bytes,
      some_guarded law blob other,
      cells_read place cells,
    ) refl

abbrev IsBoth : TokSpec → Type 0
IsBoth t = IsToken t × IsTyped t

next_token : (before : List TokSpec) (t : TokSpec) → IsBoth t → length before < 64 → guarded before (token_data t) ≡ Ok t
next_token before t is room = rw (lt-ltb (length before) 64 room, token_is (1000 + length before) t.cells t.law t.param t.generation t.blob is.0 is.1) refl

pub tokens_read_back : TokensAreReadBack
tokens_read_back ts are typed room =
    list_read guarded token_data (λ t. t) IsBoth 64 next_token [] ts (λ k d l. (are k d l, typed k d l)) (omega (arith, room)) ∙ ap (λ (l : List TokSpec). Ok l) (map_same ts)
