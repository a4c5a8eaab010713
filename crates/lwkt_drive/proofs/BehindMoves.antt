-- Whole events behind packed ones.
use Rattle.std.proofs.Common.{◌≡◌, ◌∙◌, ℕ, ◌+◌, ◌-◌, List, ◌++◌, length, take, drop, min, sym, ap, subst, inl, inr, arith}
use Rattle.std.proofs.lemmas.Bool.{cases_lt}
use Rattle.std.proofs.lemmas.List.{append_assoc, append-nil, length-drop, drop-append-le, drop_all, take-append-le, take_all}
use Rattle.std.proofs.lemmas.Grind.{flat_map-append}
use Rattle.std.proofs.Math.Seq.{drop-append-add, take-append-add}
use Rattle.lwkt_base.specs.declared.sections.Section.{Section}
use Rattle.lwkt_core.specs.declared.events.Event.{Event}
use Rattle.lwkt_core.specs.RunSections.{section_in, sections_named}
use Rattle.lwkt_drive.specs.declared.stretches.Stretch.{Stretch}
use Rattle.lwkt_drive.specs.Stretches.{StandFor}

-- so many elements of two lists, one behind the other
take_across : {A : Type 0} (p w : List A) (count : ℕ) → take (min count (length p)) p ++ take (count - min count (length p)) w ≡ take count (p ++ w)
take_across p w count = elim (cases_lt (length p) count) [
  | inl less ↦
      let here : min count (length p) ≡ length p = omega arith in
      let sum : count ≡ length p + (count - length p) = omega arith in
      ap (λ n. take n p ++ take (count - n) w) here
      ∙ ap (λ xs. xs ++ take (count - length p) w) (take_all (length p) p (omega arith))
      ∙ sym (ap (λ n. take n (p ++ w)) sum ∙ take-append-add p w (count - length p))
  | inr most ↦
      let here : min count (length p) ≡ count = omega arith in
      let none : count - count ≡ 0 = omega arith in
      ap (λ n. take n p ++ take (count - n) w) here
      ∙ ap (λ n. take count p ++ take n w) none
      ∙ append-nil (take count p)
      ∙ sym (take-append-le count p w most)
]

-- what is left of them behind the first ones
drop_across : {A : Type 0} (p w : List A) (first : ℕ) → drop (min first (length p)) p ++ drop (first - min first (length p)) w ≡ drop first (p ++ w)
drop_across p w first = elim (cases_lt (length p) first) [
  | inl less ↦
      let start : min first (length p) ≡ length p = omega arith in
      let sum : first ≡ length p + (first - length p) = omega arith in
      ap (λ n. drop n p ++ drop (first - n) w) start
      ∙ ap (λ xs. xs ++ drop (first - length p) w) (drop_all (length p) p (omega arith))
      ∙ sym (ap (λ n. drop n (p ++ w)) sum ∙ drop-append-add p w (first - length p))
  | inr most ↦
      let start : min first (length p) ≡ first = omega arith in
      let none : first - first ≡ 0 = omega arith in
      ap (λ n. drop n p ++ drop (first - n) w) start
      ∙ ap (λ n. drop first p ++ drop n w) none
      ∙ sym (drop-append-le first p w most)
]

-- so many of them, from a place on
pub copied_across : {A : Type 0} (p w : List A) (first count start here : ℕ) → start ≡ min first (length p) → here ≡ min count (length p - start) → take here (drop start p) ++ take (count - here) (drop (first - start) w) ≡ take count (drop first (p ++ w))
copied_across p w first count start here start_is here_is =
    let front : List _ = drop start p in
    let long : length p - start ≡ length front = sym (length-drop start p) in
    let here_long : here ≡ min count (length front) = here_is ∙ ap (λ n. min count n) long in
    ap (λ n. take n front ++ take (count - n) (drop (first - start) w)) here_long
    ∙ take_across front (drop (first - start) w) count
    ∙ ap (λ n. take count (drop n p ++ drop (first - n) w)) start_is
    ∙ ap (take count) (drop_across p w first)

-- stretches to which the sections were added that these events name, and those that others name
pub named_behind : (old mid new : List Stretch) (packed whole : List Event) → ((sections : List Section) → StandFor old sections → StandFor mid (sections ++ sections_named packed)) → ((sections : List Section) → StandFor mid sections → StandFor new (sections ++ sections_named whole)) → (sections : List Section) → StandFor old sections → StandFor new (sections ++ sections_named (packed ++ whole))
named_behind old mid new packed whole one two sections stand =
    let both : (sections ++ sections_named packed) ++ sections_named whole ≡ sections ++ sections_named (packed ++ whole) =
    append_assoc sections (sections_named packed) (sections_named whole) ∙ ap (λ (l : List Section). sections ++ l) (sym (flat_map-append section_in packed whole)) in
    subst (StandFor new) both (two (sections ++ sections_named packed) (one sections stand))
