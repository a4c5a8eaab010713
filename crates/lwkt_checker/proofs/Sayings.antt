-- What is written behind what was written.
use Rattle.std.proofs.Common.{◌≡◌, ℕ, List, ◌++◌, Result, Ok, Err, OnOk, codes, append_assoc, refl, sym, ap, ap₂, ◌∙◌}
use Rattle.std.specs.Fmt.{decimal}
use Rattle.std.specs.Prelude.{slice_get}
use Rattle.lwkt_core.specs.declared.events.Event.{Event}
use Rattle.lwkt_core.specs.declared.finals.Final.{Final}
use Rattle.lwkt_core.specs.declared.tokens.Token.{Token}
use Rattle.lwkt_checker.specs.Said.{said, cell_said, raised_said, generation_said, section_said, own_said, shown_said, given_numbers_said, tallies_differ_said}

-- a text, and one behind it, are their two
pub then_said : {A E : Type 0} (r : Result A E) (old mid new first rest whole : List ℕ) → mid ≡ old ++ first → OnOk r (new ≡ mid ++ rest) → whole ≡ first ++ rest → OnOk r (new ≡ old ++ whole)
then_said (Ok x) old mid new first rest whole before behind both = behind ∙ ap (λ (m : List ℕ). m ++ rest) before ∙ append_assoc old first rest ∙ ap (λ (l : List ℕ). old ++ l) (sym both)
then_said (Err e) old mid new first rest whole before behind both = tt

-- a part behind others
pub behind_said : (old mid new first next : List ℕ) → mid ≡ old ++ first → new ≡ mid ++ next → new ≡ old ++ (first ++ next)
behind_said old mid new first next before behind = behind ∙ ap (λ (m : List ℕ). m ++ next) before ∙ append_assoc old first next

pub tallies_is : (tok : Token) (cpus : ℕ) (last : Final) (place : ℕ) → tallies_differ_said tok cpus last place ≡ (codes "the tallies are" ++ shown_said tok cpus ++ codes " and not") ++ given_numbers_said (slice_get last.tallies.items place)
unfolding tallies_differ_said
tallies_is tok cpus last place = refl

pub raised_is : (tok : Token) (e : Event) → raised_said tok e ≡ cell_said tok e ++ said (codes ", and a tally is only raised")
unfolding raised_said
raised_is tok e = refl

pub own_is : (tok : Token) (first row : List ℕ) → first ≡ tok.first → row ≡ tok.row → own_said tok ≡ said (codes "the section is of ") ++ section_said tok.generation first row
unfolding own_said
own_is tok first row is_first is_row = ap₂ (λ (f r : List ℕ). said (codes "the section is of ") ++ section_said tok.generation f r) (sym is_first) (sym is_row)

pub generation_is : (generation : ℕ) → generation_said generation ≡ said (codes "generation ") ++ (decimal generation ++ codes ", rows")
unfolding generation_said
generation_is generation = append_assoc (said (codes "generation ")) (decimal generation) (codes ", rows")
