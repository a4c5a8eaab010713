-- Stretches of some sections and of others, together.
use Rattle.std.proofs.Common.{◌≡◌, ◌∙◌, ℕ, ◌+◌, ◌<◌, List, [], ◌∷◌, ◌++◌, length, take, get_or, flat_map, ap, subst, append-nil, IsPermutation}
use Rattle.std.proofs.lemmas.List.{map-append, take_more}
use Rattle.std.proofs.lemmas.List.Concat.{flat_map-append}
use Rattle.std.proofs.lemmas.List.Elements.{All-append}
use Rattle.std.proofs.lemmas.List.Sorted.{IsPermutation-refl, IsPermutation-trans, IsPermutation-append}
use Rattle.lwkt_base.specs.declared.sections.Section.{Section}
use Rattle.lwkt_core.specs.RunSections.{sections_named}
use Rattle.lwkt_drive.specs.ShortEvents.{KeptTrace}
use Rattle.lwkt_drive.specs.declared.stretches.Stretch.{Stretch}
use Rattle.lwkt_drive.specs.Stretches.{StandFor}
use Rattle.lwkt_drive.proofs.StretchMoves.{Part, IsPart}

pub stand_both : (xs ys : List Stretch) (ss ts : List Section) → StandFor xs ss → StandFor ys ts → StandFor (xs ++ ys) (ss ++ ts)
stand_both xs ys ss ts a b = record {
  parts = a.parts ++ b.parts;
  stretches_are = map-append (λ (p : Part). p.0) a.parts b.parts ∙ (λ i. a.stretches_are i ++ b.stretches_are i);
  each = All-append IsPart a.parts b.parts a.each b.each;
  all = IsPermutation-trans _ _ _ (subst (IsPermutation (flat_map (λ (p : Part). p.1) (a.parts ++ b.parts))) (flat_map-append (λ (p : Part). p.1) a.parts b.parts) (IsPermutation-refl _)) (IsPermutation-append _ _ _ _ a.all b.all);
}

-- the sections of one trace more
pub traces_more : (traces : List KeptTrace) (at : ℕ) (t : KeptTrace) → at < length traces → flat_map (λ trace. sections_named trace.items) (take (at + 1) traces) ≡ flat_map (λ trace. sections_named trace.items) (take at traces) ++ sections_named (get_or traces at t).items
traces_more traces at t low =
    let F : KeptTrace → List Section = λ trace. sections_named trace.items in
    ap (λ (l : List KeptTrace). flat_map F l) (take_more traces at t low) ∙ flat_map-append F (take at traces) (get_or traces at t ∷ []) ∙ ap (λ (l : List Section). flat_map F (take at traces) ++ l) (append-nil (F (get_or traces at t)))
