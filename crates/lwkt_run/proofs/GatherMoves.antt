-- The written sections that the traces of a run name, and rows with their generations.
use Rattle.std.proofs.Common.{◌≡◌, ℕ, zero, suc, ◌+◌, ◌<◌, List, [], ◌∷◌, ◌++◌, length, take, get_or, refl, ap, sym, ◌∙◌, arith, append_assoc, append-nil, Some}
use Rattle.std.specs.Prelude.{zip, slice_get, Option, None, option_map}
use Rattle.std.proofs.lemmas.Option.{none-some, same_Some}
use Rattle.std.proofs.lemmas.List.{length-map}
use Rattle.lwkt_base.specs.declared.opening_specs.TokSpec.{TokSpec}
use Rattle.lwkt_base.specs.declared.sections.Section.{Section}
use Rattle.lwkt_core.specs.declared.events.Event.{Event}
use Rattle.lwkt_core.specs.declared.events.Event.TheVariants.{GiveWritten}
use Rattle.lwkt_drive.specs.declared.gives.Give.{Give}
use Rattle.lwkt_drive.specs.Gives.{give_of}
use Rattle.lwkt_core.specs.RunSections.{section_in, sections_named}
use Rattle.lwkt_run.specs.NamedSections.{opening_rows}

-- one more of two lists side by side
pub zip_more : {A B : Type 0} (xs : List A) (ys : List B) (i : ℕ) (x : A) (y : B) → i < length xs → i < length ys → zip (take (i + 1) xs) (take (i + 1) ys) ≡ zip (take i xs) (take i ys) ++ (get_or xs i x, get_or ys i y) ∷ []
zip_more [] ys i x y low also = absurd (omega arith)
zip_more (a ∷ xs) [] i x y low also = absurd (omega arith)
zip_more (a ∷ xs) (b ∷ ys) zero x y low also = refl
zip_more (a ∷ xs) (b ∷ ys) (suc i) x y low also =
    let s : suc i + 1 ≡ suc (i + 1) = omega arith in
    ap (λ (n : ℕ). zip (take n (a ∷ xs)) (take n (b ∷ ys))) s ∙ ap (λ l. (a, b) ∷ l) (zip_more xs ys i x y (omega arith) (omega arith))

zip_long : {A B : Type 0} (xs : List A) (ys : List B) → length ys ≡ length xs → length (zip xs ys) ≡ length xs
zip_long [] [] long = refl
zip_long [] (y ∷ ys) long = absurd (omega arith)
zip_long (x ∷ xs) [] long = absurd (omega arith)
zip_long (x ∷ xs) (y ∷ ys) long = let rest = zip_long xs ys (omega arith) in omega arith

-- as many tokens are opened as are closed
pub as_many_rows : (specs : List TokSpec) (rows : List (List ℕ)) (gens : List ℕ) → length rows ≡ length specs → length gens ≡ length rows → length (opening_rows specs) ≡ length (zip rows gens)
as_many_rows specs rows gens opened many =
    let F : TokSpec → List ℕ × ℕ = λ spec. (spec.cells, spec.generation) in
    let one = length-map specs F in
    let two = zip_long rows gens many in
    omega arith

-- the section of a written give, if there is one
abbrev given : Option Give → List Section
given None = []
given (Some give) = give.section ∷ []

event_given : (e : Event) → section_in e ≡ given (give_of e)
event_given (GiveWritten cpu tok section) = refl
event_given e = refl

-- one event more of those that are read
named_more : (events : List Event) (place : ℕ) (give : Option Give) → option_map give_of (slice_get events place) ≡ Some give → sections_named (take (place + 1) events) ≡ sections_named (take place events) ++ given give
named_more [] place give is = absurd (none-some give is)
named_more (e ∷ events) zero give is =
    append-nil (section_in e) ∙ event_given e ∙ ap given (same_Some (give_of e) give is)
named_more (e ∷ events) (suc place) give is =
    let s : suc place + 1 ≡ suc (place + 1) = omega arith in
    ap (λ (n : ℕ). sections_named (take n (e ∷ events))) s ∙ ap (λ (l : List Section). section_in e ++ l) (named_more events place give is) ∙ sym (append_assoc (section_in e) (sections_named (take place events)) (given give))

pub none_more : (events : List Event) (place : ℕ) → option_map give_of (slice_get events place) ≡ Some None → sections_named (take (place + 1) events) ≡ sections_named (take place events)
none_more events place is = named_more events place None is ∙ append-nil (sections_named (take place events))

pub one_more : (events : List Event) (place : ℕ) (give : Give) → option_map give_of (slice_get events place) ≡ Some (Some give) → sections_named (take (place + 1) events) ≡ sections_named (take place events) ++ give.section ∷ []
one_more events place give is = named_more events place (Some give) is
