-- What the traces of a run on threads name are the written sections that its processors name of the run.
use Rattle.std.proofs.Common.{◌≡◌, inl, inr, ℕ, suc, ◌+◌, ◌<◌, ◌==◌, Bool, true, false, cond, List, [], ◌∷◌, ◌++◌, length, All, filter, flat_map, refl, ap, sym, ◌∙◌, arith, append_assoc, IsPermutation, Some, true≢false}
use Rattle.std.specs.Prelude.{slice_get}
use Rattle.std.specs.List.{range_with_len}
use Rattle.std.proofs.lemmas.List.Concat.{flat_map-append}
use Rattle.std.proofs.lemmas.List.Sorted.{IsPermutation-refl, IsPermutation-sym, IsPermutation-trans, IsPermutation-append_left, IsPermutation-append_right, IsPermutation-append_comm}
use Rattle.lwkt_base.specs.declared.sections.Section.{Section}
use Rattle.lwkt_core.specs.declared.events.Event.{Event}
use Rattle.lwkt_drive.specs.ShortEvents.{KeptTrace}
use Rattle.lwkt_core.specs.declared.events.Event.TheVariants.{GiveWritten}
use Rattle.lwkt_table.specs.declared.seats.Deed.{Deed}
use Rattle.lwkt_core.specs.Events.{cpu_of}
use Rattle.lwkt_table.specs.History.{events_by}
use Rattle.lwkt_core.specs.RunSections.{section_in, sections_named}
use Rattle.lwkt_table.specs.Sections.{sections_by}
use Rattle.lwkt_table.proofs.PartLemmas.{permutation_same, flat_map-kept, flat_map-parted}
use Rattle.lwkt_hold.specs.Steps.{may_be_untraced, is_of_token, AreTraced}
use Rattle.lwkt_run.specs.TraceParts.{of_cpu, parts_from}
use Rattle.lwkt_run.specs.NamedSections.{sections_of_all}

-- an event that may be untraced, or is of no token, names no section
untraced_none : (e : Event) → may_be_untraced e ≡ true → section_in e ≡ []
untraced_none (GiveWritten cpu tok section) may = absurd (true≢false (sym may))
untraced_none e may = refl

other_none : (e : Event) → is_of_token e ≡ false → section_in e ≡ []
other_none (GiveWritten cpu tok section) other = absurd (true≢false other)
other_none e other = refl

-- what is traced of events names their sections
traced_sections : (events traced : List Event) → AreTraced events traced → sections_named traced ≡ sections_named events
traced_sections [] traced in_trace = ap sections_named in_trace
traced_sections (e ∷ events) traced (inl untraced) = traced_sections events traced untraced.1 ∙ ap (λ l. l ++ sections_named events) (sym (untraced_none e untraced.0))
traced_sections (e ∷ events) traced (inr is) = ap sections_named is.1.1.0 ∙ ap (λ l. section_in e ++ l) (traced_sections events is.1.0 is.1.1.1)

-- and so does what of a trace is of tokens
token_sections : (trace : List Event) → sections_named (filter is_of_token trace) ≡ sections_named trace
token_sections [] = refl
token_sections (e ∷ trace) = go (is_of_token e) refl (token_sections trace)
  where
    go : (b : Bool) → is_of_token e ≡ b → sections_named (filter is_of_token trace) ≡ sections_named trace → sections_named (cond b (e ∷ filter is_of_token trace) (filter is_of_token trace)) ≡ section_in e ++ sections_named trace
    go true is rest = ap (λ l. section_in e ++ l) rest
    go false is rest = rest ∙ ap (λ l. l ++ sections_named trace) (sym (other_none e is))

-- lists by number, and by place
by_place : {X B : Type 0} (F : ℕ → List B) (G : X → List B) (xs : List X) (n : ℕ) → ((k : ℕ) (x : X) → slice_get xs k ≡ Some x → F (n + k) ≡ G x) → flat_map F (range_with_len n (length xs)) ≡ flat_map G xs
by_place F G [] n each = refl
by_place {X} {B} F G (x ∷ xs) n each =
    let z : n + 0 ≡ n = omega arith in
    let here : F n ≡ G x = ap F (sym z) ∙ each 0 x refl in
    let later : (k : ℕ) (y : X) → slice_get xs k ≡ Some y → F (n + 1 + k) ≡ G y = λ k y at.
    let s : n + 1 + k ≡ n + suc k = omega arith in
    ap F s ∙ each (suc k) y at in
    ap (λ l. l ++ flat_map F (range_with_len (n + 1) (length xs))) here ∙ ap (λ l. G x ++ l) (by_place F G xs (n + 1) later)

-- four lists, with the two in the middle in each other's place
four : {B : Type 0} (a b c d : List B) → IsPermutation ((a ++ b) ++ (c ++ d)) ((a ++ c) ++ (b ++ d))
four {B} a b c d =
    let inner : IsPermutation (b ++ (c ++ d)) (c ++ (b ++ d)) = IsPermutation-trans _ _ _
    (permutation_same (b ++ (c ++ d)) ((b ++ c) ++ d) (sym (append_assoc b c d)))
    (IsPermutation-trans _ _ _ (IsPermutation-append_left d _ _ (IsPermutation-append_comm b c)) (permutation_same ((c ++ b) ++ d) (c ++ (b ++ d)) (append_assoc c b d))) in
    IsPermutation-trans _ _ _ (permutation_same ((a ++ b) ++ (c ++ d)) (a ++ (b ++ (c ++ d))) (append_assoc a b (c ++ d)))
    (IsPermutation-trans _ _ _ (IsPermutation-append_right a _ _ inner) (permutation_same (a ++ (c ++ (b ++ d))) ((a ++ c) ++ (b ++ d)) (sym (append_assoc a c (b ++ d)))))

-- the parts of processors have what their traces have, and what the stops of each have
parts_apart : (n : ℕ) (traces : List KeptTrace) (stops : List Event)
    → IsPermutation (flat_map sections_named (parts_from n traces stops)) (flat_map (λ t. sections_named t.items) traces ++ flat_map (λ k. sections_named (of_cpu k stops)) (range_with_len n (length traces)))
parts_apart n [] stops = IsPermutation-refl []
parts_apart n (trace ∷ traces) stops =
    let own : List Section = sections_named trace.items in
    let end : List Section = sections_named (of_cpu n stops) in
    let others : List Section = flat_map (λ (t : KeptTrace). sections_named t.items) traces in
    let ends : List Section = flat_map (λ k. sections_named (of_cpu k stops)) (range_with_len (n + 1) (length traces)) in
    IsPermutation-trans _ _ _ (permutation_same _ _ (ap (λ l. l ++ flat_map sections_named (parts_from (n + 1) traces stops)) (flat_map-append section_in trace.items (of_cpu n stops))))
    (IsPermutation-trans _ _ _ (IsPermutation-append_right (own ++ end) _ _ (parts_apart (n + 1) traces stops)) (four own end others ends))

parts_long : (n : ℕ) (traces : List KeptTrace) (stops : List Event) → length (parts_from n traces stops) ≡ length traces
parts_long n [] stops = refl
parts_long n (trace ∷ traces) stops = let rest = parts_long (n + 1) traces stops in omega arith

-- where each event of the stops is of one of so many processors
stops_apart : (cpus : ℕ) (stops : List Event) → All (λ e. cpu_of e < cpus) stops → IsPermutation (flat_map (λ k. sections_named (of_cpu k stops)) (range_with_len 0 cpus)) (sections_named stops)
stops_apart cpus stops own =
    let each : (k : ℕ) → flat_map (λ e. cond (cpu_of e == k) (section_in e) []) stops ≡ sections_named (of_cpu k stops) = λ k. sym (flat_map-kept section_in (λ (e : Event). cpu_of e == k) stops) in
    let parted = flat_map-parted cpu_of section_in cpus stops own in
    IsPermutation-sym _ _ (IsPermutation-trans _ _ _ parted (permutation_same _ _ (λ i. flat_map (λ k. each k i) (range_with_len 0 cpus))))

-- where each processor's part of a run is traced by its trace and by its events of the stops, what the processors name of the run and
-- what is named are the same sections
pub named_by_all : (history : List Deed) (traces : List KeptTrace) (stops : List Event) → ((cpu : ℕ) (part : List Event) → slice_get (parts_from 0 traces stops) cpu ≡ Some part → AreTraced (events_by cpu history) (filter is_of_token part)) → All (λ e. cpu_of e < length traces) stops
    → IsPermutation (sections_by (length traces) history) (sections_of_all traces stops)
named_by_all history traces stops traced own =
    let parts = parts_from 0 traces stops in
    let each : (k : ℕ) (part : List Event) → slice_get parts k ≡ Some part → sections_named (events_by (0 + k) history) ≡ sections_named part = λ k part at.
    let z : 0 + k ≡ k = omega arith in
    ap (λ (j : ℕ). sections_named (events_by j history)) z ∙ sym (traced_sections (events_by k history) (filter is_of_token part) (traced k part at)) ∙ token_sections part in
    let placed : sections_by (length parts) history ≡ flat_map sections_named parts = by_place (λ k. sections_named (events_by k history)) sections_named parts 0 each in
    let counted : sections_by (length traces) history ≡ flat_map sections_named parts = ap (λ (n : ℕ). sections_by n history) (sym (parts_long 0 traces stops)) ∙ placed in
    IsPermutation-trans _ _ _ (permutation_same _ _ counted)
    (IsPermutation-trans _ _ _ (parts_apart 0 traces stops) (IsPermutation-append_right (flat_map (λ (t : KeptTrace). sections_named t.items) traces) _ _ (stops_apart (length traces) stops own)))
