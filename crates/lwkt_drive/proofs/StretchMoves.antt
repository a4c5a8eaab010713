-- Stretches of sections, with one section more.
use Rattle.std.proofs.Common.{◌≡◌, ◌∙◌, ℕ, zero, suc, ◌+◌, ◌<◌, List, [], ◌∷◌, ◌++◌, length, set, take, get_or, map, flat_map, refl, sym, ap, subst, arith, append_assoc, append-nil, IsPermutation}
use Rattle.std.proofs.lemmas.List.{map-append, length-map, get_or-map, take_more}
use Rattle.std.proofs.lemmas.List.Concat.{flat_map-append}
use Rattle.std.proofs.lemmas.List.Elements.{All-append, All-nil, All-set}
use Rattle.std.proofs.lemmas.List.Sorted.{IsPermutation-refl, IsPermutation-trans, IsPermutation-append_left, IsPermutation-append_right, IsPermutation-append_comm}
use Rattle.lwkt_base.specs.declared.sections.Section.{Section}
use Rattle.lwkt_core.specs.declared.events.Event.{Event}
use Rattle.lwkt_core.specs.RunSections.{section_in, sections_named}
use Rattle.lwkt_drive.specs.declared.short_events.CellSection.{CellSection}
use Rattle.lwkt_drive.specs.declared.short_events.ShortEvent.{ShortEvent}
use Rattle.lwkt_drive.specs.declared.stretches.Stretch.{Stretch}
use Rattle.lwkt_drive.specs.declared.wide_events.WideEvent.{WideEvent}
use Rattle.lwkt_drive.specs.ShortEvents.{long_event, events_in}
use Rattle.lwkt_drive.specs.Stretches.{LeadTo, IsStretchOf, StandFor, GoesOnFrom, longer, stretch_of}
use Rattle.lwkt_drive.proofs.EventMoves.{all_one}

abbrev pub Part : Type 0
Part = Stretch × List Section

abbrev pub IsPart : Part → Type 0
IsPart p = IsStretchOf p.0 p.1

abbrev pub sections_of : List Part → List Section
sections_of parts = flat_map (λ p. p.1) parts

same_list : {X : Type 0} (xs ys : List X) → xs ≡ ys → IsPermutation xs ys
same_list xs ys e = subst (IsPermutation xs) e (IsPermutation-refl xs)

pub none : StandFor [] []
none = record { parts = []; stretches_are = refl; each = All-nil IsPart; all = IsPermutation-refl [] }

-- a stretch of one section behind the others
pub one_more : (stretches : List Stretch) (sections : List Section) (s : Section) → StandFor stretches sections → StandFor (stretches ++ stretch_of s ∷ []) (sections ++ s ∷ [])
one_more stretches sections s stand =
    let part : Part = (stretch_of s, s ∷ []) in
    record {
      parts = stand.parts ++ part ∷ [];
      stretches_are = map-append (λ (p : Part). p.0) stand.parts (part ∷ []) ∙ ap (λ (l : List Stretch). l ++ stretch_of s ∷ []) stand.stretches_are;
      each = All-append IsPart stand.parts (part ∷ []) stand.each (all_one IsPart part (refl, (refl, (refl, (refl, refl)))));
      all = IsPermutation-trans _ _ _ (same_list _ _ (flat_map-append (λ (p : Part). p.1) stand.parts (part ∷ []))) (IsPermutation-append_left (s ∷ []) _ _ stand.all);
    }

-- sections that lead somewhere, with one that goes on there behind them
lead_on : (tok : ℕ) (row : List ℕ) (generation : ℕ) (sections : List Section) (left : List ℕ) (next : ℕ) (s : Section) → LeadTo tok row generation sections left next → s.tok.0 ≡ tok → s.before ≡ left → s.generation ≡ next → LeadTo tok row generation (sections ++ s ∷ []) s.after (s.generation + 1)
lead_on tok row generation [] left next s lead own begins at = (own, (begins ∙ sym lead.0, (at ∙ sym lead.1, (refl, refl))))
lead_on tok row generation (x ∷ sections) left next s lead own begins at = (lead.0, (lead.1.0, (lead.1.1.0, lead_on tok x.after (x.generation + 1) sections left next s lead.1.1.1 own begins at)))

longer_is : (stretch : Stretch) (sections : List Section) (s : Section) → IsStretchOf stretch sections → GoesOnFrom stretch s → IsStretchOf (longer stretch s) (sections ++ s ∷ [])
longer_is stretch sections s is goes = lead_on stretch.tok.0 stretch.before stretch.first sections stretch.after (stretch.last + 1) s is goes.0 goes.1.0 goes.1.1

-- one of the parts with a section behind its own
pub map_set : {A B : Type 0} (f : A → B) (xs : List A) (i : ℕ) (x : A) → map f (set xs i x) ≡ set (map f xs) i (f x)
map_set f [] i x = refl
map_set f (y ∷ xs) zero x = refl
map_set f (y ∷ xs) (suc i) x = ap (λ l. f y ∷ l) (map_set f xs i x)

set_more : (parts : List Part) (i : ℕ) (d q : Part) (s : Section) → i < length parts → q.1 ≡ (get_or parts i d).1 ++ s ∷ [] → IsPermutation (sections_of (set parts i q)) (sections_of parts ++ s ∷ [])
set_more [] i d q s low is = absurd (omega arith)
set_more (p ∷ parts) zero d q s low is =
    let rest : List Section = sections_of parts in
    IsPermutation-trans _ _ _
    (same_list _ _ (ap (λ (l : List Section). l ++ rest) is ∙ append_assoc p.1 (s ∷ []) rest))
    (IsPermutation-trans _ _ _
    (IsPermutation-append_right p.1 _ _ (IsPermutation-append_comm (s ∷ []) rest))
    (same_list _ _ (sym (append_assoc p.1 rest (s ∷ [])))))
set_more (p ∷ parts) (suc i) d q s low is =
    IsPermutation-trans _ _ _
    (IsPermutation-append_right p.1 _ _ (set_more parts i d q s (omega arith) is))
    (same_list _ _ (sym (append_assoc p.1 (sections_of parts) (s ∷ []))))

pub made_longer : (stretches : List Stretch) (sections : List Section) (i : ℕ) (d : Stretch) (s : Section) → i < length stretches → GoesOnFrom (get_or stretches i d) s → StandFor stretches sections → StandFor (set stretches i (longer (get_or stretches i d) s)) (sections ++ s ∷ [])
made_longer stretches sections i d s low goes stand =
    let parts : List Part = stand.parts in
    let many : length parts ≡ length stretches = sym (length-map parts (λ (p : Part). p.0)) ∙ ap length stand.stretches_are in
    let inside : i < length parts = omega (arith, many, low) in
    let e : Part = (d, []) in
    let old : Part = get_or parts i e in
    let is : get_or stretches i d ≡ old.0 = ap (λ (l : List Stretch). get_or l i d) (sym stand.stretches_are) ∙ get_or-map (λ (p : Part). p.0) parts i e d inside in
    let new : Part = (longer old.0 s, old.1 ++ s ∷ []) in
    let fits : IsPart new = longer_is old.0 old.1 s (stand.each i e inside) (subst (λ (x : Stretch). GoesOnFrom x s) is goes) in
    record {
      parts = set parts i new;
      stretches_are = map_set (λ (p : Part). p.0) parts i new ∙ ap (λ (l : List Stretch). set l i (longer old.0 s)) stand.stretches_are ∙ ap (λ (x : Stretch). set stretches i (longer x s)) (sym is);
      each = All-set IsPart parts i new fits stand.each;
      all = IsPermutation-trans _ _ _ (set_more parts i e new s inside refl) (IsPermutation-append_left (s ∷ []) _ _ stand.all);
    }

-- no section more
pub no_more : (stretches : List Stretch) (sections : List Section) → StandFor stretches sections → StandFor stretches (sections ++ [])
no_more stretches sections stand = subst (StandFor stretches) (sym (append-nil sections)) stand

-- what one event more names
pub named_next : (events : List Event) (i : ℕ) (e : Event) (done : List Section) → i < length events → get_or events i e ≡ e → (done ++ sections_named (take i events)) ++ section_in e ≡ done ++ sections_named (take (i + 1) events)
named_next events i e done low is =
    let one : sections_named (take (i + 1) events) ≡ sections_named (take i events) ++ section_in e =
    ap (λ (l : List Event). sections_named l) (take_more events i e low)
    ∙ flat_map-append section_in (take i events) (get_or events i e ∷ [])
    ∙ ap (λ (x : Event). sections_named (take i events) ++ (section_in x ++ [])) is
    ∙ ap (λ (l : List Section). sections_named (take i events) ++ l) (append-nil (section_in e)) in
    append_assoc done (sections_named (take i events)) (section_in e) ∙ ap (λ (l : List Section). done ++ l) (sym one)

-- what one event more names, of events that are kept short
pub named_row : (cells : List CellSection) (wides : List WideEvent) (longs : List Event) (rows : List ShortEvent) (i : ℕ) (d : ShortEvent) (done : List Section) → i < length rows → (done ++ sections_named (events_in cells wides longs (take i rows))) ++ section_in (long_event cells wides longs (get_or rows i d)) ≡ done ++ sections_named (events_in cells wides longs (take (i + 1) rows))
named_row cells wides longs rows i d done low =
    let f : ShortEvent → Event = long_event cells wides longs in
    let before : List Section = sections_named (map f (take i rows)) in
    let e : Event = f (get_or rows i d) in
    let one : sections_named (map f (take (i + 1) rows)) ≡ before ++ section_in e =
    ap (λ (l : List ShortEvent). sections_named (map f l)) (take_more rows i d low)
    ∙ ap (λ (l : List Event). sections_named l) (map-append f (take i rows) (get_or rows i d ∷ []))
    ∙ flat_map-append section_in (map f (take i rows)) (e ∷ [])
    ∙ ap (λ (l : List Section). before ++ l) (append-nil (section_in e)) in
    append_assoc done before (section_in e) ∙ ap (λ (l : List Section). done ++ l) (sym one)
