-- Where stretches lead tokens from one list of rows and generations to another, the sections that they stand for are chains.
use Rattle.std.proofs.Common.{◌≡◌, ◌≢◌, ◌∙◌, ⊎_elim, ℕ, zero, suc, ◌+◌, ◌<◌, List, [], ◌∷◌, ◌++◌, length, set, swap, get_or, map, refl, sym, ap, subst, arith, IsPermutation, get_or-set_same, get_or-set_other}
use Rattle.std.specs.List.{All}
use Rattle.std.proofs.lemmas.Bool.{cases_eq}
use Rattle.std.proofs.lemmas.List.{length-map, length-set, get_or-map}
use Rattle.std.proofs.lemmas.List.Elements.{All-nil, All-cons, All-head, All-tail}
use Rattle.std.proofs.lemmas.List.Sorted.{IsPermutation-keeps, IsPermutation-sym, IsPermutation-trans, All-permutation}
use Rattle.lwkt_base.specs.declared.sections.Section.{Section}
use Rattle.lwkt_core.specs.SectionChain.{RowsAt, row_at, generation_at, IsSectionChain, sections_at, AreSectionChains, rows_after}
use Rattle.lwkt_core.proofs.ChainLemmas.{chain-nil, chain-cons, chain_as, sections_at-own, sections_at-other}
use Rattle.lwkt_table.proofs.PartLemmas.{permutation-flat_map}
use Rattle.lwkt_table.proofs.SectionParts.{chains_in_any_order}
use Rattle.lwkt_drive.specs.declared.stretches.Stretch.{Stretch}
use Rattle.lwkt_drive.specs.Stretches.{LeadTo, StandFor, Follows, rows_past, Lead}
use Rattle.lwkt_drive.proofs.StretchMoves.{Part, IsPart, sections_of, map_set}

-- sections, each of which begins with what its token has come to
abbrev Come : RowsAt → List Section → RowsAt → Type 0
Come rows [] last = rows ≡ last
Come rows (s ∷ sections) last = (s.tok.0 < length rows) × ((s.before ≡ row_at rows s.tok.0) × ((s.generation ≡ generation_at rows s.tok.0) × Come (rows_after rows s) sections last))

come_on : (rows : RowsAt) (xs : List Section) (mid : RowsAt) (ys : List Section) (last : RowsAt) → Come rows xs mid → Come mid ys last → Come rows (xs ++ ys) last
come_on rows [] mid ys last a b = subst (λ (r : RowsAt). Come r ys last) (sym a) b
come_on rows (x ∷ xs) mid ys last a b = (a.0, (a.1.0, (a.1.1.0, come_on (rows_after rows x) xs mid ys last a.1.1.1 b)))

-- a list with its own element put in, and with two elements put in at one place
set_own : (rows : RowsAt) (i : ℕ) (r : List ℕ × ℕ) → i < length rows → r ≡ get_or rows i ([], 0) → set rows i r ≡ rows
set_own [] i r low is = absurd (omega arith)
set_own (x ∷ rows) zero r low is = ap (λ (y : List ℕ × ℕ). y ∷ rows) is
set_own (x ∷ rows) (suc i) r low is = ap (λ (l : RowsAt). x ∷ l) (set_own rows i r (omega arith) is)

set_twice : (rows : RowsAt) (i : ℕ) (r q : List ℕ × ℕ) → set (set rows i r) i q ≡ set rows i q
set_twice [] i r q = refl
set_twice (x ∷ rows) zero r q = refl
set_twice (x ∷ rows) (suc i) r q = ap (λ (l : RowsAt). x ∷ l) (set_twice rows i r q)

-- the sections of a stretch
part_comes : (tok : ℕ) (rows : RowsAt) (row : List ℕ) (generation : ℕ) (part : List Section) (left : List ℕ) (next : ℕ) → LeadTo tok row generation part left next → tok < length rows → row ≡ row_at rows tok → generation ≡ generation_at rows tok → Come rows part (set rows tok (left, next))
part_comes tok rows row generation [] left next lead low is at =
    let here : (left, next) ≡ get_or rows tok ([], 0) = λ i. ((sym lead.0 ∙ is) i, (sym lead.1 ∙ at) i) in
    sym (set_own rows tok (left, next) low here)
part_comes tok rows row generation (s ∷ part) left next lead low is at =
    let own : s.tok.0 ≡ tok = lead.0 in
    let after : RowsAt = rows_after rows s in
    let new : List ℕ × ℕ = (s.after, s.generation + 1) in
    let here : after ≡ set rows tok new = ap (λ (t : ℕ). set rows t new) own in
    let long = length-set rows s.tok.0 new in
    let there : get_or after tok ([], 0) ≡ new = ap (λ (r : RowsAt). get_or r tok ([], 0)) here ∙ get_or-set_same rows tok new ([], 0) low in
    let rest = part_comes tok after s.after (s.generation + 1) part left next lead.1.1.1 (omega (arith, long, low)) (sym (ap (λ (r : List ℕ × ℕ). r.0) there)) (sym (ap (λ (r : List ℕ × ℕ). r.1) there)) in
    let end : set after tok (left, next) ≡ set rows tok (left, next) = ap (λ (r : RowsAt). set r tok (left, next)) here ∙ set_twice rows tok new (left, next) in
    (subst (λ (t : ℕ). t < length rows) (sym own) low, (lead.1.0 ∙ is ∙ ap (row_at rows) (sym own), (lead.1.1.0 ∙ at ∙ ap (generation_at rows) (sym own), subst (λ (r : RowsAt). Come after part r) end rest)))

-- those of stretches, one after another
parts_come : (first : RowsAt) (parts : List Part) (last : RowsAt) → Lead first (map (λ p. p.0) parts) last → All IsPart parts → Come first (sections_of parts) last
parts_come first [] last lead each = lead
parts_come first (p ∷ parts) last lead each =
    come_on first p.1 (rows_past first p.0) (sections_of parts) last
    (part_comes p.0.tok.0 first p.0.before p.0.first p.1 p.0.after (p.0.last + 1) (All-head IsPart p parts each) lead.0.0 lead.0.1.0 lead.0.1.1)
    (parts_come (rows_past first p.0) parts last lead.1 (All-tail IsPart p parts each))

-- sections each of which begins with what its token has come to are chains
abbrev IsThere : RowsAt → Section → Type 0
IsThere rows s = s.tok.0 < length rows

come_known : (rows : RowsAt) (sections : List Section) (last : RowsAt) → Come rows sections last → All (IsThere rows) sections
come_known rows [] last come = All-nil (IsThere rows)
come_known rows (s ∷ sections) last come =
    All-cons (IsThere rows) s sections come.0
    (subst (λ (n : ℕ). All (λ (x : Section). x.tok.0 < n) sections) (length-set rows s.tok.0 (s.after, s.generation + 1)) (come_known (rows_after rows s) sections last come.1.1.1))

come_chain : (rows : RowsAt) (sections : List Section) (last : RowsAt) → Come rows sections last → (t : ℕ) → t < length rows → IsSectionChain (row_at rows t) (generation_at rows t) (row_at last t) (generation_at last t) (sections_at t sections)
come_chain rows [] last come t low = subst (λ (r : RowsAt). IsSectionChain (row_at rows t) (generation_at rows t) (row_at r t) (generation_at r t) []) come (chain-nil (row_at rows t) (generation_at rows t))
come_chain rows (s ∷ sections) last come t low =
    let after : RowsAt = rows_after rows s in
    let new : List ℕ × ℕ = (s.after, s.generation + 1) in
    let long = length-set rows s.tok.0 new in
    let closing : List ℕ = row_at last t in
    let end : ℕ = generation_at last t in
    let rest : IsSectionChain (row_at after t) (generation_at after t) closing end (sections_at t sections) = come_chain after sections last come.1.1.1 t (omega (arith, long, low)) in
    ⊎_elim
    (λ (own : s.tok.0 ≡ t).
    let there : get_or after t ([], 0) ≡ new = ap (λ (u : ℕ). get_or after u ([], 0)) (sym own) ∙ get_or-set_same rows s.tok.0 new ([], 0) come.0 in
    let on : IsSectionChain s.after (s.generation + 1) closing end (sections_at t sections) =
    chain_as (row_at after t) s.after (generation_at after t) (s.generation + 1) closing end (sections_at t sections) (sections_at t sections) (ap (λ (r : List ℕ × ℕ). r.0) there) (ap (λ (r : List ℕ × ℕ). r.1) there) refl rest in
    let rises = on.rises in
    chain_as s.before (row_at rows t) s.generation (generation_at rows t) closing end (s ∷ sections_at t sections) (sections_at t (s ∷ sections)) (come.1.0 ∙ ap (row_at rows) own) (come.1.1.0 ∙ ap (generation_at rows) own) (sym (sections_at-own t s sections own))
    (chain-cons s closing end (sections_at t sections) (omega (arith, rises)) on))
    (λ (differ : s.tok.0 ≢ t).
    let there : get_or after t ([], 0) ≡ get_or rows t ([], 0) = get_or-set_other rows s.tok.0 t new ([], 0) (λ e. differ (sym e)) in
    chain_as (row_at after t) (row_at rows t) (generation_at after t) (generation_at rows t) closing end (sections_at t sections) (sections_at t (s ∷ sections)) (ap (λ (r : List ℕ × ℕ). r.0) there) (ap (λ (r : List ℕ × ℕ). r.1) there) (sym (sections_at-other t s sections differ)) rest)
    (cases_eq s.tok.0 t)

-- so those that stretches stand for are chains
pub stand_chains : (first last : RowsAt) (stretches : List Stretch) (sections : List Section) → Lead first stretches last → StandFor stretches sections → AreSectionChains first last sections
stand_chains first last stretches sections lead stand =
    let parts : List Part = stand.parts in
    let come : Come first (sections_of parts) last = parts_come first parts last (subst (λ (l : List Stretch). Lead first l last) (sym stand.stretches_are) lead) stand.each in
    chains_in_any_order first last (sections_of parts) sections stand.all
    (record {
      known = come_known first (sections_of parts) last come;
      chains = come_chain first (sections_of parts) last come;
    })

-- stretches in another order
map_swap : {A B : Type 0} (f : A → B) (xs : List A) (i j : ℕ) → i < length xs → j < length xs → map f (swap xs i j) ≡ swap (map f xs) i j
map_swap f [] i j p q = refl
map_swap {A} {B} f (d ∷ ys) i j p q =
    let xs : List A = d ∷ ys in
    let one : f (get_or xs j d) ≡ get_or (map f xs) j (f d) = sym (get_or-map f xs j d (f d) q) in
    let other : f (get_or xs i d) ≡ get_or (map f xs) i (f d) = sym (get_or-map f xs i d (f d) p) in
    map_set f (set xs i (get_or xs j d)) j (get_or xs i d)
    ∙ ap (λ (l : List B). set l j (f (get_or xs i d))) (map_set f xs i (get_or xs j d))
    ∙ (λ k. set (set (map f xs) i (one k)) j (other k))

swapped : (stretches : List Stretch) (i j : ℕ) (sections : List Section) → i < length stretches → j < length stretches → StandFor stretches sections → StandFor (swap stretches i j) sections
swapped stretches i j sections p q stand =
    let parts : List Part = stand.parts in
    let many : length parts ≡ length stretches = sym (length-map parts (λ (x : Part). x.0)) ∙ ap length stand.stretches_are in
    let low : i < length parts = omega (arith, many, p) in
    let also : j < length parts = omega (arith, many, q) in
    let same : IsPermutation parts (swap parts i j) = record { moves = (i, j) ∷ []; below = (low, also, tt); is = refl } in
    record {
      parts = swap parts i j;
      stretches_are = map_swap (λ (x : Part). x.0) parts i j low also ∙ ap (λ (l : List Stretch). swap l i j) stand.stretches_are;
      each = All-permutation IsPart parts (swap parts i j) same stand.each;
      all = IsPermutation-trans _ _ _ (permutation-flat_map (λ (x : Part). x.1) (swap parts i j) parts (IsPermutation-sym parts (swap parts i j) same)) stand.all;
    }

pub stand_sorted : (stretches sorted : List Stretch) (sections : List Section) → IsPermutation stretches sorted → StandFor stretches sections → StandFor sorted sections
stand_sorted stretches sorted sections same stand = IsPermutation-keeps stretches (λ (l : List Stretch). StandFor l sections) stand (λ l i j p q h. swapped l i j sections p q h) sorted same

-- one stretch more
pub lead_more : (rows : RowsAt) (stretches : List Stretch) (mid : RowsAt) (stretch : Stretch) → Lead rows stretches mid → Follows mid stretch → Lead rows (stretches ++ stretch ∷ []) (rows_past mid stretch)
lead_more rows [] mid stretch lead on = (subst (λ (r : RowsAt). Follows r stretch) (sym lead) on, ap (λ (r : RowsAt). rows_past r stretch) lead)
lead_more rows (x ∷ stretches) mid stretch lead on = (lead.0, lead_more (rows_past rows x) stretches mid stretch lead.1 on)
