use Rattle.std.proofs.Common.{◌≡◌, ℕ, ◌+◌, ◌<◌, List, [], ◌∷◌, ◌++◌, length, map, arith, ap, sym, refl, ◌∙◌, subst, append_assoc, slice_index_or}
use Rattle.std.proofs.lemmas.List.{length-map, map-append, append-nil, get_or_default, get_or-map}
use Rattle.lwkt_search.specs.Links.{Link, depth_by, link_by, links_behind}

abbrev pub parent_of : Link → ℕ
parent_of link = link.parent

abbrev pub cpu_of : Link → ℕ
cpu_of link = link.cpu

-- one link more
pub links_push : (before : List Link) (parents cpus : List ℕ) (parent cpu : ℕ) → length cpus ≡ length parents → links_behind before (parents ++ parent ∷ []) (cpus ++ cpu ∷ []) ≡ links_behind before parents cpus ++ link_by (links_behind before parents cpus) parent cpu ∷ []
links_push before [] [] parent cpu long = refl
links_push before [] (c ∷ cpus) parent cpu long = absurd (omega arith)
links_push before (p ∷ parents) [] parent cpu long = absurd (omega arith)
links_push before (p ∷ parents) (c ∷ cpus) parent cpu long =
    let less : length cpus ≡ length parents = omega arith in
    links_push (before ++ link_by before p c ∷ []) parents cpus parent cpu less

-- the places that turns were made in, and the processors
pub links_parents : (before : List Link) (parents cpus : List ℕ) → length cpus ≡ length parents → map parent_of (links_behind before parents cpus) ≡ map parent_of before ++ parents
links_parents before [] [] long = sym (append-nil (map parent_of before))
links_parents before [] (c ∷ cpus) long = absurd (omega arith)
links_parents before (p ∷ parents) [] long = absurd (omega arith)
links_parents before (p ∷ parents) (c ∷ cpus) long =
    let less : length cpus ≡ length parents = omega arith in
    let one : List ℕ = p ∷ [] in
    let first : map parent_of (before ++ link_by before p c ∷ []) ≡ map parent_of before ++ one = map-append parent_of before (link_by before p c ∷ []) in
    links_parents (before ++ link_by before p c ∷ []) parents cpus less ∙ (ap (λ (xs : List ℕ). xs ++ parents) first ∙ append_assoc (map parent_of before) one parents)

pub links_cpus : (before : List Link) (parents cpus : List ℕ) → length cpus ≡ length parents → map cpu_of (links_behind before parents cpus) ≡ map cpu_of before ++ cpus
links_cpus before [] [] long = sym (append-nil (map cpu_of before))
links_cpus before [] (c ∷ cpus) long = absurd (omega arith)
links_cpus before (p ∷ parents) [] long = absurd (omega arith)
links_cpus before (p ∷ parents) (c ∷ cpus) long =
    let less : length cpus ≡ length parents = omega arith in
    let one : List ℕ = c ∷ [] in
    let first : map cpu_of (before ++ link_by before p c ∷ []) ≡ map cpu_of before ++ one = map-append cpu_of before (link_by before p c ∷ []) in
    links_cpus (before ++ link_by before p c ∷ []) parents cpus less ∙ (ap (λ (xs : List ℕ). xs ++ cpus) first ∙ append_assoc (map cpu_of before) one cpus)

pub links_long : (parents cpus : List ℕ) → length cpus ≡ length parents → length (links_behind [] parents cpus) ≡ length parents
links_long parents cpus long =
    let same : map parent_of (links_behind [] parents cpus) ≡ parents = links_parents [] parents cpus long in
    sym (length-map (links_behind [] parents cpus) parent_of) ∙ ap (λ (xs : List ℕ). length xs) same

-- what is noted of a state
pub link_parent : (parents cpus : List ℕ) (k n : ℕ) (d : Link) → length cpus ≡ length parents → k < length parents → n ≡ slice_index_or parents k n → n ≡ (slice_index_or (links_behind [] parents cpus) k d).parent
link_parent parents cpus k n d long there read =
    let links : List Link = links_behind [] parents cpus in
    let same : map parent_of links ≡ parents = links_parents [] parents cpus long in
    let count : length links ≡ length parents = links_long parents cpus long in
    let inside : k < length links = omega arith in
    let at : slice_index_or (map parent_of links) k (parent_of d) ≡ parent_of (slice_index_or links k d) = get_or-map parent_of links k d (parent_of d) inside in
    let F : List ℕ → Type 0 = λ xs. slice_index_or xs k (parent_of d) ≡ parent_of (slice_index_or links k d) in
    read ∙ (get_or_default parents k n (parent_of d) there ∙ subst F same at)

pub link_cpu : (parents cpus : List ℕ) (k n : ℕ) (d : Link) → length cpus ≡ length parents → k < length cpus → n ≡ slice_index_or cpus k n → n ≡ (slice_index_or (links_behind [] parents cpus) k d).cpu
link_cpu parents cpus k n d long there read =
    let links : List Link = links_behind [] parents cpus in
    let same : map cpu_of links ≡ cpus = links_cpus [] parents cpus long in
    let count : length links ≡ length parents = links_long parents cpus long in
    let inside : k < length links = omega arith in
    let at : slice_index_or (map cpu_of links) k (cpu_of d) ≡ cpu_of (slice_index_or links k d) = get_or-map cpu_of links k d (cpu_of d) inside in
    let F : List ℕ → Type 0 = λ xs. slice_index_or xs k (cpu_of d) ≡ cpu_of (slice_index_or links k d) in
    read ∙ (get_or_default cpus k n (cpu_of d) there ∙ subst F same at)

-- how deep the next state is
pub depth_is : (links : List Link) (at : ℕ) (d : Link) → at < length links → depth_by links at ≡ (slice_index_or links at d).depth + 1
depth_is [] at d there = absurd (omega arith)
depth_is (link ∷ links) at d there = ap (λ (l : Link). l.depth + 1) (get_or_default (link ∷ links) at link d there)
