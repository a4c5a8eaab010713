use Rattle.std.proofs.Common.{◌≡◌, ℕ, ◌<◌, ◌≤◌, List, [], ◌∷◌, ◌++◌, zero, suc, length, arith, ap, refl, slice_index_or}
use Rattle.lwkt_search.specs.Links.{Link}
use Rattle.lwkt_search.specs.Graphs.{Node, node_at, nodes_of}

-- a state with what is noted of it
abbrev pub node_by : {S : Type 0} → S → Link → Node S
node_by state link = record { state = state; parent = link.parent; cpu = link.cpu; depth = link.depth }

pub nodes_long : {S : Type 0} (kept : List S) (links : List Link) → length links ≤ length kept → length (nodes_of kept links) ≡ length links
nodes_long [] [] few = refl
nodes_long [] (l ∷ links) few = absurd (omega arith)
nodes_long (s ∷ kept) [] few = refl
nodes_long (s ∷ kept) (l ∷ links) few =
    let less : length links ≤ length kept = omega arith in
    ap suc (nodes_long kept links less)

pub nodes_push : {S : Type 0} (kept : List S) (links : List Link) (state : S) (link : Link) → length links ≡ length kept → nodes_of (kept ++ state ∷ []) (links ++ link ∷ []) ≡ nodes_of kept links ++ node_by state link ∷ []
nodes_push [] [] state link long = refl
nodes_push [] (l ∷ links) state link long = absurd (omega arith)
nodes_push (s ∷ kept) [] state link long = absurd (omega arith)
nodes_push {S} (s ∷ kept) (l ∷ links) state link long =
    let less : length links ≡ length kept = omega arith in
    let first : List (Node S) → List (Node S) = λ xs. node_by s l ∷ xs in
    ap first (nodes_push kept links state link less)

-- states that are kept behind those that were found
pub nodes_more : {S : Type 0} (kept more : List S) (links : List Link) → length links ≤ length kept → nodes_of (kept ++ more) links ≡ nodes_of kept links
nodes_more [] [] [] few = refl
nodes_more [] (s ∷ more) [] few = refl
nodes_more [] more (l ∷ links) few = absurd (omega arith)
nodes_more (s ∷ kept) more [] few = refl
nodes_more {S} (s ∷ kept) more (l ∷ links) few =
    let less : length links ≤ length kept = omega arith in
    let first : List (Node S) → List (Node S) = λ xs. node_by s l ∷ xs in
    ap first (nodes_more kept more links less)

pub node_state : {S : Type 0} (start : S) (kept : List S) (links : List Link) (k : ℕ) → length links ≤ length kept → k < length links → (node_at start (nodes_of kept links) k).state ≡ slice_index_or kept k start
node_state start [] [] k few there = absurd (omega arith)
node_state start [] (l ∷ links) k few there = absurd (omega arith)
node_state start (s ∷ kept) [] k few there = absurd (omega arith)
node_state start (s ∷ kept) (l ∷ links) zero few there = refl
node_state start (s ∷ kept) (l ∷ links) (suc k) few there =
    let less : length links ≤ length kept = omega arith in
    let under : k < length links = omega arith in
    node_state start kept links k less under

-- what is noted of a state, whatever else
pub node_is : {S : Type 0} {A : Type 0} (field : Node S → A) (by : Link → A) → ((s : S) (l : Link) → field (node_by s l) ≡ by l) → (start : S) (kept : List S) (links : List Link) (k : ℕ) (d : Link) → length links ≤ length kept → k < length links → field (node_at start (nodes_of kept links) k) ≡ by (slice_index_or links k d)
node_is field by is start [] [] k d few there = absurd (omega arith)
node_is field by is start [] (l ∷ links) k d few there = absurd (omega arith)
node_is field by is start (s ∷ kept) [] k d few there = absurd (omega arith)
node_is field by is start (s ∷ kept) (l ∷ links) zero d few there = is s l
node_is field by is start (s ∷ kept) (l ∷ links) (suc k) d few there =
    let less : length links ≤ length kept = omega arith in
    let under : k < length links = omega arith in
    node_is field by is start kept links k d less under

pub node_depth : {S : Type 0} (start : S) (kept : List S) (links : List Link) (k : ℕ) (d : Link) → length links ≤ length kept → k < length links → (node_at start (nodes_of kept links) k).depth ≡ (slice_index_or links k d).depth
node_depth {S} start kept links k d few there =
    let field : Node S → ℕ = λ n. n.depth in
    node_is field (λ (l : Link). l.depth) (λ s l. refl) start kept links k d few there

pub node_parent : {S : Type 0} (start : S) (kept : List S) (links : List Link) (k : ℕ) (d : Link) → length links ≤ length kept → k < length links → (node_at start (nodes_of kept links) k).parent ≡ (slice_index_or links k d).parent
node_parent {S} start kept links k d few there =
    let field : Node S → ℕ = λ n. n.parent in
    node_is field (λ (l : Link). l.parent) (λ s l. refl) start kept links k d few there

pub node_cpu : {S : Type 0} (start : S) (kept : List S) (links : List Link) (k : ℕ) (d : Link) → length links ≤ length kept → k < length links → (node_at start (nodes_of kept links) k).cpu ≡ (slice_index_or links k d).cpu
node_cpu {S} start kept links k d few there =
    let field : Node S → ℕ = λ n. n.cpu in
    node_is field (λ (l : Link). l.cpu) (λ s l. refl) start kept links k d few there
