use Rattle.std.proofs.Common.{◌≡◌, ◌≢◌, inl, inr, ⊎_elim, ℕ, zero, suc, ◌+◌, ◌<◌, ◌≤◌, ◌==◌, Bool, cond, List, [], ◌∷◌, ◌++◌, length, map, get_or, All, flat_map, refl, ap, sym, ◌∙◌, subst, arith, Some, eq-eqb, append-nil}
use Rattle.std.specs.Prelude.{slice_get, zip}
use Rattle.std.specs.List.{range_with_len}
use Rattle.std.proofs.lemmas.Bool.{cases_eq}
use Rattle.std.proofs.lemmas.List.Elements.{All-nil, All-cons, All-head, All-tail, All-weaker, All-append, filter-append}
use Rattle.std.proofs.lemmas.Option.{slice_get-get_or, same_Some}
use Rattle.lwkt_base.specs.declared.sections.Section.{Section}
use Rattle.lwkt_core.specs.declared.events.Event.{Event}
use Rattle.lwkt_core.specs.declared.tokens.Token.{Token}
use Rattle.lwkt_base.specs.declared.holdings.Held.{Held}
use Rattle.lwkt_base.specs.Holding.{is_exclusive}
use Rattle.lwkt_core.specs.Tokens.{IsFree, IsOpen}
use Rattle.lwkt_core.specs.Machine.{Machine, IsSafe}
use Rattle.lwkt_core.specs.Trace.{Run}
use Rattle.lwkt_core.specs.Headline.{Section as Written, sections_of, IsChain}
use Rattle.lwkt_core.specs.SectionChain.{RowsAt, row_at, generation_at, IsSectionChain, sections_at, AreSectionChains, Precedes, AreInOrder}
use Rattle.lwkt_core.specs.RunSections.{of_token, sections_in, values_of, rows_of, RunsWriteChains, TracesWriteChains}
use Rattle.lwkt_core.proofs.ChainLemmas.{chain-nil, chain-cons, chain_as, sections_at-none}
use Rattle.lwkt_core.proofs.RunLemmas.{token_left, are_chain}
use Rattle.lwkt_core.proofs.SafetyLemmas.{stays}

-- a token's row is its first row: nothing was written since its section began
abbrev pub IsSettled : Token → Type 0
IsSettled tok = tok.row ≡ tok.first

-- a chain of a run's sections is one of the token's sections
chain_of_run : (t g : ℕ) (row : List ℕ) (written : List Written) (end : ℕ) (end_row : List ℕ) → IsChain g row written end end_row → IsSectionChain row g end_row end (map (of_token t) written)
chain_of_run t g row [] end end_row chain =
    subst (λ (last : ℕ). IsSectionChain row g end_row last []) (sym chain.0) (subst (λ (closing : List ℕ). IsSectionChain row g closing g []) (sym chain.1) (chain-nil row g))
chain_of_run t g row (w ∷ written) end end_row chain =
    let s : Section = of_token t w in
    let rest : IsSectionChain w.left (g + 1) end_row end (map (of_token t) written) = chain_of_run t (g + 1) w.left written end end_row chain.2 in
    let next : IsSectionChain w.left (w.generation + 1) end_row end (map (of_token t) written) = subst (λ (k : ℕ). IsSectionChain w.left (k + 1) end_row end (map (of_token t) written)) (sym chain.0) rest in
    let rises = next.rises in
    chain_as w.before row w.generation g end_row end (s ∷ map (of_token t) written) (s ∷ map (of_token t) written) chain.1 chain.0 refl
    (chain-cons s end_row end (map (of_token t) written) (omega arith) next)

-- the token's sections are the token's
own_token : (t : ℕ) (written : List Written) → All (λ s. s.tok.0 ≡ t) (map (of_token t) written)
own_token t [] = All-nil (λ (s : Section). s.tok.0 ≡ t)
own_token t (w ∷ written) = All-cons (λ (s : Section). s.tok.0 ≡ t) (of_token t w) (map (of_token t) written) refl (own_token t written)

-- and in order
ordered_in_run : (t g : ℕ) (row : List ℕ) (written : List Written) (end : ℕ) (end_row : List ℕ) → IsChain g row written end end_row → AreInOrder (map (of_token t) written)
ordered_in_run t g row [] end end_row chain = tt
ordered_in_run t g row (w ∷ written) end end_row chain =
    let rest : IsSectionChain w.left (g + 1) end_row end (map (of_token t) written) = chain_of_run t (g + 1) w.left written end end_row chain.2 in
    let at = chain.0 in (
      λ k d low. inr (sym (own_token t written k d low), (let within = rest.no_other k d low in let start = within.0 in omega arith)),
      ordered_in_run t (g + 1) w.left written end end_row chain.2,
    )

-- two lists in order, the one before the other
order-append : (xs ys : List Section) → AreInOrder xs → AreInOrder ys → All (λ x. All (Precedes x) ys) xs → AreInOrder (xs ++ ys)
order-append [] ys one two before = two
order-append (x ∷ xs) ys one two before = (
  All-append (Precedes x) xs ys one.0 (All-head (λ (y : Section). All (Precedes y) ys) x xs before),
  order-append xs ys one.1 two (All-tail (λ (y : Section). All (Precedes y) ys) x xs before),
)

-- the sections of so many tokens, from one on
module _ (written : ℕ → List Written) where
  abbrev of_tokens : ℕ → ℕ → List Section
  of_tokens a n = flat_map (λ t. map (of_token t) (written t)) (range_with_len a n)

  from_on : (a n : ℕ) → All (λ s. (a ≤ s.tok.0) × (s.tok.0 < a + n)) (of_tokens a n)
  from_on a zero = All-nil (λ (s : Section). (a ≤ s.tok.0) × (s.tok.0 < a + zero))
  from_on a (suc n) = All-append (λ (s : Section). (a ≤ s.tok.0) × (s.tok.0 < a + suc n)) (map (of_token a) (written a)) (of_tokens (a + 1) n)
      (All-weaker (λ (s : Section). s.tok.0 ≡ a) (λ (s : Section). (a ≤ s.tok.0) × (s.tok.0 < a + suc n)) (λ s is. (omega arith, omega arith)) (map (of_token a) (written a)) (own_token a (written a)))
      (All-weaker (λ (s : Section). (a + 1 ≤ s.tok.0) × (s.tok.0 < a + 1 + n)) (λ (s : Section). (a ≤ s.tok.0) × (s.tok.0 < a + suc n)) (λ s is. (omega (arith, is.0), omega (arith, is.1))) (of_tokens (a + 1) n) (from_on (a + 1) n))

  all_own : (t : ℕ) (ws : List Written) → sections_at t (map (of_token t) ws) ≡ map (of_token t) ws
  all_own t [] = refl
  all_own t (w ∷ ws) = ap (λ (b : Bool). cond b (of_token t w ∷ sections_at t (map (of_token t) ws)) (sections_at t (map (of_token t) ws))) (eq-eqb t t refl) ∙ ap (λ (xs : List Section). of_token t w ∷ xs) (all_own t ws)

  pub sections_of_one : (a n t : ℕ) → a ≤ t → t < a + n → sections_at t (of_tokens a n) ≡ map (of_token t) (written t)
  sections_of_one a zero t low high = absurd (omega arith)
  sections_of_one a (suc n) t low high = filter-append (λ (s : Section). s.tok.0 == t) (map (of_token a) (written a)) (of_tokens (a + 1) n) ∙ ⊎_elim
      (λ (same : a ≡ t).
      let none : sections_at t (of_tokens (a + 1) n) ≡ [] = sections_at-none t (of_tokens (a + 1) n) (All-weaker (λ (s : Section). (a + 1 ≤ s.tok.0) × (s.tok.0 < a + 1 + n)) (λ (s : Section). s.tok.0 ≢ t) (λ s is e. (let from = is.0 in absurd (omega arith))) (of_tokens (a + 1) n) (from_on (a + 1) n)) in
      ap (λ (xs : List Section). sections_at t (map (of_token a) (written a)) ++ xs) none
      ∙ append-nil (sections_at t (map (of_token a) (written a)))
      ∙ ap (λ (u : ℕ). sections_at t (map (of_token u) (written u))) same
      ∙ all_own t (written t))
      (λ (differ : a ≢ t).
      let none : sections_at t (map (of_token a) (written a)) ≡ [] = sections_at-none t (map (of_token a) (written a)) (All-weaker (λ (s : Section). s.tok.0 ≡ a) (λ (s : Section). s.tok.0 ≢ t) (λ s is e. differ (sym is ∙ e)) (map (of_token a) (written a)) (own_token a (written a))) in
      ap (λ (xs : List Section). xs ++ sections_at t (of_tokens (a + 1) n)) none
      ∙ sections_of_one (a + 1) n t (omega arith) (omega arith))
      (cases_eq a t)

  in_order : (a n : ℕ) → ((t : ℕ) → a ≤ t → t < a + n → AreInOrder (map (of_token t) (written t))) → AreInOrder (of_tokens a n)
  in_order a zero each = tt
  in_order a (suc n) each = order-append (map (of_token a) (written a)) (of_tokens (a + 1) n) (each a (omega arith) (omega arith)) (in_order (a + 1) n (λ t low high. each t (omega arith) (omega arith)))
      (All-weaker (λ (s : Section). s.tok.0 ≡ a) (λ (s : Section). All (Precedes s) (of_tokens (a + 1) n))
      (λ s is. All-weaker (λ (x : Section). (a + 1 ≤ x.tok.0) × (x.tok.0 < a + 1 + n)) (Precedes s) (λ x at. inl (let from = at.0 in omega arith)) (of_tokens (a + 1) n) (from_on (a + 1) n))
      (map (of_token a) (written a)) (own_token a (written a)))

-- a token of a machine stays there in a run
still_there : (m : Machine) (events : List Event) (n : Machine) (t : ℕ) (tok : Token) → Run m events n → slice_get m.tokens t ≡ Some tok → (last : Token) × (slice_get n.tokens t ≡ Some last)
still_there m [] n t tok run here = (tok, ap (λ (x : Machine). slice_get x.tokens t) run ∙ here)
still_there m (e ∷ events) n t tok run here =
    let left = token_left m run.0 e t tok here run.1.0 in
    still_there run.0 events n t left.0 run.1.1 left.1.0

token_at : (tokens : List Token) (t : ℕ) → t < length tokens → (tok : Token) × (slice_get tokens t ≡ Some tok)
token_at [] t inside = absurd (omega arith)
token_at (x ∷ tokens) t inside = (get_or (x ∷ tokens) t x, slice_get-get_or (x ∷ tokens) t x inside)

pub length-rows : (tokens : List Token) → length (map values_of tokens) ≡ length tokens
length-rows [] = refl
length-rows (x ∷ tokens) = let rest = length-rows tokens in omega arith

-- what the rows of a machine say of a token
row_of : (tokens : List Token) (t : ℕ) (tok : Token) → slice_get tokens t ≡ Some tok → get_or (map values_of tokens) t ([], 0) ≡ values_of tok
row_of [] t tok here = absurd (cc)
row_of (x ∷ tokens) zero tok here = ap values_of (same_Some x tok here)
row_of (x ∷ tokens) (suc t) tok here = row_of tokens t tok here

settled_at : (tokens : List Token) (t : ℕ) (tok : Token) → slice_get tokens t ≡ Some tok → All IsSettled tokens → IsSettled tok
settled_at [] t tok here all = absurd (cc)
settled_at (x ∷ tokens) zero tok here all = subst IsSettled (same_Some x tok here) (All-head IsSettled x tokens all)
settled_at (x ∷ tokens) (suc t) tok here all = settled_at tokens t tok here (All-tail IsSettled x tokens all)

-- in a safe machine a token that nobody holds exclusively is settled
pub open_settled : (m : Machine) → IsSafe m → All IsOpen m.tokens → All IsSettled m.tokens
open_settled m safe opened k d low = (safe.each_token k d low).settled (opened k d low)

pub settled_chains : (m : Machine) (events : List Event) (n : Machine) → Run m events n → All IsSettled m.tokens → All IsSettled n.tokens → AreInOrder (sections_in m events) × AreSectionChains (rows_of m) (rows_of n) (sections_in m events)
settled_chains m events n run opened closed = (
  in_order (λ t. sections_of t m events) 0 (length m.tokens) (λ t low high.
      let tok = token_at m.tokens t (omega arith) in
      let last = still_there m events n t tok.0 run tok.1 in
      ordered_in_run t tok.0.generation tok.0.row (sections_of t m events) last.0.generation last.0.row (chain_at t tok.0 last.0 tok.1 last.1)),
  record {
    known = All-weaker (λ (s : Section). (0 ≤ s.tok.0) × (s.tok.0 < 0 + length m.tokens)) (λ (s : Section). s.tok.0 < length (rows_of m)) (λ s is. (let long = length-rows m.tokens in omega (arith, is.1))) (sections_in m events) (from_on (λ t. sections_of t m events) 0 (length m.tokens));
    chains = λ t low. (
        let long = length-rows m.tokens in
        let inside : t < length m.tokens = omega arith in
        let tok = token_at m.tokens t inside in
        let last = still_there m events n t tok.0 run tok.1 in
        let first_is = row_of m.tokens t tok.0 tok.1 in
        let last_is = row_of n.tokens t last.0 last.1 in
        let chain = chain_of_run t tok.0.generation tok.0.row (sections_of t m events) last.0.generation last.0.row (chain_at t tok.0 last.0 tok.1 last.1) in
        let own = sections_of_one (λ u. sections_of u m events) 0 (length m.tokens) t (omega arith) (omega arith) in
        subst (λ (r : List ℕ × ℕ). IsSectionChain (row_at (rows_of m) t) (generation_at (rows_of m) t) r.0 r.1 (sections_at t (sections_in m events))) (sym last_is)
        (subst (λ (r : List ℕ × ℕ). IsSectionChain r.0 r.1 last.0.row last.0.generation (sections_at t (sections_in m events))) (sym first_is)
        (subst (λ (xs : List Section). IsSectionChain tok.0.row tok.0.generation last.0.row last.0.generation xs) (sym own) chain)));
  },
)
  where
    chain_at : (t : ℕ) (tok last : Token) → slice_get m.tokens t ≡ Some tok → slice_get n.tokens t ≡ Some last → IsChain tok.generation tok.row (sections_of t m events) last.generation last.row
    chain_at t tok last here there =
        let F : List ℕ → Type 0 = λ row. IsChain tok.generation row (sections_of t m events) last.generation last.first in
        let G : List ℕ → Type 0 = λ row. IsChain tok.generation tok.row (sections_of t m events) last.generation row in
        subst G (sym (settled_at n.tokens t last there closed)) (subst F (sym (settled_at m.tokens t tok here opened)) (are_chain m events n t tok last run here there).0)

pub write_chains : RunsWriteChains
write_chains m events n safe run opened closed = settled_chains m events n run (open_settled m safe opened) (open_settled n (stays m events n safe run) closed)

-- rows and generations, put together again
pub zipped : (tokens : List Token) → zip (map (λ (tok : Token). tok.row) tokens) (map (λ (tok : Token). tok.generation) tokens) ≡ map values_of tokens
zipped [] = refl
zipped (x ∷ tokens) = ap (λ (rows : RowsAt). values_of x ∷ rows) (zipped tokens)

-- a token that nobody holds is held exclusively by nobody
free_open : (tok : Token) → IsFree tok → IsOpen tok
free_open tok free cpu = ap (λ (held : Held). is_exclusive held) (free cpu)

pub write_traces : TracesWriteChains
write_traces m events last safe opened trace =
    let closes = trace.1.1 in
    let n : Machine = trace.0 in
    let good = write_chains m events n safe trace.1.0 opened (All-weaker IsFree IsOpen free_open n.tokens closes.free) in
    let rows : rows_of n ≡ zip last.rows.items last.gens.items =
    sym (ap (λ (rs : List (List ℕ)). zip rs last.gens.items) closes.rows ∙ ap (λ (gs : List ℕ). zip (map (λ (tok : Token). tok.row) n.tokens) gs) closes.gens ∙ zipped n.tokens) in
    (good.0, subst (λ (rs : RowsAt). AreSectionChains (rows_of m) rs (sections_in m events)) rows good.1)
