use Rattle.std.proofs.Common.{◌≡◌, ⊎_elim, ℕ, ◌<◌, ◌==◌, Bool, true, false, cond, List, [], ◌∷◌, length, map, set, All, refl, ap, sym, ◌∙◌, subst, arith, Option, Some, None, eqb-true, length-set}
use Rattle.std.specs.Prelude.{slice_get}
use Rattle.std.specs.Option.{option_map_or}
use Rattle.std.proofs.lemmas.Bool.{cases_Bool}
use Rattle.std.proofs.lemmas.List.Elements.{All-nil, All-cons}
use Rattle.std.proofs.lemmas.Option.{slice_get_within}
use Rattle.lwkt_base.specs.declared.sections.Section.{Section}
use Rattle.lwkt_core.specs.declared.events.Event.{Event}
use Rattle.lwkt_core.specs.declared.events.Event.TheVariants.{GiveWritten}
use Rattle.lwkt_core.specs.declared.events.Place.{Place}
use Rattle.lwkt_core.specs.declared.events.Place.TheVariants.{AtToken, AtMessage}
use Rattle.lwkt_core.specs.declared.tokens.Token.{Token}
use Rattle.lwkt_core.specs.Events.{place_of}
use Rattle.lwkt_core.specs.Tokens.{section_at, TokenNeeds, token_after}
use Rattle.lwkt_core.specs.Machine.{Machine, Needs, after, after_at}
use Rattle.lwkt_core.specs.Trace.{Run}
use Rattle.lwkt_core.specs.Headline.{Section as Written, section_of, sections_of}
use Rattle.lwkt_core.specs.SectionChain.{row_at, generation_at, IsSectionChain, sections_at, AreSectionChains}
use Rattle.lwkt_core.specs.RunSections.{of_token, rows_of, sections_named, RunsNameSections}
use Rattle.lwkt_core.proofs.RunLemmas.{there_is, one_section, no_section}
use Rattle.lwkt_core.proofs.RunChainLemmas.{IsSettled, settled_chains, sections_of_one, length-rows}

-- what one event more names of a token
naming_step : (m : Machine) (e : Event) (events : List Event) (t : ℕ) → Needs m e → sections_at t (sections_named events) ≡ map (of_token t) (sections_of t (after m e) events) → sections_at t (sections_named (e ∷ events)) ≡ map (of_token t) (sections_of t m (e ∷ events))
naming_step m (GiveWritten cpu tok section) events t needs rest =
    let e : Event = GiveWritten cpu tok section in
    let found = there_is (slice_get m.tokens tok.0) (λ k. TokenNeeds k e) needs.place in
    let k : Token = found.0 in
    let is : section ≡ section_at tok k = found.1.1.3 in
    let others : List Section = sections_at t (sections_named events) in
    let kept : Bool → List Section = λ b. cond b (section ∷ others) others in
    ⊎_elim
    (λ (same : (tok.0 == t) ≡ true).
    let at : tok.0 ≡ t = eqb-true tok.0 t same in
    let own : (section.tok.0 == t) ≡ true = ap (λ (s : Section). s.tok.0 == t) is ∙ same in
    let here : slice_get m.tokens t ≡ Some k = ap (λ (i : ℕ). slice_get m.tokens i) (sym at) ∙ found.1.0 in
    let as_written : section_at tok k ≡ of_token t (section_of k) = ap (λ (i : ℕ). section_at (record { 0 = i }) k) at in
    ap kept own
    ∙ ap (λ (xs : List Section). section ∷ xs) rest
    ∙ ap (λ (s : Section). s ∷ map (of_token t) (sections_of t (after m e) events)) (is ∙ as_written)
    ∙ sym (ap (λ (ws : List Written). map (of_token t) ws) (one_section t m e events k here same)))
    (λ (differ : (tok.0 == t) ≡ false).
    let other : (section.tok.0 == t) ≡ false = ap (λ (s : Section). s.tok.0 == t) is ∙ differ in
    ap kept other ∙ rest ∙ sym (ap (λ (ws : List Written). map (of_token t) ws) (no_section t m e events differ)))
    (cases_Bool (tok.0 == t))
naming_step m e events t needs rest = rest

pub naming : RunsNameSections
naming m [] n run t = refl
naming m (e ∷ events) n run t =
    naming_step m e events t run.1.0.0 (subst (λ (x : Machine). sections_at t (sections_named events) ≡ map (of_token t) (sections_of t x events)) run.1.0.1 (naming run.0 events n run.1.1 t))

-- an event leaves as many tokens as there were
length_changed : (f : Token → Token) (xs : List Token) (i : ℕ) (o : Option Token) → length (option_map_or (λ x. set xs i (f x)) o xs) ≡ length xs
length_changed f xs i None = refl
length_changed f xs i (Some x) = length-set xs i (f x)

length_left : (m : Machine) (e : Event) (p : Place) → length (after_at m e p).tokens ≡ length m.tokens
length_left m e (AtToken i) = length_changed (λ tok. token_after tok e) m.tokens i (slice_get m.tokens i)
length_left m e (AtMessage i) = refl

-- each section named is of a token that is there
abbrev IsThere : ℕ → Section → Type 0
IsThere count s = s.tok.0 < count

known_step : (m : Machine) (e : Event) (events : List Event) → Needs m e → All (IsThere (length m.tokens)) (sections_named events) → All (IsThere (length m.tokens)) (sections_named (e ∷ events))
known_step m (GiveWritten cpu tok section) events needs rest =
    let found = there_is (slice_get m.tokens tok.0) (λ k. TokenNeeds k (GiveWritten cpu tok section)) needs.place in
    let within : tok.0 < length m.tokens = slice_get_within m.tokens tok.0 found.0 found.1.0 in
    All-cons (IsThere (length m.tokens)) section (sections_named events) (subst (λ (s : Section). IsThere (length m.tokens) s) (sym found.1.1.3) within) rest
known_step m e events needs rest = rest

known : (m : Machine) (events : List Event) (n : Machine) → Run m events n → All (IsThere (length m.tokens)) (sections_named events)
known m [] n run = All-nil (IsThere (length m.tokens))
known m (e ∷ events) n run =
    let rest = known run.0 events n run.1.1 in
    let many : length run.0.tokens ≡ length m.tokens = ap (λ (x : Machine). length x.tokens) run.1.0.1 ∙ length_left m e (place_of e) in
    known_step m e events run.1.0.0 (subst (λ (count : ℕ). All (IsThere count) (sections_named events)) many rest)

-- the sections named are chains
pub named_chains : (m : Machine) (events : List Event) (n : Machine) → Run m events n → All IsSettled m.tokens → All IsSettled n.tokens → AreSectionChains (rows_of m) (rows_of n) (sections_named events)
named_chains m events n run opened closed =
    let long = length-rows m.tokens in
    let chains = (settled_chains m events n run opened closed).1.chains in
    record {
      known = subst (λ (count : ℕ). All (IsThere count) (sections_named events)) (sym long) (known m events n run);
      chains = λ t low. (
          let own = sections_of_one (λ u. sections_of u m events) 0 (length m.tokens) t (omega arith) (omega arith) in
          subst (λ (xs : List Section). IsSectionChain (row_at (rows_of m) t) (generation_at (rows_of m) t) (row_at (rows_of n) t) (generation_at (rows_of n) t) xs) (own ∙ sym (naming m events n run t)) (chains t low));
    }
