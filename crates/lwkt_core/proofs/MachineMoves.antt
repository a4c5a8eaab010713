use Rattle.std.proofs.Common.{eqb, ◌&&◌, ◌≡◌, ◌<◌, ◌≤◌, ◌+◌, ℕ, Bool, true, false, cond, List, length, get_or, set, refl, ap, sym, ◌∙◌, subst, arith, Option, Some, None, length-set}
use Rattle.std.specs.Prelude.{slice_get, slice_set, sum_by, IsSomeAnd}
use Rattle.std.specs.Option.{option_map_or}
use Rattle.std.proofs.lemmas.Bool.{and_parts, eqb-true}
use Rattle.std.proofs.lemmas.List.Sums.{sum_by-set, sum_by_more_le}
use Rattle.std.proofs.lemmas.List.Elements.{All-set}
use Rattle.std.proofs.lemmas.Option.{get_or_from_slice_get, slice_get_within, slice_get_read}
use Rattle.lwkt_base.specs.Holding.{references_in}
use Rattle.lwkt_core.specs.declared.tokens.Token.{Token}
use Rattle.lwkt_core.specs.declared.messages.Message.{Message}
use Rattle.lwkt_core.specs.declared.events.Event.{Event}
use Rattle.lwkt_core.specs.declared.events.Place.{Place}
use Rattle.lwkt_core.specs.declared.events.Place.TheVariants.{AtToken, AtMessage}
use Rattle.lwkt_core.specs.Events.{cpu_of, place_of, adds_reference}
use Rattle.lwkt_core.specs.Tokens.{held_by, IsSafeToken, TokenNeeds, token_after}
use Rattle.lwkt_core.specs.Messages.{IsSafeMessage, MessageNeeds, message_after}
use Rattle.lwkt_core.specs.Machine.{Machine, machine, IsSafe, Needs, PlaceNeeds, references_of, changed, after, after_at}
use Rattle.lwkt_core.proofs.TokenMoves.{IsSafeToken-after, references-after, added_by}
use Rattle.lwkt_core.proofs.MessageMoves.{IsSafeMessage-after}

-- a list with one element changed, where that element is known
pub changed_at : {A : Type 0} (f : A → A) (xs : List A) (i : ℕ) (x : A) → slice_get xs i ≡ Some x → changed f xs i ≡ set xs i (f x)
changed_at f xs i x at = ap (λ o. option_map_or (λ y. slice_set xs i (f y)) o xs) at

-- no processor gets more than 32 references by an event
few_after : (tokens : List Token) (e : Event) (i : ℕ) (tok : Token) → slice_get tokens i ≡ Some tok → cpu_of e < length tok.holders → ((cpu : ℕ) → references_of tokens cpu ≤ 32) → (adds_reference e ≡ true → references_of tokens (cpu_of e) < 32) → (cpu : ℕ) → references_of (set tokens i (token_after tok e)) cpu ≤ 32
few_after tokens e i tok at here few room cpu = go (adds_reference e && eqb (cpu_of e) cpu) refl
  where
    refs : Token → ℕ
    refs t = references_in (held_by t cpu)

    grown : sum_by (λ t. references_in (held_by t cpu)) (set tokens i (token_after tok e)) + references_in (held_by (get_or tokens i tok) cpu) ≡ sum_by (λ t. references_in (held_by t cpu)) tokens + references_in (held_by (token_after tok e) cpu)
    grown = sum_by-set (λ t. references_in (held_by t cpu)) tokens i (token_after tok e) tok (slice_get_within tokens i tok at)

    same : references_in (held_by (get_or tokens i tok) cpu) ≡ references_in (held_by tok cpu)
    same = ap (λ t. references_in (held_by t cpu)) (get_or_from_slice_get tokens i tok tok at)

    most : references_in (held_by (token_after tok e) cpu) ≤ references_in (held_by tok cpu) + added_by e cpu
    most = references-after tok e cpu here

    go : (b : Bool) → (adds_reference e && eqb (cpu_of e) cpu) ≡ b → references_of (set tokens i (token_after tok e)) cpu ≤ 32
    go true is =
        let parts = and_parts (adds_reference e) (eqb (cpu_of e) cpu) is in
        let below : references_of tokens cpu < 32 = subst (λ p. references_of tokens p < 32) (eqb-true (cpu_of e) cpu parts.1) (room parts.0) in
        let one : added_by e cpu ≡ 1 = ap (λ b. cond b 1 0) is in
        omega (arith, grown, same, most, below, one)
    go false is =
        let within = few cpu in
        let none : added_by e cpu ≡ 0 = ap (λ b. cond b 1 0) is in
        omega (arith, grown, same, most, within, none)

-- an event at a token leaves the machine safe
safe_at_token : (m : Machine) (e : Event) (i : ℕ) (o : Option Token) → slice_get m.tokens i ≡ o → IsSomeAnd o (λ tok. TokenNeeds tok e) → cpu_of e < m.cpus → (adds_reference e ≡ true → references_of m.tokens (cpu_of e) < 32) → IsSafe m → IsSafe (after_at m e (AtToken i))
safe_at_token m e i None at needs here room safe = absurd needs
safe_at_token m e i (Some tok) at needs here room safe =
    let S : List Token → Type 0 = λ tokens. IsSafe (record m { tokens = tokens }) in
    let inside = slice_get_within m.tokens i tok at in
    let token : IsSafeToken m.cpus tok = subst (IsSafeToken m.cpus) (get_or_from_slice_get m.tokens i tok tok at) (safe.each_token i tok inside) in
    let limit = safe.processors in
    let there : cpu_of e < length tok.holders = (let eight = token.eight_holders in omega arith) in
    subst S (sym (changed_at (λ t. token_after t e) m.tokens i tok at)) (record {
      processors = safe.processors;
      token_limit = (let l = length-set m.tokens i (token_after tok e) in let k = safe.token_limit in omega arith);
      each_token = All-set (IsSafeToken m.cpus) m.tokens i (token_after tok e) (IsSafeToken-after m.cpus tok e limit here token needs) safe.each_token;
      few = few_after m.tokens e i tok at there safe.few room;
      message_limit = safe.message_limit;
      each_message = safe.each_message;
    })

-- an event at a message leaves the machine safe
safe_at_message : (m : Machine) (e : Event) (i : ℕ) (o : Option Message) → slice_get m.messages i ≡ o → IsSomeAnd o (λ msg. MessageNeeds m.cpus msg e) → cpu_of e < m.cpus → IsSafe m → IsSafe (after_at m e (AtMessage i))
safe_at_message m e i None at needs here safe = absurd needs
safe_at_message m e i (Some msg) at needs here safe =
    let S : List Message → Type 0 = λ messages. IsSafe (record m { messages = messages }) in
    let inside = slice_get_within m.messages i msg at in
    let message : IsSafeMessage m.cpus msg = subst (IsSafeMessage m.cpus) (get_or_from_slice_get m.messages i msg msg at) (safe.each_message i msg inside) in
    subst S (sym (changed_at (λ t. message_after t e) m.messages i msg at)) (record {
      processors = safe.processors;
      token_limit = safe.token_limit;
      each_token = safe.each_token;
      few = safe.few;
      message_limit = (let l = length-set m.messages i (message_after msg e) in let k = safe.message_limit in omega arith);
      each_message = All-set (IsSafeMessage m.cpus) m.messages i (message_after msg e) (IsSafeMessage-after m.cpus msg e message needs here) safe.each_message;
    })

-- each event that can happen leaves the machine safe
pub IsSafe-after : (m : Machine) (e : Event) → IsSafe m → Needs m e → IsSafe (after m e)
IsSafe-after m e safe needs = go (place_of e) needs.place
  where
    go : (place : Place) → PlaceNeeds m e place → IsSafe (after_at m e place)
    go (AtToken i) place = safe_at_token m e i (slice_get m.tokens i) refl place needs.processor needs.room safe
    go (AtMessage i) place = safe_at_message m e i (slice_get m.messages i) refl place needs.processor safe

-- what an event at a token needs of it
pub needs_of_token : (m : Machine) (e : Event) (i : ℕ) → place_of e ≡ AtToken i → Needs m e → IsSomeAnd (slice_get m.tokens i) (λ tok. TokenNeeds tok e)
needs_of_token m e i at needs = subst (PlaceNeeds m e) at needs.place

-- what an event at a message needs of it
pub needs_of_message : (m : Machine) (e : Event) (i : ℕ) → place_of e ≡ AtMessage i → Needs m e → IsSomeAnd (slice_get m.messages i) (λ msg. MessageNeeds m.cpus msg e)
needs_of_message m e i at needs = subst (PlaceNeeds m e) at needs.place

-- an event at a token leaves the machine with that token changed
pub after_token : (m : Machine) (e : Event) (i : ℕ) (tokens : List Token) → place_of e ≡ AtToken i → tokens ≡ changed (λ tok. token_after tok e) m.tokens i → machine m.cpus tokens m.messages ≡ after m e
after_token m e i tokens at is = ap (λ ts. machine m.cpus ts m.messages) is ∙ ap (after_at m e) (sym at)

-- an event at a message leaves the machine with that message changed
pub after_message : (m : Machine) (e : Event) (i : ℕ) (messages : List Message) → place_of e ≡ AtMessage i → messages ≡ changed (λ msg. message_after msg e) m.messages i → machine m.cpus m.tokens messages ≡ after m e
after_message m e i messages at is = ap (λ ms. machine m.cpus m.tokens ms) is ∙ ap (after_at m e) (sym at)

-- what an event leaves is safe, however it is written
pub IsSafe_left : (m n : Machine) (e : Event) → IsSafe m → Needs m e → n ≡ after m e → IsSafe n
IsSafe_left m n e safe needs is = subst IsSafe (sym is) (IsSafe-after m e safe needs)

-- no token has more references of a processor than all tokens together
pub references_le : (tokens : List Token) (cpu i : ℕ) (tok : Token) → slice_get tokens i ≡ Some tok → references_in (held_by tok cpu) ≤ references_of tokens cpu
references_le tokens cpu i tok at =
    let h = sum_by_more_le (λ t. references_in (held_by t cpu)) tokens i tok (slice_get_within tokens i tok at) in
    let e : references_in (held_by (get_or tokens i tok) cpu) ≡ references_in (held_by tok cpu) = ap (λ t. references_in (held_by t cpu)) (get_or_from_slice_get tokens i tok tok at) in
    omega (arith, h, e)

-- an element that was read is the one at its place
pub read_at : {A : Type 0} (xs : List A) (i : ℕ) (x : A) (P : A → Type 0) → IsSomeAnd (slice_get xs i) P → x ≡ get_or xs i x → slice_get xs i ≡ Some x
read_at {A} xs i x P some is = go (slice_get xs i) refl some
  where
    go : (o : Option A) → slice_get xs i ≡ o → IsSomeAnd o P → slice_get xs i ≡ Some x
    go None at none = absurd none
    go (Some y) at holds = slice_get_read xs (length xs) i x refl (slice_get_within xs i y at) is
