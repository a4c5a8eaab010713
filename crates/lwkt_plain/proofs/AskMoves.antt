-- Asks about tokens: that they can be performed, and what they leave.
use Rattle.std.proofs.Common.{◌≡◌, ◌≢◌, ◌<◌, ◌≤◌, ◌+◌, ◌-◌, ℕ, zero, suc, List, [], ◌∷◌, ◌++◌, length, get_or, take, drop, reverse, refl, ap, sym, ◌∙◌, subst, arith, Option, Some, None, Bool, true, false}
use Rattle.std.specs.Prelude.{slice_get, All, IsSomeAnd, if◌then◌else◌, ◌==◌, ◌&&◌, not}
use Rattle.std.specs.Option.{option_map_or}
use Rattle.std.specs.List.{list_all}
use Rattle.std.proofs.lemmas.Bool.{eqb-true, eq-eqb, false≢true}
use Rattle.std.proofs.lemmas.List.{length-append, get_or_append_left}
use Rattle.std.proofs.lemmas.List.Folds.{list_all-append}
use Rattle.std.proofs.lemmas.Option.{slice_get_within, none-some, same_Some}
use Rattle.lwkt_base.specs.declared.names.CpuId.{CpuId}
use Rattle.lwkt_base.specs.declared.names.TokId.{TokId}
use Rattle.lwkt_base.specs.declared.names.Mode.{Mode}
use Rattle.lwkt_base.specs.declared.names.Mode.TheVariants.{Exclusive, Shared}
use Rattle.lwkt_base.specs.declared.names.Ref.{Ref}
use Rattle.lwkt_base.specs.declared.faults.Fault.{Fault}
use Rattle.lwkt_base.specs.declared.faults.Fault.TheVariants.{NotHeld, NotLast}
use Rattle.lwkt_base.specs.declared.holdings.Held.{Held}
use Rattle.lwkt_base.specs.declared.holdings.Held.TheVariants.{Nothing, Holds}
use Rattle.lwkt_base.specs.declared.limits.TheConstants.{CPU_LIMIT}
use Rattle.lwkt_base.specs.Holding.{is_held, is_exclusive, mode_of, holding_of}
use Rattle.lwkt_base.specs.Refs.{names, is_alone, is_to, first_mode}
use Rattle.lwkt_base.proofs.HoldingLemmas.{held_named, holding_of-known}
use Rattle.lwkt_core.specs.declared.tokens.Token.{Token}
use Rattle.lwkt_core.specs.declared.events.Event.TheVariants.{Mark, Write, WriteBlob}
use Rattle.lwkt_core.specs.Machine.{machine, Needs}
use Rattle.lwkt_core.specs.Tokens.{held_by, IsExclusiveHolder, TokenNeeds}
use Rattle.lwkt_plain.specs.Sound.{AreSoundTokens, holding_in, AreHeld, IsSoundList}
use Rattle.lwkt_plain.specs.Tokens.{miss_of}
use Rattle.lwkt_plain.proofs.TokenSteps.{held_at}

-- a list that names no other token than its last reference's
and_true : (b : Bool) → (b && true) ≡ b
and_true true = refl
and_true false = refl

pub alone_more : (refs : List Ref) (r : Ref) → is_alone (refs ++ r ∷ []) r.tok.0 ≡ is_alone refs r.tok.0
alone_more refs r =
    list_all-append (is_to r.tok.0) refs (r ∷ [])
    ∙ ap (λ (b : Bool). is_alone refs r.tok.0 && (b && true)) (eq-eqb r.tok.0 r.tok.0 refl)
    ∙ and_true (is_alone refs r.tok.0)

-- a token that a list has exclusively is held exclusively
exclusive_by : (h : Held) → mode_of h ≡ Some Exclusive → is_exclusive h ≡ true
exclusive_by Nothing is = absurd (none-some Exclusive is)
exclusive_by (Holds Exclusive further) is = refl
exclusive_by (Holds Shared further) is = absurd (shared_not (same_Some Shared Exclusive is))
  where
    shared_not : Shared ≡ Exclusive → ⊥
    shared_not same = cc

pub exclusive_holder : (tokens : List Token) (c t : ℕ) (refs : List Ref) (tok : Token) → AreHeld c refs tokens → first_mode refs t ≡ Some Exclusive → slice_get tokens t ≡ Some tok → IsExclusiveHolder tok c
exclusive_holder tokens c t refs tok held first at =
    let own : held_by tok c ≡ holding_of refs t = sym (held_at tokens t tok c at) ∙ held t in
    exclusive_by (held_by tok c) (ap mode_of own ∙ (holding_of-known refs t).0 ∙ first)

-- whether a list names a token, by its first reference's mode
named_by : (h : Held) (b : Bool) → is_held h ≡ b → mode_of h ≡ None → b ≡ false
named_by Nothing b is none = sym is
named_by (Holds mode further) b is none = absurd (none-some mode (sym none))

pub unnamed : (refs : List Ref) (tok : ℕ) → first_mode refs tok ≡ None → names refs tok ≡ false
unnamed refs tok none = named_by (holding_of refs tok) (names refs tok) (held_named refs tok) ((holding_of-known refs tok).0 ∙ none)

held_by_mode : (h : Held) (b : Bool) → is_held h ≡ b → (mode_of h ≡ None → ⊥) → b ≡ true
held_by_mode Nothing b is some = absurd (some refl)
held_by_mode (Holds mode further) b is some = sym is

pub named : (refs : List Ref) (tok : ℕ) → (first_mode refs tok ≡ None → ⊥) → names refs tok ≡ true
named refs tok some = held_by_mode (holding_of refs tok) (names refs tok) (held_named refs tok) (λ none. some (sym (holding_of-known refs tok).0 ∙ none))
