-- What is so of each token before and after a step is so before and after steps.
use Rattle.std.proofs.Common.{◌≡◌, ℕ, zero, suc, List, [], ◌∷◌, ◌++◌, length, refl, sym, subst, Option, Some, None}
use Rattle.std.specs.Prelude.{slice_get, slice_set}
use Rattle.std.specs.Option.{option_map_or}
use Rattle.lwkt_base.specs.declared.names.CpuId.{CpuId}
use Rattle.lwkt_base.specs.declared.names.Ref.{Ref}
use Rattle.lwkt_core.specs.declared.tokens.Token.{Token}
use Rattle.lwkt_core.specs.declared.events.Event.{Event}
use Rattle.lwkt_core.specs.declared.events.Place.{Place}
use Rattle.lwkt_core.specs.declared.events.Place.TheVariants.{AtToken, AtMessage}
use Rattle.lwkt_core.specs.Events.{place_of}
use Rattle.lwkt_core.specs.Machine.{machine, changed, after_at}
use Rattle.lwkt_core.specs.Takings.{taking_event}
use Rattle.lwkt_core.specs.Tokens.{token_after}
use Rattle.lwkt_base.specs.declared.names.TokId.{TokId}
use Rattle.lwkt_plain.specs.declared.nexts.Miss.{Miss}
use Rattle.lwkt_plain.specs.Tokens.{stepped, miss_of, given, Gave, give, gives, Tried, takes}
use Rattle.lwkt_plain.proofs.Takings.{after_miss, takes_none, takes_more}

-- each token that is there now was there before, and it is so of both
abbrev pub RelatesAt : (Token → Token → Type 0) → Option Token → Option Token → Type 0
RelatesAt R None old = Unit {0}
RelatesAt R (Some new) None = ⊥
RelatesAt R (Some new) (Some old) = R old new

abbrev pub Relates : (Token → Token → Type 0) → List Token → List Token → Type 0
Relates R old new = (i : ℕ) → RelatesAt R (slice_get new i) (slice_get old i)

module _ (R : Token → Token → Type 0) (self : (tok : Token) → R tok tok) where
  same_at : (o : Option Token) → RelatesAt R o o
  same_at None = tt
  same_at (Some tok) = self tok

  pub relates_same : (tokens : List Token) → Relates R tokens tokens
  relates_same tokens i = same_at (slice_get tokens i)

  -- one token changed
  tail_by : (f : Token → Token) (x : Token) (xs : List Token) (j : ℕ) (o : Option Token) → option_map_or (λ y. slice_set (x ∷ xs) (suc j) (f y)) o (x ∷ xs) ≡ x ∷ option_map_or (λ y. slice_set xs j (f y)) o xs
  tail_by f x xs j None = refl
  tail_by f x xs j (Some y) = refl

  changed_tail : (f : Token → Token) (x : Token) (xs : List Token) (j : ℕ) → changed f (x ∷ xs) (suc j) ≡ x ∷ changed f xs j
  changed_tail f x xs j = tail_by f x xs j (slice_get xs j)

  pub relates_changed : (f : Token → Token) → ((t : Token) → R t (f t)) → (tokens : List Token) (j : ℕ) → Relates R tokens (changed f tokens j)
  relates_changed f so [] j i = relates_same [] i
  relates_changed f so (x ∷ xs) zero zero = so x
  relates_changed f so (x ∷ xs) zero (suc i) = relates_same xs i
  relates_changed f so (x ∷ xs) (suc j) zero =
      subst (λ (ys : List Token). RelatesAt R (slice_get ys 0) (Some x)) (sym (changed_tail f x xs j)) (same_at (Some x))
  relates_changed f so (x ∷ xs) (suc j) (suc i) =
      subst (λ (ys : List Token). RelatesAt R (slice_get ys (suc i)) (slice_get xs i)) (sym (changed_tail f x xs j)) (relates_changed f so xs j i)

  -- by an event
  step_at : (tokens : List Token) (e : Event) (place : Place) → ((tok : Token) → R tok (token_after tok e)) → Relates R tokens (after_at (machine 0 tokens []) e place).tokens
  step_at tokens e (AtToken i) so = relates_changed (λ tok. token_after tok e) so tokens i
  step_at tokens e (AtMessage i) so = relates_same tokens

  pub step_relates : (tokens : List Token) (e : Event) → ((tok : Token) → R tok (token_after tok e)) → Relates R tokens (stepped tokens e)
  step_relates tokens e so = step_at tokens e (place_of e) so

  module _ (both : (a b c : Token) → R a b → R b c → R a c) where
    both_at : (a b c : Option Token) → RelatesAt R b a → RelatesAt R c b → RelatesAt R c a
    both_at a b None one other = tt
    both_at a None (Some z) one other = absurd other
    both_at None (Some y) (Some z) one other = absurd one
    both_at (Some x) (Some y) (Some z) one other = both x y z one other

    pub relates_both : (a b c : List Token) → Relates R a b → Relates R b c → Relates R a c
    relates_both a b c one other i = both_at (slice_get a i) (slice_get b i) (slice_get c i) (one i) (other i)

    -- by what is given back
    module _ (gives_so : (cpu : CpuId) (t : TokId) (tok : Token) → R tok (given cpu t tok)) where
      pub give_relates : (cpu : CpuId) (g : Gave) (r : Ref) → Relates R g.tokens (give cpu g r).tokens
      give_relates cpu g r = relates_changed (given cpu r.tok) (gives_so cpu r.tok) g.tokens r.tok.0

      pub gives_relates : (cpu : CpuId) (tokens : List Token) (refs : List Ref) → Relates R tokens (gives cpu tokens refs).tokens
      unfolding gives
      gives_relates cpu tokens [] = relates_same tokens
      gives_relates cpu tokens (r ∷ refs) = relates_both tokens (gives cpu tokens refs).tokens (give cpu (gives cpu tokens refs) r).tokens (gives_relates cpu tokens refs) (give_relates cpu (gives cpu tokens refs) r)

      -- by a try of a list
      module _ (takes_so : (cpu : CpuId) (front : List Ref) (r : Ref) (tok : Token) → R tok (token_after tok (taking_event cpu front r))) where
        after_relates : (cpu : CpuId) (refs : List Ref) (tokens : List Token) (front : List Ref) (r : Ref) (rest : List Ref) (why : Option Miss) → Relates R (stepped tokens (taking_event cpu front r)) (takes cpu refs (stepped tokens (taking_event cpu front r)) (front ++ r ∷ []) rest).tokens → Relates R tokens (after_miss cpu refs tokens front r rest why).tokens
        after_relates cpu refs tokens front r rest None ih =
            let next = stepped tokens (taking_event cpu front r) in
            relates_both tokens next (takes cpu refs next (front ++ r ∷ []) rest).tokens (step_relates tokens (taking_event cpu front r) (takes_so cpu front r)) ih
        after_relates cpu refs tokens front r rest (Some why) ih = gives_relates cpu tokens front

        pub takes_relates : (cpu : CpuId) (refs rest : List Ref) (tokens : List Token) (front : List Ref) → Relates R tokens (takes cpu refs tokens front rest).tokens
        takes_relates cpu refs [] tokens front = subst (λ (x : Tried). Relates R tokens x.tokens) (sym (takes_none cpu refs tokens front)) (relates_same tokens)
        takes_relates cpu refs (r ∷ rest) tokens front =
            subst (λ (x : Tried). Relates R tokens x.tokens) (sym (takes_more cpu refs tokens front r rest))
            (after_relates cpu refs tokens front r rest (miss_of tokens refs front r) (takes_relates cpu refs rest (stepped tokens (taking_event cpu front r)) (front ++ r ∷ [])))
