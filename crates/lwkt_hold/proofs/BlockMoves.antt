use Rattle.std.proofs.Common.{◌≡◌, ◌≢◌, ℕ, ◌-◌, ◌<◌, ◌≤◌, Bool, true, false, cond, eqb, ne_eqb, List, length, take, get_or, refl, ap, sym, ◌∙◌, subst, arith, inl, inr, Option, Some, None}
use Rattle.std.specs.Prelude.{IsSomeAnd, slice_get}
use Rattle.std.proofs.lemmas.Bool.{eqb-true, eqb-false, cases_Bool, false≢true}
use Rattle.std.proofs.lemmas.Option.{slice_get-get_or}
use Rattle.lwkt_base.specs.declared.names.TokId.{TokId}
use Rattle.lwkt_base.specs.declared.names.Mode.{Mode}
use Rattle.lwkt_base.specs.declared.names.Mode.TheVariants.{Exclusive, Shared}
use Rattle.lwkt_base.specs.declared.names.Ref.{Ref}
use Rattle.lwkt_base.specs.declared.holdings.Held.{Held}
use Rattle.lwkt_base.specs.declared.holdings.Held.TheVariants.{Nothing, Holds}
use Rattle.lwkt_base.specs.Holding.{Holding, is_held, is_exclusive, one_more, added, holding_of, holds_nothing}
use Rattle.lwkt_bank.specs.declared.seats.CpuSeat.{CpuSeat}
use Rattle.lwkt_bank.specs.Seats.{bank_of, entry, holding}
use Rattle.lwkt_base.specs.Refs.{names}
use Rattle.lwkt_hold.specs.Rows.{row, first_row, blob, first_blob, IsBroken, SameSection, GivesBack, GivenUp, IsFirstSoFar, first_of}
use Rattle.lwkt_base.proofs.HoldingLemmas.{held_named}
use Rattle.lwkt_hold.proofs.GiveMoves.{more_here, held_more, same_law, same_then, section_from}

exclusive_more : (held : Held) (mode : Mode) → is_held held ≡ true → is_exclusive (one_more held mode) ≡ is_exclusive held
exclusive_more Nothing mode is = cc
exclusive_more (Holds Exclusive further) mode is = refl
exclusive_more (Holds Shared further) mode is = refl

-- what another token has, with one reference more to this one
more_elsewhere_if : (b : Bool) (x y : Held) → b ≡ false → cond b x y ≡ y
more_elsewhere_if true x y is = cc
more_elsewhere_if false x y is = refl

more_elsewhere : (h : Holding) (tok other : ℕ) (mode : Mode) → eqb other tok ≡ false → added h tok mode other ≡ h other
more_elsewhere h tok other mode away = more_elsewhere_if (eqb other tok) (one_more (h other) mode) (h other) away

-- a broken section stays one while nothing of it changes
broken_back : (a s : CpuSeat) (tok : ℕ) → bank_of s ≡ bank_of a → row s tok ≡ row a tok → blob s tok ≡ blob a tok → is_exclusive (holding s tok) ≡ is_exclusive (holding a tok) → IsBroken s tok → IsBroken a tok
broken_back a s tok bank same alike exclusive b = record { exclusive = sym exclusive ∙ b.exclusive; broken = λ meets. b.broken (same_law a s tok bank same alike meets) }

broken_on : (a s : CpuSeat) (tok : ℕ) → bank_of s ≡ bank_of a → row s tok ≡ row a tok → blob s tok ≡ blob a tok → is_exclusive (holding s tok) ≡ is_exclusive (holding a tok) → IsBroken a tok → IsBroken s tok
broken_on a s tok bank same alike exclusive b = broken_back s a tok (sym bank) (sym same) (sym alike) (sym exclusive) b

held_exclusive : (held : Held) → is_exclusive held ≡ true → is_held held ≡ true
held_exclusive Nothing is = cc
held_exclusive (Holds mode further) is = refl

-- nothing was restored yet
pub first_none : (s : CpuSeat) (refs : List Ref) → IsFirstSoFar s refs s None
first_none s refs tok free broken = false≢true (sym free ∙ held_exclusive (holding s tok) broken.exclusive)

-- nothing was given up yet
pub given_none : (s : CpuSeat) → GivenUp s s
given_none s = record {
  same = λ tok held. (section_from s s tok (entry s tok) refl refl refl refl refl refl refl, refl);
  given = λ tok free. (λ broken. absurd (false≢true (sym free ∙ held_exclusive (holding s tok) broken.exclusive)), λ fine. refl);
  records = λ tok free. (λ broken. absurd (false≢true (sym free ∙ held_exclusive (holding s tok) broken.exclusive)), λ fine. refl);
}

-- one reference more is given back
module _ (a s s' : CpuSeat) (h : Holding) (tok : TokId) (mode : Mode) (restored : Bool) (bank : bank_of s ≡ bank_of a) (was : holding s ≡ added h tok.0 mode) (now : holding s' ≡ h) (up : GivenUp a s) (back : GivesBack s s' tok.0 restored) where
  here : holding s tok.0 ≡ one_more (holding s' tok.0) mode
  here = ap (λ x. x tok.0) was ∙ more_here h tok.0 mode ∙ ap (λ x. one_more (x tok.0) mode) (sym now)

  held_here : is_held (holding s tok.0) ≡ true
  held_here = ap is_held here ∙ held_more (holding s' tok.0) mode

  elsewhere : (other : ℕ) → eqb other tok.0 ≡ false → holding s' other ≡ holding s other
  elsewhere other away = ap (λ x. x other) now ∙ sym (more_elsewhere h tok.0 other mode away) ∙ ap (λ x. x other) (sym was)

  kept : SameSection a s tok.0 × (is_exclusive (holding s tok.0) ≡ is_exclusive (holding a tok.0))
  kept = up.same tok.0 held_here

  back_here : IsBroken s tok.0 → IsBroken a tok.0
  back_here = broken_back a s tok.0 bank kept.0.row_is kept.0.blob_is kept.1

  on_here : IsBroken a tok.0 → IsBroken s tok.0
  on_here = broken_on a s tok.0 bank kept.0.row_is kept.0.blob_is kept.1

  still_here : is_held (holding s' tok.0) ≡ true → SameSection a s' tok.0 × (is_exclusive (holding s' tok.0) ≡ is_exclusive (holding a tok.0))
  still_here held = (
    same_then a s s' tok.0 kept.0 (back.still held),
    sym (exclusive_more (holding s' tok.0) mode held) ∙ ap is_exclusive (sym here) ∙ kept.1,
  )

  given_here : is_held (holding s' tok.0) ≡ false → (IsBroken a tok.0 → row s' tok.0 ≡ first_row a tok.0) × (¬ IsBroken a tok.0 → row s' tok.0 ≡ row a tok.0)
  given_here free = elim (cases_Bool restored) [
    | inl is ↦ (
      λ broken. (back.yes is).1 ∙ kept.0.first_is,
      λ fine. absurd (fine (back_here (back.yes is).0)),
    )
    | inr is ↦ (
      λ broken. absurd ((back.no is).1 free (on_here broken)),
      λ fine. (back.no is).0 ∙ kept.0.row_is,
    )
  ]

  records_here : is_held (holding s' tok.0) ≡ false → (IsBroken a tok.0 → blob s' tok.0 ≡ first_blob a tok.0) × (¬ IsBroken a tok.0 → blob s' tok.0 ≡ blob a tok.0)
  records_here free = elim (cases_Bool restored) [
    | inl is ↦ (
      λ broken. back.yes_blob is ∙ kept.0.first_blob_is,
      λ fine. absurd (fine (back_here (back.yes is).0)),
    )
    | inr is ↦ (
      λ broken. absurd ((back.no is).1 free (on_here broken)),
      λ fine. back.no_blob is ∙ kept.0.blob_is,
    )
  ]

  pub given_more : GivenUp a s'
  given_more = record {
    same = λ other held. elim (cases_Bool (eqb other tok.0)) [
      | inl is ↦
          let same = eqb-true other tok.0 is in
          let F : ℕ → Type 0 = λ t. SameSection a s' t × (is_exclusive (holding s' t) ≡ is_exclusive (holding a t)) in
          subst F (sym same) (still_here (ap (λ t. is_held (holding s' t)) (sym same) ∙ held))
      | inr is ↦
          let e = elsewhere other is in
          let k = up.same other (ap is_held (sym e) ∙ held) in
          let m = back.others other (eqb-false other tok.0 is) in
          (same_then a s s' other k.0 m, ap is_exclusive e ∙ k.1)
    ];
    given = λ other free. elim (cases_Bool (eqb other tok.0)) [
      | inl is ↦
          let same = eqb-true other tok.0 is in
          let F : ℕ → Type 0 = λ t. (IsBroken a t → row s' t ≡ first_row a t) × (¬ IsBroken a t → row s' t ≡ row a t) in
          subst F (sym same) (given_here (ap (λ t. is_held (holding s' t)) (sym same) ∙ free))
      | inr is ↦
          let k = up.given other (ap is_held (sym (elsewhere other is)) ∙ free) in
          let m = back.others other (eqb-false other tok.0 is) in
          (λ broken. m.row_is ∙ k.0 broken, λ fine. m.row_is ∙ k.1 fine)
    ];
    records = λ other free. elim (cases_Bool (eqb other tok.0)) [
      | inl is ↦
          let same = eqb-true other tok.0 is in
          let F : ℕ → Type 0 = λ t. (IsBroken a t → blob s' t ≡ first_blob a t) × (¬ IsBroken a t → blob s' t ≡ blob a t) in
          subst F (sym same) (records_here (ap (λ t. is_held (holding s' t)) (sym same) ∙ free))
      | inr is ↦
          let k = up.records other (ap is_held (sym (elsewhere other is)) ∙ free) in
          let m = back.others other (eqb-false other tok.0 is) in
          (λ broken. m.blob_is ∙ k.0 broken, λ fine. m.blob_is ∙ k.1 fine)
    ];
  }

  -- the first token restored so far
  module _ (refs : List Ref) (place : ℕ) (at_place : IsSomeAnd (slice_get refs place) (λ r. r.tok.0 ≡ tok.0)) (front : h ≡ holding_of (take place refs)) where
    none_yet : restored ≡ false → ((other : ℕ) → is_held (holding s other) ≡ false → ¬ IsBroken a other) → (other : ℕ) → is_held (holding s' other) ≡ false → ¬ IsBroken a other
    none_yet is before other free broken = elim (cases_Bool (eqb other tok.0)) [
      | inl one ↦
          let same = eqb-true other tok.0 one in
          let F : ℕ → Type 0 = λ t. IsBroken a t in
          (back.no is).1 (ap (λ t. is_held (holding s' t)) (sym same) ∙ free) (on_here (subst F same broken))
      | inr two ↦ before other (ap is_held (sym (elsewhere other two)) ∙ free) broken
    ]

    first_here : restored ≡ true → names (take place refs) tok.0 ≡ false
    first_here is = sym (held_named (take place refs) tok.0) ∙ ap (λ x. is_held (x tok.0)) (sym (now ∙ front)) ∙ (back.yes is).2

    in_front : ((other : ℕ) → is_held (holding s other) ≡ false → ¬ IsBroken a other) → (other : ℕ) → IsBroken a other → other ≢ tok.0 → names (take place refs) other ≡ true
    in_front before other broken away = elim (cases_Bool (is_held (holding s' other))) [
      | inl held ↦ sym (held_named (take place refs) other) ∙ ap (λ x. is_held (x other)) (sym (now ∙ front)) ∙ held
      | inr free ↦ absurd (before other (ap is_held (sym (elsewhere other (ne other tok.0 away))) ∙ free) broken)
    ]
      where
        ne : (x y : ℕ) → x ≢ y → eqb x y ≡ false
        ne x y apart = ne_eqb x y apart

    pub first_more : (first : Option TokId) → IsFirstSoFar a refs s first → IsFirstSoFar a refs s' (first_of first restored tok)
    first_more first so_far = go first restored refl so_far
      where
        go : (o : Option TokId) (b : Bool) → restored ≡ b → IsFirstSoFar a refs s o → IsFirstSoFar a refs s' (first_of o b tok)
        go (Some t) b is before = before
        go None true is before = record { is_broken = back_here (back.yes is).0; place = place; at_place = at_place; is_first = first_here is; others_in_front = in_front before }
        go None false is before = none_yet is before

-- the token of the reference of a place
pub token_at : (refs : List Ref) (place : ℕ) (d : Ref) → place < length refs → IsSomeAnd (slice_get refs place) (λ r. r.tok.0 ≡ (get_or refs place d).tok.0)
token_at refs place d within = let F : Option Ref → Type 0 = λ o. IsSomeAnd o (λ r. r.tok.0 ≡ (get_or refs place d).tok.0) in subst F (sym (slice_get-get_or refs place d within)) refl

-- everything was given up
pub all_given : (s : CpuSeat) (refs : List Ref) (count given : ℕ) → count ≤ given → holding s ≡ holding_of (take (count - given) refs) → holding s ≡ holds_nothing
all_given s refs count given done front = let e : count - given ≡ 0 = omega arith in front ∙ ap (λ n. holding_of (take n refs)) e

pub none_broken : (a s : CpuSeat) (refs : List Ref) (first : Option TokId) → holding s ≡ holds_nothing → first ≡ None → IsFirstSoFar a refs s first → (tok : ℕ) → IsBroken a tok → ⊥
none_broken a s refs first empty is so_far tok broken =
    let F : Option TokId → Type 0 = λ o. IsFirstSoFar a refs s o in
    (subst F is so_far) tok (ap (λ h. is_held (h tok)) empty) broken
