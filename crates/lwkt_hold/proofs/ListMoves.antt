use Rattle.std.proofs.Common.{◌≡◌, ◌≢◌, ℕ, ◌+◌, ◌-◌, ◌<◌, ◌≤◌, Bool, true, false, cond, eqb, List, [], ◌∷◌, ◌++◌, length, take, get_or, refl, ap, sym, ◌∙◌, subst, arith, inl, inr, append_assoc}
use Rattle.std.specs.Prelude.{Vec}
use Rattle.std.specs.declared.alloc.Global.{Global}
use Rattle.std.proofs.lemmas.Bool.{eqb-true, eqb-false, cases_Bool, false≢true}
use Rattle.lwkt_base.specs.declared.names.Mode.{Mode}
use Rattle.lwkt_base.specs.declared.names.Ref.{Ref}
use Rattle.lwkt_base.specs.declared.holdings.Held.TheVariants.{Nothing}
use Rattle.lwkt_base.specs.Holding.{Holding, is_held, one_less, added, removed, holding_of, holds_nothing}
use Rattle.lwkt_core.specs.declared.events.Event.{Event}
use Rattle.lwkt_table.specs.declared.seats.Deed.{Deed}
use Rattle.lwkt_bank.specs.declared.views.TokenEntry.{TokenEntry}
use Rattle.lwkt_bank.specs.declared.seats.CpuSeat.{CpuSeat}
use Rattle.lwkt_bank.specs.Seats.{entry, holding, Changes, Looked, Lost}
use Rattle.lwkt_bank.specs.Views.{generation_in, looked}
use Rattle.lwkt_bank.specs.Deeds.{loads, loses}
use Rattle.lwkt_table.specs.History.{steps_in}
use Rattle.lwkt_hold.specs.declared.answers.Missed.{Missed}
use Rattle.lwkt_hold.specs.Runs.{Ran}
use Rattle.lwkt_hold.specs.Misses.{Misses}
use Rattle.lwkt_hold.specs.Rows.{row, first_row, blob, first_blob, SameRow, SameSection, IsAllClean}
use Rattle.lwkt_hold.specs.Takings.{TakesRows}
use Rattle.lwkt_hold.proofs.HoldingMoves.{holding_of_more, removed_added}
use Rattle.lwkt_hold.proofs.GiveMoves.{more_here, held_more, row_from}
use Rattle.lwkt_hold.proofs.RunMoves.{ran_steps}
use Rattle.lwkt_hold.proofs.TakeMoves.{unused, looked-held}

-- a token's row and record, and the first ones, are those that the seat had of it
pub record KeepsRow (s : CpuSeat) (tok : ℕ) (e : TokenEntry) : Type 0 where
  pub row_is : e.row ≡ row s tok
  pub first_is : e.first ≡ first_row s tok
  pub blob_is : e.blob ≡ blob s tok
  pub first_blob_is : e.first_blob ≡ first_blob s tok

pub keeps_from : (s s' : CpuSeat) (tok : ℕ) (e : TokenEntry) → entry s' tok ≡ e → KeepsRow s tok e → SameRow s s' tok
keeps_from s s' tok e is stands = row_from s s' tok e is stands.row_is stands.first_is stands.blob_is stands.first_blob_is

pub same_from : (s s' : CpuSeat) (other : ℕ) → entry s' other ≡ entry s other → SameRow s s' other
same_from s s' other is = row_from s s' other (entry s other) is refl refl refl refl

-- a change of one token by which references are taken: if it was held, its row and record and the first ones stay; if it is held
-- from now on, row and record are the first ones
pub takes_changed : (s s' : CpuSeat) (tok : ℕ) (e : TokenEntry) (made : List Deed) → Changes s s' tok e made → (is_held (holding s tok) ≡ true → KeepsRow s tok e) → (is_held (holding s tok) ≡ false → is_held e.held ≡ true → (e.row ≡ e.first) × (e.blob ≡ e.first_blob)) → TakesRows s s'
takes_changed s s' tok e made c stays begins = record {
  kept = λ other held. elim (cases_Bool (eqb other tok)) [
    | inl is ↦
        let same = eqb-true other tok is in
        let F : ℕ → Type 0 = λ t. SameRow s s' t in
        subst F (sym same) (keeps_from s s' tok e c.here (stays (ap (λ t. is_held (holding s t)) (sym same) ∙ held)))
    | inr is ↦ same_from s s' other (c.else_ other (eqb-false other tok is))
  ];
  begun = λ other free held. (begins_at other free held).0;
  records = λ other free held. (begins_at other free held).1;
}
  where
    begins_at : (other : ℕ) → is_held (holding s other) ≡ false → is_held (holding s' other) ≡ true → (row s' other ≡ first_row s' other) × (blob s' other ≡ first_blob s' other)
    begins_at other free held = elim (cases_Bool (eqb other tok)) [
      | inl is ↦
          let same = eqb-true other tok is in
          let F : ℕ → Type 0 = λ t. (row s' t ≡ first_row s' t) × (blob s' t ≡ first_blob s' t) in
          let free' : is_held (holding s tok) ≡ false = ap (λ t. is_held (holding s t)) (sym same) ∙ free in
          let held' : is_held e.held ≡ true = sym (ap (λ (x : TokenEntry). is_held x.held) c.here) ∙ ap (λ t. is_held (holding s' t)) (sym same) ∙ held in
          let begun = begins free' held' in
          subst F (sym same) (
            ap (λ (x : TokenEntry). x.row) c.here ∙ begun.0 ∙ sym (ap (λ (x : TokenEntry). x.first) c.here),
            ap (λ (x : TokenEntry). x.blob) c.here ∙ begun.1 ∙ sym (ap (λ (x : TokenEntry). x.first_blob) c.here),
          )
      | inr is ↦
          let k = c.else_ other (eqb-false other tok is) in
          absurd (false≢true (sym free ∙ sym (ap (λ (x : TokenEntry). is_held x.held) k) ∙ held))
    ]

-- something was taken, and then no row and no holding changed
pub takes_then_same : (a b c : CpuSeat) → TakesRows a b → holding c ≡ holding b → ((tok : ℕ) → SameRow b c tok) → TakesRows a c
takes_then_same a b c taken kept same = record {
  kept = λ tok held. record {
    row_is = (same tok).row_is ∙ (taken.kept tok held).row_is;
    first_is = (same tok).first_is ∙ (taken.kept tok held).first_is;
    blob_is = (same tok).blob_is ∙ (taken.kept tok held).blob_is;
    first_blob_is = (same tok).first_blob_is ∙ (taken.kept tok held).first_blob_is;
  };
  begun = λ tok free held. (same tok).row_is ∙ taken.begun tok free (ap (λ h. is_held (h tok)) (sym kept) ∙ held) ∙ sym (same tok).first_is;
  records = λ tok free held. (same tok).blob_is ∙ taken.records tok free (ap (λ h. is_held (h tok)) (sym kept) ∙ held) ∙ sym (same tok).first_blob_is;
}

-- a clean seat stays clean when references are taken
pub clean_taken : (s s' : CpuSeat) → TakesRows s s' → IsAllClean s → IsAllClean s'
clean_taken s s' taken clean = record {
  each = λ tok held. elim (cases_Bool (is_held (holding s tok))) [
    | inl was ↦ (taken.kept tok was).row_is ∙ clean.each tok was ∙ sym (taken.kept tok was).first_is
    | inr free ↦ taken.begun tok free held
  ];
  records = λ tok held. elim (cases_Bool (is_held (holding s tok))) [
    | inl was ↦ (taken.kept tok was).blob_is ∙ clean.records tok was ∙ sym (taken.kept tok was).first_blob_is
    | inr free ↦ taken.records tok free held
  ];
}

looked_if : (b : Bool) (s : CpuSeat) (tok : ℕ) (e : TokenEntry) (g : ℕ) → KeepsRow s tok e → KeepsRow s tok (cond b e (record e { generation = g; known = []; known_blob = [] }))
looked_if true s tok e g stands = stands
looked_if false s tok e g stands = record { row_is = stands.row_is; first_is = stands.first_is; blob_is = stands.blob_is; first_blob_is = stands.first_blob_is }

-- what a look leaves of an entry
pub looked-stands : (s : CpuSeat) (tok : ℕ) (e : TokenEntry) (word : ℕ) → KeepsRow s tok e → KeepsRow s tok (looked e word)
looked-stands s tok e word stands = looked_if (eqb e.generation (generation_in word)) s tok e (generation_in word) stands

pub keeps_now : (s : CpuSeat) (tok : ℕ) → KeepsRow s tok (entry s tok)
keeps_now s tok = record { row_is = refl; first_is = refl; blob_is = refl; first_blob_is = refl }

-- a seat that holds nothing is clean
pub clean_empty : (s : CpuSeat) → holding s ≡ holds_nothing → IsAllClean s
clean_empty s empty = record {
  each = λ tok held. absurd (false≢true (sym (ap (λ h. is_held (h tok)) empty) ∙ held));
  records = λ tok held. absurd (false≢true (sym (ap (λ h. is_held (h tok)) empty) ∙ held));
}

-- giving a reference back keeps a clean seat clean
pub clean_given : (s s' : CpuSeat) (tok : ℕ) → is_held (holding s tok) ≡ true → holding s' ≡ removed (holding s) tok → ((other : ℕ) → other ≢ tok → SameSection s s' other) → (is_held (holding s' tok) ≡ true → SameSection s s' tok) → IsAllClean s → IsAllClean s'
clean_given s s' tok was given others still clean = record {
  each = λ other held. (clean_at other held).0;
  records = λ other held. (clean_at other held).1;
}
  where
    stays : (other : ℕ) → SameSection s s' other → is_held (holding s other) ≡ true → (row s' other ≡ first_row s' other) × (blob s' other ≡ first_blob s' other)
    stays other k before = (k.row_is ∙ clean.each other before ∙ sym k.first_is, k.blob_is ∙ clean.records other before ∙ sym k.first_blob_is)

    clean_at : (other : ℕ) → is_held (holding s' other) ≡ true → (row s' other ≡ first_row s' other) × (blob s' other ≡ first_blob s' other)
    clean_at other held = elim (cases_Bool (eqb other tok)) [
      | inl is ↦
          let same = eqb-true other tok is in
          let F : ℕ → Type 0 = λ t. (row s' t ≡ first_row s' t) × (blob s' t ≡ first_blob s' t) in
          subst F (sym same) (stays tok (still (ap (λ t. is_held (holding s' t)) (sym same) ∙ held)) was)
      | inr is ↦
          let before : is_held (holding s other) ≡ true = sym (ap (λ h. is_held (h other)) given ∙ ap (λ b. is_held (cond b (one_less (holding s other)) (holding s other))) is) ∙ held in
          stays other (others other (eqb-false other tok is)) before
    ]

-- so many first references, of which so many were given back
module _ (s : CpuSeat) (refs : List Ref) (count given : ℕ) (more : given < count) (within : count ≤ length refs) (front : holding s ≡ holding_of (take (count - given) refs)) where
  pub back_front : holding s ≡ added (holding_of (take (count - 1 - given) refs)) (get_or refs (count - 1 - given) unused).tok.0 (get_or refs (count - 1 - given) unused).mode
  back_front =
      let e : count - given ≡ (count - 1 - given) + 1 = omega arith in
      let inside : count - 1 - given < length refs = omega arith in
      front ∙ ap (λ n. holding_of (take n refs)) e ∙ holding_of_more refs (count - 1 - given) unused inside

  pub back_held : is_held (holding s (get_or refs (count - 1 - given) unused).tok.0) ≡ true
  back_held =
      let r = get_or refs (count - 1 - given) unused in
      let h = holding_of (take (count - 1 - given) refs) in
      ap (λ x. is_held (x r.tok.0)) back_front ∙ ap is_held (more_here h r.tok.0 r.mode) ∙ held_more (h r.tok.0) r.mode

  pub back_removed : removed (holding s) (get_or refs (count - 1 - given) unused).tok.0 ≡ holding_of (take (count - (given + 1)) refs)
  back_removed =
      let r = get_or refs (count - 1 - given) unused in
      let e : count - 1 - given ≡ count - (given + 1) = omega arith in
      ap (λ x. removed x r.tok.0) back_front ∙ removed_added (holding_of (take (count - 1 - given) refs)) r.tok.0 r.mode ∙ ap (λ n. holding_of (take n refs)) e

-- a missed try stays among the steps when there are steps before and after it
pub misses_between : (P Q : Holding → Type 0) (m n : ℕ) (a b c d : CpuSeat) (t u v w : Vec Event Global) (refs : List Ref) (place : ℕ) (why : Missed) → Ran P m a b t u → Misses b c refs place why → Ran Q n c d v w → Misses a d refs place why
misses_between P Q m n a b c d t u v w refs place why before miss after = record {
  earlier = steps_in before.deeds ++ miss.earlier;
  missed = miss.missed;
  later = miss.later ++ steps_in after.deeds;
  steps = ran_steps Q n c d v w after ∙ ap (λ xs. xs ++ steps_in after.deeds) (miss.steps ∙ ap (λ xs. xs ++ (miss.earlier ++ (miss.missed ++ miss.later))) (ran_steps P m a b t u before)) ∙ simp append_assoc;
  is_miss = miss.is_miss;
}

-- a missed try changes no row
pub looked_rows : (s s' : CpuSeat) (tok word : ℕ) → holding s tok ≡ Nothing → Looked s s' tok word → TakesRows s s'
looked_rows s s' tok word free l =
    let e = entry s tok in
    takes_changed s s' tok (looked e word) (loads s.cpu tok word ∷ []) l.changes
    (λ held. looked-stands s tok e word (keeps_now s tok))
    (λ none held. absurd (false≢true (sym (ap is_held (looked-held e word ∙ free)) ∙ held)))

pub lost_rows : (s s' : CpuSeat) (tok : ℕ) (mode : Mode) (alone : Bool) → holding s tok ≡ Nothing → Lost s s' tok mode alone → TakesRows s s'
lost_rows s s' tok mode alone free l =
    let e = entry s tok in
    let m = looked e l.word in
    takes_changed s s' tok (looked m l.found) (loads s.cpu tok l.word ∷ loses s.cpu tok l.word l.next l.found ∷ []) l.changes
    (λ held. looked-stands s tok m l.found (looked-stands s tok e l.word (keeps_now s tok)))
    (λ none held. absurd (false≢true (sym (ap is_held (looked-held m l.found ∙ looked-held e l.word ∙ free)) ∙ held)))
