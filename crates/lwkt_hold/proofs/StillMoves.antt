-- A word that refused a list, looked at again.
use Rattle.std.proofs.Common.{◌≡◌, ◌≢◌, ℕ, ◌<◌, Bool, true, false, eqb, List, [], ◌∷◌, ◌++◌, length, take, get_or, refl, ap, sym, ◌∙◌, subst, inl, inr, Option, Some, None}
use Rattle.std.specs.Prelude.{◌⊎◌, IsSomeAnd, slice_get}
use Rattle.std.proofs.lemmas.Bool.{eqb-true, eqb-false, cases_Bool}
use Rattle.std.proofs.lemmas.Option.{slice_get-get_or, slice_get_within}
use Rattle.std.proofs.lemmas.List.{append-nil}
use Rattle.lwkt_base.specs.declared.names.Ref.{Ref}
use Rattle.lwkt_base.specs.declared.names.Mode.{Mode}
use Rattle.lwkt_base.specs.declared.words.Decision.TheVariants.{Held, Marked}
use Rattle.lwkt_table.specs.declared.seats.WordStep.{WordStep}
use Rattle.lwkt_bank.specs.declared.seats.CpuSeat.{CpuSeat}
use Rattle.lwkt_bank.specs.Seats.{entry, steps_of, Decides, Looked, Lost}
use Rattle.lwkt_bank.specs.Views.{load, looked}
use Rattle.lwkt_bank.specs.Deeds.{loads}
use Rattle.lwkt_hold.specs.declared.answers.Missed.TheVariants.{Busy}
use Rattle.lwkt_base.specs.Refs.{is_alone, names}
use Rattle.lwkt_hold.specs.Fronts.{IsFront}
use Rattle.lwkt_hold.specs.Misses.{IsMiss, Misses, IsRefusing}
use Rattle.lwkt_hold.specs.Rows.{SameRow}
use Rattle.lwkt_hold.specs.Stays.{Stays, RunsUnseen}
use Rattle.lwkt_hold.proofs.RunMoves.{changed_steps, ran_quiet}
use Rattle.lwkt_hold.proofs.TakeMoves.{looked-held}
use Rattle.lwkt_hold.proofs.ListMoves.{keeps_from, same_from, keeps_now, looked-stands}

-- a look at the reference of a place
pub looked_stays : (s s' : CpuSeat) (refs list : List Ref) (at : ℕ) (d : Ref) (found word : ℕ) (still : Bool) → refs ≡ list → at < length refs → Looked s s' (get_or refs at d).tok.0 found → (still ≡ true → found ≡ word) → (still ≡ false → found ≢ word) → Stays s s' list at word still
looked_stays s s' refs list at d found word still same within l on off =
    let r = get_or refs at d in
    let F : List Ref → Type 0 = λ xs. slice_get xs at ≡ Some r in
    record {
      at = r;
      at_place = subst F same (slice_get-get_or refs at d within);
      found = found;
      looked = l;
      steps = changed_steps s s' r.tok.0 (looked (entry s r.tok.0) found) (loads s.cpu r.tok.0 found ∷ []) l.changes;
      yes = on;
      no = off;
    }

-- it has no event
pub looked_unseen : (s s' : CpuSeat) (tok found : ℕ) → Looked s s' tok found → RunsUnseen s s'
looked_unseen s s' tok found l = λ refs t. ran_quiet (IsFront refs) s s' tok (looked (entry s tok) found) (loads s.cpu tok found ∷ []) t l.changes (looked-held (entry s tok) found) (inl (refl, refl)) refl

-- it changes no row
pub looked_same : (s s' : CpuSeat) (tok found : ℕ) → Looked s s' tok found → (other : ℕ) → SameRow s s' other
looked_same s s' tok found l other = elim (cases_Bool (eqb other tok)) [
  | inl is ↦
      let same = eqb-true other tok is in
      let e = entry s tok in
      let F : ℕ → Type 0 = λ t. SameRow s s' t in
      subst F (sym same) (keeps_from s s' tok (looked e found) l.changes.here (looked-stands s tok e found (keeps_now s tok)))
  | inr is ↦ same_from s s' other (l.changes.else_ other (eqb-false other tok is))
]

-- nor does an exchange that lost
pub lost_same : (s s' : CpuSeat) (tok : ℕ) (mode : Mode) (alone : Bool) → Lost s s' tok mode alone → (other : ℕ) → SameRow s s' other
lost_same s s' tok mode alone l other = elim (cases_Bool (eqb other tok)) [
  | inl is ↦
      let same = eqb-true other tok is in
      let e = entry s tok in
      let m = looked e l.word in
      let F : ℕ → Type 0 = λ t. SameRow s s' t in
      subst F (sym same) (keeps_from s s' tok (looked m l.found) l.changes.here (looked-stands s tok m l.found (looked-stands s tok e l.word (keeps_now s tok))))
  | inr is ↦ same_from s s' other (l.changes.else_ other (eqb-false other tok is))
]

-- the word of a refusal is one that refuses
refusing_at : (o : Option Ref) (refs : List Ref) (place word : ℕ) (made : List WordStep) → IsSomeAnd o (λ r. (names (take place refs) r.tok.0 ≡ false) × IsMiss r.tok.0 r.mode (is_alone refs r.tok.0) (Busy word) made) → IsSomeAnd o (λ r. (names (take place refs) r.tok.0 ≡ false) × (Decides word r.mode (is_alone refs r.tok.0) Held ⊎ Decides word r.mode (is_alone refs r.tok.0) Marked))
refusing_at None refs place word made is = is
refusing_at (Some r) refs place word made is = (is.0, is.1.0)

pub refusing : (a b : CpuSeat) (refs : List Ref) (place word : ℕ) → Misses a b refs place (Busy word) → IsRefusing refs place word
refusing a b refs place word m = refusing_at (slice_get refs place) refs place word m.missed m.is_miss

-- the place of a reference that is refused is one of the list
within_at : (o : Option Ref) (P : Ref → Type 0) (refs : List Ref) (place : ℕ) → slice_get refs place ≡ o → IsSomeAnd o P → place < length refs
within_at None P refs place at is = absurd is
within_at (Some r) P refs place at is = slice_get_within refs place r at

pub refusing_within : (refs : List Ref) (place word : ℕ) → IsRefusing refs place word → place < length refs
refusing_within refs place word is = within_at (slice_get refs place) (λ r. (names (take place refs) r.tok.0 ≡ false) × (Decides word r.mode (is_alone refs r.tok.0) Held ⊎ Decides word r.mode (is_alone refs r.tok.0) Marked)) refs place refl is

-- a word that refuses, found again, is a miss
missing_at : (o : Option Ref) (r : Ref) (refs : List Ref) (place word : ℕ) → o ≡ Some r → IsSomeAnd o (λ r. (names (take place refs) r.tok.0 ≡ false) × (Decides word r.mode (is_alone refs r.tok.0) Held ⊎ Decides word r.mode (is_alone refs r.tok.0) Marked)) → IsSomeAnd o (λ x. (names (take place refs) x.tok.0 ≡ false) × IsMiss x.tok.0 x.mode (is_alone refs x.tok.0) (Busy word) (load r.tok.0 word ∷ []))
missing_at None r refs place word at is = is
missing_at (Some x) r refs place word at is =
    let same : x ≡ r = let e : ◌≡◌ {A = Option Ref} (Some x) (Some r) = at in cc in
    (is.0, (is.1, ap (λ (y : Ref). load y.tok.0 word ∷ []) (sym same)))

pub refused_again : (a b : CpuSeat) (refs : List Ref) (place word : ℕ) (still : Bool) → Stays a b refs place word still → still ≡ true → IsRefusing refs place word → Misses a b refs place (Busy word)
refused_again a b refs place word still s on is =
    let made = load s.at.tok.0 word ∷ [] in
    record {
      earlier = [];
      missed = made;
      later = [];
      steps = s.steps ∙ ap (λ w. steps_of a ++ load s.at.tok.0 w ∷ []) (s.yes on) ∙ ap (λ xs. steps_of a ++ xs) (sym (append-nil made));
      is_miss = missing_at (slice_get refs place) s.at refs place word s.at_place is;
    }
