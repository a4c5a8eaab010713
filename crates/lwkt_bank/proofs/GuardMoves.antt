use Rattle.std.proofs.Common.{◌≡◌, ◌≢◌, ℕ, zero, suc, ◌<◌, true, false, None, Some, List, [], ◌∷◌, length, refl, ap, sym, ◌∙◌, subst}
use Rattle.std.specs.Prelude.{is_some}
use Rattle.std.proofs.lemmas.Bool.{false≢true}
use mathlib.Core.Logic.{dite}
use mathlib.Core.Option.{some, some-injective, some-ne-none}
use native.Mathlib.Decide.{ℕ_discrete}
use Rattle.atomic_table.specs.Table.{rest}
use Rattle.lwkt_base.specs.Holding.{is_exclusive}
use Rattle.lwkt_base.specs.declared.holdings.Held.TheVariants.{Nothing}
use Rattle.lwkt_table.specs.declared.seats.Deed.{Deed}
use Rattle.lwkt_bank.specs.declared.views.TokenEntry.{TokenEntry}
use Rattle.lwkt_bank.specs.declared.views.View.{View}
use Rattle.lwkt_bank.specs.Views.{RecordOf, at, noted}
use Rattle.lwkt_bank.specs.Hands.{Has, AreApart, AreSame, IsInHand, AreHands, TakesOut, PutsBack}
use Rattle.lwkt_bank.proofs.ViewMoves.{at-here, at-else}
use Rattle.lwkt_bank.proofs.HandMoves.{AreApart-rest, AreApart-more, not_again, to_there, from_there}

-- an entry as what is in hand sees it
pub record IsAlike (e e' : TokenEntry) : Type 0 where
  pub held : is_exclusive e'.held ≡ is_exclusive e.held
  pub blob : e'.blob ≡ e.blob

module _ (v : View) (tok : ℕ) (e' : TokenEntry) (between : List Deed) (d : Deed) (is_tok : e'.tok ≡ tok) where
  abbrev w : View
  w = noted between v e' d

  here : at w.tokens tok ≡ e'
  here = at-here e' v.tokens tok is_tok

  apart_else : (k : ℕ) → k ≢ tok → IsAlike (at v.tokens k) (at w.tokens k)
  apart_else k away =
      let same : at w.tokens k ≡ at v.tokens k = at-else e' v.tokens tok k is_tok away in
      record { held = ap (λ (x : TokenEntry). is_exclusive x.held) same; blob = ap (λ (x : TokenEntry). x.blob) same }

  into : (k : ℕ) → IsAlike (at v.tokens k) (at w.tokens k) → IsInHand v k → IsInHand w k
  into k alike held = (alike.held ∙ held.0, ap is_some alike.blob ∙ held.1)

  back : (k : ℕ) → IsAlike (at v.tokens k) (at w.tokens k) → IsInHand w k → IsInHand v k
  back k alike held = (sym alike.held ∙ held.0, ap is_some (sym alike.blob) ∙ held.1)

  -- a step after which the same is in hand
  pub hands_alike : (hands others : List (ℕ × List ℕ)) → IsAlike (at v.tokens tok) e' → AreHands v hands → AreSame hands others → AreHands w others
  hands_alike hands others alike known same = record {
    apart = same.apart known.apart;
    all = λ k bytes has. let h = known.all k bytes (same.back k bytes has) in (h.0, into k (each k) h.1, (each k).blob ∙ h.2);
    each = λ k held. let h = from_there hands k (known.each k (back k (each k) held)) in to_there others k h.0 (same.there k h.0 h.1);
  }
    where
      each : (k : ℕ) → IsAlike (at v.tokens k) (at w.tokens k)
      each k = dite (ℕ_discrete k tok)
          (λ is. let F : ℕ → Type 0 = λ n. IsAlike (at v.tokens n) (at w.tokens n) in let G : TokenEntry → Type 0 = λ x. IsAlike (at v.tokens tok) x in subst F (sym is) (subst G (sym here) alike))
          (λ away. apart_else k away)

  -- the token itself isn't in hand after the step
  none_here : (k : ℕ) → k ≡ tok → (IsInHand v tok → ⊥) → IsInHand v k → ⊥
  none_here k is not_yet held = let F : ℕ → Type 0 = λ n. IsInHand v n in not_yet (subst F is held)

  here_in : (k : ℕ) → k ≡ tok → IsInHand w k → (is_exclusive e'.held ≡ true) × (is_some e'.blob ≡ true)
  here_in k is held =
      let F : ℕ → Type 0 = λ n. IsInHand w n in
      let G : TokenEntry → Type 0 = λ x. (is_exclusive x.held ≡ true) × (is_some x.blob ≡ true) in
      subst G here (subst F is held)

  -- a step that takes the record in hand, if there is one
  pub hands_taken : (hands hands' : List (ℕ × List ℕ)) → tok < length v.plans → is_exclusive e'.held ≡ true → is_exclusive (at v.tokens tok).held ≡ false → (blob : RecordOf) → e'.blob ≡ blob → TakesOut blob tok hands hands' → AreHands v hands → AreHands w hands'
  hands_taken hands hands' there held free None blob_is same known =
      let not_yet : IsInHand v tok → ⊥ = λ h. false≢true (sym free ∙ h.0) in
      let F : List (ℕ × List ℕ) → Type 0 = λ xs. AreHands w xs in
      subst F (sym same) (record {
        apart = known.apart;
        all = λ k bytes has.
            let h = known.all k bytes has in
            let away : k ≢ tok = λ is. none_here k is not_yet h.1 in
            let a = apart_else k away in (h.0, into k a h.1, a.blob ∙ h.2);
        each = λ k held'.
            let away : k ≢ tok = λ is. false≢true (sym (ap is_some blob_is) ∙ (here_in k is held').1) in
            known.each k (back k (apart_else k away) held');
      })
  hands_taken hands hands' there held free (Some bytes) blob_is same known =
      let not_yet : IsInHand v tok → ⊥ = λ h. false≢true (sym free ∙ h.0) in
      let F : List (ℕ × List ℕ) → Type 0 = λ xs. AreHands w xs in
      subst F (sym same) (record {
        apart = AreApart-more tok bytes hands known.apart (λ other has. not_yet (known.all tok other has).1);
        all = all not_yet;
        each = λ k held'. dite (ℕ_discrete k tok)
            (λ is. to_there ((tok, bytes) ∷ hands) k bytes (zero, ap (λ (n : ℕ). some (n, bytes)) (sym is)))
            (λ away. let h = from_there hands k (known.each k (back k (apart_else k away) held')) in to_there ((tok, bytes) ∷ hands) k h.0 (suc h.1.0, h.1.1));
      })
    where
      all : (IsInHand v tok → ⊥) → (k : ℕ) (x : List ℕ) → Has ((tok, bytes) ∷ hands) k x → (k < length v.plans) × IsInHand w k × ((at w.tokens k).blob ≡ Some x)
      all not_yet k x (zero, e) =
          let pair : (tok, bytes) ≡ (k, x) = some-injective (tok, bytes) (k, x) e in
          let P : ℕ × List ℕ → Type 0 = λ p. (p.0 < length v.plans) × IsInHand w p.0 × ((at w.tokens p.0).blob ≡ Some p.1) in
          subst P pair (there, (ap (λ (y : TokenEntry). is_exclusive y.held) here ∙ held, ap (λ (y : TokenEntry). is_some y.blob) here ∙ ap is_some blob_is), ap (λ (y : TokenEntry). y.blob) here ∙ blob_is)
      all not_yet k x (suc i, e) =
          let h = known.all k x (i, e) in
          let away : k ≢ tok = λ is. none_here k is not_yet h.1 in
          let a = apart_else k away in (h.0, into k a h.1, a.blob ∙ h.2)

  -- a step after which the token isn't held exclusively, as it wasn't before
  pub hands_free : (hands : List (ℕ × List ℕ)) → is_exclusive e'.held ≡ false → is_exclusive (at v.tokens tok).held ≡ false → AreHands v hands → AreHands w hands
  hands_free hands gone free known =
      let not_yet : IsInHand v tok → ⊥ = λ h. false≢true (sym free ∙ h.0) in
      record {
        apart = known.apart;
        all = λ k bytes has.
            let h = known.all k bytes has in
            let away : k ≢ tok = λ is. none_here k is not_yet h.1 in
            let a = apart_else k away in (h.0, into k a h.1, a.blob ∙ h.2);
        each = λ k held'.
            let away : k ≢ tok = λ is. false≢true (sym gone ∙ (here_in k is held').0) in
            known.each k (back k (apart_else k away) held');
      }

  -- a step that puts the record back, if there is one
  pub hands_put : (hands hands' : List (ℕ × List ℕ)) → is_exclusive e'.held ≡ false → (blob : RecordOf) → (at v.tokens tok).blob ≡ blob → PutsBack blob tok hands hands' → AreHands v hands → AreHands w hands'
  hands_put hands hands' gone None blob_is same known =
      let F : List (ℕ × List ℕ) → Type 0 = λ xs. AreHands w xs in
      let not_yet : IsInHand v tok → ⊥ = λ h. false≢true (sym (ap is_some blob_is) ∙ h.1) in
      subst F (sym same) (record {
        apart = known.apart;
        all = λ k bytes has.
            let h = known.all k bytes has in
            let away : k ≢ tok = λ is. none_here k is not_yet h.1 in
            let a = apart_else k away in (h.0, into k a h.1, a.blob ∙ h.2);
        each = λ k held'.
            let away : k ≢ tok = λ is. false≢true (sym gone ∙ (here_in k is held').0) in
            known.each k (back k (apart_else k away) held');
      })
  hands_put hands hands' gone (Some bytes) blob_is same known =
      let apart = same.apart known.apart in
      record {
        apart = AreApart-rest (tok, bytes) hands' apart;
        all = λ k x has.
            let h = known.all k x (same.back k x (suc has.0, has.1)) in
            let away : k ≢ tok = not_again (tok, bytes) hands' k x apart has in
            let a = apart_else k away in (h.0, into k a h.1, a.blob ∙ h.2);
        each = λ k held'.
            let away : k ≢ tok = λ is. false≢true (sym gone ∙ (here_in k is held').0) in
            let h = from_there hands k (known.each k (back k (apart_else k away) held')) in to_there hands' k h.0 (behind k h.0 away (same.there k h.0 h.1));
      }
    where
      behind : (k : ℕ) (x : List ℕ) → k ≢ tok → Has ((tok, bytes) ∷ hands') k x → Has hands' k x
      behind k x away (zero, e) = absurd (away (sym (ap (λ (p : ℕ × List ℕ). p.0) (some-injective (tok, bytes) (k, x) e))))
      behind k x away (suc i, e) = (i, e)

  -- the record in front is written
  pub hands_written : (hands others : List (ℕ × List ℕ)) (old new : List ℕ) → AreSame hands ((tok, old) ∷ others) → e'.blob ≡ Some new → is_exclusive e'.held ≡ is_exclusive (at v.tokens tok).held → AreHands v hands → AreHands w ((tok, new) ∷ others)
  hands_written hands others old new same blob_is held known =
      let apart = same.apart known.apart in
      record {
        apart = AreApart-more tok new others (AreApart-rest (tok, old) others apart) (λ x has. not_again (tok, old) others tok x apart has refl);
        all = all apart;
        each = λ k held'. dite (ℕ_discrete k tok)
            (λ is. to_there ((tok, new) ∷ others) k new (zero, ap (λ (n : ℕ). some (n, new)) (sym is)))
            (λ away. let h = from_there hands k (known.each k (back k (apart_else k away) held')) in to_there ((tok, new) ∷ others) k h.0 (behind k h.0 away (same.there k h.0 h.1)));
      }
    where
      first : (tok < length v.plans) × IsInHand v tok × ((at v.tokens tok).blob ≡ Some old)
      first = known.all tok old (same.back tok old (zero, refl))

      all : AreApart ((tok, old) ∷ others) → (k : ℕ) (x : List ℕ) → Has ((tok, new) ∷ others) k x → (k < length v.plans) × IsInHand w k × ((at w.tokens k).blob ≡ Some x)
      all apart k x (zero, e) =
          let pair : (tok, new) ≡ (k, x) = some-injective (tok, new) (k, x) e in
          let P : ℕ × List ℕ → Type 0 = λ p. (p.0 < length v.plans) × IsInHand w p.0 × ((at w.tokens p.0).blob ≡ Some p.1) in
          subst P pair (first.0, (ap (λ (y : TokenEntry). is_exclusive y.held) here ∙ held ∙ first.1.0, ap (λ (y : TokenEntry). is_some y.blob) here ∙ ap is_some blob_is), ap (λ (y : TokenEntry). y.blob) here ∙ blob_is)
      all apart k x (suc i, e) =
          let h = known.all k x (same.back k x (suc i, e)) in
          let away : k ≢ tok = not_again (tok, old) others k x apart (i, e) in
          let a = apart_else k away in (h.0, into k a h.1, a.blob ∙ h.2)

      behind : (k : ℕ) (x : List ℕ) → k ≢ tok → Has ((tok, old) ∷ others) k x → Has ((tok, new) ∷ others) k x
      behind k x away (zero, e) = absurd (away (sym (ap (λ (p : ℕ × List ℕ). p.0) (some-injective (tok, old) (k, x) e))))
      behind k x away (suc i, e) = (suc i, e)

-- whose view is another by equation
pub hands_moved : (v w : View) (hands : List (ℕ × List ℕ)) → w ≡ v → AreHands v hands → AreHands w hands
hands_moved v w hands is known = let F : View → Type 0 = λ x. AreHands x hands in subst F (sym is) known

-- the records of two lists' fronts
pub front_same : (tok : ℕ) (one other : List ℕ) (xs ys zs : List (ℕ × List ℕ)) → xs ≡ (tok, one) ∷ ys → xs ≡ (tok, other) ∷ zs → one ≡ other
front_same tok one other xs ys zs first second = pairs (tok, one) (tok, other) ys zs (sym first ∙ second)
  where
    pairs : (a b : ℕ × List ℕ) (us vs : List (ℕ × List ℕ)) → a ∷ us ≡ b ∷ vs → a.1 ≡ b.1
    pairs a b us vs same = let h : a ≡ b = cc in ap (λ (p : ℕ × List ℕ). p.1) h

-- a list with this in front is that and its rest
pub front_whole : (x : ℕ × List ℕ) (ys xs : List (ℕ × List ℕ)) → xs ≡ x ∷ ys → xs ≡ x ∷ rest xs
front_whole x ys xs is = is ∙ ap (λ (zs : List (ℕ × List ℕ)). x ∷ zs) (sym (ap rest is))

-- a seat that holds nothing has no record in hand, and so a new one
pub new_hands : (v : View) (hands : List (ℕ × List ℕ)) → v.tokens ≡ [] → hands ≡ [] → AreHands v hands
new_hands v hands none empty =
    let F : List (ℕ × List ℕ) → Type 0 = λ xs. AreHands v xs in
    subst F (sym empty) (record {
      apart = record { one = λ i j tok bytes other a b. absurd (some-ne-none (tok, bytes) (sym a)) };
      all = λ tok bytes has. absurd (some-ne-none (tok, bytes) (sym has.1));
      each = λ tok held. absurd (false≢true (sym (ap (λ (es : List TokenEntry). is_exclusive (at es tok).held) none) ∙ held.0));
    })

pub no_hands : (v : View) (hands : List (ℕ × List ℕ)) → AreHands v hands → ((tok : ℕ) → tok < length v.plans → (at v.tokens tok).held ≡ Nothing) → hands ≡ []
no_hands v [] known nothing = refl
no_hands v (x ∷ xs) known nothing = let h = known.all x.0 x.1 (zero, refl) in absurd (false≢true (sym (ap is_exclusive (nothing x.0 h.0)) ∙ h.1.0))
