use Rattle.std.proofs.Common.{◌≡◌, ◌≢◌, ◌⊎◌, inl, inr, ℕ, zero, suc, ◌<◌, true, false, List, ◌∷◌, length, ap, sym, ◌∙◌, subst, arith}
use mathlib.Core.Logic.{dite}
use mathlib.Core.Option.{some, some-injective}
use native.Mathlib.Decide.{ℕ_discrete}
use Rattle.lwkt_base.specs.declared.records.Rec.{Rec}
use Rattle.lwkt_table.specs.declared.seats.Deed.{Deed}
use Rattle.lwkt_msg.specs.declared.views.MessageEntry.{MessageEntry}
use Rattle.lwkt_msg.specs.declared.views.View.{View}
use Rattle.lwkt_msg.specs.Views.{slot_at, call_of, at, noted}
use Rattle.lwkt_msg.specs.Hands.{Has, AreSame, IsOwn, IsInHand, AreHands}
use Rattle.lwkt_msg.proofs.Knowing.{at-here, at-else}
use Rattle.lwkt_msg.proofs.Bringing.{AreApart-rest, AreApart-more, not_again}

-- what a seat has in hand is the same by both entries
pub record IsAlike (e e' : MessageEntry) : Type 0 where
  pub had : e'.had ≡ e.had
  pub away : e'.away ≡ e.away
  pub taken : e'.taken ≡ e.taken
  pub got : e'.got ≡ e.got

IsAlike-else : (v : View) (m : ℕ) (e' : MessageEntry) (between : List Deed) (did : Deed) (k : ℕ) → k ≢ m → IsAlike (at v k) (at (noted between v m e' did) k)
IsAlike-else v m e' between did k apart =
    let same : at (noted between v m e' did) k ≡ at v k = at-else v m e' between did k apart in record {
      had = ap (λ (x : MessageEntry). x.had) same;
      away = ap (λ (x : MessageEntry). x.away) same;
      taken = ap (λ (x : MessageEntry). x.taken) same;
      got = ap (λ (x : MessageEntry). x.got) same;
    }

module _ (v : View) (m : ℕ) (e' : MessageEntry) (between : List Deed) (did : Deed) (cpu : ℕ) where
  abbrev w : View
  w = noted between v m e' did

  -- a step after which the same is in hand
  pub hands_same : (hands others : List (ℕ × Rec)) → IsAlike (at v m) e' → AreHands v cpu hands → AreSame hands others → AreHands w cpu others
  hands_same hands others alike known same = record {
    apart = same.apart known.apart;
    all = λ slot rec has. let h = known.all slot rec (same.back slot rec has) in (h.0, h.1, h.2, in_hand h.0 h.3);
    own = λ k within own had away. let h = known.own k within own (sym (each k).had ∙ had) (sym (each k).away ∙ away) in (h.0, same.there (slot_at k) h.0 h.1);
    taken = λ k within taken. let h = known.taken k within (sym (each k).taken ∙ taken) in (h.0, (same.there (slot_at k) h.0 h.1.0, h.1.1 ∙ sym (each k).got));
  }
    where
      each : (k : ℕ) → IsAlike (at v k) (at w k)
      each k = dite (ℕ_discrete k m)
          (λ is. let F : ℕ → Type 0 = λ n. IsAlike (at v n) (at w n) in let G : MessageEntry → Type 0 = λ x. IsAlike (at v m) x in subst F (sym is) (subst G (sym (at-here v m e' between did)) alike))
          (λ apart. IsAlike-else v m e' between did k apart)

      in_hand : (k : ℕ) → IsInHand v cpu k → IsInHand w cpu k
      in_hand k (inl h) = inl (h.0, (each k).had ∙ h.1, (each k).away ∙ h.2)
      in_hand k (inr h) = inr ((each k).taken ∙ h)

  -- of another message the same is in hand
  in_hand_else : (k : ℕ) → k ≢ m → IsInHand v cpu k → IsInHand w cpu k
  in_hand_else k apart (inl h) = let a = IsAlike-else v m e' between did k apart in inl (h.0, a.had ∙ h.1, a.away ∙ h.2)
  in_hand_else k apart (inr h) = let a = IsAlike-else v m e' between did k apart in inr (a.taken ∙ h)

  slots_differ : (k n : ℕ) → slot_at k ≡ slot_at n → k ≡ n
  slots_differ k n h = omega arith

  -- a step that gives the record in front away
  pub hands_given : (rec : Rec) (others : List (ℕ × Rec)) → AreHands v cpu ((slot_at m, rec) ∷ others) → (IsOwn v cpu m → e'.had ≡ true → e'.away ≡ true) → e'.taken ≡ false → AreHands w cpu others
  hands_given rec others known away not_taken = record {
    apart = AreApart-rest (slot_at m, rec) others known.apart;
    all = λ slot y has.
        let h = known.all slot y (suc has.0, has.1) in
        let apart : h.0 ≢ m = λ is. not_again (slot_at m, rec) others slot y known.apart has (h.2 ∙ ap slot_at is) in
        (h.0, h.1, h.2, in_hand_else h.0 apart h.3);
    own = λ k within own had home.
        let apart : k ≢ m = λ is. own_gone k is own had home in
        let a = IsAlike-else v m e' between did k apart in
        let h = known.own k within own (sym a.had ∙ had) (sym a.away ∙ home) in (h.0, behind k h.0 apart h.1);
    taken = λ k within taken.
        let apart : k ≢ m = λ is. taken_gone k is taken in
        let a = IsAlike-else v m e' between did k apart in
        let h = known.taken k within (sym a.taken ∙ taken) in (h.0, (behind k h.0 apart h.1.0, h.1.1 ∙ sym a.got));
  }
    where
      own_gone : (k : ℕ) → k ≡ m → IsOwn w cpu k → (at w k).had ≡ true → (at w k).away ≡ false → ⊥
      own_gone k is own had home =
          let F : ℕ → Type 0 = λ n. (IsOwn w cpu n) × ((at w n).had ≡ true) × ((at w n).away ≡ false) in
          let moved = subst F is (own, had, home) in
          let here : at w m ≡ e' = at-here v m e' between did in
          let gone : e'.away ≡ true = away moved.0 (ap (λ (x : MessageEntry). x.had) (sym here) ∙ moved.1) in
          let h : true ≡ false = sym gone ∙ (ap (λ (x : MessageEntry). x.away) (sym here) ∙ moved.2) in cc

      taken_gone : (k : ℕ) → k ≡ m → (at w k).taken ≡ true → ⊥
      taken_gone k is taken =
          let F : ℕ → Type 0 = λ n. (at w n).taken ≡ true in
          let h : false ≡ true = sym not_taken ∙ (ap (λ (x : MessageEntry). x.taken) (sym (at-here v m e' between did)) ∙ subst F is taken) in cc

      behind : (k : ℕ) (y : Rec) → k ≢ m → Has ((slot_at m, rec) ∷ others) (slot_at k) y → Has others (slot_at k) y
      behind k y apart (zero, e) = absurd (apart (slots_differ k m (sym (ap (λ (x : ℕ × Rec). x.0) (some-injective (slot_at m, rec) (slot_at k, y) e)))))
      behind k y apart (suc i, e) = (i, e)

  -- a step that takes a record in hand
  pub hands_taken : (rec : Rec) (hands : List (ℕ × Rec)) → m < length v.specs → AreHands v cpu hands → (IsInHand v cpu m → ⊥) → ((IsOwn v cpu m × (e'.had ≡ true) × (e'.away ≡ false)) ⊎ (e'.taken ≡ true)) → (e'.taken ≡ true → call_of rec ≡ e'.got)
      → AreHands w cpu ((slot_at m, rec) ∷ hands)
  hands_taken rec hands within known not_yet now call = record {
    apart = AreApart-more (slot_at m) rec hands known.apart new;
    all = all;
    own = λ k k_within own had home. dite (ℕ_discrete k m)
        (λ is. (rec, (zero, ap (λ (n : ℕ). some (slot_at n, rec)) (sym is))))
        (λ apart. let a = IsAlike-else v m e' between did k apart in let h = known.own k k_within own (sym a.had ∙ had) (sym a.away ∙ home) in (h.0, (suc h.1.0, h.1.1)));
    taken = λ k k_within taken. dite (ℕ_discrete k m)
        (λ is. (rec, ((zero, ap (λ (n : ℕ). some (slot_at n, rec)) (sym is)), call_here k is taken)))
        (λ apart. let a = IsAlike-else v m e' between did k apart in let h = known.taken k k_within (sym a.taken ∙ taken) in (h.0, ((suc h.1.0.0, h.1.0.1), h.1.1 ∙ sym a.got)));
  }
    where
      here : at w m ≡ e'
      here = at-here v m e' between did

      new : (other : Rec) → Has hands (slot_at m) other → ⊥
      new other has =
          let h = known.all (slot_at m) other has in
          let F : ℕ → Type 0 = λ n. IsInHand v cpu n in
          not_yet (subst F (sym (slots_differ m h.0 h.2)) h.3)

      now_here : ((IsOwn v cpu m × (e'.had ≡ true) × (e'.away ≡ false)) ⊎ (e'.taken ≡ true)) → IsInHand w cpu m
      now_here (inl h) = inl (h.0, ap (λ (x : MessageEntry). x.had) here ∙ h.1, ap (λ (x : MessageEntry). x.away) here ∙ h.2)
      now_here (inr h) = inr (ap (λ (x : MessageEntry). x.taken) here ∙ h)

      all : (slot : ℕ) (y : Rec) → Has ((slot_at m, rec) ∷ hands) slot y → (k : ℕ) × (k < length v.specs) × (slot ≡ slot_at k) × IsInHand w cpu k
      all slot y (zero, e) = (m, within, sym (ap (λ (x : ℕ × Rec). x.0) (some-injective (slot_at m, rec) (slot, y) e)), now_here now)
      all slot y (suc i, e) =
          let h = known.all slot y (i, e) in
          let apart : h.0 ≢ m = λ is. let F : ℕ → Type 0 = λ n. IsInHand v cpu n in not_yet (subst F is h.3) in
          (h.0, h.1, h.2, in_hand_else h.0 apart h.3)

      call_here : (k : ℕ) → k ≡ m → (at w k).taken ≡ true → call_of rec ≡ (at w k).got
      call_here k is taken =
          let F : ℕ → Type 0 = λ n. ((at w n).taken ≡ true) → call_of rec ≡ (at w n).got in
          let G : MessageEntry → Type 0 = λ x. (x.taken ≡ true) → call_of rec ≡ x.got in
          subst F (sym is) (subst G (sym here) call) taken
