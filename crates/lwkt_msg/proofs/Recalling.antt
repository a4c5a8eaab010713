use Rattle.std.proofs.Common.{◌≡◌, ◌≢◌, ⊎_elim, ℕ, zero, suc, ◌+◌, ◌<◌, List, [], ◌∷◌, ◌++◌, length, set, refl, ap, sym, ◌∙◌, subst, get_or-set_other, get_or-set_same}
use mathlib.Core.Logic.{dite}
use mathlib.Core.Option.{some, some-injective, some-ne-none}
use native.Mathlib.Decide.{ℕ_discrete}
use lib.ListN.{get_elem?}
use Rattle.atomic_table.specs.Table.{State}
use Rattle.lwkt_base.specs.declared.names.CpuId.{CpuId}
use Rattle.lwkt_base.specs.declared.records.Rec.{Rec}
use Rattle.lwkt_table.specs.declared.seats.Chapter.{Chapter}
use Rattle.lwkt_table.specs.declared.seats.Deed.{Deed}
use Rattle.lwkt_table.specs.declared.seats.SeatKind.TheVariants.{Clerk, Of}
use Rattle.lwkt_table.specs.Seating.{after_made, after_back}
use Rattle.lwkt_table.proofs.SeatingLemmas.{at_set, at_snoc, at_map}
use Rattle.lwkt_msg.specs.declared.views.MessageEntry.{MessageEntry}
use Rattle.lwkt_msg.specs.declared.views.Key.{Key}
use Rattle.lwkt_msg.specs.declared.views.Recalled.{Recalled}
use Rattle.lwkt_msg.specs.declared.views.View.{View}
use Rattle.lwkt_msg.specs.Views.{at, seat_cpu, page_of, recalled_of, recalled_at, clerk_after, new_seat, joined, spent_view}
use Rattle.lwkt_msg.specs.Book.{Mail, Knows, mail_at, no_mail}
use Rattle.lwkt_msg.specs.Ledger.{Recalls, Ledger}
use Rattle.lwkt_msg.proofs.Leading.{KeptByOthers}

-- what is kept of a seat says what its view said
pub recalled-same : (v : View) (m : ℕ) → recalled_at (recalled_of v) m ≡ at v m
unfolding at recalled_at
recalled-same v m = refl

nothing_recalled : (r : Recalled) (i : ℕ) (l : List Recalled) → l ≡ [] → get_elem? l i ≡ some r → ⊥
nothing_recalled r i l none e = let h : get_elem? [] i ≡ some r = ap (λ (x : List Recalled). get_elem? x i) (sym none) ∙ e in some-ne-none r (sym h)

-- nobody was taken back yet
pub recalls_none : (v : View) (mails : List Mail) (count : ℕ) → v.recalled ≡ [] → Recalls (v ∷ []) mails count
recalls_none v mails count none = record {
  chapters = λ j i x r d at_i. absurd (nothing_recalled r i x.recalled (ap (λ (y : View). y.recalled) (sym (only j x d)) ∙ none) at_i);
  knows = λ j i x r m d at_i within. absurd (nothing_recalled r i x.recalled (ap (λ (y : View). y.recalled) (sym (only j x d)) ∙ none) at_i);
}
  where
    only : (j : ℕ) (x : View) → get_elem? (v ∷ []) j ≡ some x → v ≡ x
    only zero x d = some-injective v x d
    only (suc j) x d = absurd (some-ne-none x (sym d))

-- after a step of a seat what seats knew that were taken back is still so
module _ (key : Key) (s : State Rec View) (id : ℕ) (v w : View) (cpu : CpuId) (ledger : Ledger key s) (e : get_elem? s.views id ≡ some v) (is_seat : v.kind ≡ Of cpu)
    (kind : w.kind ≡ v.kind) (chapters : w.chapters ≡ v.chapters) (recalled : w.recalled ≡ v.recalled) (m : ℕ) (mail' : Mail) (there : m < length ledger.rule.mails) (others : KeptByOthers cpu.0 (mail_at ledger.rule.mails m) mail') where
  -- the view before
  before : (j : ℕ) (x : View) → get_elem? (set s.views id w) j ≡ some x → (y : View) × (get_elem? s.views j ≡ some y) × (y.kind ≡ x.kind) × (y.chapters ≡ x.chapters) × (y.recalled ≡ x.recalled)
  before j x d = ⊎_elim
      (λ (here : (j ≡ id) × (w ≡ x)).
      (v, ap (λ (n : ℕ). get_elem? s.views n) here.0 ∙ e, sym kind ∙ ap (λ (y : View). y.kind) here.1, sym chapters ∙ ap (λ (y : View). y.chapters) here.1, sym recalled ∙ ap (λ (y : View). y.recalled) here.1))
      (λ (other : (j ≢ id) × (get_elem? s.views j ≡ some x)). (x, other.1, refl, refl, refl))
      (at_set s.views id j w x d)

  -- a seat that was taken back isn't the one that steps
  away_from : (r : Recalled) (j i : ℕ) (y : View) → get_elem? s.views j ≡ some y → get_elem? y.recalled i ≡ some r → r.cpu ≢ cpu
  away_from r j i y d at_i same =
      let has = ledger.recalls.chapters j i y r d at_i in
      let chapter : Chapter = record { cpu = r.cpu; past = has.2.0 } in
      ledger.chronicle.apart chapter v.past
      (record { made = has.0; back = has.1; clerk = record { at = j; page = page_of y; here = at_map page_of s.views j y d; kind = has.2.1.0 }; index = i; chapter = has.2.1.1 })
      (record { at = id; page = page_of v; here = at_map page_of s.views id v e; kind = is_seat ∙ ap (λ (c : CpuId). Of c) (sym same); seen = refl })

  still : (r : Recalled) (k : ℕ) → r.cpu ≢ cpu → Knows (mail_at ledger.rule.mails k) (Of r.cpu) (recalled_at r k) → Knows (mail_at (set ledger.rule.mails m mail') k) (Of r.cpu) (recalled_at r k)
  still r k apart known =
      let F : Mail → Type 0 = λ x. Knows x (Of r.cpu) (recalled_at r k) in dite (ℕ_discrete k m)
      (λ (same : k ≡ m).
      let G : ℕ → Type 0 = λ n. Knows (mail_at ledger.rule.mails n) (Of r.cpu) (recalled_at r k) in
      let now : Knows mail' (Of r.cpu) (recalled_at r k) = others (Of r.cpu) (recalled_at r k) (λ h. apart (λ i. record { 0 = h i })) (subst G same known) in
      let H : ℕ → Type 0 = λ n. F (mail_at (set ledger.rule.mails m mail') n) in
      subst H (sym same) (subst F (sym (get_or-set_same ledger.rule.mails m mail' no_mail there)) now))
      (λ (differ : k ≢ m). subst F (sym (get_or-set_other ledger.rule.mails m k mail' no_mail differ)) known)

  pub recalls_after : Recalls (set s.views id w) (set ledger.rule.mails m mail') (length key.specs.items)
  recalls_after = record {
    chapters = λ j i x r d at_i.
        let old = before j x d in
        let has = ledger.recalls.chapters j i old.0 r old.1 (ap (λ (l : List Recalled). get_elem? l i) old.4 ∙ at_i) in
        (has.0, has.1, (has.2.0, (sym old.2 ∙ has.2.1.0, ap (λ (l : List Chapter). get_elem? l i) (sym old.3) ∙ has.2.1.1)));
    knows = λ j i x r k d at_i within.
        let old = before j x d in
        let at_old = ap (λ (l : List Recalled). get_elem? l i) old.4 ∙ at_i in
        still r k (away_from r j i old.0 old.1 at_old) (ledger.recalls.knows j i old.0 r k old.1 at_old within);
  }

-- where each view that has kept something was there before, or the clerk's with one seat more
module _ (views views' : List View) (mails : List Mail) (count : ℕ) (old : Recalls views mails count) where
  -- a view that keeps what one before kept
  abbrev pub IsKeeping : View → Type 0
  IsKeeping x = (j : ℕ) × ((y : View) × ((get_elem? views j ≡ some y) × (y.chapters ≡ x.chapters) × (y.recalled ≡ x.recalled) × ((made back : ℕ) → y.kind ≡ Clerk made back → (m b : ℕ) × (x.kind ≡ Clerk m b))))

  pub recalls_kept : ((j : ℕ) (x : View) → get_elem? views' j ≡ some x → (i : ℕ) (r : Recalled) → get_elem? x.recalled i ≡ some r → IsKeeping x) → Recalls views' mails count
  recalls_kept keeps = record {
    chapters = λ j i x r d at_i.
        let k = keeps j x d i r at_i in
        let has = old.chapters k.0 i k.1.0 r k.1.1.0 (ap (λ (l : List Recalled). get_elem? l i) k.1.1.2 ∙ at_i) in
        let now = k.1.1.3 has.0 has.1 has.2.1.0 in
        (now.0, now.1, (has.2.0, (now.2, ap (λ (l : List Chapter). get_elem? l i) (sym k.1.1.1) ∙ has.2.1.1)));
    knows = λ j i x r m d at_i within.
        let k = keeps j x d i r at_i in
        old.knows k.0 i k.1.0 r m k.1.1.0 (ap (λ (l : List Recalled). get_elem? l i) k.1.1.2 ∙ at_i) within;
  }

-- the clerk makes a seat
pub recalls_split : (views : List View) (mails : List Mail) (count id : ℕ) (v : View) → get_elem? views id ≡ some v → Recalls views mails count → Recalls (set views id (clerk_after v) ++ new_seat v ∷ []) mails count
recalls_split views mails count id v e old = recalls_kept views (set views id (clerk_after v) ++ new_seat v ∷ []) mails count old (λ j x d i r at_i.
    ⊎_elim
    (λ (was : get_elem? (set views id (clerk_after v)) j ≡ some x). ⊎_elim
    (λ (here : (j ≡ id) × (clerk_after v ≡ x)).
    (id, (v, (e, ap (λ (y : View). y.chapters) here.1, ap (λ (y : View). y.recalled) here.1, λ made back is. (made + 1, back, sym (ap (λ (y : View). y.kind) here.1) ∙ ap after_made is)))))
    (λ (other : (j ≢ id) × (get_elem? views j ≡ some x)). (j, (x, (other.1, refl, refl, λ made back is. (made, back, is)))))
    (at_set views id j (clerk_after v) x was))
    (λ (new : (j ≡ length (set views id (clerk_after v))) × (new_seat v ≡ x)). absurd (nothing_recalled r i x.recalled (ap (λ (y : View). y.recalled) (sym new.1)) at_i))
    (at_snoc (set views id (clerk_after v)) (new_seat v) x j d))

-- a view is cut off whole
pub recalls_moved : (views : List View) (mails : List Mail) (count id : ℕ) (v : View) → get_elem? views id ≡ some v → Recalls views mails count → Recalls (set views id spent_view ++ v ∷ []) mails count
recalls_moved views mails count id v e old = recalls_kept views (set views id spent_view ++ v ∷ []) mails count old (λ j x d i r at_i.
    ⊎_elim
    (λ (was : get_elem? (set views id spent_view) j ≡ some x). ⊎_elim
    (λ (here : (j ≡ id) × (spent_view ≡ x)). absurd (nothing_recalled r i x.recalled (ap (λ (y : View). y.recalled) (sym here.1)) at_i))
    (λ (other : (j ≢ id) × (get_elem? views j ≡ some x)). (j, (x, (other.1, refl, refl, λ made back is. (made, back, is)))))
    (at_set views id j spent_view x was))
    (λ (new : (j ≡ length (set views id spent_view)) × (v ≡ x)).
    (id, (v, (e, ap (λ (y : View). y.chapters) new.1, ap (λ (y : View). y.recalled) new.1, λ made back is. (made, back, sym (ap (λ (y : View). y.kind) new.1) ∙ is)))))
    (at_snoc (set views id spent_view) v x j d))

-- which view of a table it is, where the clerk has taken a seat back
data Which (views : List View) (both : View) (j : ℕ) (x : View) : Type 0 where
  spent : spent_view ≡ x → Which views both j x
  clerk : both ≡ x → Which views both j x
  older : get_elem? views j ≡ some x → Which views both j x

-- the clerk takes a seat back, and keeps what it knew
pub recalls_joined : (views : List View) (mails : List Mail) (count id other made back : ℕ) (v w : View) (cpu : CpuId) → get_elem? views id ≡ some v → v.kind ≡ Clerk made back → w.kind ≡ Of cpu → ((m : ℕ) → m < count → Knows (mail_at mails m) (Of cpu) (at w m))
    → Recalls views mails count → Recalls (set (set views id (joined v w)) other spent_view) mails count
recalls_joined views mails count id other made back v w cpu e is_clerk is_seat known old = record {
  chapters = λ j i x r d at_i. chapter j i x r (which j x d) at_i;
  knows = λ j i x r m d at_i within. knows j i x r m (which j x d) at_i within;
}
  where
    which : (j : ℕ) (x : View) → get_elem? (set (set views id (joined v w)) other spent_view) j ≡ some x → Which views (joined v w) j x
    which j x d = ⊎_elim
        (λ (here : (j ≡ other) × (spent_view ≡ x)). spent here.1)
        (λ (was : (j ≢ other) × (get_elem? (set views id (joined v w)) j ≡ some x)). ⊎_elim
        (λ (desk : (j ≡ id) × (joined v w ≡ x)). clerk desk.1)
        (λ (else_ : (j ≢ id) × (get_elem? views j ≡ some x)). older else_.1)
        (at_set views id j (joined v w) x was.1))
        (at_set (set views id (joined v w)) other j spent_view x d)

    kept : (i : ℕ) (r : Recalled) → get_elem? (joined v w).recalled i ≡ some r → (made back : ℕ) × ((past : List Deed) × (((joined v w).kind ≡ Clerk made back) × (get_elem? (joined v w).chapters i ≡ some (record { cpu = r.cpu; past = past }))))
    kept zero r at_i =
        let is : recalled_of w ≡ r = some-injective (recalled_of w) r at_i in
        (made, back + 1, (w.past, (ap after_back is_clerk, ap (λ (c : CpuId). let z : Chapter = record { cpu = c; past = w.past } in some z) (ap (λ (y : Recalled). y.cpu) is))))
    kept (suc i) r at_i =
        let has = old.chapters id i v r e at_i in
        (made, back + 1, (has.2.0, (ap after_back is_clerk, has.2.1.1)))

    known_of : (i : ℕ) (r : Recalled) (m : ℕ) → get_elem? (joined v w).recalled i ≡ some r → m < count → Knows (mail_at mails m) (Of r.cpu) (recalled_at r m)
    known_of zero r m at_i within =
        let is : recalled_of w ≡ r = some-injective (recalled_of w) r at_i in
        let F : Recalled → Type 0 = λ y. Knows (mail_at mails m) (Of y.cpu) (recalled_at y m) in
        let G : CpuId → Type 0 = λ c. Knows (mail_at mails m) (Of c) (recalled_at (recalled_of w) m) in
        let H : MessageEntry → Type 0 = λ y. Knows (mail_at mails m) (Of cpu) y in
        subst F is (subst G (sym (ap seat_cpu is_seat)) (subst H (sym (recalled-same w m)) (known m within)))
    known_of (suc i) r m at_i within = old.knows id i v r m e at_i within

    chapter : (j i : ℕ) (x : View) (r : Recalled) → Which views (joined v w) j x → get_elem? x.recalled i ≡ some r → (made back : ℕ) × ((past : List Deed) × ((x.kind ≡ Clerk made back) × (get_elem? x.chapters i ≡ some (record { cpu = r.cpu; past = past }))))
    chapter j i x r (spent is) at_i = absurd (nothing_recalled r i x.recalled (ap (λ (y : View). y.recalled) (sym is)) at_i)
    chapter j i x r (clerk is) at_i =
        let F : View → Type 0 = λ y. get_elem? y.recalled i ≡ some r → (made back : ℕ) × ((past : List Deed) × ((y.kind ≡ Clerk made back) × (get_elem? y.chapters i ≡ some (record { cpu = r.cpu; past = past })))) in
        subst F is (kept i r) at_i
    chapter j i x r (older d) at_i = old.chapters j i x r d at_i

    knows : (j i : ℕ) (x : View) (r : Recalled) (m : ℕ) → Which views (joined v w) j x → get_elem? x.recalled i ≡ some r → m < count → Knows (mail_at mails m) (Of r.cpu) (recalled_at r m)
    knows j i x r m (spent is) at_i within = absurd (nothing_recalled r i x.recalled (ap (λ (y : View). y.recalled) (sym is)) at_i)
    knows j i x r m (clerk is) at_i within =
        let F : View → Type 0 = λ y. get_elem? y.recalled i ≡ some r → Knows (mail_at mails m) (Of r.cpu) (recalled_at r m) in
        subst F is (λ h. known_of i r m h within) at_i
    knows j i x r m (older d) at_i within = old.knows j i x r m d at_i within
