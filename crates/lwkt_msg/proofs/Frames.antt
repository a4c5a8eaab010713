use Rattle.std.proofs.Common.{◌≡◌, ◌≢◌, ⊎_elim, ℕ, ◌<◌, List, map, length, set, get_or, refl, ap, sym, ◌∙◌, subst, arith, length-set, get_or-set_other, get_or-set_same}
use mathlib.Core.Logic.{dite}
use mathlib.Core.Option.{Option, some}
use native.Mathlib.Decide.{ℕ_discrete}
use lib.ListN.{get_elem?}
use Rattle.atomic_table.specs.Table.{State}
use Rattle.lwkt_base.specs.declared.names.CpuId.{CpuId}
use Rattle.lwkt_base.specs.declared.records.Rec.{Rec}
use Rattle.lwkt_base.specs.declared.opening_specs.MsgSpec.{MsgSpec}
use Rattle.lwkt_base.specs.MessageWord.{message_word}
use Rattle.lwkt_table.specs.declared.seats.Deed.{Deed}
use Rattle.lwkt_table.specs.declared.seats.SeatKind.{SeatKind}
use Rattle.lwkt_table.specs.declared.seats.SeatKind.TheVariants.{Clerk, Of, Spent}
use Rattle.lwkt_core.specs.Messages.{IsSafeMessage, in_out}
use Rattle.lwkt_table.specs.Seating.{AreSeated}
use Rattle.lwkt_table.proofs.SeatingLemmas.{at_set, at_map, map-set, AreSeated-kept, AreSeated-below}
use Rattle.lwkt_msg.specs.declared.views.MessageEntry.{MessageEntry}
use Rattle.lwkt_msg.specs.declared.views.Key.{Key}
use Rattle.lwkt_msg.specs.declared.views.View.{View}
use Rattle.lwkt_msg.specs.Views.{word_at, slot_at, spec_at, at, noted, StandsFor}
use Rattle.lwkt_msg.specs.Book.{Mail, parts_of, in_slot, Knows, IsKept, no_mail, mail_at, IsBook}
use Rattle.lwkt_msg.proofs.Knowing.{Changes, at-here}

-- a step on another message keeps this one
kept_else : (cpus : ℕ) (spec : MsgSpec) (mail : Mail) (word : ℕ) (home : Option (Option Rec)) (k m : ℕ) (views : List View) (id : ℕ) (v w : View)
    → get_elem? views id ≡ some v → Changes m v w → k ≢ m → IsKept cpus spec mail word home k views → IsKept cpus spec mail word home k (set views id w)
kept_else cpus spec mail word home k m views id v w e changes apart kept = record {
  safe = kept.safe;
  origin_is = kept.origin_is;
  opening_is = kept.opening_is;
  is_word = kept.is_word;
  slot = kept.slot;
  unanswered = kept.unanswered;
  each_view = λ j x d. ⊎_elim
      (λ (here : (j ≡ id) × (w ≡ x)).
      let F : View → Type 0 = λ y. Knows mail y.kind (at y k) in
      let G : SeatKind → Type 0 = λ y. Knows mail y (at v k) in
      let H : MessageEntry → Type 0 = λ y. Knows mail w.kind y in
      subst F here.1 (subst H (sym (changes.else_same k apart)) (subst G (sym changes.kind) (kept.each_view id v e))))
      (λ (other : (j ≢ id) × (get_elem? views j ≡ some x)). kept.each_view j x other.1)
      (at_set views id j w x d);
}

-- a step on this message, by the seat of a processor, keeps it
pub kept_here : (cpus : ℕ) (spec : MsgSpec) (mail mail' : Mail) (word word' : ℕ) (home home' : Option (Option Rec)) (m : ℕ) (views : List View) (id : ℕ) (v w : View) (cpu : CpuId)
    → IsKept cpus spec mail word home m views → get_elem? views id ≡ some v → v.kind ≡ Of cpu → w.kind ≡ v.kind
    → ((j : ℕ) (x : View) → j ≢ id → get_elem? views j ≡ some x → StandsFor x.kind cpu.0 → ⊥)
    → IsSafeMessage cpus mail'.msg → mail'.msg.origin ≡ mail.msg.origin → mail'.msg.opening ≡ mail.msg.opening
    → word' ≡ message_word (parts_of mail') → home' ≡ some (in_slot mail'.msg.owner mail'.had mail'.rec)
    → (in_out mail'.msg.owner ≡ 1 → (mail'.rec.error ≡ 0) × (mail'.rec.result ≡ 0))
    → (Knows mail (Of cpu) (at v m) → Knows mail' (Of cpu) (at w m))
    → ((kind : SeatKind) (e : MessageEntry) → (StandsFor kind cpu.0 → ⊥) → Knows mail kind e → Knows mail' kind e)
    → IsKept cpus spec mail' word' home' m (set views id w)
kept_here cpus spec mail mail' word word' home home' m views id v w cpu kept e is_seat same_kind alone safe origin opening is_word slot unanswered mine others = record {
  safe = safe;
  origin_is = origin ∙ kept.origin_is;
  opening_is = opening ∙ kept.opening_is;
  is_word = is_word;
  slot = slot;
  unanswered = unanswered;
  each_view = λ j x d. ⊎_elim
      (λ (here : (j ≡ id) × (w ≡ x)).
      let F : View → Type 0 = λ y. Knows mail' y.kind (at y m) in
      let G : SeatKind → Type 0 = λ y. Knows mail' y (at w m) in
      let H : SeatKind → Type 0 = λ y. Knows mail y (at v m) in
      subst F here.1 (subst G (sym (same_kind ∙ is_seat)) (mine (subst H is_seat (kept.each_view id v e)))))
      (λ (other : (j ≢ id) × (get_elem? views j ≡ some x)). others x.kind (at x m) (alone j x other.0 other.1) (kept.each_view j x other.1))
      (at_set views id j w x d);
}

-- the same, where the view is that after a step
pub kept_step : (cpus : ℕ) (spec : MsgSpec) (mail mail' : Mail) (word word' : ℕ) (home home' : Option (Option Rec)) (m : ℕ) (views : List View) (id : ℕ) (v : View) (cpu : CpuId) (e' : MessageEntry) (between : List Deed) (did : Deed)
    → IsKept cpus spec mail word home m views → get_elem? views id ≡ some v → v.kind ≡ Of cpu
    → ((j : ℕ) (x : View) → j ≢ id → get_elem? views j ≡ some x → StandsFor x.kind cpu.0 → ⊥)
    → IsSafeMessage cpus mail'.msg → mail'.msg.origin ≡ mail.msg.origin → mail'.msg.opening ≡ mail.msg.opening
    → word' ≡ message_word (parts_of mail') → home' ≡ some (in_slot mail'.msg.owner mail'.had mail'.rec)
    → (in_out mail'.msg.owner ≡ 1 → (mail'.rec.error ≡ 0) × (mail'.rec.result ≡ 0))
    → (Knows mail (Of cpu) (at v m) → Knows mail' (Of cpu) e')
    → ((kind : SeatKind) (e : MessageEntry) → (StandsFor kind cpu.0 → ⊥) → Knows mail kind e → Knows mail' kind e)
    → IsKept cpus spec mail' word' home' m (set views id (noted between v m e' did))
kept_step cpus spec mail mail' word word' home home' m views id v cpu e' between did kept e is_seat alone safe origin opening is_word slot unanswered mine others =
    let here : e' ≡ at (noted between v m e' did) m = sym (at-here v m e' between did) in
    let G : MessageEntry → Type 0 = λ x. Knows mail (Of cpu) (at v m) → Knows mail' (Of cpu) x in
    kept_here cpus spec mail mail' word word' home home' m views id v (noted between v m e' did) cpu kept e is_seat refl alone safe origin opening is_word slot unanswered (subst G here mine) others

-- no other view stands for the processor of a seat
pub stands_alone : (cpus : ℕ) (views : List View) (id : ℕ) (v : View) (cpu : CpuId) → AreSeated cpus (map (λ (x : View). x.kind) views) → get_elem? views id ≡ some v → v.kind ≡ Of cpu
    → (j : ℕ) (x : View) → j ≢ id → get_elem? views j ≡ some x → StandsFor x.kind cpu.0 → ⊥
stands_alone cpus views id v cpu seated e is_seat j x apart d stands = go x.kind refl stands
  where
    kinds : List SeatKind
    kinds = map (λ (y : View). y.kind) views

    here : get_elem? kinds id ≡ some (Of cpu)
    here = at_map (λ (y : View). y.kind) views id v e ∙ ap (λ (k : SeatKind). some k) is_seat

    go : (kind : SeatKind) → x.kind ≡ kind → StandsFor kind cpu.0 → ⊥
    go (Clerk made back) is s =
        let there : get_elem? kinds j ≡ some (Clerk made back) = at_map (λ (y : View). y.kind) views j x d ∙ ap (λ (k : SeatKind). some k) is in
        let below = AreSeated-below cpus kinds j made back id cpu seated there here in omega arith
    go (Of c) is s =
        let same : c ≡ cpu = λ i. record { 0 = s i } in
        let there : get_elem? kinds j ≡ some (Of cpu) = at_map (λ (y : View). y.kind) views j x d ∙ (ap (λ (k : SeatKind). some k) is ∙ ap (λ (y : CpuId). some (Of y)) same) in
        apart (seated.one_seat j id cpu there here)
    go Spent is s = s

-- a seat's view knows what the book was opened with
pub seat_plan : (key : Key) (mails : List Mail) (s : State Rec View) (id : ℕ) (v : View) (cpu : CpuId) → IsBook key mails s → get_elem? s.views id ≡ some v → v.kind ≡ Of cpu → (v.cpus ≡ key.cpus) × (v.specs ≡ key.specs.items)
seat_plan key mails s id v cpu book e is_seat = book.plans id v e (λ gone. let h : Of cpu ≡ Spent = sym is_seat ∙ gone in absurd cc)

-- a step on one message keeps the book
pub IsBook-moved : (key : Key) (mails : List Mail) (s : State Rec View) (m id : ℕ) (v w : View) (mail' : Mail) (word' : ℕ) (homes' : List (Option Rec))
    → IsBook key mails s → get_elem? s.views id ≡ some v → Changes m v w → m < length key.specs.items → length homes' ≡ length s.homes
    → ((k : ℕ) → k ≢ m → get_elem? homes' (slot_at k) ≡ get_elem? s.homes (slot_at k))
    → IsKept key.cpus (spec_at key.specs.items m) mail' word' (get_elem? homes' (slot_at m)) m (set s.views id w)
    → IsBook key (set mails m mail') record { words = set s.words (word_at m) word'; homes = homes'; views = set s.views id w }
IsBook-moved key mails s m id v w mail' word' homes' book e changes there as_deep slots kept = record {
  within = book.within;
  as_many = length-set mails m mail' ∙ book.as_many;
  wide = length-set s.words (word_at m) word' ∙ book.wide;
  deep = as_deep ∙ book.deep;
  zero_word = get_or-set_other s.words (word_at m) 0 word' 0 (λ h. absurd (omega arith)) ∙ book.zero_word;
  seated =
      let F : List SeatKind → Type 0 = λ ks. AreSeated key.cpus ks in
      let G : SeatKind → Type 0 = λ k. AreSeated key.cpus (set (map (λ (x : View). x.kind) s.views) id k) in
      subst F (sym (map-set (λ (x : View). x.kind) s.views id w))
      (subst G (sym changes.kind) (AreSeated-kept key.cpus (map (λ (x : View). x.kind) s.views) id v.kind (at_map (λ (x : View). x.kind) s.views id v e) book.seated));
  plans = λ j x d. ⊎_elim
      (λ (here : (j ≡ id) × (w ≡ x)).
      let F : View → Type 0 = λ y. (y.kind ≡ Spent → ⊥) → (y.cpus ≡ key.cpus) × (y.specs ≡ key.specs.items) in
      subst F here.1 (λ lives. let p = book.plans id v e (λ gone. lives (changes.kind ∙ gone)) in (changes.cpus ∙ p.0, changes.specs ∙ p.1)))
      (λ (other : (j ≢ id) × (get_elem? s.views j ≡ some x)). book.plans j x other.1)
      (at_set s.views id j w x d);
  each = λ k within. dite (ℕ_discrete k m) (λ same. here k same) (λ apart. else_kept k within apart);
}
  where
    in_mails : m < length mails
    in_mails = let h = book.as_many in omega arith

    in_words : word_at m < length s.words
    in_words = let h = book.wide in omega arith

    here : (k : ℕ) → k ≡ m → IsKept key.cpus (spec_at key.specs.items k) (mail_at (set mails m mail') k) (get_or (set s.words (word_at m) word') (word_at k) 0) (get_elem? homes' (slot_at k)) k (set s.views id w)
    here k same =
        let F : ℕ → Type 0 = λ n. IsKept key.cpus (spec_at key.specs.items n) (mail_at (set mails m mail') n) (get_or (set s.words (word_at m) word') (word_at n) 0) (get_elem? homes' (slot_at n)) n (set s.views id w) in
        let G : Mail → Type 0 = λ x. IsKept key.cpus (spec_at key.specs.items m) x (get_or (set s.words (word_at m) word') (word_at m) 0) (get_elem? homes' (slot_at m)) m (set s.views id w) in
        let H : ℕ → Type 0 = λ n. IsKept key.cpus (spec_at key.specs.items m) mail' n (get_elem? homes' (slot_at m)) m (set s.views id w) in
        subst F (sym same) (subst G (sym (get_or-set_same mails m mail' no_mail in_mails)) (subst H (sym (get_or-set_same s.words (word_at m) word' 0 in_words)) kept))

    else_kept : (k : ℕ) → k < length key.specs.items → k ≢ m → IsKept key.cpus (spec_at key.specs.items k) (mail_at (set mails m mail') k) (get_or (set s.words (word_at m) word') (word_at k) 0) (get_elem? homes' (slot_at k)) k (set s.views id w)
    else_kept k within apart =
        let G : Mail → Type 0 = λ x. IsKept key.cpus (spec_at key.specs.items k) x (get_or (set s.words (word_at m) word') (word_at k) 0) (get_elem? homes' (slot_at k)) k (set s.views id w) in
        let H : ℕ → Type 0 = λ n. IsKept key.cpus (spec_at key.specs.items k) (mail_at mails k) n (get_elem? homes' (slot_at k)) k (set s.views id w) in
        let J : Option (Option Rec) → Type 0 = λ o. IsKept key.cpus (spec_at key.specs.items k) (mail_at mails k) (get_or s.words (word_at k) 0) o k (set s.views id w) in
        subst G (sym (get_or-set_other mails m k mail' no_mail apart)) (subst H (sym (get_or-set_other s.words (word_at m) (word_at k) word' 0 (λ h. apart (omega arith))))
        (subst J (sym (slots k apart)) (kept_else key.cpus (spec_at key.specs.items k) (mail_at mails k) (get_or s.words (word_at k) 0) (get_elem? s.homes (slot_at k)) k m s.views id v w e changes apart (book.each k within))))
