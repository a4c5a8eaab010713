use Rattle.std.proofs.Common.{◌≡◌, ◌≢◌, ⊎_elim, ℕ, zero, suc, ◌+◌, ◌*◌, ◌<◌, List, [], ◌∷◌, ◌++◌, map, length, replicate, set, get_or, refl, ap, sym, ◌∙◌, subst, arith}
use mathlib.Core.Option.{Option, some, some-injective, some-ne-none}
use lib.ListN.{get_elem?, length-map, length-replicate}
use Rattle.atomic_table.specs.Table.{State, Splits, Joins, opening}
use Rattle.lwkt_base.specs.declared.names.CpuId.{CpuId}
use Rattle.lwkt_base.specs.declared.records.Rec.{Rec}
use Rattle.lwkt_base.specs.declared.opening_specs.MsgSpec.{MsgSpec}
use Rattle.lwkt_base.specs.MessageWord.{message_word}
use Rattle.lwkt_table.specs.declared.seats.SeatKind.{SeatKind}
use Rattle.lwkt_table.specs.declared.seats.SeatKind.TheVariants.{Clerk, Of, Spent}
use Rattle.lwkt_core.specs.Opening.{AreWithin, IsMessageWithin}
use Rattle.lwkt_table.specs.Seating.{AreSeated, weight, after_made, after_back, next_seat}
use Rattle.lwkt_table.specs.History.{back_page}
use Rattle.lwkt_table.proofs.ViewLemmas.{Views-opened, Views-split, Views-moved, Views-joined}
use Rattle.lwkt_core.proofs.MessageMoves.{IsSafeMessage-opened}
use Rattle.lwkt_table.proofs.SeatingLemmas.{at_set, set_else, at_longer, at_snoc, at_map, map-set, map-snoc, total-set, total-snoc, AreSeated-opening, AreSeated-split, AreSeated-join}
use Rattle.lwkt_msg.specs.declared.views.MessageEntry.{MessageEntry}
use Rattle.lwkt_msg.specs.declared.views.Key.{Key}
use Rattle.lwkt_msg.specs.declared.views.Noted.{Noted}
use Rattle.lwkt_msg.specs.declared.views.View.{View}
use Rattle.lwkt_msg.specs.Views.{word_at, slot_at, spec_at, at, entry_in, first_entry, no_spec, seat_cpu, page_of, clerk_after, new_seat, spent_view, spent_left, whole_right, joined}
use Rattle.lwkt_msg.specs.Book.{Mail, Knows, IsKept, mail_at, IsBook, first_view, no_rec, opened_mail}
use Rattle.lwkt_msg.specs.Ledger.{IsDone, first_mails, Ledger, IsSame, Opens}
use Rattle.lwkt_msg.specs.Steps.{rest_word}
use Rattle.std.proofs.lemmas.List.Elements.{All-get_or}
use Rattle.lwkt_msg.proofs.Recalling.{recalls_none, recalls_split, recalls_moved, recalls_joined}
use Rattle.lwkt_msg.proofs.Moves.{never}

abbrev kinds : List View → List SeatKind
kinds views = map (λ (v : View). v.kind) views

-- what a view without entries knows
pub at-none : (v : View) (m : ℕ) → v.entries ≡ [] → at v m ≡ first_entry (spec_at v.specs m)
unfolding at entry_in
at-none v m none_yet = let F : List Noted → Type 0 = λ es. entry_in es m (first_entry (spec_at v.specs m)) ≡ first_entry (spec_at v.specs m) in subst F (sym none_yet) refl

-- a view with the entries of another knows what that one knows
at-like : (v w : View) (m : ℕ) → w.entries ≡ v.entries → w.specs ≡ v.specs → at w m ≡ at v m
unfolding at
at-like v w m entries specs = λ i. entry_in (entries i) m (first_entry (spec_at (specs i) m))

-- a column of views in which each knows what is so keeps a message
kept_over : (cpus : ℕ) (spec : MsgSpec) (mail : Mail) (word : ℕ) (home : Option (Option Rec)) (m : ℕ) (views views' : List View) → IsKept cpus spec mail word home m views
    → ((j : ℕ) (v : View) → get_elem? views' j ≡ some v → Knows mail v.kind (at v m)) → IsKept cpus spec mail word home m views'
kept_over cpus spec mail word home m views views' kept each = record {
  safe = kept.safe;
  origin_is = kept.origin_is;
  opening_is = kept.opening_is;
  is_word = kept.is_word;
  slot = kept.slot;
  unanswered = kept.unanswered;
  each_view = each;
}

-- the clerk makes the seat of the next processor
pub seat_book : (key : Key) (mails : List Mail) (s : State Rec View) (id : ℕ) (v : View) (made back : ℕ) → IsBook key mails s → get_elem? s.views id ≡ some v → v.kind ≡ Clerk made back → made < v.cpus
    → IsBook key mails record { words = s.words; homes = s.homes; views = set s.views id (clerk_after v) ++ new_seat v ∷ [] }
seat_book key mails s id v made back book e is_clerk room = record {
  within = book.within;
  as_many = book.as_many;
  wide = book.wide;
  deep = book.deep;
  zero_word = book.zero_word;
  seated = seated;
  plans = λ j x d. ⊎_elim
      (λ (old : get_elem? (set s.views id left) j ≡ some x). ⊎_elim
      (λ (here : (j ≡ id) × (left ≡ x)). let F : View → Type 0 = λ y. (y.kind ≡ Spent → ⊥) → (y.cpus ≡ key.cpus) × (y.specs ≡ key.specs.items) in subst F here.1 (λ _. plan))
      (λ (other : (j ≢ id) × (get_elem? s.views j ≡ some x)). book.plans j x other.1)
      (at_set s.views id j left x old))
      (λ (new : (j ≡ length (set s.views id left)) × (right ≡ x)). let F : View → Type 0 = λ y. (y.kind ≡ Spent → ⊥) → (y.cpus ≡ key.cpus) × (y.specs ≡ key.specs.items) in subst F new.1 (λ _. plan))
      (at_snoc (set s.views id left) right x j d);
  each = λ m within. kept_over key.cpus (spec_at key.specs.items m) (mail_at mails m) (get_or s.words (word_at m) 0) (get_elem? s.homes (slot_at m)) m s.views (set s.views id left ++ right ∷ []) (book.each m within) (knows m within);
}
  where
    left : View
    left = clerk_after v

    right : View
    right = new_seat v

    plan : (v.cpus ≡ key.cpus) × (v.specs ≡ key.specs.items)
    plan = book.plans id v e (λ gone. let h : Clerk made back ≡ Spent = sym is_clerk ∙ gone in absurd cc)

    left_kind : left.kind ≡ Clerk (made + 1) back
    left_kind = ap after_made is_clerk

    right_kind : right.kind ≡ Of (record { 0 = made })
    right_kind = ap next_seat is_clerk

    seated : AreSeated key.cpus (kinds (set s.views id left ++ right ∷ []))
    seated =
        let old : get_elem? (kinds s.views) id ≡ some (Clerk made back) = at_map (λ (x : View). x.kind) s.views id v e ∙ ap (λ (k : SeatKind). some k) is_clerk in
        let room' : made < key.cpus = subst (λ (n : ℕ). made < n) plan.0 room in
        let F : List SeatKind → Type 0 = λ ks. AreSeated key.cpus ks in
        let shape : kinds (set s.views id left ++ right ∷ []) ≡ set (kinds s.views) id (Clerk (made + 1) back) ++ Of (record { 0 = made }) ∷ []
        = map-snoc (λ (x : View). x.kind) (set s.views id left) right
        ∙ ((λ i. map-set (λ (x : View). x.kind) s.views id left i ++ right_kind i ∷ []) ∙ (λ i. set (kinds s.views) id (left_kind i) ++ Of (record { 0 = made }) ∷ [])) in
        subst F (sym shape) (AreSeated-split key.cpus (kinds s.views) id made back book.seated old room')

    left_same : (m : ℕ) → at left m ≡ at v m
    left_same m = at-like v left m refl refl

    right_same : (m : ℕ) → at right m ≡ at v m
    right_same m = at-like v right m refl refl

    of_clerk : (m : ℕ) → m < length key.specs.items → Knows (mail_at mails m) (Clerk made back) (at v m)
    of_clerk m within = let F : SeatKind → Type 0 = λ k. Knows (mail_at mails m) k (at v m) in subst F is_clerk ((book.each m within).each_view id v e)

    knows_left : (m : ℕ) → m < length key.specs.items → Knows (mail_at mails m) left.kind (at left m)
    knows_left m within =
        let k = of_clerk m within in
        let F : SeatKind → Type 0 = λ x. Knows (mail_at mails m) x (at left m) in
        let G : MessageEntry → Type 0 = λ x. Knows (mail_at mails m) (Clerk (made + 1) back) x in
        subst F (sym left_kind) (subst G (sym (left_same m)) record {
          as_origin = λ stands. k.as_origin (omega arith);
          as_target = λ cpu stands. k.as_target cpu (omega arith);
        })

    knows_right : (m : ℕ) → m < length key.specs.items → Knows (mail_at mails m) right.kind (at right m)
    knows_right m within =
        let k = of_clerk m within in
        let F : SeatKind → Type 0 = λ x. Knows (mail_at mails m) x (at right m) in
        let G : MessageEntry → Type 0 = λ x. Knows (mail_at mails m) (Of (record { 0 = made })) x in
        subst F (sym right_kind) (subst G (sym (right_same m)) record {
          as_origin = λ stands. k.as_origin (let h : made ≡ (mail_at mails m).msg.origin.cpu.0 = stands in omega arith);
          as_target = λ cpu stands. k.as_target cpu (let h : made ≡ cpu = stands in omega arith);
        })

    knows : (m : ℕ) → m < length key.specs.items → (j : ℕ) (x : View) → get_elem? (set s.views id left ++ right ∷ []) j ≡ some x → Knows (mail_at mails m) x.kind (at x m)
    knows m within j x d = ⊎_elim
        (λ (old : get_elem? (set s.views id left) j ≡ some x). ⊎_elim
        (λ (here : (j ≡ id) × (left ≡ x)). let F : View → Type 0 = λ y. Knows (mail_at mails m) y.kind (at y m) in subst F here.1 (knows_left m within))
        (λ (other : (j ≢ id) × (get_elem? s.views j ≡ some x)). (book.each m within).each_view j x other.1)
        (at_set s.views id j left x old))
        (λ (new : (j ≡ length (set s.views id left)) × (right ≡ x)). let F : View → Type 0 = λ y. Knows (mail_at mails m) y.kind (at y m) in subst F new.1 (knows_right m within))
        (at_snoc (set s.views id left) right x j d)

-- which is no deed
pub seat_is_same : (key : Key) (s : State Rec View) (ledger : Ledger key s) (id : ℕ) (v : View) (made back : ℕ) → get_elem? s.views id ≡ some v → v.kind ≡ Clerk made back → made < v.cpus
    → IsSame key s record { words = s.words; homes = s.homes; views = set s.views id (clerk_after v) ++ new_seat v ∷ [] } ledger
seat_is_same key s ledger id v made back e is_clerk room =
    let q = Views-split (IsDone key.cpus) page_of (first_mails key.specs.items) ledger.rule.mails s.views ledger.chronicle id v e key.cpus ledger.rule.book.seated made back (clerk_after v) (new_seat v) is_clerk refl refl in
    (record { rule = record { mails = ledger.rule.mails; book = seat_book key ledger.rule.mails s id v made back ledger.rule.book e is_clerk room }; chronicle = q.0; recalls = recalls_split s.views ledger.rule.mails (length key.specs.items) id v e ledger.recalls }, refl, q.1)

pub seat_splits : (key : Key) (id : ℕ) (v : View) (made back : ℕ) → v.kind ≡ Clerk made back → made < v.cpus → Splits (Ledger key) id v (clerk_after v) (new_seat v)
seat_splits key id v made back is_clerk room s ledger e = (seat_is_same key s ledger id v made back e is_clerk room).0

-- a seat's view is cut off whole, and leaves a spent one
AreSeated-moved : (cpus : ℕ) (ks : List SeatKind) (i : ℕ) (cpu : CpuId) → AreSeated cpus ks → get_elem? ks i ≡ some (Of cpu) → AreSeated cpus (set ks i Spent ++ Of cpu ∷ [])
AreSeated-moved cpus ks i cpu seated e = record {
  desk = seated.desk;
  made = seated.made;
  back = seated.back;
  clerk = at_longer (set ks i Spent) (Of cpu ∷ []) seated.desk (Clerk seated.made seated.back) (set_else ks i seated.desk Spent desk_apart ∙ seated.clerk);
  one_clerk = λ j m b d. ⊎_elim
      (λ old. ⊎_elim (λ here. absurd (let h : Spent ≡ Clerk m b = here.1 in cc)) (λ other. seated.one_clerk j m b other.1) (at_set ks i j Spent (Clerk m b) old))
      (λ new. absurd (let h : Of cpu ≡ Clerk m b = new.1 in cc))
      (at_snoc (set ks i Spent) (Of cpu) (Clerk m b) j d);
  within = seated.within;
  below = λ j c d. ⊎_elim
      (λ old. seated.below j c (old_of j c old).1)
      (λ new. let same : cpu.0 ≡ c.0 = ap cpu_in new.1 in let h = seated.below i cpu e in omega arith)
      (at_snoc (set ks i Spent) (Of cpu) (Of c) j d);
  one_seat = λ j k c d f. ⊎_elim
      (λ old. ⊎_elim
      (λ older. seated.one_seat j k c (old_of j c old).1 (old_of k c older).1)
      (λ new. absurd (only_old j c old new.1))
      (at_snoc (set ks i Spent) (Of cpu) (Of c) k f))
      (λ new. ⊎_elim
      (λ old. absurd (only_old k c old new.1))
      (λ newer. new.0 ∙ sym newer.0)
      (at_snoc (set ks i Spent) (Of cpu) (Of c) k f))
      (at_snoc (set ks i Spent) (Of cpu) (Of c) j d);
  all_seats =
      let a = total-snoc (weight cpus) (set ks i Spent) (Of cpu) in
      let b = total-set (weight cpus) ks i (Of cpu) Spent e in
      let c = seated.all_seats in
      omega arith;
}
  where
    cpu_in : SeatKind → ℕ
    cpu_in (Clerk made back) = 0
    cpu_in (Of c) = c.0
    cpu_in Spent = 0

    desk_apart : seated.desk ≡ i → ⊥
    desk_apart is =
        let F : ℕ → Type 0 = λ n. get_elem? ks n ≡ some (Clerk seated.made seated.back) in
        let h : some (Of cpu) ≡ some (Clerk seated.made seated.back) = sym e ∙ subst F is seated.clerk in cc

    old_of : (j : ℕ) (c : CpuId) → get_elem? (set ks i Spent) j ≡ some (Of c) → (j ≢ i) × (get_elem? ks j ≡ some (Of c))
    old_of j c old = ⊎_elim (λ here. absurd (let h : Spent ≡ Of c = here.1 in cc)) (λ other. other) (at_set ks i j Spent (Of c) old)

    only_old : (j : ℕ) (c : CpuId) → get_elem? (set ks i Spent) j ≡ some (Of c) → Of cpu ≡ Of c → ⊥
    only_old j c old same =
        let h = old_of j c old in
        let F : SeatKind → Type 0 = λ k. get_elem? ks j ≡ some k in
        h.0 (seated.one_seat j i cpu (subst F (sym same) h.1) e)

knows_spent : (mail : Mail) (m : ℕ) → Knows mail Spent (at spent_view m)
knows_spent mail m = record {
  as_origin = λ stands. absurd stands;
  as_target = λ cpu stands. absurd stands;
}

pub whole_book : (key : Key) (mails : List Mail) (s : State Rec View) (id : ℕ) (v : View) (cpu : CpuId) → IsBook key mails s → get_elem? s.views id ≡ some v → v.kind ≡ Of cpu
    → IsBook key mails record { words = s.words; homes = s.homes; views = set s.views id (spent_left v) ++ whole_right v ∷ [] }
whole_book key mails s id v cpu book e is_seat = record {
  within = book.within;
  as_many = book.as_many;
  wide = book.wide;
  deep = book.deep;
  zero_word = book.zero_word;
  seated =
      let old : get_elem? (kinds s.views) id ≡ some (Of cpu) = at_map (λ (x : View). x.kind) s.views id v e ∙ ap (λ (k : SeatKind). some k) is_seat in
      let F : List SeatKind → Type 0 = λ ks. AreSeated key.cpus ks in
      let shape : kinds (set s.views id spent_view ++ v ∷ []) ≡ set (kinds s.views) id Spent ++ Of cpu ∷ []
      = map-snoc (λ (x : View). x.kind) (set s.views id spent_view) v ∙ (λ i. map-set (λ (x : View). x.kind) s.views id spent_view i ++ is_seat i ∷ []) in
      subst F (sym shape) (AreSeated-moved key.cpus (kinds s.views) id cpu book.seated old);
  plans = λ j x d. ⊎_elim
      (λ (old : get_elem? (set s.views id spent_view) j ≡ some x). ⊎_elim
      (λ (here : (j ≡ id) × (spent_view ≡ x)). λ lives. absurd (lives (ap (λ (y : View). y.kind) (sym here.1))))
      (λ (other : (j ≢ id) × (get_elem? s.views j ≡ some x)). book.plans j x other.1)
      (at_set s.views id j spent_view x old))
      (λ (new : (j ≡ length (set s.views id spent_view)) × (v ≡ x)). let F : View → Type 0 = λ y. (y.kind ≡ Spent → ⊥) → (y.cpus ≡ key.cpus) × (y.specs ≡ key.specs.items) in subst F new.1 (book.plans id v e))
      (at_snoc (set s.views id spent_view) v x j d);
  each = λ m within. kept_over key.cpus (spec_at key.specs.items m) (mail_at mails m) (get_or s.words (word_at m) 0) (get_elem? s.homes (slot_at m)) m s.views (set s.views id spent_view ++ v ∷ []) (book.each m within) (knows m within);
}
  where
    knows : (m : ℕ) → m < length key.specs.items → (j : ℕ) (x : View) → get_elem? (set s.views id spent_view ++ v ∷ []) j ≡ some x → Knows (mail_at mails m) x.kind (at x m)
    knows m within j x d =
        let F : View → Type 0 = λ y. Knows (mail_at mails m) y.kind (at y m) in ⊎_elim
        (λ (old : get_elem? (set s.views id spent_view) j ≡ some x). ⊎_elim
        (λ (here : (j ≡ id) × (spent_view ≡ x)). subst F here.1 (knows_spent (mail_at mails m) m))
        (λ (other : (j ≢ id) × (get_elem? s.views j ≡ some x)). (book.each m within).each_view j x other.1)
        (at_set s.views id j spent_view x old))
        (λ (new : (j ≡ length (set s.views id spent_view)) × (v ≡ x)). subst F new.1 ((book.each m within).each_view id v e))
        (at_snoc (set s.views id spent_view) v x j d)

pub whole_is_same : (key : Key) (s : State Rec View) (ledger : Ledger key s) (id : ℕ) (v : View) (cpu : CpuId) → get_elem? s.views id ≡ some v → v.kind ≡ Of cpu → IsSame key s record { words = s.words; homes = s.homes; views = set s.views id (spent_left v) ++ whole_right v ∷ [] } ledger
whole_is_same key s ledger id v cpu e is_seat =
    let q = Views-moved (IsDone key.cpus) page_of (first_mails key.specs.items) ledger.rule.mails s.views ledger.chronicle id v e (spent_left v) refl in
    (record { rule = record { mails = ledger.rule.mails; book = whole_book key ledger.rule.mails s id v cpu ledger.rule.book e is_seat }; chronicle = q.0; recalls = recalls_moved s.views ledger.rule.mails (length key.specs.items) id v e ledger.recalls }, refl, q.1)

pub whole_splits : (key : Key) (id : ℕ) (v : View) (cpu : CpuId) → v.kind ≡ Of cpu → Splits (Ledger key) id v (spent_left v) (whole_right v)
whole_splits key id v cpu is_seat s ledger e = (whole_is_same key s ledger id v cpu e is_seat).0

-- the clerk takes a seat back
pub joined_book : (key : Key) (mails : List Mail) (s : State Rec View) (id : ℕ) (v : View) (other : ℕ) (w : View) (made back : ℕ) (cpu : CpuId) → IsBook key mails s → get_elem? s.views id ≡ some v → v.kind ≡ Clerk made back → w.kind ≡ Of cpu → other ≢ id → get_elem? (set s.views id (joined v w)) other ≡ some w
    → IsBook key mails record { words = s.words; homes = s.homes; views = set (set s.views id (joined v w)) other spent_view }
joined_book key mails s id v other w made back cpu book e is_clerk is_seat apart d = record {
  within = book.within;
  as_many = book.as_many;
  wide = book.wide;
  deep = book.deep;
  zero_word = book.zero_word;
  seated =
      let desk : get_elem? (kinds s.views) id ≡ some (Clerk made back) = at_map (λ (x : View). x.kind) s.views id v e ∙ ap (λ (k : SeatKind). some k) is_clerk in
      let chair : get_elem? (kinds s.views) other ≡ some (Of cpu) = at_map (λ (x : View). x.kind) s.views other w w_there ∙ ap (λ (k : SeatKind). some k) is_seat in
      let F : List SeatKind → Type 0 = λ ks. AreSeated key.cpus ks in
      let shape : kinds (set (set s.views id both) other spent_view) ≡ set (set (kinds s.views) id (Clerk made (back + 1))) other Spent
      = map-set (λ (x : View). x.kind) (set s.views id both) other spent_view ∙ ((λ i. set (map-set (λ (x : View). x.kind) s.views id both i) other Spent) ∙ (λ i. set (set (kinds s.views) id (both_kind i)) other Spent)) in
      subst F (sym shape) (AreSeated-join key.cpus (kinds s.views) id made back other cpu book.seated desk apart chair);
  plans = λ j x f.
      let F : View → Type 0 = λ y. (y.kind ≡ Spent → ⊥) → (y.cpus ≡ key.cpus) × (y.specs ≡ key.specs.items) in ⊎_elim
      (λ (here : (j ≡ other) × (spent_view ≡ x)). λ lives. absurd (lives (ap (λ (y : View). y.kind) (sym here.1))))
      (λ (old : (j ≢ other) × (get_elem? (set s.views id both) j ≡ some x)). ⊎_elim
      (λ (there : (j ≡ id) × (both ≡ x)). subst F there.1 (λ _. plan))
      (λ (older : (j ≢ id) × (get_elem? s.views j ≡ some x)). book.plans j x older.1)
      (at_set s.views id j both x old.1))
      (at_set (set s.views id both) other j spent_view x f);
  each = λ m within. kept_over key.cpus (spec_at key.specs.items m) (mail_at mails m) (get_or s.words (word_at m) 0) (get_elem? s.homes (slot_at m)) m s.views (set (set s.views id both) other spent_view) (book.each m within) (knows m within);
}
  where
    both : View
    both = joined v w

    both_kind : both.kind ≡ Clerk made (back + 1)
    both_kind = ap after_back is_clerk

    w_there : get_elem? s.views other ≡ some w
    w_there = sym (set_else s.views id other both apart) ∙ d

    plan : (v.cpus ≡ key.cpus) × (v.specs ≡ key.specs.items)
    plan = book.plans id v e (λ gone. let h : Clerk made back ≡ Spent = sym is_clerk ∙ gone in absurd cc)

    knows_both : (m : ℕ) → m < length key.specs.items → Knows (mail_at mails m) both.kind (at both m)
    knows_both m within =
        let mail : Mail = mail_at mails m in
        let F : SeatKind → Type 0 = λ k. Knows mail k (at v m) in
        let k : Knows mail (Clerk made back) (at v m) = subst F is_clerk ((book.each m within).each_view id v e) in
        let G : SeatKind → Type 0 = λ x. Knows mail x (at both m) in
        let H : MessageEntry → Type 0 = λ x. Knows mail (Clerk made (back + 1)) x in
        subst G (sym both_kind) (subst H (sym (at-like v both m refl refl)) record { as_origin = k.as_origin; as_target = k.as_target })

    knows : (m : ℕ) → m < length key.specs.items → (j : ℕ) (x : View) → get_elem? (set (set s.views id both) other spent_view) j ≡ some x → Knows (mail_at mails m) x.kind (at x m)
    knows m within j x f =
        let F : View → Type 0 = λ y. Knows (mail_at mails m) y.kind (at y m) in ⊎_elim
        (λ (here : (j ≡ other) × (spent_view ≡ x)). subst F here.1 (knows_spent (mail_at mails m) m))
        (λ (old : (j ≢ other) × (get_elem? (set s.views id both) j ≡ some x)). ⊎_elim
        (λ (there : (j ≡ id) × (both ≡ x)). subst F there.1 (knows_both m within))
        (λ (older : (j ≢ id) × (get_elem? s.views j ≡ some x)). (book.each m within).each_view j x older.1)
        (at_set s.views id j both x old.1))
        (at_set (set s.views id both) other j spent_view x f)

pub joined_is_same : (key : Key) (s : State Rec View) (ledger : Ledger key s) (id : ℕ) (v : View) (other : ℕ) (w : View) (made back : ℕ) (cpu : CpuId) → get_elem? s.views id ≡ some v → v.kind ≡ Clerk made back → w.kind ≡ Of cpu → other ≢ id
    → get_elem? (set s.views id (joined v w)) other ≡ some w → IsSame key s record { words = s.words; homes = s.homes; views = set (set s.views id (joined v w)) other spent_view } ledger
joined_is_same key s ledger id v other w made back cpu e is_clerk is_seat apart d =
    let there : get_elem? s.views other ≡ some w = sym (set_else s.views id other (joined v w) apart) ∙ d in
    let known : (m : ℕ) → m < length key.specs.items → Knows (mail_at ledger.rule.mails m) (Of cpu) (at w m) = λ m within. let F : SeatKind → Type 0 = λ k. Knows (mail_at ledger.rule.mails m) k (at w m) in subst F is_seat ((ledger.rule.book.each m within).each_view other w there) in
    let page_is : page_of (joined v w) ≡ back_page (page_of v) cpu w.past = ap (λ (c : CpuId). back_page (page_of v) c w.past) (ap seat_cpu is_seat) in
    let q = Views-joined (IsDone key.cpus) page_of (first_mails key.specs.items) ledger.rule.mails s.views ledger.chronicle id v e key.cpus ledger.rule.book.seated made back other w cpu (joined v w) spent_view is_clerk apart there is_seat page_is refl in
    (record { rule = record { mails = ledger.rule.mails; book = joined_book key ledger.rule.mails s id v other w made back cpu ledger.rule.book e is_clerk is_seat apart d }; chronicle = q.0; recalls = recalls_joined s.views ledger.rule.mails (length key.specs.items) id other made back v w cpu e is_clerk is_seat known ledger.recalls }, refl, q.1)

pub seat_joins : (key : Key) (id : ℕ) (v : View) (other : ℕ) (w : View) (made back : ℕ) (cpu : CpuId) → v.kind ≡ Clerk made back → w.kind ≡ Of cpu → Joins (Ledger key) id v other w (joined v w) spent_view
seat_joins key id v other w made back cpu is_clerk is_seat s ledger e apart d = (joined_is_same key s ledger id v other w made back cpu e is_clerk is_seat apart d).0

-- the opened messages, by their numbers
pub opened_at : (specs : List MsgSpec) (m : ℕ) → m < length specs → mail_at (map opened_mail specs) m ≡ opened_mail (spec_at specs m)
opened_at [] m h = absurd (omega arith)
opened_at (x ∷ xs) zero h = refl
opened_at (x ∷ xs) (suc m) h = opened_at xs m (omega arith)

-- what lies in a slot at the opening
blank_at : (n i : ℕ) → i < n → get_elem? (map (λ (x : Rec). some x) (replicate n no_rec)) i ≡ some (some no_rec)
blank_at zero i h = absurd (omega arith)
blank_at (suc n) zero h = refl
blank_at (suc n) (suc i) h = blank_at n i (omega arith)

All-spec : (cpus : ℕ) (specs : List MsgSpec) (m : ℕ) → AreWithin cpus [] specs → m < length specs → IsMessageWithin cpus (spec_at specs m)
All-spec cpus specs m within there = All-get_or (IsMessageWithin cpus) specs m no_spec there within.each_message

-- an opening that keeps the limits meets the rule
opened_book : (key : Key) (words : List ℕ) (slots : List Rec) → AreWithin key.cpus [] key.specs.items → length words ≡ 16 * length key.specs.items + 1 → get_or words 0 0 ≡ 0
    → ((m : ℕ) → m < length key.specs.items → get_or words (word_at m) 0 ≡ message_word (rest_word (spec_at key.specs.items m).origin.cpu (spec_at key.specs.items m).round))
    → slots ≡ replicate (4 * length key.specs.items) no_rec → IsBook key (first_mails key.specs.items) (opening words slots (first_view key))
opened_book key words slots within wide zero_word words_are slots_are = record {
  within = within;
  as_many = length-map key.specs.items opened_mail;
  wide = wide;
  deep = length-map slots (λ (x : Rec). some x) ∙ (ap length slots_are ∙ length-replicate (4 * length key.specs.items) no_rec);
  zero_word = zero_word;
  seated = AreSeated-opening key.cpus;
  plans = λ j v e. only j v e;
  each = λ m there. let F : Mail → Type 0 = λ x. IsKept key.cpus (spec_at key.specs.items m) x (get_or words (word_at m) 0) (get_elem? (map some slots) (slot_at m)) m (first_view key ∷ []) in
      subst F (sym (opened_at key.specs.items m there)) (kept m there);
}
  where
    only : (j : ℕ) (v : View) → get_elem? (first_view key ∷ []) j ≡ some v → (v.kind ≡ Spent → ⊥) → (v.cpus ≡ key.cpus) × (v.specs ≡ key.specs.items)
    only zero v e lives = let F : View → Type 0 = λ y. (y.cpus ≡ key.cpus) × (y.specs ≡ key.specs.items) in subst F (some-injective (first_view key) v e) (refl, refl)
    only (suc j) v e lives = absurd (some-ne-none v (sym e))

    knows_first : (m : ℕ) → Knows (opened_mail (spec_at key.specs.items m)) (Clerk 0 0) (at (first_view key) m)
    knows_first m =
        let F : MessageEntry → Type 0 = λ x. Knows (opened_mail (spec_at key.specs.items m)) (Clerk 0 0) x in
        subst F (sym (at-none (first_view key) m refl)) record {
          as_origin = λ stands. record { round_is = refl; away_is = refl; asked_is = refl; had_is = refl; sync_is = refl; flags_is = refl; call_is = refl; target_is = λ h. never h; back_is = λ h. never h };
          as_target = λ cpu stands. record { taken_is = refl; got_is = λ h. never h; answer_is = λ h. never h };
        }

    knows : (m j : ℕ) (v : View) → get_elem? (first_view key ∷ []) j ≡ some v → Knows (opened_mail (spec_at key.specs.items m)) v.kind (at v m)
    knows m zero v e = let F : View → Type 0 = λ y. Knows (opened_mail (spec_at key.specs.items m)) y.kind (at y m) in subst F (some-injective (first_view key) v e) (knows_first m)
    knows m (suc j) v e = absurd (some-ne-none v (sym e))

    kept : (m : ℕ) → m < length key.specs.items → IsKept key.cpus (spec_at key.specs.items m) (opened_mail (spec_at key.specs.items m)) (get_or words (word_at m) 0) (get_elem? (map some slots) (slot_at m)) m (first_view key ∷ [])
    kept m there = record {
      safe = IsSafeMessage-opened key.cpus (spec_at key.specs.items m) (All-spec key.cpus key.specs.items m within there);
      origin_is = refl;
      opening_is = refl;
      is_word = words_are m there;
      slot = let F : List Rec → Type 0 = λ xs. get_elem? (map some xs) (slot_at m) ≡ some (some no_rec) in subst F (sym slots_are) (blank_at (4 * length key.specs.items) (slot_at m) (omega arith));
      unanswered = λ h. absurd (omega arith);
      each_view = knows m;
    }

-- and its history is empty
pub rule_opens : (key : Key) (words : List ℕ) (slots : List Rec) → AreWithin key.cpus [] key.specs.items → length words ≡ 16 * length key.specs.items + 1 → get_or words 0 0 ≡ 0
    → ((m : ℕ) → m < length key.specs.items → get_or words (word_at m) 0 ≡ message_word (rest_word (spec_at key.specs.items m).origin.cpu (spec_at key.specs.items m).round))
    → slots ≡ replicate (4 * length key.specs.items) no_rec → Opens key (opening words slots (first_view key))
rule_opens key words slots within wide zero_word words_are slots_are =
    let q = Views-opened (IsDone key.cpus) page_of (first_mails key.specs.items) (first_view key) refl in
    (record { rule = record { mails = first_mails key.specs.items; book = opened_book key words slots within wide zero_word words_are slots_are }; chronicle = q.0; recalls = recalls_none (first_view key) (first_mails key.specs.items) (length key.specs.items) refl }, refl, q.1)
