use Rattle.std.proofs.Common.{◌≡◌, ◌≢◌, ◌⊎◌, ℕ, ◌<◌, ◌≤◌, List, [], ◌∷◌, ◌++◌, map, set, refl, ap, sym, ◌∙◌, subst}
use mathlib.Core.Option.{some}
use lib.ListN.{get_elem?}
use Rattle.lwkt_base.specs.declared.names.CpuId.{CpuId}
use Rattle.lwkt_table.specs.declared.seats.SeatKind.{SeatKind}
use Rattle.lwkt_table.specs.declared.seats.SeatKind.TheVariants.{Clerk, Of}
use Rattle.lwkt_table.specs.declared.seats.Deed.{Deed}
use Rattle.lwkt_table.specs.declared.seats.Chapter.{Chapter}
use Rattle.lwkt_table.specs.Seating.{AreSeated}
use Rattle.lwkt_table.specs.History.{AreOthers, IsPastOf, Page, kinds_of, first_page, spent_page, noted_page, made_page, seat_page, back_page, Chronicle}
use Rattle.lwkt_table.proofs.SeatingLemmas.{at_map, map-set, map-snoc}
use Rattle.lwkt_table.proofs.ChronicleLemmas.{Chronicle-opened, Chronicle-between, Chronicle-noted, Chronicle-split, Chronicle-joined, Chronicle-moved, Chronicle-one_more, Chronicle-was_done, Closed-part, Closed-chapter, Closed-others, Closed-whole}

-- what was proved of pages, for the views of a table that show them
module _ {V : Type 0} (page_of : V → Page) where
  pub kinds_shown : (views : List V) → kinds_of (map page_of views) ≡ map (λ v. (page_of v).kind) views
  kinds_shown [] = refl
  kinds_shown (v ∷ views) = λ k. (page_of v).kind ∷ kinds_shown views k

  pub seated_pages : (cpus : ℕ) (views : List V) → AreSeated cpus (map (λ v. (page_of v).kind) views) → AreSeated cpus (kinds_of (map page_of views))
  seated_pages cpus views seated = let F : List SeatKind → Type 0 = λ ks. AreSeated cpus ks in subst F (sym (kinds_shown views)) seated

  set_shown : (views : List V) (id : ℕ) (w : V) (p : Page) → page_of w ≡ p → map page_of (set views id w) ≡ set (map page_of views) id p
  set_shown views id w p is = map-set page_of views id w ∙ ap (λ (q : Page). set (map page_of views) id q) is

module _ {S V : Type 0} (Done : S → Deed → S → Type 0) (page_of : V → Page) (first : S) where
  -- there is a chronicle over these views, with this history
  abbrev pub HasChronicle : List Deed → List V → S → Type 0
  HasChronicle history views last = (q : Chronicle Done first (map page_of views) last) × (q.history ≡ history)

  by_pages : (history : List Deed) (views : List V) (pages : List Page) (last : S) → map page_of views ≡ pages → (q : Chronicle Done first pages last) × (q.history ≡ history) → HasChronicle history views last
  by_pages history views pages last is kept = let F : List Page → Type 0 = λ ps. (q : Chronicle Done first ps last) × (q.history ≡ history) in subst F (sym is) kept

  -- at the opening
  pub Views-opened : (v : V) → page_of v ≡ first_page → HasChronicle [] (v ∷ []) first
  Views-opened v is = by_pages [] (v ∷ []) (first_page ∷ []) first (λ k. is k ∷ []) (Chronicle-opened Done first)

  module _ (m : S) (views : List V) (r : Chronicle Done first (map page_of views) m) (id : ℕ) (v : V) (here : get_elem? views id ≡ some v) where
    page_there : get_elem? (map page_of views) id ≡ some (page_of v)
    page_there = at_map page_of views id v here

    -- what others have done since a seat's last deed is the rest of the history
    pub Views-between : (cpu : CpuId) → (page_of v).kind ≡ Of cpu → IsPastOf r.history cpu.0 (page_of v).past
    Views-between cpu kind = Chronicle-between Done first m (map page_of views) id (page_of v) cpu page_there kind r

    -- a view is cut off whole
    pub Views-moved : (left : V) → page_of left ≡ spent_page → HasChronicle r.history (set views id left ++ v ∷ []) m
    Views-moved left is =
        by_pages r.history (set views id left ++ v ∷ []) (set (map page_of views) id spent_page ++ page_of v ∷ []) m
        (map-snoc page_of (set views id left) v ∙ ap (λ (ps : List Page). ps ++ page_of v ∷ []) (set_shown page_of views id left spent_page is))
        (Chronicle-moved Done first m (map page_of views) id (page_of v) page_there r)

    module _ (cpus : ℕ) (seated : AreSeated cpus (map (λ x. (page_of x).kind) views)) where
      -- a seat has done a deed, with what others did between
      pub Views-noted : (cpu : CpuId) (n : S) (between : List Deed) (d : Deed) (w : V) → (page_of v).kind ≡ Of cpu → d.cpu ≡ cpu → r.history ≡ (page_of v).past ++ between → Done m d n
          → page_of w ≡ noted_page (page_of v) between d → HasChronicle (r.history ++ d ∷ []) (set views id w) n
      Views-noted cpu n between d w kind own rest done is =
          by_pages (r.history ++ d ∷ []) (set views id w) (set (map page_of views) id (noted_page (page_of v) between d)) n
          (set_shown page_of views id w (noted_page (page_of v) between d) is)
          (Chronicle-noted Done first m n cpus (map page_of views) id (page_of v) cpu between d (seated_pages page_of cpus views seated) page_there kind own r rest done)

      -- the clerk makes a seat
      pub Views-split : (made back : ℕ) (left right : V) → (page_of v).kind ≡ Clerk made back → page_of left ≡ made_page (page_of v) → page_of right ≡ seat_page (page_of v) → HasChronicle r.history (set views id left ++ right ∷ []) m
      Views-split made back left right kind is_left is_right =
          by_pages r.history (set views id left ++ right ∷ []) (set (map page_of views) id (made_page (page_of v)) ++ seat_page (page_of v) ∷ []) m
          (map-snoc page_of (set views id left) right
          ∙ ap (λ (ps : List Page). ps ++ page_of right ∷ []) (set_shown page_of views id left (made_page (page_of v)) is_left)
          ∙ ap (λ (p : Page). set (map page_of views) id (made_page (page_of v)) ++ p ∷ []) is_right)
          (Chronicle-split Done first m cpus (map page_of views) id (page_of v) made back (seated_pages page_of cpus views seated) page_there kind r)

      -- the clerk takes a seat back
      pub Views-joined : (made back other : ℕ) (w : V) (cpu : CpuId) (both spent : V) → (page_of v).kind ≡ Clerk made back → other ≢ id → get_elem? views other ≡ some w → (page_of w).kind ≡ Of cpu
          → page_of both ≡ back_page (page_of v) cpu (page_of w).past → page_of spent ≡ spent_page → HasChronicle r.history (set (set views id both) other spent) m
      Views-joined made back other w cpu both spent kind apart there its is_both is_spent =
          by_pages r.history (set (set views id both) other spent) (set (set (map page_of views) id (back_page (page_of v) cpu (page_of w).past)) other spent_page) m
          (set_shown page_of (set views id both) other spent spent_page is_spent
          ∙ ap (λ (ps : List Page). set ps other spent_page) (set_shown page_of views id both (back_page (page_of v) cpu (page_of w).past) is_both))
          (Chronicle-joined Done first m cpus (map page_of views) id (page_of v) made back other (page_of w) cpu (seated_pages page_of cpus views seated) page_there kind apart (at_map page_of views other w there) its r)

  -- whatever chronicles there are before and after a seat has noted a deed
  module _ (m n : S) (views : List V) (r : Chronicle Done first (map page_of views) m) (id : ℕ) (v w : V) (q : Chronicle Done first (map page_of (set views id w)) n) (here : get_elem? views id ≡ some v)
      (cpus : ℕ) (seated : AreSeated cpus (map (λ x. (page_of x).kind) views)) (cpu : CpuId) (between : List Deed) (d : Deed) (kind : (page_of v).kind ≡ Of cpu) (own : d.cpu ≡ cpu) (others : AreOthers cpu.0 between)
      (is : page_of w ≡ noted_page (page_of v) between d) where
    one_noted_more : (q' : Chronicle Done first (set (map page_of views) id (noted_page (page_of v) between d)) n) × (q'.history ≡ q.history)
    one_noted_more =
        let F : List Page → Type 0 = λ ps. (x : Chronicle Done first ps n) × (x.history ≡ q.history) in
        subst F (set_shown page_of views id w (noted_page (page_of v) between d) is) (q, refl)

    pub Views-one_more : q.history ≡ r.history ++ d ∷ []
    Views-one_more =
        sym one_noted_more.1
        ∙ Chronicle-one_more Done first m n cpus (map page_of views) id (page_of v) cpu between d (seated_pages page_of cpus views seated) (at_map page_of views id v here) kind own others r one_noted_more.0

    pub Views-was_done : ((a : S) (x : Deed) (b c : S) → Done a x b → Done a x c → b ≡ c) → Done m d n
    Views-was_done decides =
        Chronicle-was_done Done first m n cpus (map page_of views) id (page_of v) cpu between d (seated_pages page_of cpus views seated) (at_map page_of views id v here) kind own others r one_noted_more.0 decides

  -- at the close, when the clerk has taken all seats back
  module _ (m : S) (views : List V) (r : Chronicle Done first (map page_of views) m) (id : ℕ) (v : V) (here : get_elem? views id ≡ some v) (cpus : ℕ) (seated : AreSeated cpus (map (λ x. (page_of x).kind) views))
      (made back : ℕ) (kind : (page_of v).kind ≡ Clerk made back) (all : cpus ≤ back) where
    -- each chapter has all of its processor's part
    pub Views-part : (i : ℕ) (c : Chapter) → get_elem? (page_of v).chapters i ≡ some c → IsPastOf r.history c.cpu.0 c.past
    Views-part i c at_i = Closed-part Done first m cpus (map page_of views) id (page_of v) made back (seated_pages page_of cpus views seated) (at_map page_of views id v here) kind all r i c at_i

    -- each processor has its chapter
    pub Views-chapter : (cpu : CpuId) → cpu.0 < cpus → (past : List Deed) × (i : ℕ) × (get_elem? (page_of v).chapters i ≡ some (record { cpu = cpu; past = past }))
    Views-chapter cpu low = Closed-chapter Done first m cpus (map page_of views) id (page_of v) made back (seated_pages page_of cpus views seated) (at_map page_of views id v here) kind all r cpu low

    -- no other processor has a deed
    pub Views-others : (cpu : ℕ) → cpus ≤ cpu → AreOthers cpu r.history
    Views-others cpu high = Closed-others Done first m cpus (map page_of views) id (page_of v) made back (seated_pages page_of cpus views seated) (at_map page_of views id v here) kind all r cpu high

    -- the history is empty, or what one seat had seen
    pub Views-whole : (r.history ≡ []) ⊎ ((i : ℕ) × (cpu : CpuId) × (get_elem? (page_of v).chapters i ≡ some (record { cpu = cpu; past = r.history })))
    Views-whole = Closed-whole Done first m cpus (map page_of views) id (page_of v) made back (seated_pages page_of cpus views seated) (at_map page_of views id v here) kind all r
