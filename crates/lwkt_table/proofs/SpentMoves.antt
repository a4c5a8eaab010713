use Rattle.std.proofs.Common.{inl, inr, ◌≡◌, ⊎_elim, ℕ, List, [], ◌∷◌, ◌++◌, map, refl, ap, sym, ◌∙◌, subst, arith}
use mathlib.Core.Option.{some}
use lib.ListN.{get_elem?}
use Rattle.lwkt_base.specs.declared.names.CpuId.{CpuId}
use Rattle.lwkt_table.specs.declared.seats.SeatKind.{SeatKind}
use Rattle.lwkt_table.specs.declared.seats.SeatKind.TheVariants.{Clerk, Of, Spent}
use Rattle.lwkt_table.specs.declared.seats.Deed.{Deed}
use Rattle.lwkt_table.specs.declared.seats.Chapter.{Chapter}
use Rattle.lwkt_table.specs.Seating.{AreSeated, weight}
use Rattle.lwkt_table.specs.History.{Page, spent_page, HasClerk, HasSeat, HasChapter, HasSeen, Chronicle}
use Rattle.lwkt_table.proofs.SeatingLemmas.{at_snoc, at_longer, map-snoc, total-snoc}

not_clerk : (made back : ℕ) → Spent ≡ Clerk made back → ⊥
not_clerk made back e = cc

not_seat : (cpu : CpuId) → Spent ≡ Of cpu → ⊥
not_seat cpu e = cc

-- one spent view more among the kinds
pub seated_more : (cpus : ℕ) (kinds : List SeatKind) → AreSeated cpus kinds → AreSeated cpus (kinds ++ Spent ∷ [])
seated_more cpus kinds seated = record {
  desk = seated.desk;
  made = seated.made;
  back = seated.back;
  clerk = at_longer kinds (Spent ∷ []) seated.desk (Clerk seated.made seated.back) seated.clerk;
  one_clerk = λ j m b e. ⊎_elim (λ old. seated.one_clerk j m b old) (λ new. absurd (not_clerk m b new.1)) (at_snoc kinds Spent (Clerk m b) j e);
  within = seated.within;
  below = λ j cpu e. seated.below j cpu (seat_before j cpu e);
  one_seat = λ j k cpu e d. seated.one_seat j k cpu (seat_before j cpu e) (seat_before k cpu d);
  all_seats = let one = total-snoc (weight cpus) kinds Spent in let all = seated.all_seats in omega arith;
}
  where
    seat_before : (j : ℕ) (cpu : CpuId) → get_elem? (kinds ++ Spent ∷ []) j ≡ some (Of cpu) → get_elem? kinds j ≡ some (Of cpu)
    seat_before j cpu e = ⊎_elim (λ old. old) (λ new. absurd (not_seat cpu new.1)) (at_snoc kinds Spent (Of cpu) j e)

-- a history seen by one spent page more
module _ {S : Type 0} (Done : S → Deed → S → Type 0) (first m : S) (pages : List Page) (r : Chronicle Done first pages m) where
  abbrev more : List Page
  more = pages ++ spent_page ∷ []

  clerk_before : (made back : ℕ) → HasClerk more made back → HasClerk pages made back
  clerk_before made back c = ⊎_elim
      (λ old. record { at = c.at; page = c.page; here = old; kind = c.kind })
      (λ new. absurd (not_clerk made back (ap (λ (p : Page). p.kind) new.1 ∙ c.kind)))
      (at_snoc pages spent_page c.page c.at c.here)

  seat_before : (cpu : CpuId) (past : List Deed) → HasSeat more cpu past → HasSeat pages cpu past
  seat_before cpu past s = ⊎_elim
      (λ old. record { at = s.at; page = s.page; here = old; kind = s.kind; seen = s.seen })
      (λ new. absurd (not_seat cpu (ap (λ (p : Page). p.kind) new.1 ∙ s.kind)))
      (at_snoc pages spent_page s.page s.at s.here)

  chapter_before : (c : Chapter) → HasChapter more c → HasChapter pages c
  chapter_before c k = ⊎_elim
      (λ old. record { made = k.made; back = k.back; clerk = record { at = k.clerk.at; page = k.clerk.page; here = old; kind = k.clerk.kind }; index = k.index; chapter = k.chapter })
      (λ new. absurd (not_clerk k.made k.back (ap (λ (p : Page). p.kind) new.1 ∙ k.clerk.kind)))
      (at_snoc pages spent_page k.clerk.page k.clerk.at k.clerk.here)

  seen_before : (cpu : CpuId) (past : List Deed) → HasSeen more cpu past → HasSeen pages cpu past
  seen_before cpu past seen = ⊎_elim (λ s. inl (seat_before cpu past s)) (λ k. inr (chapter_before (record { cpu = cpu; past = past }) k)) seen

  seen_after : (cpu : CpuId) (past : List Deed) → HasSeen pages cpu past → HasSeen more cpu past
  seen_after cpu past seen = ⊎_elim
      (λ s. inl (record { at = s.at; page = s.page; here = at_longer pages (spent_page ∷ []) s.at s.page s.here; kind = s.kind; seen = s.seen }))
      (λ k. inr (record {
        made = k.made;
        back = k.back;
        clerk = record { at = k.clerk.at; page = k.clerk.page; here = at_longer pages (spent_page ∷ []) k.clerk.at k.clerk.page k.clerk.here; kind = k.clerk.kind };
        index = k.index;
        chapter = k.chapter;
      }))
      seen

  chronicle_more : Chronicle Done first more m
  chronicle_more = record {
    history = r.history;
    passes = r.passes;
    parts = λ cpu past seen. r.parts cpu past (seen_before cpu past seen);
    apart = λ c past k s. r.apart c past (chapter_before c k) (seat_before c.cpu past s);
    kept = λ c made back k clerk. r.kept c made back (chapter_before c k) (clerk_before made back clerk);
    unmade = λ made back cpu clerk low. r.unmade made back cpu (clerk_before made back clerk) low;
    met = λ made back cpu clerk low. let old = r.met made back cpu (clerk_before made back clerk) low in (old.0, seen_after cpu old.0 old.1);
    whole = ⊎_elim (λ none. inl none) (λ some'. inr (some'.0, seen_after some'.0 r.history some'.1)) r.whole;
  }

  Chronicle-more : (q : Chronicle Done first more m) × (q.history ≡ r.history)
  unfolding chronicle_more
  Chronicle-more = (chronicle_more, refl)

-- the same for the views of a table that show the pages
pub Views-more : {S V : Type 0} (Done : S → Deed → S → Type 0) (page_of : V → Page) (first m : S) (views : List V) (v : V) → page_of v ≡ spent_page → (r : Chronicle Done first (map page_of views) m)
    → (q : Chronicle Done first (map page_of (views ++ v ∷ [])) m) × (q.history ≡ r.history)
Views-more Done page_of first m views v is r =
    let F : List Page → Type 0 = λ ps. (q : Chronicle Done first ps m) × (q.history ≡ r.history) in
    subst F (sym (map-snoc page_of views v ∙ ap (λ (p : Page). map page_of views ++ p ∷ []) is)) (Chronicle-more Done first m (map page_of views) r)
