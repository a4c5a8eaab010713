use Rattle.std.proofs.Common.{inl, inr, ◌≡◌, ◌≢◌, ⊎_elim, ℕ, ◌<◌, ◌≤◌, List, [], ◌∷◌, ◌++◌, map, set, refl, ap, sym, ◌∙◌, subst, append_assoc, append-nil, flat_map, slice_index_or}
use Rattle.std.proofs.lemmas.Bool.{cases_eq, cases_lt}
use Rattle.std.proofs.lemmas.List.{append_cancel_left}
use mathlib.Core.Option.{some, some-injective}
use lib.ListN.{get_elem?}
use Rattle.lwkt_base.specs.declared.names.CpuId.{CpuId}
use Rattle.lwkt_table.specs.declared.seats.SeatKind.{SeatKind}
use Rattle.lwkt_table.specs.declared.seats.SeatKind.TheVariants.{Clerk, Of, Spent}
use Rattle.lwkt_table.specs.declared.seats.Deed.{Deed}
use Rattle.lwkt_table.specs.Seating.{AreSeated}
use Rattle.lwkt_table.specs.History.{Passes, part_by, AreOthers, AreOwn, IsPastOf, Grows, Page, kinds_of, HasClerk, HasSeen, Chronicle}
use Rattle.lwkt_table.proofs.SeatingLemmas.{set_here, set_else, inside, at_map, of_map, map-set}
use Rattle.lwkt_table.proofs.ViewLemmas.{seated_pages}
use Rattle.lwkt_table.proofs.HistoryLemmas.{others-right, part_by-append, part_by-others, part_by-own, part_by-grows, Grows-front, Passes-split, Passes-same}

abbrev cpu_in : SeatKind → CpuId
cpu_in (Clerk made back) = record { 0 = 0 }
cpu_in (Of cpu) = cpu
cpu_in Spent = record { 0 = 0 }

no_clerk : (made back : ℕ) (cpu : CpuId) → Of cpu ≡ Clerk made back → ⊥
no_clerk made back cpu e = cc

same_cpu : (a b : CpuId) → a.0 ≡ b.0 → a ≡ b
same_cpu a b e = ap (λ (n : ℕ). let c : CpuId = record { 0 = n } in c) e

one_at : {A : Type 0} (xs : List A) (i j : ℕ) (x y : A) → get_elem? xs i ≡ some x → get_elem? xs j ≡ some y → j ≡ i → x ≡ y
one_at xs i j x y e d same = some-injective x y (sym e ∙ ap (get_elem? xs) (sym same) ∙ d)

-- a deed as a list, and lists of one element each, one after another
abbrev single : Deed → List Deed
single d = d ∷ []

singles : (xs : List Deed) → flat_map single xs ≡ xs
singles [] = refl
singles (x ∷ xs) = ap (λ (l : List Deed). x ∷ l) (singles xs)

-- what a processor has seen in addition has of its own deeds those that it has done
grown_own : (cpu : ℕ) (past deeds grown later : List Deed) → Grows cpu past deeds later → AreOwn cpu deeds → later ≡ past ++ grown → part_by cpu single grown ≡ deeds
grown_own cpu past deeds grown later grows own is =
    append_cancel_left (part_by cpu single past) (part_by cpu single grown) deeds
    (sym (part_by-append cpu single past grown) ∙ ap (part_by cpu single) (sym is) ∙ part_by-grows cpu single past deeds later grows own ∙ ap (λ (l : List Deed). part_by cpu single past ++ l) (singles deeds))

-- whatever chronicles there are before and after a seat has seen more: the second history is the first and the seat's own deeds in
-- what it has seen in addition
module _ {S : Type 0} (Done : S → Deed → S → Type 0) (first m n : S) (cpus : ℕ) (pages : List Page) (id : ℕ) (p p' : Page) (cpu : CpuId) (deeds grown : List Deed)
    (seated : AreSeated cpus (kinds_of pages)) (here : get_elem? pages id ≡ some p) (kind : p.kind ≡ Of cpu) (kind' : p'.kind ≡ Of cpu) (past' : p'.past ≡ p.past ++ grown) (mine : part_by cpu.0 single grown ≡ deeds)
    (r : Chronicle Done first pages m) (q : Chronicle Done first (set pages id p') n) where
  abbrev later : List Page
  later = set pages id p'

  at_kind : (i : ℕ) (x : Page) (k : SeatKind) → get_elem? pages i ≡ some x → x.kind ≡ k → get_elem? (kinds_of pages) i ≡ some k
  at_kind i x k e is = at_map (λ (y : Page). y.kind) pages i x e ∙ ap (λ (z : SeatKind). some z) is

  -- a clerk's page is another, and stays
  clerk_after : (made back : ℕ) (c : HasClerk pages made back) → get_elem? later c.at ≡ some c.page
  clerk_after made back c =
      set_else pages id c.at p' (λ same. no_clerk made back cpu (sym kind ∙ ap (λ (x : Page). x.kind) (one_at pages id c.at p c.page here c.here same) ∙ c.kind)) ∙ c.here

  past_before : IsPastOf r.history cpu.0 p.past
  past_before = r.parts cpu p.past (inl (record { at = id; page = p; here = here; kind = kind; seen = refl }))

  past_after : IsPastOf q.history cpu.0 (p.past ++ grown)
  past_after = q.parts cpu (p.past ++ grown) (inl (record { at = id; page = p'; here = set_here pages id p' (inside pages id p here); kind = kind'; seen = past' }))

  -- who isn't the seat has seen what it had seen
  seen_else : (c : CpuId) (past : List Deed) → c ≢ cpu → HasSeen pages c past → HasSeen later c past
  seen_else c past differ seen = ⊎_elim
      (λ s.
      let away : s.at ≢ id = λ same. differ (ap (λ (k : SeatKind). cpu_in k) (sym s.kind ∙ ap (λ (x : Page). x.kind) (sym (one_at pages id s.at p s.page here s.here same)) ∙ kind)) in
      inl (record { at = s.at; page = s.page; here = set_else pages id s.at p' away ∙ s.here; kind = s.kind; seen = s.seen }))
      (λ k. inr (record {
        made = k.made;
        back = k.back;
        clerk = record { at = k.clerk.at; page = k.clerk.page; here = clerk_after k.made k.back k.clerk; kind = k.clerk.kind };
        index = k.index;
        chapter = k.chapter;
      }))
      seen

  front_seen : (c : CpuId) → HasSeen pages c r.history → (rest : List Deed) × (q.history ≡ r.history ++ rest)
  front_seen c seen = ⊎_elim
      (λ (same : c.0 ≡ cpu.0).
      let F : CpuId → Type 0 = λ x. HasSeen pages x r.history in
      front_mine (subst F (same_cpu c cpu same) seen))
      (λ (differ : c.0 ≢ cpu.0). let past = q.parts c r.history (seen_else c r.history (λ e. differ (ap (λ (x : CpuId). x.0) e)) seen) in (past.0, past.1.0))
      (cases_eq c.0 cpu.0)
    where
      front_mine : HasSeen pages cpu r.history → (rest : List Deed) × (q.history ≡ r.history ++ rest)
      front_mine (inl s) =
          let same : s.at ≡ id = seated.one_seat s.at id cpu (at_kind s.at s.page (Of cpu) s.here s.kind) (at_kind id p (Of cpu) here kind) in
          let is : p.past ≡ r.history = ap (λ (x : Page). x.past) (one_at pages id s.at p s.page here s.here same) ∙ s.seen in
          (grown ++ past_after.0, past_after.1.0 ∙ append_assoc p.past grown past_after.0 ∙ ap (λ (l : List Deed). l ++ (grown ++ past_after.0)) is)
      front_mine (inr k) = absurd (r.apart (record { cpu = cpu; past = r.history }) p.past k (record { at = id; page = p; here = here; kind = kind; seen = refl }))

  front_of : (rest : List Deed) × (q.history ≡ r.history ++ rest)
  front_of = ⊎_elim (λ none. (q.history, ap (λ (l : List Deed). l ++ q.history) (sym none))) (λ seen. front_seen seen.0 seen.1) r.whole

  clerk_before_it : HasClerk pages seated.made seated.back
  clerk_before_it = let c = of_map (λ (x : Page). x.kind) pages seated.desk (Clerk seated.made seated.back) seated.clerk in record { at = seated.desk; page = c.0; here = c.1; kind = c.2 }

  clerk_after_it : HasClerk later seated.made seated.back
  clerk_after_it = record { at = clerk_before_it.at; page = clerk_before_it.page; here = clerk_after seated.made seated.back clerk_before_it; kind = clerk_before_it.kind }

  -- nobody else has done anything since
  others_since : (c : CpuId) → c ≢ cpu → AreOthers c.0 front_of.0
  others_since c differ = ⊎_elim
      (λ (below : c.0 < seated.made).
      let met = r.met seated.made seated.back c clerk_before_it below in
      let one = r.parts c met.0 met.1 in
      let two = q.parts c met.0 (seen_else c met.0 differ met.1) in
      let both_ways : met.0 ++ two.0 ≡ met.0 ++ (one.0 ++ front_of.0) = sym two.1.0 ∙ front_of.1 ∙ ap (λ (l : List Deed). l ++ front_of.0) one.1.0 ∙ append_assoc met.0 one.0 front_of.0 in
      others-right c.0 one.0 front_of.0 (subst (AreOthers c.0) (append_cancel_left met.0 two.0 (one.0 ++ front_of.0) both_ways) two.1.1))
      (λ (above : seated.made ≤ c.0). others-right c.0 r.history front_of.0 (subst (AreOthers c.0) front_of.1 (q.unmade seated.made seated.back c.0 clerk_after_it above)))
      (cases_lt c.0 seated.made)

  own_since : AreOwn cpu.0 front_of.0
  own_since k x low = ⊎_elim
      (λ same. same)
      (λ differ. absurd (others_since (slice_index_or front_of.0 k x).cpu (λ e. differ (ap (λ (y : CpuId). y.0) e)) k x low refl))
      (cases_eq (slice_index_or front_of.0 k x).cpu.0 cpu.0)

  -- what the seat did since are the deeds
  only_deeds : front_of.0 ≡ deeds
  only_deeds =
      let whole : past_before.0 ++ front_of.0 ≡ grown ++ past_after.0
      = append_cancel_left p.past (past_before.0 ++ front_of.0) (grown ++ past_after.0)
      (sym (append_assoc p.past past_before.0 front_of.0) ∙ ap (λ (l : List Deed). l ++ front_of.0) (sym past_before.1.0) ∙ sym front_of.1 ∙ past_after.1.0 ∙ append_assoc p.past grown past_after.0) in
      let left : part_by cpu.0 single (past_before.0 ++ front_of.0) ≡ front_of.0
      = part_by-append cpu.0 single past_before.0 front_of.0
      ∙ ap (λ (l : List Deed). l ++ part_by cpu.0 single front_of.0) (part_by-others cpu.0 single past_before.0 past_before.1.1)
      ∙ part_by-own cpu.0 single front_of.0 own_since
      ∙ singles front_of.0 in
      let right : part_by cpu.0 single (grown ++ past_after.0) ≡ deeds
      = part_by-append cpu.0 single grown past_after.0
      ∙ ap (λ (l : List Deed). part_by cpu.0 single grown ++ l) (part_by-others cpu.0 single past_after.0 past_after.1.1)
      ∙ append-nil (part_by cpu.0 single grown)
      ∙ mine in
      sym left ∙ ap (part_by cpu.0 single) whole ∙ right

  Chronicle-grown : q.history ≡ r.history ++ deeds
  Chronicle-grown = front_of.1 ∙ ap (λ (l : List Deed). r.history ++ l) only_deeds

  -- and where deeds decide what they leave, they were done one after another between the two last states
  Chronicle-were_done : ((a : S) (x : Deed) (b c : S) → Done a x b → Done a x c → b ≡ c) → Passes Done m deeds n
  Chronicle-were_done decides =
      let F : List Deed → Type 0 = λ l. Passes Done first l n in
      let parts = Passes-split Done first r.history deeds n (subst F Chronicle-grown q.passes) in
      let same : parts.0 ≡ m = Passes-same Done decides first r.history parts.0 m parts.1.0 r.passes in
      let G : S → Type 0 = λ x. Passes Done x deeds n in
      subst G same parts.1.1

-- the same for the views of a table that show the pages: whatever chronicles there are before and after a seat has noted some deeds at once
pub Views-were_done : {S V : Type 0} (Done : S → Deed → S → Type 0) (page_of : V → Page) → ((a : S) (x : Deed) (b c : S) → Done a x b → Done a x c → b ≡ c) → (first m n : S) (cpus : ℕ) (views : List V) (id : ℕ) (v w : V) (cpu : CpuId) (deeds : List Deed)
    → AreSeated cpus (map (λ x. (page_of x).kind) views) → get_elem? views id ≡ some v → (page_of v).kind ≡ Of cpu → (page_of w).kind ≡ Of cpu → Grows cpu.0 (page_of v).past deeds (page_of w).past → AreOwn cpu.0 deeds
    → (r : Chronicle Done first (map page_of views) m) (q : Chronicle Done first (map page_of (set views id w)) n) → Passes Done m deeds n × (q.history ≡ r.history ++ deeds)
Views-were_done Done page_of decides first m n cpus views id v w cpu deeds seated here kind still grows own r q =
    let pages = map page_of views in
    let more = Grows-front cpu.0 (page_of v).past deeds (page_of w).past grows in
    let F : List Page → Type 0 = λ ps. (x : Chronicle Done first ps n) × (x.history ≡ q.history) in
    let q' = subst F (map-set page_of views id w) (q, refl) in
    let seated' = seated_pages page_of cpus views seated in
    let there = at_map page_of views id v here in
    let mine = grown_own cpu.0 (page_of v).past deeds more.0 (page_of w).past grows own more.1 in (
      Chronicle-were_done Done first m n cpus pages id (page_of v) (page_of w) cpu deeds more.0 seated' there kind still more.1 mine r q'.0 decides,
      sym q'.1 ∙ Chronicle-grown Done first m n cpus pages id (page_of v) (page_of w) cpu deeds more.0 seated' there kind still more.1 mine r q'.0,
    )
