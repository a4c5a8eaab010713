use Rattle.std.proofs.Common.{◌≡◌, ◌≢◌, ◌⊎◌, inl, inr, ⊎_elim, ℕ, zero, suc, ◌+◌, ◌<◌, ◌≤◌, List, [], ◌∷◌, ◌++◌, length, set, refl, ap, sym, ◌∙◌, subst, arith, append_assoc, append-nil, flat_map, slice_index_or, length-append}
use Rattle.std.proofs.lemmas.Bool.{cases_eq, cases_lt}
use Rattle.std.proofs.lemmas.List.{append_cancel_left, nil_from_length}
use mathlib.Core.Option.{some, some-injective, some-ne-none}
use lib.ListN.{get_elem?}
use Rattle.lwkt_base.specs.declared.names.CpuId.{CpuId}
use Rattle.lwkt_table.specs.declared.seats.SeatKind.{SeatKind}
use Rattle.lwkt_table.specs.declared.seats.SeatKind.TheVariants.{Clerk, Of, Spent}
use Rattle.lwkt_table.specs.declared.seats.Deed.{Deed}
use Rattle.lwkt_table.specs.declared.seats.Chapter.{Chapter}
use Rattle.lwkt_table.specs.Seating.{AreSeated, after_made, after_back, next_seat}
use Rattle.lwkt_table.specs.History.{Passes, part_by, AreOthers, AreOwn, IsPastOf, Page, kinds_of, first_page, spent_page, noted_page, made_page, seat_page, back_page, HasClerk, HasSeat, HasChapter, HasSeen, Chronicle}
use Rattle.lwkt_table.proofs.SeatingLemmas.{at_set, set_here, set_else, at_longer, at_last, at_snoc, inside, at_map, of_map, at_two, AreSeated-below, AreSeated-clerk, AreSeated-closed}
use Rattle.lwkt_table.proofs.HistoryLemmas.{others-nil, others-snoc, others-right, part_by-append, part_by-others, part_by-own, part_by-noted, Passes-snoc, Passes-split, Passes-same}

-- what a kind has in it
abbrev cpu_in : SeatKind → CpuId
cpu_in (Clerk made back) = record { 0 = 0 }
cpu_in (Of cpu) = cpu
cpu_in Spent = record { 0 = 0 }

abbrev made_in : SeatKind → ℕ
made_in (Clerk made back) = made
made_in (Of cpu) = 0
made_in Spent = 0

not_seat : (made back : ℕ) (cpu : CpuId) → Clerk made back ≡ Of cpu → ⊥
not_seat made back cpu e = cc

not_spent : (cpu : CpuId) → Spent ≡ Of cpu → ⊥
not_spent cpu e = cc

spent_no_clerk : (made back : ℕ) → Spent ≡ Clerk made back → ⊥
spent_no_clerk made back e = cc

-- processors with one number are one
same_cpu : (a b : CpuId) → a.0 ≡ b.0 → a ≡ b
same_cpu a b e = ap (λ (n : ℕ). let c : CpuId = record { 0 = n } in c) e

-- what stands in two places at once
one_at : {A : Type 0} (xs : List A) (i j : ℕ) (x y : A) → get_elem? xs i ≡ some x → get_elem? xs j ≡ some y → j ≡ i → x ≡ y
one_at xs i j x y e d same = some-injective x y (sym e ∙ ap (get_elem? xs) (sym same) ∙ d)

-- a front of a history stays one when a deed comes that isn't the processor's
past_longer : (history : List Deed) (cpu : ℕ) (past : List Deed) (d : Deed) → d.cpu.0 ≢ cpu → IsPastOf history cpu past → IsPastOf (history ++ d ∷ []) cpu past
past_longer history cpu past d other is = (is.0 ++ d ∷ [], (ap (λ l. l ++ d ∷ []) is.1.0 ∙ append_assoc past is.0 (d ∷ []), others-snoc cpu is.0 d is.1.1 other))

-- the kind at a place, in the list of kinds
kind_at : (pages : List Page) (i : ℕ) (p : Page) (kind : SeatKind) → get_elem? pages i ≡ some p → p.kind ≡ kind → get_elem? (kinds_of pages) i ≡ some kind
kind_at pages i p kind here is = at_map (λ (q : Page). q.kind) pages i p here ∙ ap (λ (k : SeatKind). some k) is

-- one clerk and one seat for each processor, among pages
module _ (cpus : ℕ) (pages : List Page) (seated : AreSeated cpus (kinds_of pages)) where
  seat_is : (i : ℕ) (p : Page) (cpu : CpuId) (past : List Deed) → get_elem? pages i ≡ some p → p.kind ≡ Of cpu → (s : HasSeat pages cpu past) → s.at ≡ i
  seat_is i p cpu past here kind s = seated.one_seat s.at i cpu (kind_at pages s.at s.page (Of cpu) s.here s.kind) (kind_at pages i p (Of cpu) here kind)

  clerk_is : (i : ℕ) (p : Page) (made back m b : ℕ) → get_elem? pages i ≡ some p → p.kind ≡ Clerk made back → (c : HasClerk pages m b) → c.at ≡ i
  clerk_is i p made back m b here kind c = AreSeated-clerk cpus (kinds_of pages) i made back c.at m b seated (kind_at pages i p (Clerk made back) here kind) (kind_at pages c.at c.page (Clerk m b) c.here c.kind)

  below_made : (m b : ℕ) (i : ℕ) (p : Page) (cpu : CpuId) → HasClerk pages m b → get_elem? pages i ≡ some p → p.kind ≡ Of cpu → cpu.0 < m
  below_made m b i p cpu c here kind = AreSeated-below cpus (kinds_of pages) c.at m b i cpu seated (kind_at pages c.at c.page (Clerk m b) c.here c.kind) (kind_at pages i p (Of cpu) here kind)

-- a page after a change that keeps its kind and chapters, and the others
module _ (pages : List Page) (id : ℕ) (p p' : Page) (here : get_elem? pages id ≡ some p) (kind : p'.kind ≡ p.kind) (chapters : p'.chapters ≡ p.chapters) where
  of_turned : (j : ℕ) (q' : Page) → get_elem? (set pages id p') j ≡ some q' → (q : Page) × (get_elem? pages j ≡ some q) × (q'.kind ≡ q.kind) × (q'.chapters ≡ q.chapters)
  of_turned j q' e = ⊎_elim
      (λ same. (p, ap (get_elem? pages) same.0 ∙ here, ap (λ (x : Page). x.kind) (sym same.1) ∙ kind, ap (λ (x : Page). x.chapters) (sym same.1) ∙ chapters))
      (λ other. (q', other.1, refl, refl))
      (at_set pages id j p' q' e)

  at_turned : (j : ℕ) (q : Page) → get_elem? pages j ≡ some q → (q' : Page) × (get_elem? (set pages id p') j ≡ some q') × (q'.kind ≡ q.kind) × (q'.chapters ≡ q.chapters)
  at_turned j q e = ⊎_elim
      (λ (same : j ≡ id). let is : p ≡ q = one_at pages id j p q here e same in
      (p', ap (get_elem? (set pages id p')) same ∙ set_here pages id p' (inside pages id p here), kind ∙ ap (λ (x : Page). x.kind) is, chapters ∙ ap (λ (x : Page). x.chapters) is))
      (λ (differ : j ≢ id). (q, set_else pages id j p' differ ∙ e, refl, refl))
      (cases_eq j id)

  clerk_before : (made back : ℕ) → HasClerk (set pages id p') made back → HasClerk pages made back
  clerk_before made back c =
      let old = of_turned c.at c.page c.here in
      record { at = c.at; page = old.0; here = old.1; kind = sym old.2 ∙ c.kind }

  chapter_before : (c : Chapter) → HasChapter (set pages id p') c → HasChapter pages c
  chapter_before c k =
      let old = of_turned k.clerk.at k.clerk.page k.clerk.here in
      record {
        made = k.made;
        back = k.back;
        clerk = record { at = k.clerk.at; page = old.0; here = old.1; kind = sym old.2 ∙ k.clerk.kind };
        index = k.index;
        chapter = ap (λ (cs : List Chapter). get_elem? cs k.index) (sym old.3) ∙ k.chapter;
      }

  chapter_after : (c : Chapter) → HasChapter pages c → HasChapter (set pages id p') c
  chapter_after c k =
      let new = at_turned k.clerk.at k.clerk.page k.clerk.here in
      record {
        made = k.made;
        back = k.back;
        clerk = record { at = k.clerk.at; page = new.0; here = new.1; kind = new.2 ∙ k.clerk.kind };
        index = k.index;
        chapter = ap (λ (cs : List Chapter). get_elem? cs k.index) new.3 ∙ k.chapter;
      }

-- at the opening: the clerk's page alone
module _ {S : Type 0} (Done : S → Deed → S → Type 0) (first : S) where
  only_first : (j : ℕ) (p : Page) → get_elem? (first_page ∷ []) j ≡ some p → first_page ≡ p
  only_first zero p e = some-injective first_page p e
  only_first (suc j) p e = absurd (some-ne-none p (sym e))

  no_seat_yet : (cpu : CpuId) (past : List Deed) → HasSeat (first_page ∷ []) cpu past → ⊥
  no_seat_yet cpu past s = not_seat 0 0 cpu (ap (λ (x : Page). x.kind) (only_first s.at s.page s.here) ∙ s.kind)

  no_chapter_yet : (c : Chapter) → HasChapter (first_page ∷ []) c → ⊥
  no_chapter_yet c k = some-ne-none c (sym (ap (λ (x : Page). get_elem? x.chapters k.index) (only_first k.clerk.at k.clerk.page k.clerk.here) ∙ k.chapter))

  none_made : (made back : ℕ) → HasClerk (first_page ∷ []) made back → made ≡ 0
  none_made made back c = sym (ap (λ (k : SeatKind). made_in k) (ap (λ (x : Page). x.kind) (only_first c.at c.page c.here) ∙ c.kind))

  chronicle_opened : Chronicle Done first (first_page ∷ []) first
  chronicle_opened = record {
    history = [];
    passes = refl;
    parts = λ cpu past seen. absurd (⊎_elim (λ s. no_seat_yet cpu past s) (λ k. no_chapter_yet (record { cpu = cpu; past = past }) k) seen);
    apart = λ c past k s. no_chapter_yet c k;
    kept = λ c made back k clerk. absurd (no_chapter_yet c k);
    unmade = λ made back cpu clerk low. others-nil cpu;
    met = λ made back cpu clerk low. absurd (let z = none_made made back clerk in omega arith);
    whole = inl refl;
  }

  pub Chronicle-opened : (q : Chronicle Done first (first_page ∷ []) first) × (q.history ≡ [])
  unfolding chronicle_opened
  Chronicle-opened = (chronicle_opened, refl)

-- what others have done since a seat's last deed is the rest of the history
pub Chronicle-between : {S : Type 0} (Done : S → Deed → S → Type 0) (first m : S) (pages : List Page) (id : ℕ) (p : Page) (cpu : CpuId) → get_elem? pages id ≡ some p → p.kind ≡ Of cpu → (r : Chronicle Done first pages m) → IsPastOf r.history cpu.0 p.past
Chronicle-between Done first m pages id p cpu here kind r = r.parts cpu p.past (inl (record { at = id; page = p; here = here; kind = kind; seen = refl }))

-- a seat does a deed: the history has it at its end, and the seat has seen all of it
module _ {S : Type 0} (Done : S → Deed → S → Type 0) (first m n : S) (cpus : ℕ) (pages : List Page) (id : ℕ) (p : Page) (cpu : CpuId) (between : List Deed) (d : Deed)
    (seated : AreSeated cpus (kinds_of pages)) (here : get_elem? pages id ≡ some p) (kind : p.kind ≡ Of cpu) (own : d.cpu ≡ cpu) (r : Chronicle Done first pages m) (rest : r.history ≡ p.past ++ between) (done : Done m d n) where
  my_seat : HasSeat pages cpu p.past
  my_seat = record { at = id; page = p; here = here; kind = kind; seen = refl }

  abbrev noted : Page
  noted = noted_page p between d

  abbrev after : List Page
  after = set pages id noted

  all_seen : noted.past ≡ r.history ++ d ∷ []
  all_seen = sym (append_assoc p.past between (d ∷ [])) ∙ ap (λ (l : List Deed). l ++ d ∷ []) (sym rest)

  seat_before : (c : CpuId) (past : List Deed) → HasSeat after c past → ((c ≡ cpu) × (noted.past ≡ past)) ⊎ (HasSeat pages c past × (c ≢ cpu))
  seat_before c past s = ⊎_elim
      (λ same. inl (ap (λ (k : SeatKind). cpu_in k) (sym s.kind ∙ ap (λ (x : Page). x.kind) (sym same.1) ∙ kind), ap (λ (x : Page). x.past) same.1 ∙ s.seen))
      (λ other.
      let old : HasSeat pages c past = record { at = s.at; page = s.page; here = other.1; kind = s.kind; seen = s.seen } in
      inr (old, λ e. other.0 (seat_is cpus pages seated id p c past here (kind ∙ ap (λ (x : CpuId). Of x) (sym e)) old)))
      (at_set pages id s.at noted s.page s.here)

  seat_after : (c : CpuId) (past : List Deed) → HasSeat pages c past → (past' : List Deed) × HasSeat after c past'
  seat_after c past s =
      let new = at_turned pages id p noted here refl refl s.at s.page s.here in
      (new.0.past, record { at = s.at; page = new.0; here = new.1; kind = new.2 ∙ s.kind; seen = refl })

  others_of : (c : CpuId) → c ≢ cpu → d.cpu.0 ≢ c.0
  others_of c differ e = differ (same_cpu c cpu (sym e ∙ ap (λ (x : CpuId). x.0) own))

  chapter_else : (c : Chapter) → HasChapter pages c → c.cpu ≢ cpu
  chapter_else c k e = r.apart c p.past k (subst (λ (x : CpuId). HasSeat pages x p.past) (sym e) my_seat)

  parts_after : (c : CpuId) (past : List Deed) → HasSeen after c past → IsPastOf (r.history ++ d ∷ []) c.0 past
  parts_after c past (inl s) = ⊎_elim
      (λ mine. ([], (sym all_seen ∙ mine.1 ∙ sym (append-nil past), others-nil c.0)))
      (λ other. past_longer r.history c.0 past d (others_of c other.1) (r.parts c past (inl other.0)))
      (seat_before c past s)
  parts_after c past (inr k) =
      let old = chapter_before pages id p noted here refl refl (record { cpu = c; past = past }) k in
      past_longer r.history c.0 past d (others_of c (chapter_else (record { cpu = c; past = past }) old)) (r.parts c past (inr old))

  met_after : (c : CpuId) → (past : List Deed) × HasSeen pages c past → (past : List Deed) × HasSeen after c past
  met_after c met = ⊎_elim
      (λ s. let new = seat_after c met.0 s in (new.0, inl new.1))
      (λ k. (met.0, inr (chapter_after pages id p noted here refl refl (record { cpu = c; past = met.0 }) k)))
      met.1

  chronicle_after : Chronicle Done first after n
  chronicle_after = record {
    history = r.history ++ d ∷ [];
    passes = Passes-snoc Done first r.history m d n r.passes done;
    parts = parts_after;
    apart = λ c past k s.
        let old = chapter_before pages id p noted here refl refl c k in
        ⊎_elim (λ mine. chapter_else c old mine.0) (λ other. r.apart c past old other.0) (seat_before c.cpu past s);
    kept = λ c made back k clerk. r.kept c made back (chapter_before pages id p noted here refl refl c k) (clerk_before pages id p noted here refl refl made back clerk);
    unmade = λ made back c clerk low.
        let old = clerk_before pages id p noted here refl refl made back clerk in
        let mine = below_made cpus pages seated made back id p cpu old here kind in
        others-snoc c r.history d (r.unmade made back c old low) (λ e. let same = sym (ap (λ (x : CpuId). x.0) own) ∙ e in absurd (omega arith));
    met = λ made back c clerk low. met_after c (r.met made back c (clerk_before pages id p noted here refl refl made back clerk) low);
    whole = inr (cpu, inl (record { at = id; page = noted; here = set_here pages id noted (inside pages id p here); kind = kind; seen = all_seen }));
  }

  pub Chronicle-noted : (q : Chronicle Done first (set pages id (noted_page p between d)) n) × (q.history ≡ r.history ++ d ∷ [])
  unfolding chronicle_after
  Chronicle-noted = (chronicle_after, refl)

-- the clerk makes the seat of the next processor, which has seen nothing yet
module _ {S : Type 0} (Done : S → Deed → S → Type 0) (first m : S) (cpus : ℕ) (pages : List Page) (id : ℕ) (p : Page) (made back : ℕ)
    (seated : AreSeated cpus (kinds_of pages)) (here : get_elem? pages id ≡ some p) (kind : p.kind ≡ Clerk made back) (r : Chronicle Done first pages m) where
  abbrev desk : Page
  desk = made_page p

  abbrev fresh : Page
  fresh = seat_page p

  abbrev split : List Page
  split = set pages id desk ++ fresh ∷ []

  desk_kind : desk.kind ≡ Clerk (made + 1) back
  desk_kind = ap (λ (k : SeatKind). after_made k) kind

  fresh_kind : fresh.kind ≡ Of (record { 0 = made })
  fresh_kind = ap (λ (k : SeatKind). next_seat k) kind

  desk_there : get_elem? split id ≡ some desk
  desk_there = at_longer (set pages id desk) (fresh ∷ []) id desk (set_here pages id desk (inside pages id p here))

  old_clerk : HasClerk pages made back
  old_clerk = record { at = id; page = p; here = here; kind = kind }

  new_seat : HasSeat split (record { 0 = made }) []
  new_seat = record { at = length (set pages id desk); page = fresh; here = at_last (set pages id desk) fresh; kind = fresh_kind; seen = refl }

  split_seat_before : (c : CpuId) (past : List Deed) → HasSeat split c past → ((c ≡ record { 0 = made }) × (past ≡ [])) ⊎ HasSeat pages c past
  split_seat_before c past s = ⊎_elim
      (λ old. ⊎_elim
      (λ same. absurd (not_seat (made + 1) back c (sym desk_kind ∙ ap (λ (x : Page). x.kind) same.1 ∙ s.kind)))
      (λ other. inr (record { at = s.at; page = s.page; here = other.1; kind = s.kind; seen = s.seen }))
      (at_set pages id s.at desk s.page old))
      (λ new. inl (ap (λ (k : SeatKind). cpu_in k) (sym s.kind ∙ ap (λ (x : Page). x.kind) (sym new.1) ∙ fresh_kind), sym s.seen ∙ ap (λ (x : Page). x.past) (sym new.1)))
      (at_snoc (set pages id desk) fresh s.page s.at s.here)

  split_seat_after : (c : CpuId) (past : List Deed) → HasSeat pages c past → HasSeat split c past
  split_seat_after c past s =
      let away : s.at ≢ id = λ same. not_seat made back c (sym kind ∙ ap (λ (x : Page). x.kind) (one_at pages id s.at p s.page here s.here same) ∙ s.kind) in
      record { at = s.at; page = s.page; here = at_longer (set pages id desk) (fresh ∷ []) s.at s.page (set_else pages id s.at desk away ∙ s.here); kind = s.kind; seen = s.seen }

  -- a clerk's page there now is the one that was there, with one seat more
  split_clerk : (m' b' : ℕ) (c : HasClerk split m' b') → (c.at ≡ id) × (desk ≡ c.page)
  split_clerk m' b' c = ⊎_elim
      (λ old. ⊎_elim
      (λ same. same)
      (λ other. absurd (other.0 (clerk_is cpus pages seated id p made back m' b' here kind (record { at = c.at; page = c.page; here = other.1; kind = c.kind }))))
      (at_set pages id c.at desk c.page old))
      (λ new. absurd (not_seat m' b' (record { 0 = made }) (sym c.kind ∙ ap (λ (x : Page). x.kind) (sym new.1) ∙ fresh_kind)))
      (at_snoc (set pages id desk) fresh c.page c.at c.here)

  split_made : (m' b' : ℕ) → HasClerk split m' b' → m' ≡ made + 1
  split_made m' b' c = ap (λ (k : SeatKind). made_in k) (sym c.kind ∙ ap (λ (x : Page). x.kind) (sym (split_clerk m' b' c).1) ∙ desk_kind)

  split_chapter_before : (c : Chapter) → HasChapter split c → HasChapter pages c
  unfolding old_clerk
  split_chapter_before c k = record {
    made = made;
    back = back;
    clerk = old_clerk;
    index = k.index;
    chapter = ap (λ (x : Page). get_elem? x.chapters k.index) (split_clerk k.made k.back k.clerk).1 ∙ k.chapter;
  }

  split_chapter_after : (c : Chapter) → HasChapter pages c → HasChapter split c
  split_chapter_after c k = record {
    made = made + 1;
    back = back;
    clerk = record { at = id; page = desk; here = desk_there; kind = desk_kind };
    index = k.index;
    chapter = ap (λ (x : Page). get_elem? x.chapters k.index) (one_at pages id k.clerk.at p k.clerk.page here k.clerk.here (clerk_is cpus pages seated id p made back k.made k.back here kind k.clerk)) ∙ k.chapter;
  }

  split_seen : (c : CpuId) (past : List Deed) → HasSeen pages c past → HasSeen split c past
  split_seen c past seen = ⊎_elim (λ s. inl (split_seat_after c past s)) (λ k. inr (split_chapter_after (record { cpu = c; past = past }) k)) seen

  nothing_seen : (c : CpuId) (past : List Deed) → c ≡ record { 0 = made } → past ≡ [] → IsPastOf r.history c.0 past
  nothing_seen c past is none =
      (r.history, (ap (λ (l : List Deed). l ++ r.history) (sym none), r.unmade made back c.0 old_clerk (let e : c.0 ≡ made = ap (λ (x : CpuId). x.0) is in omega arith)))

  chronicle_split : Chronicle Done first split m
  chronicle_split = record {
    history = r.history;
    passes = r.passes;
    parts = λ c past seen. ⊎_elim
        (λ s. ⊎_elim (λ new. nothing_seen c past new.0 new.1) (λ old. r.parts c past (inl old)) (split_seat_before c past s))
        (λ k. r.parts c past (inr (split_chapter_before (record { cpu = c; past = past }) k)))
        seen;
    apart = λ c past k s.
        let old = split_chapter_before c k in
        ⊎_elim
        (λ new. let low = r.kept c made back old old_clerk in let e : c.cpu.0 ≡ made = ap (λ (x : CpuId). x.0) new.0 in absurd (omega arith))
        (λ older. r.apart c past old older)
        (split_seat_before c.cpu past s);
    kept = λ c m' b' k clerk. let low = r.kept c made back (split_chapter_before c k) old_clerk in let e = split_made m' b' clerk in omega arith;
    unmade = λ m' b' c clerk low. let e = split_made m' b' clerk in r.unmade made back c old_clerk (omega arith);
    met = λ m' b' c clerk low.
        let e = split_made m' b' clerk in
        ⊎_elim
        (λ (older : c.0 < made). let old = r.met made back c old_clerk older in (old.0, split_seen c old.0 old.1))
        (λ (newest : made ≤ c.0). ([], inl (subst (λ (x : CpuId). HasSeat split x []) (same_cpu (record { 0 = made }) c (omega arith)) new_seat)))
        (cases_lt c.0 made);
    whole = ⊎_elim (λ none. inl none) (λ some'. inr (some'.0, split_seen some'.0 r.history some'.1)) r.whole;
  }

  pub Chronicle-split : (q : Chronicle Done first (set pages id (made_page p) ++ seat_page p ∷ []) m) × (q.history ≡ r.history)
  unfolding chronicle_split
  Chronicle-split = (chronicle_split, refl)

-- a chapter is the first, or one of the others
first_or_later : (c : Chapter) (cs : List Chapter) (i : ℕ) (e : Chapter) → get_elem? (c ∷ cs) i ≡ some e → (c ≡ e) ⊎ ((j : ℕ) × (get_elem? cs j ≡ some e))
first_or_later c cs zero e is = inl (some-injective c e is)
first_or_later c cs (suc j) e is = inr (j, is)

-- the clerk takes a seat back, and keeps what it had seen
module _ {S : Type 0} (Done : S → Deed → S → Type 0) (first m : S) (cpus : ℕ) (pages : List Page) (id : ℕ) (p : Page) (made back other : ℕ) (w : Page) (cpu : CpuId)
    (seated : AreSeated cpus (kinds_of pages)) (here : get_elem? pages id ≡ some p) (kind : p.kind ≡ Clerk made back) (apart : other ≢ id) (there : get_elem? pages other ≡ some w) (its : w.kind ≡ Of cpu) (r : Chronicle Done first pages m) where
  abbrev both : Page
  both = back_page p cpu w.past

  abbrev joined : List Page
  joined = set (set pages id both) other spent_page

  abbrev newest : Chapter
  newest = record { cpu = cpu; past = w.past }

  its_seat : HasSeat pages cpu w.past
  its_seat = record { at = other; page = w; here = there; kind = its; seen = refl }

  clerk_there : HasClerk pages made back
  clerk_there = record { at = id; page = p; here = here; kind = kind }

  both_kind : both.kind ≡ Clerk made (back + 1)
  both_kind = ap (λ (k : SeatKind). after_back k) kind

  both_there : get_elem? joined id ≡ some both
  both_there = set_else (set pages id both) other id spent_page (λ same. apart (sym same)) ∙ set_here pages id both (inside pages id p here)

  join_seat_before : (c : CpuId) (past : List Deed) → HasSeat joined c past → HasSeat pages c past × (c ≢ cpu)
  join_seat_before c past s = ⊎_elim
      (λ gone. absurd (not_spent c (ap (λ (x : Page). x.kind) gone.1 ∙ s.kind)))
      (λ rest. ⊎_elim
      (λ desk'. absurd (not_seat made (back + 1) c (sym both_kind ∙ ap (λ (x : Page). x.kind) desk'.1 ∙ s.kind)))
      (λ old.
      let older : HasSeat pages c past = record { at = s.at; page = s.page; here = old.2; kind = s.kind; seen = s.seen } in
      (older, λ e. old.1 (seat_is cpus pages seated other w c past there (its ∙ ap (λ (x : CpuId). Of x) (sym e)) older)))
      rest)
      (at_two pages id other s.at both spent_page s.page s.here)

  join_clerk : (m' b' : ℕ) (c : HasClerk joined m' b') → (c.at ≡ id) × (both ≡ c.page)
  join_clerk m' b' c = ⊎_elim
      (λ gone. absurd (spent_no_clerk m' b' (ap (λ (x : Page). x.kind) gone.1 ∙ c.kind)))
      (λ rest. ⊎_elim
      (λ desk'. desk')
      (λ old. absurd (old.0 (clerk_is cpus pages seated id p made back m' b' here kind (record { at = c.at; page = c.page; here = old.2; kind = c.kind }))))
      rest)
      (at_two pages id other c.at both spent_page c.page c.here)

  join_made : (m' b' : ℕ) → HasClerk joined m' b' → m' ≡ made
  join_made m' b' c = ap (λ (k : SeatKind). made_in k) (sym c.kind ∙ ap (λ (x : Page). x.kind) (sym (join_clerk m' b' c).1) ∙ both_kind)

  join_chapter_before : (c : Chapter) → HasChapter joined c → (newest ≡ c) ⊎ HasChapter pages c
  unfolding clerk_there
  join_chapter_before c k = ⊎_elim
      (λ new. inl new)
      (λ old. inr (record { made = made; back = back; clerk = clerk_there; index = old.0; chapter = old.1 }))
      (first_or_later newest p.chapters k.index c (ap (λ (x : Page). get_elem? x.chapters k.index) (join_clerk k.made k.back k.clerk).1 ∙ k.chapter))

  join_chapter_after : (c : Chapter) → HasChapter pages c → HasChapter joined c
  join_chapter_after c k = record {
    made = made;
    back = back + 1;
    clerk = record { at = id; page = both; here = both_there; kind = both_kind };
    index = suc k.index;
    chapter = ap (λ (x : Page). get_elem? x.chapters k.index) (one_at pages id k.clerk.at p k.clerk.page here k.clerk.here (clerk_is cpus pages seated id p made back k.made k.back here kind k.clerk)) ∙ k.chapter;
  }

  newest_there : HasChapter joined newest
  newest_there = record {
    made = made;
    back = back + 1;
    clerk = record { at = id; page = both; here = both_there; kind = both_kind };
    index = 0;
    chapter = refl;
  }

  -- a seat stands where it stood, or is the chapter now
  join_seat_after : (c : CpuId) (past : List Deed) → HasSeat pages c past → HasSeen joined c past
  join_seat_after c past s = ⊎_elim
      (λ (same : s.at ≡ other).
      let is : w ≡ s.page = one_at pages other s.at w s.page there s.here same in
      let cpu_is : cpu ≡ c = ap (λ (k : SeatKind). cpu_in k) (sym its ∙ ap (λ (x : Page). x.kind) is ∙ s.kind) in
      let past_is : w.past ≡ past = ap (λ (x : Page). x.past) is ∙ s.seen in
      let chapter_is : newest ≡ record { cpu = c; past = past } = λ k. record { cpu = cpu_is k; past = past_is k } in
      inr (subst (λ (x : Chapter). HasChapter joined x) chapter_is newest_there))
      (λ (differ : s.at ≢ other).
      let away : s.at ≢ id = λ same. not_seat made back c (sym kind ∙ ap (λ (x : Page). x.kind) (one_at pages id s.at p s.page here s.here same) ∙ s.kind) in
      inl (record { at = s.at; page = s.page; here = set_else (set pages id both) other s.at spent_page differ ∙ set_else pages id s.at both away ∙ s.here; kind = s.kind; seen = s.seen }))
      (cases_eq s.at other)

  join_seen : (c : CpuId) (past : List Deed) → HasSeen pages c past → HasSeen joined c past
  join_seen c past seen = ⊎_elim (λ s. join_seat_after c past s) (λ k. inr (join_chapter_after (record { cpu = c; past = past }) k)) seen

  join_parts : (c : CpuId) (past : List Deed) → (newest ≡ record { cpu = c; past = past }) → IsPastOf r.history c.0 past
  join_parts c past is = subst (λ (x : Chapter). IsPastOf r.history x.cpu.0 x.past) is (r.parts cpu w.past (inl its_seat))

  chronicle_joined : Chronicle Done first joined m
  chronicle_joined = record {
    history = r.history;
    passes = r.passes;
    parts = λ c past seen. ⊎_elim
        (λ s. r.parts c past (inl (join_seat_before c past s).0))
        (λ k. ⊎_elim (λ new. join_parts c past new) (λ old. r.parts c past (inr old)) (join_chapter_before (record { cpu = c; past = past }) k))
        seen;
    apart = λ c past k s.
        let old = join_seat_before c.cpu past s in
        ⊎_elim (λ new. old.1 (ap (λ (x : Chapter). x.cpu) (sym new))) (λ older. r.apart c past older old.0) (join_chapter_before c k);
    kept = λ c m' b' k clerk.
        let e = join_made m' b' clerk in
        ⊎_elim
        (λ new. let low = below_made cpus pages seated made back other w cpu clerk_there there its in let same : cpu.0 ≡ c.cpu.0 = ap (λ (x : Chapter). x.cpu.0) new in omega arith)
        (λ older. let low = r.kept c made back older clerk_there in omega arith)
        (join_chapter_before c k);
    unmade = λ m' b' c clerk low. let e = join_made m' b' clerk in r.unmade made back c clerk_there (omega arith);
    met = λ m' b' c clerk low. let e = join_made m' b' clerk in let old = r.met made back c clerk_there (omega arith) in (old.0, join_seen c old.0 old.1);
    whole = ⊎_elim (λ none. inl none) (λ some'. inr (some'.0, join_seen some'.0 r.history some'.1)) r.whole;
  }

  pub Chronicle-joined : (q : Chronicle Done first (set (set pages id (back_page p cpu w.past)) other spent_page) m) × (q.history ≡ r.history)
  unfolding chronicle_joined
  Chronicle-joined = (chronicle_joined, refl)

-- a page is cut off whole: it stands at the end, and a spent one in its place
module _ {S : Type 0} (Done : S → Deed → S → Type 0) (first m : S) (pages : List Page) (id : ℕ) (p : Page) (here : get_elem? pages id ≡ some p) (r : Chronicle Done first pages m) where
  abbrev moved : List Page
  moved = set pages id spent_page ++ p ∷ []

  move_before : (j : ℕ) (q : Page) → get_elem? moved j ≡ some q → (q ≡ spent_page) ⊎ ((i : ℕ) × (get_elem? pages i ≡ some q))
  move_before j q e = ⊎_elim
      (λ old. ⊎_elim (λ same. inl (sym same.1)) (λ other. inr (j, other.1)) (at_set pages id j spent_page q old))
      (λ new. inr (id, here ∙ ap (λ (x : Page). some x) new.1))
      (at_snoc (set pages id spent_page) p q j e)

  move_after : (j : ℕ) (q : Page) → get_elem? pages j ≡ some q → (i : ℕ) × (get_elem? moved i ≡ some q)
  move_after j q e = ⊎_elim
      (λ (same : j ≡ id). (length (set pages id spent_page), at_last (set pages id spent_page) p ∙ ap (λ (x : Page). some x) (one_at pages id j p q here e same)))
      (λ (differ : j ≢ id). (j, at_longer (set pages id spent_page) (p ∷ []) j q (set_else pages id j spent_page differ ∙ e)))
      (cases_eq j id)

  move_clerk : (m' b' : ℕ) (c : HasClerk moved m' b') → (i : ℕ) × (get_elem? pages i ≡ some c.page)
  move_clerk m' b' c = ⊎_elim (λ gone. absurd (spent_no_clerk m' b' (ap (λ (x : Page). x.kind) (sym gone) ∙ c.kind))) (λ old. old) (move_before c.at c.page c.here)

  move_clerk_before : (m' b' : ℕ) → HasClerk moved m' b' → HasClerk pages m' b'
  move_clerk_before m' b' c = let old = move_clerk m' b' c in record { at = old.0; page = c.page; here = old.1; kind = c.kind }

  move_seat_before : (c : CpuId) (past : List Deed) → HasSeat moved c past → HasSeat pages c past
  move_seat_before c past s = ⊎_elim
      (λ gone. absurd (not_spent c (ap (λ (x : Page). x.kind) (sym gone) ∙ s.kind)))
      (λ old. record { at = old.0; page = s.page; here = old.1; kind = s.kind; seen = s.seen })
      (move_before s.at s.page s.here)

  move_chapter_before : (c : Chapter) → HasChapter moved c → HasChapter pages c
  move_chapter_before c k =
      let old = move_clerk k.made k.back k.clerk in
      record { made = k.made; back = k.back; clerk = record { at = old.0; page = k.clerk.page; here = old.1; kind = k.clerk.kind }; index = k.index; chapter = k.chapter }

  move_seen_before : (c : CpuId) (past : List Deed) → HasSeen moved c past → HasSeen pages c past
  move_seen_before c past seen = ⊎_elim (λ s. inl (move_seat_before c past s)) (λ k. inr (move_chapter_before (record { cpu = c; past = past }) k)) seen

  move_seen_after : (c : CpuId) (past : List Deed) → HasSeen pages c past → HasSeen moved c past
  move_seen_after c past seen = ⊎_elim
      (λ s. let new = move_after s.at s.page s.here in inl (record { at = new.0; page = s.page; here = new.1; kind = s.kind; seen = s.seen }))
      (λ k.
      let new = move_after k.clerk.at k.clerk.page k.clerk.here in
      inr (record { made = k.made; back = k.back; clerk = record { at = new.0; page = k.clerk.page; here = new.1; kind = k.clerk.kind }; index = k.index; chapter = k.chapter }))
      seen

  chronicle_moved : Chronicle Done first moved m
  chronicle_moved = record {
    history = r.history;
    passes = r.passes;
    parts = λ c past seen. r.parts c past (move_seen_before c past seen);
    apart = λ c past k s. r.apart c past (move_chapter_before c k) (move_seat_before c.cpu past s);
    kept = λ c m' b' k clerk. r.kept c m' b' (move_chapter_before c k) (move_clerk_before m' b' clerk);
    unmade = λ m' b' c clerk low. r.unmade m' b' c (move_clerk_before m' b' clerk) low;
    met = λ m' b' c clerk low. let old = r.met m' b' c (move_clerk_before m' b' clerk) low in (old.0, move_seen_after c old.0 old.1);
    whole = ⊎_elim (λ none. inl none) (λ some'. inr (some'.0, move_seen_after some'.0 r.history some'.1)) r.whole;
  }

  pub Chronicle-moved : (q : Chronicle Done first (set pages id spent_page ++ p ∷ []) m) × (q.history ≡ r.history)
  unfolding chronicle_moved
  Chronicle-moved = (chronicle_moved, refl)

-- two histories, each a front of the other, are one
fronts_same : (xs ys as' bs : List Deed) → ys ≡ xs ++ as' → xs ≡ ys ++ bs → xs ≡ ys
fronts_same xs ys as' bs one two =
    let a : length ys ≡ length xs + length as' = ap length one ∙ length-append xs as' in
    let b : length xs ≡ length ys + length bs = ap length two ∙ length-append ys bs in
    let none : as' ≡ [] = nil_from_length as' (omega arith) in
    sym (one ∙ ap (λ (l : List Deed). xs ++ l) none ∙ append-nil xs)

-- views decide: two chronicles over the same pages have one history, and where deeds decide what they leave, one last state
module _ {S : Type 0} (Done : S → Deed → S → Type 0) (first m n : S) (pages : List Page) (r : Chronicle Done first pages m) (q : Chronicle Done first pages n) where
  pub Chronicle-front : (rest : List Deed) × (q.history ≡ r.history ++ rest)
  Chronicle-front = ⊎_elim
      (λ none. (q.history, ap (λ (l : List Deed). l ++ q.history) (sym none)))
      (λ seen. let past = q.parts seen.0 r.history seen.1 in (past.0, past.1.0))
      r.whole

pub Chronicle-same : {S : Type 0} (Done : S → Deed → S → Type 0) (first m n : S) (pages : List Page) (r : Chronicle Done first pages m) (q : Chronicle Done first pages n) → r.history ≡ q.history
Chronicle-same Done first m n pages r q =
    let one = Chronicle-front Done first m n pages r q in
    let two = Chronicle-front Done first n m pages q r in
    fronts_same r.history q.history one.0 two.0 one.1 two.1

pub Chronicle-decides : {S : Type 0} (Done : S → Deed → S → Type 0) → ((a : S) (d : Deed) (b c : S) → Done a d b → Done a d c → b ≡ c) → (first m n : S) (pages : List Page) → Chronicle Done first pages m → Chronicle Done first pages n → m ≡ n
Chronicle-decides Done decides first m n pages r q =
    let F : List Deed → Type 0 = λ l. Passes Done first l m in
    Passes-same Done decides first q.history m n (subst F (Chronicle-same Done first m n pages r q) r.passes) q.passes

-- lists of one element each, one after another
singles : (xs : List Deed) → flat_map (λ x. x ∷ []) xs ≡ xs
singles [] = refl
singles (x ∷ xs) = ap (λ (l : List Deed). x ∷ l) (singles xs)

-- whatever chronicles there are before and after a seat has noted a deed: the second history is the first and this deed
module _ {S : Type 0} (Done : S → Deed → S → Type 0) (first m n : S) (cpus : ℕ) (pages : List Page) (id : ℕ) (p : Page) (cpu : CpuId) (between : List Deed) (d : Deed)
    (seated : AreSeated cpus (kinds_of pages)) (here : get_elem? pages id ≡ some p) (kind : p.kind ≡ Of cpu) (own : d.cpu ≡ cpu) (others : AreOthers cpu.0 between)
    (r : Chronicle Done first pages m) (q : Chronicle Done first (set pages id (noted_page p between d)) n) where
  abbrev later : List Page
  later = set pages id (noted_page p between d)

  past_before : IsPastOf r.history cpu.0 p.past
  past_before = r.parts cpu p.past (inl (record { at = id; page = p; here = here; kind = kind; seen = refl }))

  past_after : IsPastOf q.history cpu.0 (p.past ++ (between ++ d ∷ []))
  past_after = q.parts cpu (p.past ++ (between ++ d ∷ [])) (inl (record { at = id; page = noted_page p between d; here = set_here pages id (noted_page p between d) (inside pages id p here); kind = kind; seen = refl }))

  -- who isn't the seat has seen what it had seen
  seen_else : (c : CpuId) (past : List Deed) → c ≢ cpu → HasSeen pages c past → HasSeen later c past
  seen_else c past differ seen = ⊎_elim
      (λ s.
      let away : s.at ≢ id = λ same. differ (ap (λ (k : SeatKind). cpu_in k) (sym s.kind ∙ ap (λ (x : Page). x.kind) (sym (one_at pages id s.at p s.page here s.here same)) ∙ kind)) in
      inl (record { at = s.at; page = s.page; here = set_else pages id s.at (noted_page p between d) away ∙ s.here; kind = s.kind; seen = s.seen }))
      (λ k. inr (chapter_after pages id p (noted_page p between d) here refl refl (record { cpu = c; past = past }) k))
      seen

  front_seen : (c : CpuId) → HasSeen pages c r.history → (rest : List Deed) × (q.history ≡ r.history ++ rest)
  front_seen c seen = ⊎_elim
      (λ (mine : c.0 ≡ cpu.0).
      let F : CpuId → Type 0 = λ x. HasSeen pages x r.history in
      front_mine (subst F (same_cpu c cpu mine) seen))
      (λ (differ : c.0 ≢ cpu.0). let past = q.parts c r.history (seen_else c r.history (λ e. differ (ap (λ (x : CpuId). x.0) e)) seen) in (past.0, past.1.0))
      (cases_eq c.0 cpu.0)
    where
      front_mine : HasSeen pages cpu r.history → (rest : List Deed) × (q.history ≡ r.history ++ rest)
      front_mine (inl s) =
          let is : p.past ≡ r.history = ap (λ (x : Page). x.past) (one_at pages id s.at p s.page here s.here (seat_is cpus pages seated id p cpu r.history here kind s)) ∙ s.seen in
          ((between ++ d ∷ []) ++ past_after.0, past_after.1.0 ∙ append_assoc p.past (between ++ d ∷ []) past_after.0 ∙ ap (λ (l : List Deed). l ++ ((between ++ d ∷ []) ++ past_after.0)) is)
      front_mine (inr k) = absurd (r.apart (record { cpu = cpu; past = r.history }) p.past k (record { at = id; page = p; here = here; kind = kind; seen = refl }))

  front_of : (rest : List Deed) × (q.history ≡ r.history ++ rest)
  front_of = ⊎_elim (λ none. (q.history, ap (λ (l : List Deed). l ++ q.history) (sym none))) (λ seen. front_seen seen.0 seen.1) r.whole

  clerk_before_it : HasClerk pages seated.made seated.back
  clerk_before_it = let c = of_map (λ (x : Page). x.kind) pages seated.desk (Clerk seated.made seated.back) seated.clerk in record { at = seated.desk; page = c.0; here = c.1; kind = c.2 }

  clerk_after_it : HasClerk later seated.made seated.back
  clerk_after_it =
      let new = at_turned pages id p (noted_page p between d) here refl refl clerk_before_it.at clerk_before_it.page clerk_before_it.here in
      record { at = clerk_before_it.at; page = new.0; here = new.1; kind = new.2 ∙ clerk_before_it.kind }

  -- nobody else has done anything since
  others_since : (c : CpuId) → c ≢ cpu → AreOthers c.0 front_of.0
  others_since c differ = ⊎_elim
      (λ (below : c.0 < seated.made).
      let met = r.met seated.made seated.back c clerk_before_it below in
      let one = r.parts c met.0 met.1 in
      let two = q.parts c met.0 (seen_else c met.0 differ met.1) in
      let both_ways : met.0 ++ two.0 ≡ met.0 ++ (one.0 ++ front_of.0) = sym two.1.0 ∙ front_of.1 ∙ ap (λ (l : List Deed). l ++ front_of.0) one.1.0 ∙ append_assoc met.0 one.0 front_of.0 in
      others-right c.0 one.0 front_of.0 (subst (AreOthers c.0) (append_cancel_left met.0 two.0 (one.0 ++ front_of.0) both_ways) two.1.1))
      (λ (above : seated.made ≤ c.0). others-right c.0 r.history front_of.0 (subst (AreOthers c.0) front_of.1 (q.unmade seated.made seated.back c.0 clerk_after_it above)))
      (cases_lt c.0 seated.made)

  own_since : AreOwn cpu.0 front_of.0
  own_since k x low = ⊎_elim
      (λ same. same)
      (λ differ. absurd (others_since (slice_index_or front_of.0 k x).cpu (λ e. differ (ap (λ (y : CpuId). y.0) e)) k x low refl))
      (cases_eq (slice_index_or front_of.0 k x).cpu.0 cpu.0)

  -- what the seat did since is the deed
  only_deed : front_of.0 ≡ d ∷ []
  only_deed =
      let f : Deed → List Deed = λ x. x ∷ [] in
      let whole : past_before.0 ++ front_of.0 ≡ (between ++ d ∷ []) ++ past_after.0
      = append_cancel_left p.past (past_before.0 ++ front_of.0) ((between ++ d ∷ []) ++ past_after.0)
      (sym (append_assoc p.past past_before.0 front_of.0) ∙ ap (λ (l : List Deed). l ++ front_of.0) (sym past_before.1.0) ∙ sym front_of.1 ∙ past_after.1.0 ∙ append_assoc p.past (between ++ d ∷ []) past_after.0) in
      let left : part_by cpu.0 f (past_before.0 ++ front_of.0) ≡ front_of.0
      = part_by-append cpu.0 f past_before.0 front_of.0 ∙ ap (λ (l : List Deed). l ++ part_by cpu.0 f front_of.0) (part_by-others cpu.0 f past_before.0 past_before.1.1) ∙ part_by-own cpu.0 f front_of.0 own_since ∙ singles front_of.0 in
      let right : part_by cpu.0 f ((between ++ d ∷ []) ++ past_after.0) ≡ d ∷ []
      = part_by-append cpu.0 f (between ++ d ∷ []) past_after.0
      ∙ ap (λ (l : List Deed). l ++ part_by cpu.0 f past_after.0) (part_by-noted cpu.0 f [] between d others (ap (λ (x : CpuId). x.0) own))
      ∙ ap (λ (l : List Deed). d ∷ l) (part_by-others cpu.0 f past_after.0 past_after.1.1) in
      sym left ∙ ap (part_by cpu.0 f) whole ∙ right

  pub Chronicle-one_more : q.history ≡ r.history ++ d ∷ []
  Chronicle-one_more = front_of.1 ∙ ap (λ (l : List Deed). r.history ++ l) only_deed

  -- and where deeds decide what they leave, the deed was done between the two last states
  pub Chronicle-was_done : ((a : S) (x : Deed) (b c : S) → Done a x b → Done a x c → b ≡ c) → Done m d n
  Chronicle-was_done decides =
      let F : List Deed → Type 0 = λ l. Passes Done first l n in
      let parts = Passes-split Done first r.history (d ∷ []) n (subst F Chronicle-one_more q.passes) in
      let same : parts.0 ≡ m = Passes-same Done decides first r.history parts.0 m parts.1.0 r.passes in
      let G : S → Type 0 = λ x. Done x d n in
      let H : S → Type 0 = λ x. Done parts.0 d x in
      subst G same (subst H (sym parts.1.1.1.1) parts.1.1.1.0)

-- at the close: the clerk has taken all seats back, each chapter has all of its processor's part, each processor has its chapter,
-- and no other processor has a deed
module _ {S : Type 0} (Done : S → Deed → S → Type 0) (first m : S) (cpus : ℕ) (pages : List Page) (id : ℕ) (p : Page) (made back : ℕ)
    (seated : AreSeated cpus (kinds_of pages)) (here : get_elem? pages id ≡ some p) (kind : p.kind ≡ Clerk made back) (all : cpus ≤ back) (r : Chronicle Done first pages m) where
  all_back : (made ≡ cpus) × (back ≡ cpus) × ((j : ℕ) (k : SeatKind) → j ≢ id → get_elem? (kinds_of pages) j ≡ some k → k ≡ Spent)
  all_back = AreSeated-closed cpus (kinds_of pages) id made back seated (kind_at pages id p (Clerk made back) here kind) all

  last_clerk : HasClerk pages made back
  last_clerk = record { at = id; page = p; here = here; kind = kind }

  no_seat_left : (c : CpuId) (past : List Deed) → HasSeat pages c past → ⊥
  no_seat_left c past s = ⊎_elim
      (λ (same : s.at ≡ id). not_seat made back c (sym kind ∙ ap (λ (x : Page). x.kind) (one_at pages id s.at p s.page here s.here same) ∙ s.kind))
      (λ (differ : s.at ≢ id). not_spent c (sym (all_back.2 s.at (Of c) differ (kind_at pages s.at s.page (Of c) s.here s.kind))))
      (cases_eq s.at id)

  chapter_there : (c : Chapter) → HasChapter pages c → (i : ℕ) × (get_elem? p.chapters i ≡ some c)
  chapter_there c k = (k.index, ap (λ (x : Page). get_elem? x.chapters k.index) (one_at pages id k.clerk.at p k.clerk.page here k.clerk.here (clerk_is cpus pages seated id p made back k.made k.back here kind k.clerk)) ∙ k.chapter)

  pub Closed-part : (i : ℕ) (c : Chapter) → get_elem? p.chapters i ≡ some c → IsPastOf r.history c.cpu.0 c.past
  Closed-part i c at_i = r.parts c.cpu c.past (inr (record { made = made; back = back; clerk = record { at = id; page = p; here = here; kind = kind }; index = i; chapter = at_i }))

  pub Closed-chapter : (cpu : CpuId) → cpu.0 < cpus → (past : List Deed) × (i : ℕ) × (get_elem? p.chapters i ≡ some (record { cpu = cpu; past = past }))
  Closed-chapter cpu low =
      let e = all_back.0 in
      let met = r.met made back cpu last_clerk (omega arith) in
      ⊎_elim
      (λ s. absurd (no_seat_left cpu met.0 s))
      (λ k. let c = chapter_there (record { cpu = cpu; past = met.0 }) k in (met.0, c.0, c.1))
      met.1

  pub Closed-others : (cpu : ℕ) → cpus ≤ cpu → AreOthers cpu r.history
  Closed-others cpu high = let e = all_back.0 in r.unmade made back cpu last_clerk (omega arith)

  pub Closed-whole : (r.history ≡ []) ⊎ ((i : ℕ) × (cpu : CpuId) × (get_elem? p.chapters i ≡ some (record { cpu = cpu; past = r.history })))
  Closed-whole = ⊎_elim
      (λ none. inl none)
      (λ seen. ⊎_elim
      (λ s. absurd (no_seat_left seen.0 r.history s))
      (λ k. let c = chapter_there (record { cpu = seen.0; past = r.history }) k in inr (c.0, seen.0, c.1))
      seen.1)
      r.whole
