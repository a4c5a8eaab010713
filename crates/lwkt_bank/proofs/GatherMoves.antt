use Rattle.std.proofs.Common.{Bool, eqb, eq-eqb, ne_eqb, inl, inr, ◌≡◌, ◌≢◌, ⊎_elim, ℕ, ◌+◌, ◌<◌, cond, List, [], ◌∷◌, ◌++◌, length, map, set, refl, ap, sym, ◌∙◌, subst, arith, All, Some}
use Rattle.std.specs.Prelude.{max, slice_index, slice_get}
use Rattle.std.proofs.Math.Nat.{max-le}
use Rattle.std.proofs.lemmas.Bool.{cases_eq, false≢true}
use Rattle.std.proofs.lemmas.List.Elements.{All-nil, All-append}
use Rattle.std.proofs.lemmas.List.Sums.{sum_by-append}
use mathlib.Core.Option.{Option, some, some-injective}
use lib.ListN.{get_elem?}
use Rattle.lwkt_base.specs.declared.names.CpuId.{CpuId}
use Rattle.lwkt_base.specs.declared.holdings.Held.TheVariants.{Nothing}
use Rattle.lwkt_base.specs.Holding.{is_held}
use Rattle.lwkt_table.specs.declared.seats.SeatKind.{SeatKind}
use Rattle.lwkt_table.specs.declared.seats.SeatKind.TheVariants.{Clerk, Of, Spent}
use Rattle.lwkt_core.specs.declared.tokens.Token.{Token}
use Rattle.lwkt_core.specs.Tokens.{held_by}
use Rattle.lwkt_table.specs.Seating.{AreSeated, after_made, after_back, next_seat}
use Rattle.lwkt_table.proofs.SeatingLemmas.{at_set, at_snoc, at_longer, set_else, at_map, of_map, map-set, map-snoc, total-set, total-snoc, AreSeated-split, AreSeated-join, AreSeated-below}
use Rattle.lwkt_bank.specs.declared.views.Plan.{Plan}
use Rattle.lwkt_bank.specs.declared.views.Added.{Added}
use Rattle.lwkt_bank.specs.declared.views.KnownCell.{KnownCell}
use Rattle.lwkt_bank.specs.declared.views.TokenEntry.{TokenEntry}
use Rattle.lwkt_bank.specs.declared.views.View.{View}
use Rattle.lwkt_bank.specs.Views.{blank, at, amount, known_of, known_blob_of, both_of, merged, clerk_after, new_seat, joined, spent}
use Rattle.lwkt_bank.specs.Rule.{Bench, token_word, cell_word, Seen, seen_by, column, held_by_kind, Knows, ShowsToken, Rule, plan_at, token_at}
use Rattle.lwkt_bank.proofs.ViewMoves.{at-merged}
use Rattle.lwkt_bank.proofs.ShowMoves.{cpu_in, numbered_seat}

-- who holds nothing and knows no cell knows nothing wrong
pub Knows-blank : (tok : Token) (e : TokenEntry) → e.held ≡ Nothing → e.generation ≡ 0 → e.known ≡ [] → e.known_blob ≡ [] → Knows tok e
Knows-blank tok e held zero_generation none no_blob = record {
  records = λ same. subst (λ xs. All (λ bytes. tok.first_blob ≡ Some bytes) xs) (sym no_blob) (All-nil (λ bytes. tok.first_blob ≡ Some bytes));
  not_above = omega arith;
  cells = λ same. subst (λ xs. All (λ c. slice_get tok.first c.at ≡ Some c.value) xs) (sym none) (All-nil (λ c. slice_get tok.first c.at ≡ Some c.value));
  holder = λ is. absurd (false≢true (sym (ap is_held held) ∙ is));
}

-- what an entry knows of a generation
pub known_same : (e : TokenEntry) (g : ℕ) → e.generation ≡ g → known_of e g ≡ e.known
known_same e g same = ap (λ (b : Bool). cond b e.known []) (eq-eqb e.generation g same)

known_all : (P : KnownCell → Type 0) (e : TokenEntry) (g : ℕ) → (e.generation ≡ g → All P e.known) → All P (known_of e g)
known_all P e g knows = ⊎_elim
    (λ (same : e.generation ≡ g). subst (λ (xs : List KnownCell). All P xs) (sym (known_same e g same)) (knows same))
    (λ other. let none : known_of e g ≡ [] = ap (λ (b : Bool). cond b e.known []) (ne_eqb e.generation g other) in subst (λ (xs : List KnownCell). All P xs) (sym none) (All-nil P))
    (cases_eq e.generation g)

pub known_blob_same : (e : TokenEntry) (g : ℕ) → e.generation ≡ g → known_blob_of e g ≡ e.known_blob
known_blob_same e g same = ap (λ (b : Bool). cond b e.known_blob []) (eq-eqb e.generation g same)

known_blobs : (P : List ℕ → Type 0) (e : TokenEntry) (g : ℕ) → (e.generation ≡ g → All P e.known_blob) → All P (known_blob_of e g)
known_blobs P e g knows = ⊎_elim
    (λ (same : e.generation ≡ g). subst (λ (xs : List (List ℕ)). All P xs) (sym (known_blob_same e g same)) (knows same))
    (λ other. let none : known_blob_of e g ≡ [] = ap (λ (b : Bool). cond b e.known_blob []) (ne_eqb e.generation g other) in subst (λ (xs : List (List ℕ)). All P xs) (sym none) (All-nil P))
    (cases_eq e.generation g)

-- what two views know is true of the token together
Knows-both : (tok : Token) (t : ℕ) (d e : TokenEntry) → Knows tok d → Knows tok e → Knows tok (both_of t d e)
Knows-both tok t d e one two =
    let P : KnownCell → Type 0 = λ c. slice_get tok.first c.at ≡ Some c.value in
    let g : ℕ = max d.generation e.generation in
    record {
      not_above = max-le one.not_above two.not_above;
      cells = λ same. All-append P (known_of d g) (known_of e g) (known_all P d g (λ its. one.cells (its ∙ same))) (known_all P e g (λ its. two.cells (its ∙ same)));
      records = λ same. let Q : List ℕ → Type 0 = λ bytes. tok.first_blob ≡ Some bytes in All-append Q (known_blob_of d g) (known_blob_of e g) (known_blobs Q d g (λ its. one.records (its ∙ same))) (known_blobs Q e g (λ its. two.records (its ∙ same)));
      holder = λ held. absurd (false≢true held);
    }

-- a token seen by one seat more
Shows-split : (plan : Plan) (home : Option (Option (List ℕ))) (word : ℕ) (cells : ℕ → ℕ) (views : List Seen) (tok : Token) (id made back t : ℕ) (x : Seen) → ShowsToken plan home word cells views tok → get_elem? views id ≡ some x → x.kind ≡ Clerk made back
    → ((k : ℕ) (z : Seen) → get_elem? views k ≡ some z → z.kind ≡ numbered_seat made → ⊥)
    → ShowsToken plan home word cells (set views id (record { kind = Clerk (made + 1) back; entry = x.entry }) ++ record { kind = numbered_seat made; entry = blank t } ∷ []) tok
Shows-split plan home word cells views tok id made back t x shows here kind absent =
    let y : Seen = record { kind = Clerk (made + 1) back; entry = x.entry } in
    let z : Seen = record { kind = numbered_seat made; entry = blank t } in
    let front : List Seen = set views id y in
    let free : held_by tok made ≡ Nothing = ⊎_elim (λ nothing. nothing) (λ there. absurd (absent there.0 there.1.0 there.1.1.0 there.1.1.1)) (shows.seated made) in
    let own : x.entry.held ≡ Nothing = shows.held id x here ∙ ap (held_by_kind tok) kind in
    record {
      slot = shows.slot;
      guard = shows.guard;
      opening_blob = shows.opening_blob;
      law = shows.law;
      param = shows.param;
      long = shows.long;
      count_word = shows.count_word;
      row = shows.row;
      opening = shows.opening;
      held = λ k u e. ⊎_elim
          (λ old. ⊎_elim (λ it. subst (λ (w : Seen). w.entry.held ≡ held_by_kind tok w.kind) it.1 own) (λ other. shows.held k u other.1) (at_set views id k y u old))
          (λ new. subst (λ (w : Seen). w.entry.held ≡ held_by_kind tok w.kind) new.1 (sym free))
          (at_snoc front z u k e);
      seated = λ a. ⊎_elim
          (λ nothing. inl nothing)
          (λ there. inr (there.0, (there.1.0, (at_longer front (z ∷ []) there.0 there.1.0 (set_else views id there.0 y (apart there.0 there.1.0 there.1.1.0 a there.1.1.1) ∙ there.1.1.0), there.1.1.1))))
          (shows.seated a);
      tallies = λ a.
          let f : Seen → ℕ = λ w. amount a w.entry.added in
          let one = total-snoc f front z in
          let two = total-set f views id x y here in
          let old = shows.tallies a in
          omega arith;
      sections =
          let f : Seen → ℕ = λ w. w.entry.written in
          let one = total-snoc f front z in
          let two = total-set f views id x y here in
          let old = shows.sections in
          omega arith;
      known = λ k u e. ⊎_elim
          (λ old. ⊎_elim (λ it. subst (λ (w : Seen). Knows tok w.entry) it.1 (shows.known id x here)) (λ other. shows.known k u other.1) (at_set views id k y u old))
          (λ new. subst (λ (w : Seen). Knows tok w.entry) new.1 (Knows-blank tok (blank t) refl refl refl refl))
          (at_snoc front z u k e);
    }
  where
    apart : (k : ℕ) (u : Seen) → get_elem? views k ≡ some u → (a : ℕ) → u.kind ≡ numbered_seat a → k ≢ id
    apart k u e a is same =
        let F : ℕ → Type 0 = λ n. get_elem? views n ≡ some u in
        let one : x ≡ u = some-injective x u (sym here ∙ subst F same e) in
        let h : Clerk made back ≡ numbered_seat a = sym kind ∙ ap (λ (w : Seen). w.kind) one ∙ is in cc

-- the clerk makes a seat
rule_split : (plans : List Plan) (cpus : ℕ) (s : Bench) (id : ℕ) (v : View) (made back : ℕ) → Rule plans cpus s → get_elem? s.views id ≡ some v → v.kind ≡ Clerk made back → made < cpus
    → Rule plans cpus (record { words = s.words; homes = s.homes; views = set s.views id (clerk_after v) ++ new_seat v ∷ [] })
rule_split plans cpus s id v made back r here kind room = record {
  model = r.model;
  safe = r.safe;
  pictures = record {
    processors = r.pictures.processors;
    as_many = r.pictures.as_many;
    no_messages = r.pictures.no_messages;
    each_token = λ tok h.
        let F : List Seen → Type 0 = λ vs. ShowsToken (plan_at plans tok) (get_elem? s.homes tok) (slice_index s.words (token_word tok)) (λ i. slice_index s.words (cell_word tok i)) vs (token_at r.model tok) in
        subst F (sym (columns tok)) (Shows-split (plan_at plans tok) (get_elem? s.homes tok) (slice_index s.words (token_word tok)) (λ i. slice_index s.words (cell_word tok i)) (column tok s.views) (token_at r.model tok) id made back tok (seen_by tok v)
        (r.pictures.each_token tok h) (at_map (seen_by tok) s.views id v here) kind (absent tok));
  };
  wide = r.wide;
  zero_word = r.zero_word;
  laws = r.laws;
  seats = subst (λ ks. AreSeated cpus ks) (sym all_kinds) (AreSeated-split cpus (map (λ (u : View). u.kind) s.views) id made back r.seats clerk_there room);
  informed = λ j w e. ⊎_elim
      (λ old. ⊎_elim (λ it. inl (ap (λ (u : View). u.plans) (sym it.1) ∙ own_plans)) (λ other. r.informed j w other.1) (at_set s.views id j (clerk_after v) w old))
      (λ new. inl (ap (λ (u : View). u.plans) (sym new.1) ∙ own_plans))
      (at_snoc (set s.views id (clerk_after v)) (new_seat v) w j e);
  gone = λ j w e was. ⊎_elim
      (λ old. ⊎_elim
      (λ it. absurd (let h : Clerk (made + 1) back ≡ Spent = sym (ap after_made kind) ∙ ap (λ (u : View). u.kind) it.1 ∙ was in cc))
      (λ other. r.gone j w other.1 was)
      (at_set s.views id j (clerk_after v) w old))
      (λ new. absurd (let h : numbered_seat made ≡ Spent = sym (ap next_seat kind) ∙ ap (λ (u : View). u.kind) new.1 ∙ was in no_seat made h))
      (at_snoc (set s.views id (clerk_after v)) (new_seat v) w j e);
}
  where
    no_seat : (m : ℕ) → numbered_seat m ≡ Spent → ⊥
    no_seat m e = cc

    own_plans : v.plans ≡ plans
    own_plans = ⊎_elim (λ is. is) (λ gone. absurd (let h : Spent ≡ Clerk made back = sym (ap (λ (x : View). x.kind) gone) ∙ kind in cc)) (r.informed id v here)

    clerk_there : get_elem? (map (λ (u : View). u.kind) s.views) id ≡ some (Clerk made back)
    clerk_there = at_map (λ (u : View). u.kind) s.views id v here ∙ ap (λ (x : SeatKind). some x) kind

    all_kinds : map (λ (u : View). u.kind) (set s.views id (clerk_after v) ++ new_seat v ∷ []) ≡ set (map (λ (u : View). u.kind) s.views) id (Clerk (made + 1) back) ++ numbered_seat made ∷ []
    all_kinds =
        map-snoc (λ (u : View). u.kind) (set s.views id (clerk_after v)) (new_seat v)
        ∙ ap (λ (ks : List SeatKind). ks ++ next_seat v.kind ∷ []) (map-set (λ (u : View). u.kind) s.views id (clerk_after v))
        ∙ ap (λ (k : SeatKind). set (map (λ (u : View). u.kind) s.views) id (after_made k) ++ next_seat k ∷ []) kind

    columns : (tok : ℕ) → column tok (set s.views id (clerk_after v) ++ new_seat v ∷ []) ≡ set (column tok s.views) id (record { kind = Clerk (made + 1) back; entry = at v.tokens tok }) ++ record { kind = numbered_seat made; entry = blank tok } ∷ []
    columns tok =
        map-snoc (seen_by tok) (set s.views id (clerk_after v)) (new_seat v)
        ∙ ap (λ (vs : List Seen). vs ++ seen_by tok (new_seat v) ∷ []) (map-set (seen_by tok) s.views id (clerk_after v))
        ∙ ap (λ (k : SeatKind). set (column tok s.views) id (record { kind = after_made k; entry = at v.tokens tok }) ++ record { kind = next_seat k; entry = blank tok } ∷ []) kind

    absent : (tok k : ℕ) (z : Seen) → get_elem? (column tok s.views) k ≡ some z → z.kind ≡ numbered_seat made → ⊥
    absent tok k z e is =
        let it = of_map (seen_by tok) s.views k z e in
        let its : it.0.kind ≡ numbered_seat made = ap (λ (x : Seen). x.kind) it.2 ∙ is in
        let there : get_elem? (map (λ (u : View). u.kind) s.views) k ≡ some (numbered_seat made) = at_map (λ (u : View). u.kind) s.views k it.0 it.1 ∙ ap (λ (x : SeatKind). some x) its in
        let clerk : get_elem? (map (λ (u : View). u.kind) s.views) id ≡ some (Clerk made back) = at_map (λ (u : View). u.kind) s.views id v here ∙ ap (λ (x : SeatKind). some x) kind in
        let low = AreSeated-below cpus (map (λ (u : View). u.kind) s.views) id made back k (record { 0 = made }) r.seats clerk there in absurd (omega arith)

-- a token seen after a seat that holds nothing of it was taken back
Shows-join : (plan : Plan) (home : Option (Option (List ℕ))) (word : ℕ) (cells : ℕ → ℕ) (views : List Seen) (tok : Token) (id made back other t : ℕ) (cpu : CpuId) (x w : Seen) → ShowsToken plan home word cells views tok
    → get_elem? views id ≡ some x → x.kind ≡ Clerk made back → other ≢ id → get_elem? views other ≡ some w → w.kind ≡ Of cpu → w.entry.held ≡ Nothing
    → ShowsToken plan home word cells (set (set views id (record { kind = Clerk made (back + 1); entry = both_of t x.entry w.entry })) other (record { kind = Spent; entry = blank t })) tok
Shows-join plan home word cells views tok id made back other t cpu x w shows here kind apart there its_kind quiet =
    let y : Seen = record { kind = Clerk made (back + 1); entry = both_of t x.entry w.entry } in
    let z : Seen = record { kind = Spent; entry = blank t } in
    let mid : List Seen = set views id y in
    let still : get_elem? mid other ≡ some w = set_else views id other y apart ∙ there in
    let free : held_by tok cpu.0 ≡ Nothing = sym (shows.held other w there ∙ ap (held_by_kind tok) its_kind) ∙ quiet in
    record {
      slot = shows.slot;
      guard = shows.guard;
      opening_blob = shows.opening_blob;
      law = shows.law;
      param = shows.param;
      long = shows.long;
      count_word = shows.count_word;
      row = shows.row;
      opening = shows.opening;
      held = λ k u e. ⊎_elim
          (λ it. subst (λ (q : Seen). q.entry.held ≡ held_by_kind tok q.kind) it.1 refl)
          (λ else_. ⊎_elim (λ it. subst (λ (q : Seen). q.entry.held ≡ held_by_kind tok q.kind) it.1 refl) (λ old. shows.held k u old.1) (at_set views id k y u else_.1))
          (at_set mid other k z u e);
      seated = λ a. ⊎_elim (λ nothing. inl nothing) (λ seat. ⊎_elim
          (λ (same : seat.0 ≡ other).
          let F : ℕ → Type 0 = λ n. get_elem? views n ≡ some seat.1.0 in
          let one : w ≡ seat.1.0 = some-injective w seat.1.0 (sym there ∙ subst F same seat.1.1.0) in
          let named : Of cpu ≡ numbered_seat a = sym its_kind ∙ ap (λ (q : Seen). q.kind) one ∙ seat.1.1.1 in
          let number : cpu.0 ≡ a = ap cpu_in named in
          inl (ap (held_by tok) (sym number) ∙ free))
          (λ away.
          let not_desk : seat.0 ≢ id = (λ same.
          let F : ℕ → Type 0 = λ n. get_elem? views n ≡ some seat.1.0 in
          let one : x ≡ seat.1.0 = some-injective x seat.1.0 (sym here ∙ subst F same seat.1.1.0) in
          let h : Clerk made back ≡ numbered_seat a = sym kind ∙ ap (λ (q : Seen). q.kind) one ∙ seat.1.1.1 in absurd (no_clerk made back a h)) in
          inr (seat.0, (seat.1.0, (set_else mid other seat.0 z away ∙ set_else views id seat.0 y not_desk ∙ seat.1.1.0, seat.1.1.1))))
          (cases_eq seat.0 other))
          (shows.seated a);
      tallies = λ a.
          let f : Seen → ℕ = λ q. amount a q.entry.added in
          let one = total-set f mid other w z still in
          let two = total-set f views id x y here in
          let both = sum_by-append (λ (q : Added). cond (eqb q.cpu.0 a) q.amount 0) x.entry.added w.entry.added in
          let old = shows.tallies a in
          omega arith;
      sections =
          let f : Seen → ℕ = λ q. q.entry.written in
          let one = total-set f mid other w z still in
          let two = total-set f views id x y here in
          let old = shows.sections in
          omega arith;
      known = λ k u e. ⊎_elim
          (λ it. subst (λ (q : Seen). Knows tok q.entry) it.1 (Knows-blank tok (blank t) refl refl refl refl))
          (λ else_. ⊎_elim (λ it. subst (λ (q : Seen). Knows tok q.entry) it.1 (Knows-both tok t x.entry w.entry (shows.known id x here) (shows.known other w there))) (λ old. shows.known k u old.1) (at_set views id k y u else_.1))
          (at_set mid other k z u e);
    }
  where
    no_clerk : (m b a : ℕ) → Clerk m b ≡ numbered_seat a → ⊥
    no_clerk m b a e = cc

-- the clerk takes back a seat that holds nothing
rule_join : (plans : List Plan) (cpus : ℕ) (s : Bench) (id : ℕ) (v : View) (made back other : ℕ) (cpu : CpuId) (w : View) → Rule plans cpus s → get_elem? s.views id ≡ some v → v.kind ≡ Clerk made back
    → other ≢ id → get_elem? s.views other ≡ some w → w.kind ≡ Of cpu → ((tok : ℕ) → tok < length plans → (at w.tokens tok).held ≡ Nothing)
    → Rule plans cpus (record { words = s.words; homes = s.homes; views = set (set s.views id (joined v w)) other spent })
rule_join plans cpus s id v made back other cpu w r here kind apart there its_kind quiet = record {
  model = r.model;
  safe = r.safe;
  pictures = record {
    processors = r.pictures.processors;
    as_many = r.pictures.as_many;
    no_messages = r.pictures.no_messages;
    each_token = λ tok h.
        let F : List Seen → Type 0 = λ vs. ShowsToken (plan_at plans tok) (get_elem? s.homes tok) (slice_index s.words (token_word tok)) (λ i. slice_index s.words (cell_word tok i)) vs (token_at r.model tok) in
        subst F (sym (columns tok h)) (Shows-join (plan_at plans tok) (get_elem? s.homes tok) (slice_index s.words (token_word tok)) (λ i. slice_index s.words (cell_word tok i)) (column tok s.views) (token_at r.model tok) id made back other tok cpu (seen_by tok v) (seen_by tok w)
        (r.pictures.each_token tok h) (at_map (seen_by tok) s.views id v here) kind apart (at_map (seen_by tok) s.views other w there) its_kind (quiet tok h));
  };
  wide = r.wide;
  zero_word = r.zero_word;
  laws = r.laws;
  seats = subst (λ ks. AreSeated cpus ks) (sym all_kinds)
      (AreSeated-join cpus (map (λ (u : View). u.kind) s.views) id made back other cpu r.seats (at_map (λ (u : View). u.kind) s.views id v here ∙ ap (λ (x : SeatKind). some x) kind) apart (at_map (λ (u : View). u.kind) s.views other w there ∙ ap (λ (x : SeatKind). some x) its_kind));
  informed = λ j u e. ⊎_elim
      (λ it. inr (sym it.1))
      (λ else_. ⊎_elim (λ it. inl (ap (λ (q : View). q.plans) (sym it.1) ∙ own_plans)) (λ old. r.informed j u old.1) (at_set s.views id j (joined v w) u else_.1))
      (at_set (set s.views id (joined v w)) other j spent u e);
  gone = λ j u e was. ⊎_elim
      (λ it. ap (λ (q : View). q.tokens) (sym it.1))
      (λ else_. ⊎_elim
      (λ it. absurd (let h : Clerk made (back + 1) ≡ Spent = sym (ap after_back kind) ∙ ap (λ (q : View). q.kind) it.1 ∙ was in cc))
      (λ old. r.gone j u old.1 was)
      (at_set s.views id j (joined v w) u else_.1))
      (at_set (set s.views id (joined v w)) other j spent u e);
}
  where
    own_plans : v.plans ≡ plans
    own_plans = ⊎_elim (λ is. is) (λ gone. absurd (let h : Spent ≡ Clerk made back = sym (ap (λ (x : View). x.kind) gone) ∙ kind in cc)) (r.informed id v here)

    all_kinds : map (λ (u : View). u.kind) (set (set s.views id (joined v w)) other spent) ≡ set (set (map (λ (u : View). u.kind) s.views) id (Clerk made (back + 1))) other Spent
    all_kinds =
        map-set (λ (u : View). u.kind) (set s.views id (joined v w)) other spent
        ∙ ap (λ (ks : List SeatKind). set ks other Spent) (map-set (λ (u : View). u.kind) s.views id (joined v w))
        ∙ ap (λ (k : SeatKind). set (set (map (λ (u : View). u.kind) s.views) id (after_back k)) other Spent) kind

    columns : (tok : ℕ) → tok < length plans → column tok (set (set s.views id (joined v w)) other spent) ≡ set (set (column tok s.views) id (record { kind = Clerk made (back + 1); entry = both_of tok (at v.tokens tok) (at w.tokens tok) })) other (record { kind = Spent; entry = blank tok })
    columns tok h =
        let many : length v.plans ≡ length plans = ap length own_plans in
        map-set (seen_by tok) (set s.views id (joined v w)) other spent
        ∙ ap (λ (vs : List Seen). set vs other (seen_by tok spent)) (map-set (seen_by tok) s.views id (joined v w))
        ∙ ap (λ (k : SeatKind). set (set (column tok s.views) id (record { kind = after_back k; entry = at (merged (length v.plans) v.tokens w.tokens) tok })) other (seen_by tok spent)) kind
        ∙ ap (λ (e : TokenEntry). set (set (column tok s.views) id (record { kind = Clerk made (back + 1); entry = e })) other (seen_by tok spent)) (at-merged (length v.plans) v.tokens w.tokens tok (omega arith))

-- both keep the machine that is shown
pub Rule-split : (plans : List Plan) (cpus : ℕ) (s : Bench) (id : ℕ) (v : View) (made back : ℕ) (r : Rule plans cpus s) → get_elem? s.views id ≡ some v → v.kind ≡ Clerk made back → made < cpus
    → (q : Rule plans cpus (record { words = s.words; homes = s.homes; views = set s.views id (clerk_after v) ++ new_seat v ∷ [] })) × (q.model ≡ r.model)
unfolding rule_split
Rule-split plans cpus s id v made back r here kind room = (rule_split plans cpus s id v made back r here kind room, refl)

pub Rule-join : (plans : List Plan) (cpus : ℕ) (s : Bench) (id : ℕ) (v : View) (made back other : ℕ) (cpu : CpuId) (w : View) (r : Rule plans cpus s) → get_elem? s.views id ≡ some v → v.kind ≡ Clerk made back
    → other ≢ id → get_elem? s.views other ≡ some w → w.kind ≡ Of cpu → ((tok : ℕ) → tok < length plans → (at w.tokens tok).held ≡ Nothing)
    → (q : Rule plans cpus (record { words = s.words; homes = s.homes; views = set (set s.views id (joined v w)) other spent })) × (q.model ≡ r.model)
unfolding rule_join
Rule-join plans cpus s id v made back other cpu w r here kind apart there its_kind quiet = (rule_join plans cpus s id v made back other cpu w r here kind apart there its_kind quiet, refl)
