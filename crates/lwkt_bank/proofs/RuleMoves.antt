use Rattle.std.proofs.Common.{inl, ◌≡◌, ◌≢◌, ⊎_elim, ℕ, ◌+◌, ◌*◌, ◌<◌, ◌≤◌, true, List, length, map, get_or, set, refl, ap, sym, ◌∙◌, subst, arith, Some, length-set, get_or-set_same, get_or-set_other}
use Rattle.std.specs.Prelude.{slice_index, slice_set, slice_get, IsSomeAnd}
use Rattle.std.proofs.lemmas.Bool.{cases_eq}
use Rattle.std.proofs.lemmas.Option.{slice_get-get_or}
use mathlib.Core.Option.{Option, some}
use lib.ListN.{get_elem?}
use Rattle.lwkt_base.specs.declared.names.CpuId.{CpuId}
use Rattle.lwkt_table.specs.declared.seats.SeatKind.{SeatKind}
use Rattle.lwkt_table.specs.declared.seats.SeatKind.TheVariants.{Of, Spent}
use Rattle.lwkt_core.specs.declared.tokens.Token.{Token}
use Rattle.lwkt_core.specs.declared.events.Event.{Event}
use Rattle.lwkt_core.specs.declared.events.Place.{Place}
use Rattle.lwkt_core.specs.declared.events.Place.TheVariants.{AtToken}
use Rattle.lwkt_core.specs.Events.{cpu_of, place_of, adds_reference}
use Rattle.lwkt_core.specs.Tokens.{held_by, IsSafeToken, TokenNeeds, token_after}
use Rattle.lwkt_core.specs.Machine.{Machine, machine, Needs, PlaceNeeds, references_of, Happens, after}
use Rattle.lwkt_table.specs.Seating.{AreSeated}
use Rattle.lwkt_core.proofs.MachineMoves.{IsSafe_left, changed_at, after_token}
use Rattle.lwkt_table.proofs.SeatingLemmas.{at_set, set_again, at_map, of_map, map-set, AreSeated-there}
use Rattle.lwkt_bank.specs.declared.views.Plan.{Plan}
use Rattle.lwkt_bank.specs.declared.views.View.{View}
use Rattle.lwkt_bank.specs.Views.{at, count_from, held_of}
use Rattle.lwkt_bank.specs.Rule.{Bench, Homes, moved, token_word, cell_word, law_word, param_word, Seen, seen_by, column, held_by_kind, Knows, ShowsToken, Rule, plan_at, token_at, no_token}
use Rattle.lwkt_bank.proofs.ViewMoves.{column-set, column-same, seen-same, references-from}
use Rattle.lwkt_bank.proofs.ShowMoves.{Turns, Shows-step}

-- equal words, cells, views and tokens show the same
pub Shows-move : (plan : Plan) (home : Option (Option (List ℕ))) (word word' : ℕ) (cells cells' : ℕ → ℕ) (views views' : List Seen) (tok tok' : Token)
    → word' ≡ word → ((i : ℕ) → i < plan.cells → cells' i ≡ cells i) → views' ≡ views → tok' ≡ tok → ShowsToken plan home word cells views tok → ShowsToken plan home word' cells' views' tok'
Shows-move plan home word word' cells cells' views views' tok tok' same_word same_cells same_views same_tok shows =
    let F : List Seen → Type 0 = λ vs. ShowsToken plan home word' cells' vs tok' in
    let G : Token → Type 0 = λ t. ShowsToken plan home word' cells' views t in
    subst F (sym same_views) (subst G (sym same_tok) (record {
      slot = shows.slot;
      guard = shows.guard;
      opening_blob = shows.opening_blob;
      law = shows.law;
      param = shows.param;
      long = shows.long;
      count_word = same_word ∙ shows.count_word;
      row = λ i h. same_cells i h ∙ shows.row i h;
      opening = shows.opening;
      held = shows.held;
      seated = shows.seated;
      tallies = shows.tallies;
      sections = shows.sections;
      known = shows.known;
    }))

module _ (plans : List Plan) (cpus : ℕ) (s : Bench) (r : Rule plans cpus s) where
  -- the token of a number stands in the machine
  pub there : (tok : ℕ) → tok < length plans → tok < length r.model.tokens
  there tok h = let e = r.pictures.as_many in omega arith

  pub token_is : (tok : ℕ) → tok < length plans → slice_get r.model.tokens tok ≡ Some (token_at r.model tok)
  token_is tok h = slice_get-get_or r.model.tokens tok no_token (there tok h)

  pub safe_token : (tok : ℕ) → tok < length plans → IsSafeToken r.model.cpus (token_at r.model tok)
  safe_token tok h = r.safe.each_token tok no_token (there tok h)

  pub few_cells : (tok : ℕ) → tok < length plans → (plan_at plans tok).cells ≤ 4
  few_cells tok h = let f = (safe_token tok h).few_cells in let l = (r.pictures.each_token tok h).long in omega arith

  pub seat_there : (id : ℕ) (v : View) (cpu : CpuId) → get_elem? s.views id ≡ some v → v.kind ≡ Of cpu → cpu.0 < r.model.cpus
  seat_there id v cpu e kind =
      let k : get_elem? (map (λ (x : View). x.kind) s.views) id ≡ some (Of cpu) = at_map (λ (x : View). x.kind) s.views id v e ∙ ap (λ (x : SeatKind). some x) kind in
      let h = AreSeated-there cpus (map (λ (x : View). x.kind) s.views) id cpu r.seats k in
      let p = r.pictures.processors in omega arith

  -- what a seat holds is what its processor holds in the machine
  pub held_there : (id : ℕ) (v : View) (cpu : CpuId) (tok : ℕ) → get_elem? s.views id ≡ some v → v.kind ≡ Of cpu → tok < length plans → held_by (token_at r.model tok) cpu.0 ≡ (at v.tokens tok).held
  held_there id v cpu tok e kind h =
      sym ((r.pictures.each_token tok h).held id (seen_by tok v) (at_map (seen_by tok) s.views id v e) ∙ ap (held_by_kind (token_at r.model tok)) kind)

  pub knows_there : (id : ℕ) (v : View) (tok : ℕ) → get_elem? s.views id ≡ some v → tok < length plans → Knows (token_at r.model tok) (at v.tokens tok)
  knows_there id v tok e h = (r.pictures.each_token tok h).known id (seen_by tok v) (at_map (seen_by tok) s.views id v e)

  -- a seat's references are its processor's in the machine
  pub references_there : (id : ℕ) (v : View) (cpu : CpuId) → get_elem? s.views id ≡ some v → v.kind ≡ Of cpu → references_of r.model.tokens cpu.0 ≡ count_from 0 (length plans) (held_of v.tokens)
  references_there id v cpu e kind =
      let many = r.pictures.as_many in
      references-from r.model.tokens cpu.0 0 (held_of v.tokens) (λ i h. held_there id v cpu i e kind (omega arith) ∙ ap (held_of v.tokens) (omega arith))
      ∙ ap (λ (n : ℕ). count_from 0 n (held_of v.tokens)) many

  -- a seat's view isn't one that was taken back
  pub plans_there : (id : ℕ) (v : View) (cpu : CpuId) → get_elem? s.views id ≡ some v → v.kind ≡ Of cpu → v.plans ≡ plans
  plans_there id v cpu e kind = ⊎_elim (λ is. is) (λ gone. absurd (let h : Spent ≡ Of cpu = sym (ap (λ (x : View). x.kind) gone) ∙ kind in cc)) (r.informed id v e)

  -- another seat is another processor's
  apart : (id : ℕ) (v : View) (cpu : CpuId) (tok : ℕ) → get_elem? s.views id ≡ some v → v.kind ≡ Of cpu → (k : ℕ) (z : Seen) (other : CpuId) → get_elem? (column tok s.views) k ≡ some z → k ≢ id → z.kind ≡ Of other → other.0 ≢ cpu.0
  apart id v cpu tok e kind k z other d away is same =
      let it = of_map (seen_by tok) s.views k z d in
      let kinds = map (λ (x : View). x.kind) s.views in
      let own : get_elem? kinds id ≡ some (Of cpu) = at_map (λ (x : View). x.kind) s.views id v e ∙ ap (λ (x : SeatKind). some x) kind in
      let named : Of other ≡ Of cpu = λ i. Of (record { 0 = same i }) in
      let its : it.0.kind ≡ Of cpu = ap (λ (x : Seen). x.kind) it.2 ∙ is ∙ named in
      let theirs : get_elem? kinds k ≡ some (Of cpu) = at_map (λ (x : View). x.kind) s.views k it.0 it.1 ∙ ap (λ (x : SeatKind). some x) its in
      away (r.seats.one_seat k id cpu theirs own)

  module _ (id : ℕ) (v w : View) (cpu : CpuId) (tok i n : ℕ) (e : Event)
      (here : get_elem? s.views id ≡ some v) (kind : v.kind ≡ Of cpu) (same_kind : w.kind ≡ v.kind) (same_plans : w.plans ≡ v.plans)
      (else_ : (k : ℕ) → k ≢ tok → at w.tokens k ≡ at v.tokens k) (exists' : tok < length plans) (low : 16 * tok + 1 ≤ i) (high : i < 16 * tok + 6)
      (at_tok : place_of e ≡ AtToken tok) (by_cpu : cpu_of e ≡ cpu.0) (needs : TokenNeeds (token_at r.model tok) e)
      (room : adds_reference e ≡ true → count_from 0 (length plans) (held_of v.tokens) < 32)
      (homes : Homes) (lies : Option (List ℕ)) (home_here : get_elem? homes tok ≡ some lies) (home_else : (k : ℕ) → k ≢ tok → get_elem? homes k ≡ get_elem? s.homes k)
      (turns : Turns (plan_at plans tok) (token_at r.model tok) (token_after (token_at r.model tok) e) cpu.0 (at v.tokens tok) (at w.tokens tok) (slice_index (slice_set s.words i n) (token_word tok)) (λ c. slice_index (slice_set s.words i n) (cell_word tok c)) lies) where
    abbrev next : Machine
    next = machine r.model.cpus (set r.model.tokens tok (token_after (token_at r.model tok) e)) r.model.messages

    all_needs : Needs r.model e
    all_needs =
        let P : ℕ → Type 0 = λ c. c < r.model.cpus in
        let Q : Place → Type 0 = λ p. PlaceNeeds r.model e p in
        let R : ℕ → Type 0 = λ c. references_of r.model.tokens c < 32 in
        record {
          processor = subst P (sym by_cpu) (seat_there id v cpu here kind);
          place = subst Q (sym at_tok) (subst (λ o. IsSomeAnd o (λ t. TokenNeeds t e)) (sym (token_is tok exists')) needs);
          room = λ adds. subst R (sym by_cpu) (let f = room adds in let g = references_there id v cpu here kind in omega arith);
        }

    is_after : next ≡ after r.model e
    is_after = after_token r.model e tok (set r.model.tokens tok (token_after (token_at r.model tok) e)) at_tok (sym (changed_at (λ t. token_after t e) r.model.tokens tok (token_at r.model tok) (token_is tok exists')))

    abbrev words : List ℕ
    words = slice_set s.words i n

    seen_next : ShowsToken (plan_at plans tok) (get_elem? homes tok) (slice_index words (token_word tok)) (λ c. slice_index words (cell_word tok c)) (column tok (set s.views id w)) (token_at next tok)
    seen_next =
        let stepped_on = Shows-step (plan_at plans tok) (get_elem? s.homes tok) (get_elem? homes tok) lies (slice_index s.words (token_word tok)) (λ c. slice_index s.words (cell_word tok c)) (column tok s.views) (token_at r.model tok) id (seen_by tok v) (seen_by tok w) cpu
        (slice_index (slice_set s.words i n) (token_word tok)) (λ c. slice_index (slice_set s.words i n) (cell_word tok c)) (token_after (token_at r.model tok) e)
        (r.pictures.each_token tok exists') (at_map (seen_by tok) s.views id v here) kind same_kind (apart id v cpu tok here kind) turns home_here in
        Shows-move (plan_at plans tok) (get_elem? homes tok) (slice_index (slice_set s.words i n) (token_word tok)) (slice_index (slice_set s.words i n) (token_word tok)) (λ c. slice_index (slice_set s.words i n) (cell_word tok c)) (λ c. slice_index (slice_set s.words i n) (cell_word tok c))
        (set (column tok s.views) id (seen_by tok w)) (column tok (set s.views id w)) (token_after (token_at r.model tok) e) (get_or (set r.model.tokens tok (token_after (token_at r.model tok) e)) tok no_token)
        refl (λ c h. refl) (column-set tok s.views id w) (get_or-set_same r.model.tokens tok (token_after (token_at r.model tok) e) no_token (there tok exists')) stepped_on

    seen_else : (k : ℕ) → k < length plans → k ≢ tok → ShowsToken (plan_at plans k) (get_elem? homes k) (slice_index words (token_word k)) (λ c. slice_index words (cell_word k c)) (column k (set s.views id w)) (token_at next k)
    seen_else k h away =
        let few = few_cells k h in
        let F : Option (Option (List ℕ)) → Type 0 = λ o. ShowsToken (plan_at plans k) o (slice_index words (token_word k)) (λ c. slice_index words (cell_word k c)) (column k (set s.views id w)) (token_at next k) in
        subst F (sym (home_else k away)) (
        Shows-move (plan_at plans k) (get_elem? s.homes k) (slice_index s.words (token_word k)) (slice_index (slice_set s.words i n) (token_word k)) (λ c. slice_index s.words (cell_word k c)) (λ c. slice_index (slice_set s.words i n) (cell_word k c))
        (column k s.views) (column k (set s.views id w)) (token_at r.model k) (get_or (set r.model.tokens tok (token_after (token_at r.model tok) e)) k no_token)
        (get_or-set_other s.words i (token_word k) n 0 (λ same. absurd (omega arith)))
        (λ c inside_row. get_or-set_other s.words i (cell_word k c) n 0 (λ same. absurd (omega arith)))
        (column-same k s.views id v w here (seen-same k v w same_kind (else_ k away)))
        (get_or-set_other r.model.tokens tok k (token_after (token_at r.model tok) e) no_token away)
        (r.pictures.each_token k h))

    -- the rule stays, and the machine after the step is what the event leaves
    pub lift : (q : Rule plans cpus (moved s i n id w homes)) × Happens r.model e q.model
    lift = (
      record {
        model = next;
        safe = IsSafe_left r.model next e r.safe all_needs is_after;
        pictures = record {
          processors = r.pictures.processors;
          as_many = length-set r.model.tokens tok (token_after (token_at r.model tok) e) ∙ r.pictures.as_many;
          no_messages = r.pictures.no_messages;
          each_token = λ k h. ⊎_elim
              (λ same. let F : ℕ → Type 0 = λ q. ShowsToken (plan_at plans q) (get_elem? homes q) (slice_index words (token_word q)) (λ c. slice_index words (cell_word q c)) (column q (set s.views id w)) (token_at next q) in subst F (sym same) seen_next)
              (λ away. seen_else k h away)
              (cases_eq k tok);
        };
        wide = length-set s.words i n ∙ r.wide;
        zero_word = get_or-set_other s.words i 0 n 0 (λ same. absurd (omega arith)) ∙ r.zero_word;
        laws = λ k h. (get_or-set_other s.words i (law_word k) n 0 (λ same. absurd (omega arith)) ∙ (r.laws k h).0, get_or-set_other s.words i (param_word k) n 0 (λ same. absurd (omega arith)) ∙ (r.laws k h).1);
        seats =
            let kinds : map (λ (x : View). x.kind) (set s.views id w) ≡ map (λ (x : View). x.kind) s.views =
            map-set (λ (x : View). x.kind) s.views id w ∙ ap (set (map (λ (x : View). x.kind) s.views) id) same_kind ∙ set_again (map (λ (x : View). x.kind) s.views) id v.kind (at_map (λ (x : View). x.kind) s.views id v here) in
            let F : List SeatKind → Type 0 = λ ks. AreSeated cpus ks in subst F (sym kinds) r.seats;
        informed = λ j x d. ⊎_elim
            (λ new. inl (ap (λ (y : View). y.plans) (sym new.1) ∙ same_plans ∙ plans_there id v cpu here kind))
            (λ old. r.informed j x old.1)
            (at_set s.views id j w x d);
        gone = λ j x d was. ⊎_elim
            (λ new. absurd (let h : Of cpu ≡ Spent = sym (same_kind ∙ kind) ∙ ap (λ (y : View). y.kind) new.1 ∙ was in cc))
            (λ old. r.gone j x old.1 was)
            (at_set s.views id j w x d);
      },
      (all_needs, is_after),
    )
