use Rattle.std.proofs.Common.{eqb, ◌≡◌, ◌≢◌, ⊎_elim, ℕ, ◌+◌, ◌-◌, ◌%◌, ◌^◌, ◌<◌, ◌≤◌, Bool, true, false, cond, List, [], ◌∷◌, length, set, refl, ap, sym, ◌∙◌, subst, arith, None, Some, sum, get_or-set_same, get_or-set_other}
use Rattle.std.specs.Prelude.{slice_index, slice_set, slice_get, bit_or, is_some}
use Rattle.std.proofs.lemmas.List.{set-get_or}
use Rattle.std.proofs.lemmas.Option.{slice_get-get_or}
use Rattle.std.proofs.lemmas.Bool.{eqb-true, eqb-false, cases_eq, cases_lt, false≢true}
use Rattle.std.proofs.lemmas.List.Sums.{get_or-le-sum_by}
use Rattle.std.proofs.Math.ListN.{get_or-eq_default}
use Rattle.lwkt_table.proofs.SeatingLemmas.{total-at, at_map, set_here, set_else, inside}
use mathlib.Core.Option.{Option, some, none}
use lib.ListN.{get_elem?}
use prog.Atomic.{either}
use Rattle.lwkt_base.specs.declared.names.CpuId.{CpuId}
use Rattle.lwkt_base.specs.declared.names.TokId.{TokId}
use Rattle.lwkt_base.specs.declared.names.Mode.{Mode}
use Rattle.lwkt_base.specs.declared.names.Mode.TheVariants.{Exclusive, Shared}
use Rattle.lwkt_base.specs.declared.laws.Law.{Law}
use Rattle.lwkt_base.specs.declared.laws.Law.TheVariants.{Any, Sum, Order, Cap, Tally, Len}
use Rattle.lwkt_base.specs.declared.holdings.Held.TheVariants.{Nothing, Holds}
use Rattle.lwkt_base.specs.declared.words.TokWord.{TokWord}
use Rattle.lwkt_base.specs.declared.words.Decision.TheVariants.{Take as Takes}
use Rattle.lwkt_base.specs.Holding.{is_exclusive, is_held}
use Rattle.lwkt_base.specs.Law.{Obeys, IsTallied}
use Rattle.lwkt_base.specs.TokenWord.{word_of, Fits, decision}
use Rattle.lwkt_table.specs.declared.seats.SeatKind.TheVariants.{Of}
use Rattle.lwkt_table.specs.declared.seats.Deed.{Deed}
use Rattle.lwkt_table.specs.declared.seats.WordStep.{WordStep}
use Rattle.lwkt_core.specs.declared.tokens.Token.{Token}
use Rattle.lwkt_core.specs.declared.events.Event.{Event}
use Rattle.lwkt_core.specs.declared.events.Event.TheVariants.{Load, Take, Share, Again, Mark, GiveOne, GiveClean, GiveWritten, Read, Write, ReadBlob, WriteBlob}
use Rattle.lwkt_core.specs.declared.events.Place.TheVariants.{AtToken}
use Rattle.lwkt_core.specs.Events.{cpu_of, place_of, adds_reference}
use Rattle.lwkt_core.specs.Tokens.{tally_of, length_of, IsClean, IsLawful, IsNotLastExclusive, MayWrite, section_at, TokenNeeds, token_after}
use Rattle.lwkt_core.specs.Picture.{picture_of}
use Rattle.lwkt_core.specs.Machine.{Happens}
use Rattle.lwkt_core.proofs.MachineMoves.{references_le}
use Rattle.lwkt_bank.specs.declared.views.Plan.{Plan}
use Rattle.lwkt_bank.specs.declared.views.TokenEntry.{TokenEntry}
use Rattle.lwkt_bank.specs.declared.views.View.{View}
use Rattle.lwkt_bank.specs.Views.{RecordOf, wrote_record, at, amount, generation_in, count_from, held_of, looked, taken, more, less, ended, ended_section, read, stored, raised, who, noted, load, exchange, add, sub, or, one_section}
use Rattle.lwkt_bank.specs.Deeds.{deed_by, writes}
use Rattle.lwkt_bank.specs.Rule.{IsOpeningRow, Bench, Homes, moved, lies_in, in_slot, without, with_back, Rule, Seen, seen_by, column, token_word, cell_word, plan_at, token_at}
use Rattle.lwkt_bank.specs.Plays.{Looks, IsTakenRow, Exchanges, AddsOne, Marks, GivesOne, GivesClean, GivesWritten, ReadsCell, StoresCell, RaisesCell, ReadsBlob, WritesBlob}
use Rattle.lwkt_bank.specs.Ledger.{stays, taken_home, given_home, FindsAt}
use Rattle.lwkt_bank.specs.Seats.{IsCleanIn, IsLawfulIn}
use Rattle.lwkt_bank.specs.Hands.{IsInHand}
use Rattle.std.specs.List.{list_any}
use Rattle.lwkt_bank.proofs.WordMoves.{Fits-safe, picture-open}
use Rattle.lwkt_bank.proofs.ViewMoves.{at-here, at-else, at-tok}
use Rattle.lwkt_bank.proofs.ShowMoves.{Turns}
use Rattle.lwkt_bank.proofs.RuleMoves.{token_is, safe_token, few_cells, seat_there, held_there, knows_there, plans_there, lift}
use Rattle.lwkt_bank.proofs.TurnMoves.{exclusive_on, lies_out, fresh_blob, settled_blob_free, turns_read_blob, turns_write_blob, Sight, seen-keeps, generation_is, first_lawful, fresh, free_at, settled_free, open_at, turns_load, turns_take, turns_share, turns_again, turns_give_one, turns_give_clean, turns_give_written, turns_mark, turns_read, turns_write, turns_raise, room_less, room_more, room_clean, room_written, marked_is, exclusive_held}

-- one number of a list is at most their sum
pub tally-le : (tallies : List ℕ) (a : ℕ) → slice_index tallies a ≤ sum tallies
tally-le tallies a = ⊎_elim
    (λ (inside : a < length tallies). get_or-le-sum_by (λ x. x) tallies a 0 inside)
    (λ (beyond : length tallies ≤ a). let z = get_or-eq_default tallies 0 beyond in omega arith)
    (cases_lt a (length tallies))

-- what lies in the slots after a take, and after the end of a section
without_here : (guard blob : RecordOf) (tok : ℕ) (homes : Homes) → is_some blob ≡ is_some guard → get_elem? homes tok ≡ some (lies_in blob false) → get_elem? (without guard tok homes) tok ≡ some (lies_in blob true)
without_here None None tok homes same lay = lay
without_here None (Some bytes) tok homes same lay = absurd (false≢true (sym same))
without_here (Some first) None tok homes same lay = absurd (false≢true same)
without_here (Some first) (Some bytes) tok homes same lay = set_here homes tok none (inside homes tok (some bytes) lay)

without_else : (guard : RecordOf) (tok : ℕ) (homes : Homes) (k : ℕ) → k ≢ tok → get_elem? (without guard tok homes) k ≡ get_elem? homes k
without_else None tok homes k away = refl
without_else (Some first) tok homes k away = set_else homes tok k none away

finds_here : (guard blob : RecordOf) (tok : ℕ) (homes : Homes) → is_some blob ≡ is_some guard → get_elem? homes tok ≡ some (lies_in blob false) → FindsAt guard tok homes blob
finds_here None None tok homes same lay = refl
finds_here None (Some bytes) tok homes same lay = absurd (false≢true (sym same))
finds_here (Some first) None tok homes same lay = absurd (false≢true same)
finds_here (Some first) (Some bytes) tok homes same lay = (bytes, (refl, lay))

with_here : (blob : RecordOf) (tok : ℕ) (homes : Homes) → get_elem? homes tok ≡ some (lies_in blob true) → get_elem? (with_back blob tok homes) tok ≡ some (lies_in blob false)
with_here None tok homes lay = lay
with_here (Some bytes) tok homes lay = set_here homes tok (some bytes) (inside homes tok none lay)

with_else : (blob : RecordOf) (tok : ℕ) (homes : Homes) (k : ℕ) → k ≢ tok → get_elem? (with_back blob tok homes) k ≡ get_elem? homes k
with_else None tok homes k away = refl
with_else (Some bytes) tok homes k away = set_else homes tok k (some bytes) away

-- equal entries, words and cells take the same turn
Turns-move : (plan : Plan) (tok tok' : Token) (cpu : ℕ) (e e' d : TokenEntry) (word word' : ℕ) (cells cells' : ℕ → ℕ) (lies : Option (List ℕ)) → d ≡ e' → word' ≡ word → ((c : ℕ) → c < plan.cells → cells' c ≡ cells c) → Turns plan tok tok' cpu e e' word cells lies → Turns plan tok tok' cpu e d word' cells' lies
Turns-move plan tok tok' cpu e e' d word word' cells cells' lies same_entry same_word same_cells turns =
    let F : TokenEntry → Type 0 = λ x. Turns plan tok tok' cpu e x word' cells' lies in
    subst F (sym same_entry) (record {
      slot = turns.slot;
      guard = turns.guard;
      same_first_blob = turns.same_first_blob;
      law = turns.law;
      param = turns.param;
      long = turns.long;
      count_word = same_word ∙ turns.count_word;
      row = λ i h. same_cells i h ∙ turns.row i h;
      others = turns.others;
      held = turns.held;
      tallies = turns.tallies;
      sections = turns.sections;
      rises = turns.rises;
      same_first = turns.same_first;
      known = turns.known;
      others_known = turns.others_known;
    })

-- whatever state the table is in when a word becomes f of what it was, the seat has an entry with which the rule of states stays,
-- whatever others have done since its last deed; the machines shown before and after are related by the event
abbrev pub Steps : List Plan → ℕ → ℕ → View → ℕ → (ℕ → ℕ) → (ℕ → Event) → (ℕ → List WordStep) → (Homes → ℕ → Homes) → (Homes → List Deed → ℕ → View → Type 0) → Type 0
Steps plans cpus id v i f event steps home holds = (s : Bench) (r : Rule plans cpus s) (between : List Deed) → get_elem? s.views id ≡ some v → slice_index s.words i < 18446744073709551616
    → (e : TokenEntry) × ((q : Rule plans cpus (moved s i (f (slice_index s.words i)) id (noted between v e (deed_by (who v) (event (slice_index s.words i)) (steps (slice_index s.words i)))) (home s.homes (slice_index s.words i))))
    × (Happens r.model (event (slice_index s.words i)) q.model × holds s.homes between (slice_index s.words i) (noted between v e (deed_by (who v) (event (slice_index s.words i)) (steps (slice_index s.words i))))))

-- what a holder knows of its section is the token's
section_known : (t : TokId) (e : TokenEntry) (tk : Token) → e.generation ≡ tk.generation → e.first ≡ tk.first → e.row ≡ tk.row → ended_section t.0 e ≡ section_at t tk
section_known t e tk generation first row = λ i. record { before = first i; after = row i; generation = generation i; tok = t }

module _ (plans : List Plan) (cpus id : ℕ) (v : View) (tok : ℕ) (kind : v.kind ≡ Of (who v)) (exists' : tok < length plans) where
  abbrev cpu : CpuId
  cpu = who v

  abbrev e : TokenEntry
  e = at v.tokens tok

  abbrev t : TokId
  t = record { 0 = tok }

  module _ (s : Bench) (r : Rule plans cpus s) (here : get_elem? s.views id ≡ some v) where
    abbrev n : ℕ
    n = slice_index s.words (token_word tok)

    abbrev cells : ℕ → ℕ
    cells c = slice_index s.words (cell_word tok c)

    sight : Sight r.model.cpus (plan_at plans tok) (token_at r.model tok) cpu.0 e n cells
    sight =
        let shows = r.pictures.each_token tok exists' in
        record {
          limit = r.safe.processors;
          here = seat_there plans cpus s r id v cpu here kind;
          safe = safe_token plans cpus s r tok exists';
          few = λ other. let h = references_le r.model.tokens other tok (token_at r.model tok) (token_is plans cpus s r tok exists') in let f = r.safe.few other in omega arith;
          law = shows.law;
          param = shows.param;
          long = shows.long;
          count_word = shows.count_word;
          row = shows.row;
          held = sym (held_there plans cpus s r id v cpu tok here kind exists');
          opening = shows.opening;
          knows = knows_there plans cpus s r id v tok here exists';
          guard = shows.guard;
          opening_blob = shows.opening_blob;
        }

    abbrev tk : Token
    tk = token_at r.model tok

    -- what lies in the slot of the token
    home_here : get_elem? s.homes tok ≡ some (in_slot tk)
    home_here = (r.pictures.each_token tok exists').slot

    -- a step on the count word, after which this lies in the slots
    word_moves : (e' : TokenEntry) (between : List Deed) (steps : List WordStep) (n' : ℕ) (ev : Event) (homes : Homes) (lies : Option (List ℕ)) → get_elem? homes tok ≡ some lies → ((k : ℕ) → k ≢ tok → get_elem? homes k ≡ get_elem? s.homes k)
        → e'.tok ≡ tok → place_of ev ≡ AtToken tok → cpu_of ev ≡ cpu.0 → TokenNeeds tk ev → (adds_reference ev ≡ true → count_from 0 (length plans) (held_of v.tokens) < 32)
        → Turns (plan_at plans tok) tk (token_after tk ev) cpu.0 e e' n' cells lies
        → (q : Rule plans cpus (moved s (token_word tok) n' id (noted between v e' (deed_by cpu ev steps)) homes)) × Happens r.model ev q.model
    word_moves e' between steps n' ev homes lies at_home else_home is_tok at_tok by_cpu needs room turns =
        let wide = r.wide in
        let few = few_cells plans cpus s r tok exists' in
        lift plans cpus s r id v (noted between v e' (deed_by cpu ev steps)) cpu tok (token_word tok) n' ev here kind refl refl (λ k away. at-else e' v.tokens tok k is_tok away) exists' (omega arith) (omega arith) at_tok by_cpu needs room homes lies at_home else_home
        (Turns-move (plan_at plans tok) tk (token_after tk ev) cpu.0 e e' (at (e' ∷ v.tokens) tok) n' (slice_index (slice_set s.words (token_word tok) n') (token_word tok)) cells (λ c. slice_index (slice_set s.words (token_word tok) n') (cell_word tok c)) lies
        (at-here e' v.tokens tok is_tok) (get_or-set_same s.words (token_word tok) n' 0 (omega arith)) (λ c h. get_or-set_other s.words (token_word tok) (cell_word tok c) n' 0 (λ same. absurd (omega arith))) turns)

    -- a step on the count word
    word_step : (e' : TokenEntry) (between : List Deed) (steps : List WordStep) (n' : ℕ) (ev : Event) → e'.tok ≡ tok → place_of ev ≡ AtToken tok → cpu_of ev ≡ cpu.0 → TokenNeeds (token_at r.model tok) ev → (adds_reference ev ≡ true → count_from 0 (length plans) (held_of v.tokens) < 32)
        → Turns (plan_at plans tok) (token_at r.model tok) (token_after (token_at r.model tok) ev) cpu.0 e e' n' cells (in_slot tk)
        → (q : Rule plans cpus (moved s (token_word tok) n' id (noted between v e' (deed_by cpu ev steps)) s.homes)) × Happens r.model ev q.model
    word_step e' between steps n' ev is_tok at_tok by_cpu needs room turns =
        word_moves e' between steps n' ev s.homes (in_slot tk) home_here (λ k away. refl) is_tok at_tok by_cpu needs room turns

    -- a step on a cell
    cell_step : (e' : TokenEntry) (between : List Deed) (cell value : ℕ) (ev : Event) → cell < 4 → e'.tok ≡ tok → place_of ev ≡ AtToken tok → cpu_of ev ≡ cpu.0 → TokenNeeds (token_at r.model tok) ev → adds_reference ev ≡ false
        → Turns (plan_at plans tok) (token_at r.model tok) (token_after (token_at r.model tok) ev) cpu.0 e e' n (λ c. slice_index (slice_set s.words (cell_word tok cell) value) (cell_word tok c)) (in_slot tk)
        → (q : Rule plans cpus (moved s (cell_word tok cell) value id (noted between v e' (deed_by cpu ev [])) s.homes)) × Happens r.model ev q.model
    cell_step e' between cell value ev within is_tok at_tok by_cpu needs no_more turns =
        lift plans cpus s r id v (noted between v e' (deed_by cpu ev [])) cpu tok (cell_word tok cell) value ev here kind refl refl (λ k away. at-else e' v.tokens tok k is_tok away) exists' (omega arith) (omega arith) at_tok by_cpu needs (λ adds. absurd (false≢true (sym no_more ∙ adds))) s.homes (in_slot tk) home_here (λ k away. refl)
        (Turns-move (plan_at plans tok) (token_at r.model tok) (token_after (token_at r.model tok) ev) cpu.0 e e' (at (e' ∷ v.tokens) tok) n (slice_index (slice_set s.words (cell_word tok cell) value) (token_word tok)) (λ c. slice_index (slice_set s.words (cell_word tok cell) value) (cell_word tok c)) (λ c. slice_index (slice_set s.words (cell_word tok cell) value) (cell_word tok c)) (in_slot tk)
        (at-here e' v.tokens tok is_tok) (get_or-set_other s.words (cell_word tok cell) (token_word tok) value 0 (λ same. absurd (omega arith))) (λ c h. refl) turns)

    abbrev After : ℕ → View → Event → ℕ → Type 0
    After i w ev x = (q : Rule plans cpus (moved s i x id w s.homes)) × Happens r.model ev q.model

    rises_here : e.generation ≤ generation_in n
    rises_here = let k = sight.knows.not_above in let g = generation_is r.model.cpus (plan_at plans tok) (token_at r.model tok) cpu e n cells sight in omega arith

    room_here : n + 4 < 18446744073709551616
    room_here = room_more r.model.cpus (plan_at plans tok) (token_at r.model tok) cpu e n cells sight

    looked_tok : (looked e n).tok ≡ tok
    looked_tok = (seen-keeps e (generation_in n)).0 ∙ at-tok v.tokens tok

    look_step : (between : List Deed) (steps : List WordStep) → After (token_word tok) (noted between v (looked e n) (deed_by cpu (Load cpu t) steps)) (Load cpu t) n
    look_step between steps = word_step (looked e n) between steps n (Load cpu t) looked_tok refl refl tt (λ adds. absurd (false≢true adds)) (turns_load r.model.cpus (plan_at plans tok) (token_at r.model tok) cpu e n cells sight)

  -- a look at the word
  pub look_steps : Steps plans cpus id v (token_word tok) (λ n. n) (λ _. Load cpu t) (λ n. load tok n ∷ []) stays (λ _ between n w. Looks between tok v n w)
  look_steps s r between here fits = let a = look_step s r here between (load tok (n s r here) ∷ []) in (looked e (n s r here), (a.0, (a.1, (room_here s r here, rises_here s r here, refl))))

  -- what the row is that a take finds
  module _ (s : Bench) (r : Rule plans cpus s) (here : get_elem? s.views id ≡ some v) where
    abbrev found : ℕ
    found = n s r here

    abbrev row : List ℕ
    row = (token_at r.model tok).row

    abbrev blob : RecordOf
    blob = (token_at r.model tok).blob

    row_taken : row ≡ (token_at r.model tok).first → blob ≡ (token_at r.model tok).first_blob → IsTakenRow (plan_at v.plans tok) e found row blob
    row_taken settled settled_blob =
        let m = sight s r here in
        let g = generation_is r.model.cpus (plan_at plans tok) (token_at r.model tok) cpu e found (cells s r here) m in
        let k = m.knows.not_above in
        let F : List ℕ → Type 0 = λ x. Obeys (plan_at plans tok).law (plan_at plans tok).param x (length_of (token_at r.model tok).first_blob) in
        let H : RecordOf → Type 0 = λ b. Obeys (plan_at plans tok).law (plan_at plans tok).param row (length_of b) in
        let P : List Plan → Type 0 = λ ps. IsTakenRow (plan_at ps tok) e found row blob in
        subst P (sym (plans_there plans cpus s r id v cpu here kind)) (record {
          long = m.long;
          lawful = subst H (sym settled_blob) (subst F (sym settled) (first_lawful r.model.cpus (plan_at plans tok) (token_at r.model tok) cpu e found (cells s r here) m));
          rises = omega arith;
          fresh = fresh r.model.cpus (plan_at plans tok) (token_at r.model tok) cpu e found (cells s r here) m settled;
          opening = λ same. let at_opening : (token_at r.model tok).generation ≡ (plan_at plans tok).generation = omega arith in subst (λ (x : List ℕ). IsOpeningRow (plan_at plans tok) x) (sym settled) (m.opening at_opening);
          guard = m.guard;
          short = m.safe.short;
          fresh_blob = fresh_blob r.model.cpus (plan_at plans tok) (token_at r.model tok) cpu e found (cells s r here) m settled_blob;
          opening_blob = λ same. let at_opening : (token_at r.model tok).generation ≡ (plan_at plans tok).generation = omega arith in settled_blob ∙ m.opening_blob at_opening;
        })

    taken_tok : (mode : Mode) → (taken e found mode row blob).tok ≡ tok
    taken_tok mode = looked_tok s r here

    picture_is : word_of (picture_of (token_at r.model tok)) ≡ found
    picture_is = sym (sight s r here).count_word

    picture_fits : Fits (picture_of (token_at r.model tok))
    picture_fits = Fits-safe (token_at r.model tok) r.model.cpus (sight s r here).safe (sight s r here).few

  -- an exchange: it takes the token, or it is a look at another word
  module _ (old new : ℕ) (alone : Bool) (few : count_from 0 (length plans) (held_of v.tokens) < 32) where
    abbrev exchanged : Event → ℕ → Event
    exchanged ev x = cond (eqb x old) ev (Load cpu t)

    pub take_steps : ((w : TokWord) → Fits w → word_of w ≡ old → decision w Exclusive alone ≡ Takes new)
        → Steps plans cpus id v (token_word tok) (λ x. either (eqb x old) new x) (exchanged (Take cpu t)) (λ x. exchange tok old new x ∷ []) (taken_home (plan_at plans tok).blob tok old) (λ homes between x w. Exchanges Exclusive old new between tok v x w × (x ≡ old → FindsAt (plan_at plans tok).blob tok homes (at w.tokens tok).blob))
    take_steps decides s r between here fits = go (eqb (found s r here) old) refl
      where
        guard : RecordOf
        guard = (plan_at plans tok).blob

        go : (b : Bool) → eqb (found s r here) old ≡ b → (e' : TokenEntry) × ((q : Rule plans cpus (moved s (token_word tok) (either b new (found s r here)) id (noted between v e' (deed_by cpu (cond b (Take cpu t) (Load cpu t)) (exchange tok old new (found s r here) ∷ []))) (cond b (without guard tok s.homes) s.homes))) × (Happens r.model (cond b (Take cpu t) (Load cpu t)) q.model × (Exchanges Exclusive old new between tok v (found s r here) (noted between v e' (deed_by cpu (cond b (Take cpu t) (Load cpu t)) (exchange tok old new (found s r here) ∷ []))) × (found s r here ≡ old → FindsAt guard tok s.homes (at (e' ∷ v.tokens) tok).blob))))
        go true is =
            let m = sight s r here in
            let same : found s r here ≡ old = eqb-true (found s r here) old is in
            let d = decides (picture_of (token_at r.model tok)) (picture_fits s r here) (picture_is s r here ∙ same) in
            let free = free_at r.model.cpus (plan_at plans tok) (token_at r.model tok) cpu e (found s r here) (cells s r here) m alone new d in
            let settled = settled_free r.model.cpus (plan_at plans tok) (token_at r.model tok) cpu e (found s r here) (cells s r here) m free.0 in
            let settled_blob = settled_blob_free r.model.cpus (plan_at plans tok) (token_at r.model tok) cpu e (found s r here) (cells s r here) m free.0 in
            let notes = exchange tok old new (found s r here) ∷ [] in
            let off : list_any is_exclusive (token_at r.model tok).holders ≡ false = picture-open (token_at r.model tok) (λ c. ap is_exclusive (free.0 c)) in
            let lay : get_elem? s.homes tok ≡ some (lies_in (blob s r here) false) = home_here s r here ∙ ap (λ (b : Bool). some (lies_in (blob s r here) b)) off in
            let a = word_moves s r here (taken e (found s r here) Exclusive (row s r here) (blob s r here)) between notes new (Take cpu t) (without guard tok s.homes) (lies_in (blob s r here) true) (without_here guard (blob s r here) tok s.homes m.guard lay) (without_else guard tok s.homes) (taken_tok s r here Exclusive) refl refl free (λ adds. few)
            (turns_take r.model.cpus (plan_at plans tok) (token_at r.model tok) cpu e (found s r here) (cells s r here) m alone new d t) in
            let taken_here : at (taken e (found s r here) Exclusive (row s r here) (blob s r here) ∷ v.tokens) tok ≡ taken e (found s r here) Exclusive (row s r here) (blob s r here) = at-here (taken e (found s r here) Exclusive (row s r here) (blob s r here)) v.tokens tok (taken_tok s r here Exclusive) in
            let F : RecordOf → Type 0 = λ o. FindsAt guard tok s.homes o in
            let finds : found s r here ≡ old → FindsAt guard tok s.homes (at (taken e (found s r here) Exclusive (row s r here) (blob s r here) ∷ v.tokens) tok).blob = (λ hit. subst F (sym (ap (λ (d : TokenEntry). d.blob) taken_here)) (finds_here guard (blob s r here) tok s.homes m.guard lay)) in
            (taken e (found s r here) Exclusive (row s r here) (blob s r here), (a.0, (a.1, (((λ hit. (row s r here, (blob s r here, (row_taken s r here settled settled_blob, refl)))), (λ miss. absurd (miss same))), finds))))
        go false is =
            let apart = eqb-false (found s r here) old is in
            let notes = exchange tok old new (found s r here) ∷ [] in
            let a = look_step s r here between notes in
            (looked e (found s r here), (a.0, (a.1, (((λ hit. absurd (apart hit)), (λ miss. (rises_here s r here, refl))), (λ hit. absurd (apart hit))))))

    pub share_steps : ((w : TokWord) → Fits w → word_of w ≡ old → decision w Shared alone ≡ Takes new) → e.held ≡ Nothing
        → Steps plans cpus id v (token_word tok) (λ x. either (eqb x old) new x) (exchanged (Share cpu t)) (λ x. exchange tok old new x ∷ []) stays (λ _ between x w. Exchanges Shared old new between tok v x w)
    share_steps decides not_held s r between here fits = go (eqb (found s r here) old) refl
      where
        go : (b : Bool) → eqb (found s r here) old ≡ b → (e' : TokenEntry) × ((q : Rule plans cpus (moved s (token_word tok) (either b new (found s r here)) id (noted between v e' (deed_by cpu (cond b (Share cpu t) (Load cpu t)) (exchange tok old new (found s r here) ∷ []))) s.homes)) × (Happens r.model (cond b (Share cpu t) (Load cpu t)) q.model × Exchanges Shared old new between tok v (found s r here) (noted between v e' (deed_by cpu (cond b (Share cpu t) (Load cpu t)) (exchange tok old new (found s r here) ∷ [])))))
        go true is =
            let m = sight s r here in
            let same : found s r here ≡ old = eqb-true (found s r here) old is in
            let d = decides (picture_of (token_at r.model tok)) (picture_fits s r here) (picture_is s r here ∙ same) in
            let opened = open_at r.model.cpus (plan_at plans tok) (token_at r.model tok) cpu e (found s r here) (cells s r here) m alone new d in
            let settled = m.safe.settled opened in
            let settled_blob = m.safe.settled_blob opened in
            let notes = exchange tok old new (found s r here) ∷ [] in
            let a = word_step s r here (taken e (found s r here) Shared (row s r here) (blob s r here)) between notes new (Share cpu t) (taken_tok s r here Shared) refl refl (opened, sym m.held ∙ not_held) (λ adds. few)
            (turns_share r.model.cpus (plan_at plans tok) (token_at r.model tok) cpu e (found s r here) (cells s r here) m alone new d not_held t) in
            (taken e (found s r here) Shared (row s r here) (blob s r here), (a.0, (a.1, ((λ hit. (row s r here, (blob s r here, (row_taken s r here settled settled_blob, refl)))), (λ miss. absurd (miss same))))))
        go false is =
            let apart = eqb-false (found s r here) old is in
            let notes = exchange tok old new (found s r here) ∷ [] in
            let a = look_step s r here between notes in
            (looked e (found s r here), (a.0, (a.1, ((λ hit. absurd (apart hit)), (λ miss. (rises_here s r here, refl))))))

  -- a step on the count word whose operation leaves this number
  left_as : (s : Bench) (r : Rule plans cpus s) (here : get_elem? s.views id ≡ some v) (w : View) (ev : Event) (x y : ℕ) → y ≡ x → After s r here (token_word tok) w ev x → After s r here (token_word tok) w ev y
  left_as s r here w ev x y same a = subst (After s r here (token_word tok) w ev) (sym same) a

  -- a further reference
  pub again_steps : is_held e.held ≡ true → count_from 0 (length plans) (held_of v.tokens) < 32 → Steps plans cpus id v (token_word tok) (λ x. (x + 4) % 2 ^ 64) (λ _. Again cpu t) (λ x. add tok 4 x ∷ []) stays (λ _ between x w. AddsOne between tok v x w)
  again_steps is few s r between here fits =
      let m = sight s r here in
      let x = found s r here in
      let notes = add tok 4 x ∷ [] in
      let room = room_more r.model.cpus (plan_at plans tok) (token_at r.model tok) cpu e x (cells s r here) m in
      let holds = ap is_held (sym m.held) ∙ is in
      let a = word_step s r here (more e) between notes (x + 4) (Again cpu t) (at-tok v.tokens tok) refl refl holds (λ adds. few) (turns_again r.model.cpus (plan_at plans tok) (token_at r.model tok) cpu e x (cells s r here) m is t) in
      let b = left_as s r here (noted between v (more e) (deed_by cpu (Again cpu t) notes)) (Again cpu t) (x + 4) ((x + 4) % 2 ^ 64) (omega arith) a in
      (more e, (b.0, (b.1, refl)))

  -- the mark
  pub mark_steps : Steps plans cpus id v (token_word tok) (λ x. bit_or x 2) (λ _. Mark cpu t) (λ x. or tok 2 x ∷ []) stays (λ _ between x w. Marks between tok v x w)
  mark_steps s r between here fits =
      let m = sight s r here in
      let x = found s r here in
      let notes = or tok 2 x ∷ [] in
      let a = word_step s r here e between notes (word_of (record (picture_of (token_at r.model tok)) { mark = true })) (Mark cpu t) (at-tok v.tokens tok) refl refl tt (λ adds. absurd (false≢true adds)) (turns_mark r.model.cpus (plan_at plans tok) (token_at r.model tok) cpu e x (cells s r here) m t) in
      let b = left_as s r here (noted between v e (deed_by cpu (Mark cpu t) notes)) (Mark cpu t) (word_of (record (picture_of (token_at r.model tok)) { mark = true })) (bit_or x 2) (marked_is r.model.cpus (plan_at plans tok) (token_at r.model tok) cpu e x (cells s r here) m) a in
      (e, (b.0, (b.1, refl)))

  -- a reference given back that doesn't end an exclusive holding
  pub give_one_steps : IsNotLastExclusive e.held → is_held e.held ≡ true → Steps plans cpus id v (token_word tok) (λ x. (x + (2 ^ 64 - 4)) % 2 ^ 64) (λ _. GiveOne cpu t) (λ x. sub tok 4 x ∷ []) stays (λ _ between x w. GivesOne between tok v x w)
  give_one_steps may is s r between here fits =
      let m = sight s r here in
      let x = found s r here in
      let notes = sub tok 4 x ∷ [] in
      let room = room_less r.model.cpus (plan_at plans tok) (token_at r.model tok) cpu e x (cells s r here) m may in
      let a = word_step s r here (less e) between notes (x - 4) (GiveOne cpu t) (at-tok v.tokens tok) refl refl (subst IsNotLastExclusive m.held may) (λ adds. absurd (false≢true adds))
      (turns_give_one r.model.cpus (plan_at plans tok) (token_at r.model tok) cpu e x (cells s r here) m may is t (x - 4) (omega arith)) in
      let b = left_as s r here (noted between v (less e) (deed_by cpu (GiveOne cpu t) notes)) (GiveOne cpu t) (x - 4) ((x + (2 ^ 64 - 4)) % 2 ^ 64) (omega arith) a in
      (less e, (b.0, (b.1, refl)))

  -- what lies in the slots after the end of a section
  module _ (s : Bench) (r : Rule plans cpus s) (here : get_elem? s.views id ≡ some v) (last : e.held ≡ Holds Exclusive 0) where
    on : list_any is_exclusive (token_at r.model tok).holders ≡ true
    on = exclusive_on r.model.cpus (plan_at plans tok) (token_at r.model tok) cpu e (found s r here) (cells s r here) (sight s r here) (ap is_exclusive last)

    blob_is : e.blob ≡ (token_at r.model tok).blob
    blob_is = ((sight s r here).knows.holder (ap is_held last)).4

    put : get_elem? (with_back e.blob tok s.homes) tok ≡ some (lies_in (token_at r.model tok).blob false)
    put =
        let lay : get_elem? s.homes tok ≡ some (lies_in e.blob true) = home_here s r here ∙ ap (λ (b : Bool). some (lies_in (token_at r.model tok).blob b)) on ∙ ap (λ (b : RecordOf). some (lies_in b true)) (sym blob_is) in
        with_here e.blob tok s.homes lay ∙ ap (λ (b : RecordOf). some (lies_in b false)) blob_is

    -- a step on the count word that leaves this number
    put_as : (w : View) (ev : Event) (x y : ℕ) → y ≡ x → (q : Rule plans cpus (moved s (token_word tok) x id w (with_back e.blob tok s.homes))) × Happens r.model ev q.model → (q : Rule plans cpus (moved s (token_word tok) y id w (with_back e.blob tok s.homes))) × Happens r.model ev q.model
    put_as w ev x y same a = let F : ℕ → Type 0 = λ z. (q : Rule plans cpus (moved s (token_word tok) z id w (with_back e.blob tok s.homes))) × Happens r.model ev q.model in subst F (sym same) a

  -- the last reference of an exclusive holding given back, with row and record as they were
  pub give_clean_steps : e.held ≡ Holds Exclusive 0 → IsCleanIn e → Steps plans cpus id v (token_word tok) (λ x. (x + (2 ^ 64 - 1)) % 2 ^ 64) (λ _. GiveClean cpu t) (λ x. sub tok 1 x ∷ []) (given_home e.blob tok) (λ _ between x w. GivesClean between tok v x w)
  give_clean_steps last clean s r between here fits =
      let m = sight s r here in
      let x = found s r here in
      let notes = sub tok 1 x ∷ [] in
      let own = m.knows.holder (ap is_held last) in
      let room = room_clean r.model.cpus (plan_at plans tok) (token_at r.model tok) cpu e x (cells s r here) m last in
      let a = word_moves s r here (less e) between notes (x - 1) (GiveClean cpu t) (with_back e.blob tok s.homes) (lies_in (token_at r.model tok).blob false) (put s r here last) (with_else e.blob tok s.homes) (at-tok v.tokens tok) refl refl (sym m.held ∙ last, (sym own.2 ∙ clean.0 ∙ own.1, sym own.4 ∙ clean.1 ∙ own.3)) (λ adds. absurd (false≢true adds))
      (turns_give_clean r.model.cpus (plan_at plans tok) (token_at r.model tok) cpu e x (cells s r here) m last t (x - 1) (omega arith)) in
      let b = put_as s r here last (noted between v (less e) (deed_by cpu (GiveClean cpu t) notes)) (GiveClean cpu t) (x - 1) ((x + (2 ^ 64 - 1)) % 2 ^ 64) (omega arith) a in
      (less e, (b.0, (b.1, refl)))

  -- and with another row or record
  pub give_written_steps : e.held ≡ Holds Exclusive 0 → (¬ IsCleanIn e) → IsLawfulIn (plan_at plans tok) e → Steps plans cpus id v (token_word tok) (λ x. (x + one_section) % 2 ^ 64) (λ _. GiveWritten cpu t (ended_section tok e)) (λ x. add tok one_section x ∷ []) (given_home e.blob tok) (λ _ between x w. GivesWritten between tok v x w)
  give_written_steps last written lawful s r between here fits =
      let m = sight s r here in
      let x = found s r here in
      let notes = add tok one_section x ∷ [] in
      let own = m.knows.holder (ap is_held last) in
      let tk = token_at r.model tok in
      let room = room_written r.model.cpus (plan_at plans tok) (token_at r.model tok) cpu e x (cells s r here) m last in
      let F : Law → Type 0 = λ l. Obeys l tk.param tk.row (length_of tk.blob) in
      let G : ℕ → Type 0 = λ p. Obeys (plan_at plans tok).law p tk.row (length_of tk.blob) in
      let H : List ℕ → Type 0 = λ row. Obeys (plan_at plans tok).law (plan_at plans tok).param row (length_of tk.blob) in
      let K : RecordOf → Type 0 = λ b. Obeys (plan_at plans tok).law (plan_at plans tok).param e.row (length_of b) in
      let obeys : IsLawful tk = subst F (sym m.law) (subst G (sym m.param) (subst H own.2 (subst K own.4 lawful))) in
      let a = word_moves s r here (ended e) between notes (x + one_section) (GiveWritten cpu t (ended_section tok e)) (with_back e.blob tok s.homes) (lies_in (token_at r.model tok).blob false) (put s r here last) (with_else e.blob tok s.homes) (at-tok v.tokens tok) refl refl (sym m.held ∙ last, (λ (unchanged : IsClean tk). written (own.2 ∙ unchanged.0 ∙ sym own.1, own.4 ∙ unchanged.1 ∙ sym own.3)), obeys, section_known t e tk own.0 own.1 own.2) (λ adds. absurd (false≢true adds))
      (turns_give_written r.model.cpus (plan_at plans tok) (token_at r.model tok) cpu e x (cells s r here) m last t (ended_section tok e)) in
      let b = put_as s r here last (noted between v (ended e) (deed_by cpu (GiveWritten cpu t (ended_section tok e)) notes)) (GiveWritten cpu t (ended_section tok e)) (x + one_section) ((x + one_section) % 2 ^ 64) (omega arith) a in
      (ended e, (b.0, (b.1, (generation_is r.model.cpus (plan_at plans tok) tk cpu e x (cells s r here) m ∙ sym own.0, refl))))

  -- a cell that is read
  pub read_steps : is_held e.held ≡ true → (cell : ℕ) → cell < (plan_at plans tok).cells → Steps plans cpus id v (cell_word tok cell) (λ x. x) (λ x. Read cpu t cell x) (λ _. []) stays (λ _ between x w. ReadsCell between tok cell v x w)
  read_steps is cell within s r between here fits =
      let four : (c : ℕ) → c < (plan_at plans tok).cells → c < 4 = (λ c low. let few = few_cells plans cpus s r tok exists' in omega arith) in
      let m = sight s r here in
      let x = slice_index s.words (cell_word tok cell) in
      let tk = token_at r.model tok in
      let own = m.knows.holder is in
      let value : x ≡ slice_index tk.row cell = m.row cell within in
      let long = m.long in
      let needs : slice_get tk.row cell ≡ Some x = slice_get-get_or tk.row cell 0 (omega arith) ∙ ap (λ (y : ℕ). Some y) (sym value) in
      let same : set s.words (cell_word tok cell) x ≡ s.words = set-get_or s.words (cell_word tok cell) 0 in
      let F : List ℕ → Type 0 = λ ws. Turns (plan_at plans tok) tk tk cpu.0 e (read e cell) (found s r here) (λ c. slice_index ws (cell_word tok c)) (in_slot tk) in
      let a = cell_step s r here (read e cell) between cell x (Read cpu t cell x) (four cell within) (at-tok v.tokens tok) refl refl (ap is_held (sym m.held) ∙ is, needs) refl
      (subst F (sym same) (turns_read r.model.cpus (plan_at plans tok) tk cpu e (found s r here) (cells s r here) m is cell within)) in
      (read e cell, (a.0, (a.1, (value ∙ ap (λ (row : List ℕ). slice_index row cell) (sym own.2), refl, covered))))
    where
      covered : (plan_at v.plans tok).law ≡ Tally → (a : ℕ) → amount a e.added ≤ slice_index e.row 0
      covered tally a =
          let m = sight s r here in
          let tk = token_at r.model tok in
          let own = m.knows.holder is in
          let shows = r.pictures.each_token tok exists' in
          let law_is : (plan_at plans tok).law ≡ Tally = ap (λ (ps : List Plan). (plan_at ps tok).law) (sym (plans_there plans cpus s r id v cpu here kind)) ∙ tally in
          let F : Law → Type 0 = λ l. IsTallied l tk.param tk.row tk.tallies in
          let tallied : tk.row ≡ (tk.param + sum tk.tallies) ∷ [] = subst F (m.law ∙ law_is) m.safe.tallied in
          let first_cell : slice_index tk.row 0 ≡ tk.param + sum tk.tallies = ap (λ (row : List ℕ). slice_index row 0) tallied in
          let seen_row : slice_index e.row 0 ≡ slice_index tk.row 0 = ap (λ (row : List ℕ). slice_index row 0) own.2 in
          let part : amount a e.added ≤ tally_of tk a = (let h = total-at (λ (x : Seen). amount a x.entry.added) (column tok s.views) id (seen_by tok v) (at_map (seen_by tok) s.views id v here) in let k = shows.tallies a in omega arith) in
          let most : tally_of tk a ≤ sum tk.tallies = tally-le tk.tallies a in
          omega arith

  -- a store changes its cell in the row as in the words
  row_stored : (s : Bench) (r : Rule plans cpus s) (here : get_elem? s.views id ≡ some v) (cell value : ℕ) → cell < (plan_at plans tok).cells → (c : ℕ) → c < (plan_at plans tok).cells
      → slice_index (slice_set s.words (cell_word tok cell) value) (cell_word tok c) ≡ slice_index (slice_set (token_at r.model tok).row cell value) c
  row_stored s r here cell value within c inside_row =
      let m = sight s r here in
      let long = m.long in
      let wide = r.wide in
      let few = few_cells plans cpus s r tok exists' in
      let W = slice_set s.words (cell_word tok cell) value in
      let R = slice_set (token_at r.model tok).row cell value in
      ⊎_elim
      (λ (same : c ≡ cell).
      let P : ℕ → Type 0 = λ k. slice_index W (cell_word tok k) ≡ slice_index R k in
      subst P (sym same) (get_or-set_same s.words (cell_word tok cell) value 0 (omega arith) ∙ sym (get_or-set_same (token_at r.model tok).row cell value 0 (omega arith))))
      (λ away.
      get_or-set_other s.words (cell_word tok cell) (cell_word tok c) value 0 (λ same. away (omega arith)) ∙ m.row c inside_row ∙ sym (get_or-set_other (token_at r.model tok).row cell c value 0 away))
      (cases_eq c cell)

  -- a value stored in a cell, under any law but Tally
  pub store_steps : is_exclusive e.held ≡ true → (plan_at plans tok).law ≢ Tally → (cell value : ℕ) → cell < (plan_at plans tok).cells → Steps plans cpus id v (cell_word tok cell) (λ _. value) (λ _. Write cpu t cell value) (λ _. []) stays (λ _ between _ w. StoresCell between tok cell v value w)
  store_steps is untallied cell value within s r between here fits =
      let four : (c : ℕ) → c < (plan_at plans tok).cells → c < 4 = (λ c low. let few = few_cells plans cpus s r tok exists' in omega arith) in
      let m = sight s r here in
      let tk = token_at r.model tok in
      let long = m.long in
      let a = cell_step s r here (stored e cell value) between cell value (Write cpu t cell value) (four cell within) (at-tok v.tokens tok) refl refl (ap is_exclusive (sym m.held) ∙ is, omega arith, may tk.law (λ tally. untallied (sym m.law ∙ tally))) refl
      (turns_write r.model.cpus (plan_at plans tok) tk cpu e (found s r here) (cells s r here) m is untallied t cell value (λ c. slice_index (slice_set s.words (cell_word tok cell) value) (cell_word tok c)) (row_stored s r here cell value within)) in
      (stored e cell value, (a.0, (a.1, refl)))
    where
      may : (law : Law) → law ≢ Tally → MayWrite law (slice_index (token_at r.model tok).row cell) value
      may Any apart = tt
      may Sum apart = tt
      may Order apart = tt
      may Cap apart = tt
      may Len apart = tt
      may Tally apart = absurd (apart refl)

  -- a value added to the cell of a Tally token
  pub raise_steps : is_exclusive e.held ≡ true → (plan_at plans tok).law ≡ Tally → (k : ℕ) → Steps plans cpus id v (cell_word tok 0) (λ _. slice_index e.row 0 + k) (λ _. Write cpu t 0 (slice_index e.row 0 + k)) (λ _. []) stays (λ _ between _ w. RaisesCell between tok 0 v (slice_index e.row 0 + k) w)
  raise_steps is tally k s r between here fits =
      let four : (c : ℕ) → c < (plan_at plans tok).cells → c < 4 = (λ c low. let few = few_cells plans cpus s r tok exists' in omega arith) in
      let m = sight s r here in
      let tk = token_at r.model tok in
      let value = slice_index e.row 0 + k in
      let own = m.knows.holder (exclusive_held e.held is) in
      let F : Law → Type 0 = λ l. IsTallied l tk.param tk.row tk.tallies in
      let tallied : tk.row ≡ (tk.param + sum tk.tallies) ∷ [] = subst F (m.law ∙ tally) m.safe.tallied in
      let one : length tk.row ≡ 1 = ap length tallied in
      let long = m.long in
      let within : 0 < (plan_at plans tok).cells = omega arith in
      let old : slice_index e.row 0 ≡ slice_index tk.row 0 = ap (λ (row : List ℕ). slice_index row 0) own.2 in
      let M : Law → Type 0 = λ l. MayWrite l (slice_index tk.row 0) value in
      let grows : slice_index tk.row 0 ≤ value = omega arith in
      let a = cell_step s r here (raised e cpu k) between 0 value (Write cpu t 0 value) (four 0 within) (at-tok v.tokens tok) refl refl (ap is_exclusive (sym m.held) ∙ is, omega arith, subst M (sym (m.law ∙ tally)) grows) refl
      (turns_raise r.model.cpus (plan_at plans tok) tk cpu e (found s r here) (cells s r here) m is tally t k (λ c. slice_index (slice_set s.words (cell_word tok 0) value) (cell_word tok c)) (row_stored s r here 0 value within)) in
      (raised e cpu k, (a.0, (a.1, raises)))
    where
      raises : RaisesCell between tok 0 v (slice_index e.row 0 + k) (noted between v (raised e cpu k) (writes cpu tok 0 (slice_index e.row 0 + k)))
      raises j same =
          let amount_is : k ≡ j = omega arith in
          ap (λ (a : ℕ). noted between v (raised e cpu a) (writes cpu tok 0 (slice_index e.row 0 + k))) amount_is

  -- a word that stays
  stays_word : (s : Bench) (i x : ℕ) → x ≡ slice_index s.words i → set s.words i x ≡ s.words
  stays_word s i x is = ap (set s.words i) is ∙ set-get_or s.words i 0

  -- the record read
  pub read_blob_steps : (bytes : List ℕ) → is_exclusive e.held ≡ true → e.blob ≡ Some bytes → Steps plans cpus id v (cell_word tok 0) (λ x. x) (λ _. ReadBlob cpu t bytes) (λ _. []) stays (λ _ between x w. ReadsBlob between tok v w)
  read_blob_steps bytes is blob_is' s r between here fits =
      let m = sight s r here in
      let x = slice_index s.words (cell_word tok 0) in
      let tk = token_at r.model tok in
      let own = m.knows.holder (exclusive_held e.held is) in
      let F : List ℕ → Type 0 = λ ws. Turns (plan_at plans tok) tk tk cpu.0 e e (found s r here) (λ c. slice_index ws (cell_word tok c)) (in_slot tk) in
      let a = cell_step s r here e between 0 x (ReadBlob cpu t bytes) (omega arith) (at-tok v.tokens tok) refl refl (ap is_exclusive (sym m.held) ∙ is, sym own.4 ∙ blob_is') refl
      (subst F (sym (stays_word s (cell_word tok 0) x refl)) (turns_read_blob r.model.cpus (plan_at plans tok) tk cpu e (found s r here) (cells s r here) m)) in
      (e, (a.0, (a.1, (bytes, (blob_is', refl)))))

  -- and written
  pub write_blob_steps : (bytes : List ℕ) → IsInHand v tok → length bytes ≤ 64 → Steps plans cpus id v (cell_word tok 0) (λ x. x) (λ _. WriteBlob cpu t bytes) (λ _. []) stays (λ _ between x w. WritesBlob bytes between tok v w)
  write_blob_steps bytes in_hand short s r between here fits =
      let m = sight s r here in
      let x = slice_index s.words (cell_word tok 0) in
      let tk = token_at r.model tok in
      let own = m.knows.holder (exclusive_held e.held in_hand.0) in
      let w = wrote_record e bytes in
      let F : List ℕ → Type 0 = λ ws. Turns (plan_at plans tok) tk (token_after tk (WriteBlob cpu t bytes)) cpu.0 e w (found s r here) (λ c. slice_index ws (cell_word tok c)) (in_slot tk) in
      let a = cell_step s r here w between 0 x (WriteBlob cpu t bytes) (omega arith) (at-tok v.tokens tok) refl refl (ap is_exclusive (sym m.held) ∙ in_hand.0, ap is_some (sym own.4) ∙ in_hand.1, short) refl
      (subst F (sym (stays_word s (cell_word tok 0) x refl)) (turns_write_blob r.model.cpus (plan_at plans tok) tk cpu e (found s r here) (cells s r here) m in_hand.0 in_hand.1 t bytes)) in
      (w, (a.0, (a.1, refl)))

  -- nothing lies in the slot of a token whose record the seat has in hand
  pub slot_out : (s : Bench) (r : Rule plans cpus s) → get_elem? s.views id ≡ some v → IsInHand v tok → get_elem? s.homes tok ≡ some none
  slot_out s r here in_hand =
      let m = sight s r here in
      let tk = token_at r.model tok in
      let own = m.knows.holder (exclusive_held e.held in_hand.0) in
      let on' = exclusive_on r.model.cpus (plan_at plans tok) tk cpu e (found s r here) (cells s r here) m in_hand.0 in
      home_here s r here ∙ ap (λ (o : Option (List ℕ)). some o) (lies_out tk.blob (list_any is_exclusive tk.holders) (ap is_some (sym own.4) ∙ in_hand.1) on')
