use Rattle.std.proofs.Common.{inl, inr, eqb, ◌≡◌, ◌≢◌, ℕ, ◌+◌, ◌-◌, ◌%◌, ◌^◌, ◌<◌, ◌≤◌, Some, Bool, true, false, cond, List, [], ◌∷◌, length, set, refl, ap, sym, ◌∙◌, subst, arith, get_or-set_same}
use Rattle.std.specs.Prelude.{slice_index, bit_or}
use Rattle.std.proofs.lemmas.Bool.{eqb-true, eqb-false}
use mathlib.Core.Option.{some}
use lib.ListN.{get_elem?}
use prog.Atomic.{either}
use Rattle.lwkt_base.specs.declared.names.CpuId.{CpuId}
use Rattle.lwkt_base.specs.declared.names.TokId.{TokId}
use Rattle.lwkt_base.specs.declared.names.Mode.TheVariants.{Exclusive, Shared}
use Rattle.lwkt_base.specs.declared.laws.Law.TheVariants.{Tally}
use Rattle.lwkt_base.specs.declared.holdings.Held.TheVariants.{Nothing, Holds}
use Rattle.lwkt_base.specs.declared.words.Decision.TheVariants.{Take as Takes}
use Rattle.lwkt_base.specs.Holding.{is_held, is_exclusive}
use Rattle.lwkt_core.specs.declared.events.Event.{Event}
use Rattle.lwkt_core.specs.declared.events.Event.TheVariants.{Load, Take, Share, Again, Mark, GiveOne, GiveClean, GiveWritten, Read, Write, ReadBlob, WriteBlob}
use Rattle.lwkt_core.specs.declared.events.Place.TheVariants.{AtToken}
use Rattle.lwkt_table.specs.declared.seats.SeatKind.TheVariants.{Of}
use Rattle.lwkt_table.specs.declared.seats.Operation.{Operation}
use Rattle.lwkt_table.specs.declared.seats.Operation.TheVariants.{Load as Loads, Exchange, Add, Sub, Or}
use Rattle.lwkt_table.specs.declared.seats.Deed.{Deed}
use Rattle.lwkt_core.specs.Events.{cpu_of, place_of}
use Rattle.lwkt_core.specs.Tokens.{IsNotLastExclusive}
use Rattle.lwkt_table.specs.History.{left_by, word_by, IsPastOf}
use Rattle.lwkt_table.proofs.ViewLemmas.{Views-between, Views-noted}
use Rattle.lwkt_bank.specs.declared.views.Plan.{Plan}
use Rattle.lwkt_bank.specs.declared.views.TokenEntry.{TokenEntry}
use Rattle.lwkt_bank.specs.declared.views.View.{View}
use Rattle.lwkt_bank.specs.Views.{at, count_from, held_of, who, noted, page_of, named, ended_section, one_section}
use Rattle.lwkt_bank.specs.Deeds.{deed_by, loads, adds_one, marks, gives_one, gives_clean, gives_written, reads, writes, reads_blob, writes_blob}
use Rattle.lwkt_bank.specs.Hands.{IsInHand}
use Rattle.lwkt_bank.specs.Rule.{Bench, Homes, moved, Rule, token_word, cell_word, plan_at}
use Rattle.lwkt_bank.specs.Ledger.{IsAtCell, IsOperation, word_in, IsDone, first_machine, Ledger, IsNext, stays, taken_home, given_home, FindsAt, Deeds}
use Rattle.lwkt_bank.specs.Plays.{Amid, Looks, Exchanges, AddsOne, Marks, GivesOne, GivesClean, GivesWritten, ReadsCell, StoresCell, RaisesCell, ReadsBlob, WritesBlob}
use Rattle.lwkt_bank.specs.Seats.{Decides, IsCleanIn, IsLawfulIn}
use Rattle.lwkt_bank.proofs.SeatMoves.{Steps, look_steps, take_steps, share_steps, again_steps, mark_steps, give_one_steps, give_clean_steps, give_written_steps, read_steps, store_steps, raise_steps, read_blob_steps, write_blob_steps}

-- the event of an exchange is at its token, and by its processor
place_either : (b : Bool) (cpu : CpuId) (tok : TokId) → (place_of (cond b (Take cpu tok) (Load cpu tok)) ≡ AtToken tok.0) × (cpu_of (cond b (Take cpu tok) (Load cpu tok)) ≡ cpu.0)
place_either true cpu tok = (refl, refl)
place_either false cpu tok = (refl, refl)

place_shared : (b : Bool) (cpu : CpuId) (tok : TokId) → (place_of (cond b (Share cpu tok) (Load cpu tok)) ≡ AtToken tok.0) × (cpu_of (cond b (Share cpu tok) (Load cpu tok)) ≡ cpu.0)
place_shared true cpu tok = (refl, refl)
place_shared false cpu tok = (refl, refl)

-- and the exchange is its operation
takes_by : (old new n : ℕ) (cpu : CpuId) (tok : TokId) (b : Bool) → eqb n old ≡ b → IsOperation (cond b (Take cpu tok) (Load cpu tok)) (Exchange old new) n
takes_by old new n cpu tok true is = (new, ap (λ (k : ℕ). Exchange k new) (sym (eqb-true n old is)))
takes_by old new n cpu tok false is = inr (old, new, (refl, eqb-false n old is))

shares_by : (old new n : ℕ) (cpu : CpuId) (tok : TokId) (b : Bool) → eqb n old ≡ b → IsOperation (cond b (Share cpu tok) (Load cpu tok)) (Exchange old new) n
shares_by old new n cpu tok true is = (new, ap (λ (k : ℕ). Exchange k new) (sym (eqb-true n old is)))
shares_by old new n cpu tok false is = inr (old, new, (refl, eqb-false n old is))

module _ (plans : List Plan) (cpus id : ℕ) (v : View) (kind : v.kind ≡ Of (who v)) where
  module _ (s : Bench) (ledger : Ledger plans cpus s) (here : get_elem? s.views id ≡ some v) where
    -- what the seat has seen of the history, and what others did since its last deed
    pub part : IsPastOf ledger.chronicle.history (who v).0 v.past
    part = Views-between IsDone page_of (first_machine plans cpus) ledger.rule.model s.views ledger.chronicle id v here (who v) kind

    -- a deed that is done is one deed more
    next : (i n : ℕ) (e : TokenEntry) (d : Deed) (homes : Homes) (q : Rule plans cpus (moved s i n id (noted part.0 v e d) homes)) → d.cpu ≡ who v → IsDone ledger.rule.model d q.model
        → (after : Ledger plans cpus (moved s i n id (noted part.0 v e d) homes)) × IsNext plans cpus s (moved s i n id (noted part.0 v e d) homes) ledger d after
    next i n e d homes q own done =
        let c = Views-noted IsDone page_of (first_machine plans cpus) ledger.rule.model s.views ledger.chronicle id v here cpus ledger.rule.seats (who v) q.model part.0 d (noted part.0 v e d) kind own part.1.0 done refl in
        (record { rule = q; chronicle = c.0 }, record { done = done; grown = c.1 })

  -- a step on the count word of a token
  module _ (tok : ℕ) (there : tok < length plans) where
    word_deeds : (operation : Operation) (event : ℕ → Event) (home : Homes → ℕ → Homes) (R : Homes → List Deed → ℕ → View → Type 0) → ((n : ℕ) → word_by operation n ≡ n) → ((n : ℕ) → (place_of (event n) ≡ AtToken tok) × (cpu_of (event n) ≡ (who v).0)) → ((n : ℕ) → IsOperation (event n) operation n)
        → Steps plans cpus id v (token_word tok) (left_by operation) event (λ n. record { at = tok; operation = operation; found = n } ∷ []) home R
        → Deeds plans cpus id v (token_word tok) (left_by operation) (λ n. deed_by (who v) (event n) (record { at = tok; operation = operation; found = n } ∷ [])) home (λ homes n w. Amid v (λ between. R homes between n w))
    word_deeds operation event home R shows_it at_tok by steps s ledger here fits =
        let n = slice_index s.words (token_word tok) in
        let r = ledger.rule in
        let p = part s ledger here in
        let x = steps s r p.0 here fits in
        let q = x.1.0 in
        let d = deed_by (who v) (event n) (record { at = tok; operation = operation; found = n } ∷ []) in
        let before : n ≡ word_in r.model tok = (r.pictures.each_token tok there).count_word in
        let after : slice_index (set s.words (token_word tok) (left_by operation n)) (token_word tok) ≡ word_in q.model tok = (q.pictures.each_token tok there).count_word in
        let wide = r.wide in
        let written : slice_index (set s.words (token_word tok) (left_by operation n)) (token_word tok) ≡ left_by operation n = get_or-set_same s.words (token_word tok) (left_by operation n) 0 (omega arith) in
        let F : ℕ → Type 0 = λ k. IsOperation (event n) operation k in
        let done : IsDone r.model d q.model = record {
          event = event n;
          events = refl;
          own = (at_tok n).1;
          records = refl;
          happens = x.1.1.0;
          steps = inr (
            record { at = tok; operation = operation; found = n },
            (
              refl,
              record {
                place = (at_tok n).0;
                over = record { found = sym (shows_it n) ∙ ap (word_by operation) before; leaves = sym after ∙ written ∙ ap (left_by operation) before };
                operation = subst F before (by n);
              },
            ),
          );
        } in
        let a = next s ledger here (token_word tok) (left_by operation n) x.0 d (home s.homes n) q refl done in
        (noted p.0 v x.0 d, (a.0, (a.1, (p.0, (p.1.1, x.1.1.1)))))

    -- a step on a cell of a token
    cell_deeds : (i : ℕ) (f : ℕ → ℕ) (event : ℕ → Event) (R : Homes → List Deed → ℕ → View → Type 0) → ((n : ℕ) → IsAtCell (event n) × (cpu_of (event n) ≡ (who v).0))
        → Steps plans cpus id v i f event (λ _. []) stays R → Deeds plans cpus id v i f (λ n. deed_by (who v) (event n) []) stays (λ homes n w. Amid v (λ between. R homes between n w))
    cell_deeds i f event R at_cell steps s ledger here fits =
        let n = slice_index s.words i in
        let p = part s ledger here in
        let x = steps s ledger.rule p.0 here fits in
        let d = deed_by (who v) (event n) [] in
        let done : IsDone ledger.rule.model d x.1.0.model = record { event = event n; events = refl; own = (at_cell n).1; records = refl; happens = x.1.1.0; steps = inl ((at_cell n).0, refl) } in
        let a = next s ledger here i (f n) x.0 d s.homes x.1.0 refl done in
        (noted p.0 v x.0 d, (a.0, (a.1, (p.0, (p.1.1, x.1.1.1)))))

    abbrev e : TokenEntry
    e = at v.tokens tok

    abbrev t : TokId
    t = named tok

    abbrev cpu : CpuId
    cpu = who v

    -- each kind of step is its deed
    pub look_deeds : Deeds plans cpus id v (token_word tok) (λ n. n) (λ n. loads cpu tok n) stays (λ _ n w. Amid v (λ between. Looks between tok v n w))
    look_deeds = word_deeds Loads (λ _. Load cpu t) stays (λ _ between n w. Looks between tok v n w) (λ n. refl) (λ n. (refl, refl)) (λ n. inl refl) (look_steps plans cpus id v tok kind there)

    pub take_deeds : (old new : ℕ) (alone : Bool) → count_from 0 (length plans) (held_of v.tokens) < 32 → Decides old Exclusive alone (Takes new)
        → Deeds plans cpus id v (token_word tok) (λ n. either (eqb n old) new n) (λ n. deed_by cpu (cond (eqb n old) (Take cpu t) (Load cpu t)) (record { at = tok; operation = Exchange old new; found = n } ∷ [])) (taken_home (plan_at plans tok).blob tok old) (λ homes n w. Amid v (λ between. Exchanges Exclusive old new between tok v n w × (n ≡ old → FindsAt (plan_at plans tok).blob tok homes (at w.tokens tok).blob)))
    take_deeds old new alone few decides = word_deeds (Exchange old new) (λ n. cond (eqb n old) (Take cpu t) (Load cpu t)) (taken_home (plan_at plans tok).blob tok old) (λ homes between n w. Exchanges Exclusive old new between tok v n w × (n ≡ old → FindsAt (plan_at plans tok).blob tok homes (at w.tokens tok).blob)) (λ n. refl) (λ n. place_either (eqb n old) cpu t) (λ n. takes_by old new n cpu t (eqb n old) refl) (take_steps plans cpus id v tok kind there old new alone few decides)

    pub share_deeds : (old new : ℕ) (alone : Bool) → count_from 0 (length plans) (held_of v.tokens) < 32 → Decides old Shared alone (Takes new) → e.held ≡ Nothing
        → Deeds plans cpus id v (token_word tok) (λ n. either (eqb n old) new n) (λ n. deed_by cpu (cond (eqb n old) (Share cpu t) (Load cpu t)) (record { at = tok; operation = Exchange old new; found = n } ∷ [])) stays (λ _ n w. Amid v (λ between. Exchanges Shared old new between tok v n w))
    share_deeds old new alone few decides free = word_deeds (Exchange old new) (λ n. cond (eqb n old) (Share cpu t) (Load cpu t)) stays (λ _ between n w. Exchanges Shared old new between tok v n w) (λ n. refl) (λ n. place_shared (eqb n old) cpu t) (λ n. shares_by old new n cpu t (eqb n old) refl) (share_steps plans cpus id v tok kind there old new alone few decides free)

    pub again_deeds : is_held e.held ≡ true → count_from 0 (length plans) (held_of v.tokens) < 32 → Deeds plans cpus id v (token_word tok) (λ n. (n + 4) % 2 ^ 64) (λ n. adds_one cpu tok n) stays (λ _ n w. Amid v (λ between. AddsOne between tok v n w))
    again_deeds held few = word_deeds (Add 4) (λ _. Again cpu t) stays (λ _ between n w. AddsOne between tok v n w) (λ n. refl) (λ n. (refl, refl)) (λ n. refl) (again_steps plans cpus id v tok kind there held few)

    pub mark_deeds : Deeds plans cpus id v (token_word tok) (λ n. bit_or n 2) (λ n. marks cpu tok n) stays (λ _ n w. Amid v (λ between. Marks between tok v n w))
    mark_deeds = word_deeds (Or 2) (λ _. Mark cpu t) stays (λ _ between n w. Marks between tok v n w) (λ n. refl) (λ n. (refl, refl)) (λ n. refl) (mark_steps plans cpus id v tok kind there)

    pub give_one_deeds : IsNotLastExclusive e.held → is_held e.held ≡ true → Deeds plans cpus id v (token_word tok) (λ n. (n + (2 ^ 64 - 4)) % 2 ^ 64) (λ n. gives_one cpu tok n) stays (λ _ n w. Amid v (λ between. GivesOne between tok v n w))
    give_one_deeds may held = word_deeds (Sub 4) (λ _. GiveOne cpu t) stays (λ _ between n w. GivesOne between tok v n w) (λ n. refl) (λ n. (refl, refl)) (λ n. refl) (give_one_steps plans cpus id v tok kind there may held)

    pub give_clean_deeds : e.held ≡ Holds Exclusive 0 → IsCleanIn e → Deeds plans cpus id v (token_word tok) (λ n. (n + (2 ^ 64 - 1)) % 2 ^ 64) (λ n. gives_clean cpu tok n) (given_home e.blob tok) (λ _ n w. Amid v (λ between. GivesClean between tok v n w))
    give_clean_deeds last clean = word_deeds (Sub 1) (λ _. GiveClean cpu t) (given_home e.blob tok) (λ _ between n w. GivesClean between tok v n w) (λ n. refl) (λ n. (refl, refl)) (λ n. refl) (give_clean_steps plans cpus id v tok kind there last clean)

    pub give_written_deeds : e.held ≡ Holds Exclusive 0 → (¬ IsCleanIn e) → IsLawfulIn (plan_at plans tok) e → Deeds plans cpus id v (token_word tok) (λ n. (n + one_section) % 2 ^ 64) (λ n. gives_written (ended_section tok e) cpu tok n) (given_home e.blob tok) (λ _ n w. Amid v (λ between. GivesWritten between tok v n w))
    give_written_deeds last written lawful = word_deeds (Add one_section) (λ _. GiveWritten cpu t (ended_section tok e)) (given_home e.blob tok) (λ _ between n w. GivesWritten between tok v n w) (λ n. refl) (λ n. (refl, refl)) (λ n. refl) (give_written_steps plans cpus id v tok kind there last written lawful)

    pub read_deeds : is_held e.held ≡ true → (cell : ℕ) → cell < (plan_at plans tok).cells → Deeds plans cpus id v (cell_word tok cell) (λ n. n) (λ n. reads cpu tok cell n) stays (λ _ n w. Amid v (λ between. ReadsCell between tok cell v n w))
    read_deeds held cell within = cell_deeds (cell_word tok cell) (λ n. n) (λ n. Read cpu t cell n) (λ _ between n w. ReadsCell between tok cell v n w) (λ n. (tt, refl)) (read_steps plans cpus id v tok kind there held cell within)

    pub store_deeds : is_exclusive e.held ≡ true → (plan_at plans tok).law ≢ Tally → (cell value : ℕ) → cell < (plan_at plans tok).cells → Deeds plans cpus id v (cell_word tok cell) (λ _. value) (λ _. writes cpu tok cell value) stays (λ _ _ w. Amid v (λ between. StoresCell between tok cell v value w))
    store_deeds held untallied cell value within = cell_deeds (cell_word tok cell) (λ _. value) (λ _. Write cpu t cell value) (λ _ between _ w. StoresCell between tok cell v value w) (λ n. (tt, refl)) (store_steps plans cpus id v tok kind there held untallied cell value within)

    pub raise_deeds : is_exclusive e.held ≡ true → (plan_at plans tok).law ≡ Tally → (k : ℕ) → Deeds plans cpus id v (cell_word tok 0) (λ _. slice_index e.row 0 + k) (λ _. writes cpu tok 0 (slice_index e.row 0 + k)) stays (λ _ _ w. Amid v (λ between. RaisesCell between tok 0 v (slice_index e.row 0 + k) w))
    raise_deeds held tally k = cell_deeds (cell_word tok 0) (λ _. slice_index e.row 0 + k) (λ _. Write cpu t 0 (slice_index e.row 0 + k)) (λ _ between _ w. RaisesCell between tok 0 v (slice_index e.row 0 + k) w) (λ n. (tt, refl)) (raise_steps plans cpus id v tok kind there held tally k)

    pub read_blob_deeds : (bytes : List ℕ) → is_exclusive e.held ≡ true → e.blob ≡ Some bytes → Deeds plans cpus id v (cell_word tok 0) (λ n. n) (λ _. reads_blob cpu tok bytes) stays (λ _ _ w. Amid v (λ between. ReadsBlob between tok v w))
    read_blob_deeds bytes held is = cell_deeds (cell_word tok 0) (λ n. n) (λ _. ReadBlob cpu t bytes) (λ _ between _ w. ReadsBlob between tok v w) (λ n. (tt, refl)) (read_blob_steps plans cpus id v tok kind there bytes held is)

    pub write_blob_deeds : (bytes : List ℕ) → IsInHand v tok → length bytes ≤ 64 → Deeds plans cpus id v (cell_word tok 0) (λ n. n) (λ _. writes_blob cpu tok bytes) stays (λ _ _ w. Amid v (λ between. WritesBlob bytes between tok v w))
    write_blob_deeds bytes held short = cell_deeds (cell_word tok 0) (λ n. n) (λ _. WriteBlob cpu t bytes) (λ _ between _ w. WritesBlob bytes between tok v w) (λ n. (tt, refl)) (write_blob_steps plans cpus id v tok kind there bytes held short)
