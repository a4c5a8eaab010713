use Rattle.std.proofs.Common.{◌≡◌, ◌≢◌, ℕ, ◌+◌, ◌-◌, ◌%◌, ◌^◌, ◌<◌, ◌≤◌, Bool, true, Some, List, [], ◌∷◌, length, eqb, cond, refl, ap, sym, ◌∙◌, subst, arith}
use Rattle.std.specs.Prelude.{slice_index, bit_or, is_some}
use mathlib.Core.Option.{some, none}
use lib.ListN.{get_elem?}
use prog.Atomic.{either}
use Rattle.atomic_table.specs.Table.{Me, step, rest, Allows}
use Rattle.atomic_table.specs.declared.shared.Seat.{Seat}
use Rattle.lwkt_base.specs.declared.names.CpuId.{CpuId}
use Rattle.lwkt_base.specs.declared.names.TokId.{TokId}
use Rattle.lwkt_base.specs.declared.names.Mode.TheVariants.{Exclusive, Shared}
use Rattle.lwkt_base.specs.declared.laws.Law.TheVariants.{Tally}
use Rattle.lwkt_base.specs.declared.holdings.Held.TheVariants.{Nothing, Holds}
use Rattle.lwkt_base.specs.declared.words.Decision.TheVariants.{Take as Takes}
use Rattle.lwkt_base.specs.Holding.{is_held, is_exclusive}
use Rattle.lwkt_core.specs.declared.events.Event.TheVariants.{Load, Take, Share}
use Rattle.lwkt_table.specs.declared.seats.Deed.{Deed}
use Rattle.lwkt_table.specs.declared.seats.SeatKind.TheVariants.{Of}
use Rattle.lwkt_core.specs.Tokens.{IsNotLastExclusive}
use Rattle.lwkt_bank.specs.declared.views.Plan.{Plan}
use Rattle.lwkt_bank.specs.declared.views.View.{View}
use Rattle.lwkt_bank.specs.declared.rules.Key.{Key}
use Rattle.lwkt_bank.specs.declared.banks.Bank.{Bank}
use Rattle.lwkt_bank.specs.Views.{at, count_from, held_of, who, named, ended_section, exchange, one_section}
use Rattle.lwkt_bank.specs.Deeds.{deed_by, loads, adds_one, marks, gives_one, gives_clean, gives_written, reads, writes, reads_blob, writes_blob}
use Rattle.lwkt_bank.specs.Hands.{Has, AreHands, IsInHand}
use Rattle.lwkt_bank.specs.Ledger.{Ledger, stays, given_home, Deeds}
use Rattle.lwkt_bank.specs.Rule.{Bench, token_word, cell_word, plan_at}
use Rattle.lwkt_bank.specs.Plays.{Amid, at_word, at_cell, takes_out, puts_back, brings_record, reads_record, writes_record, Looks, Exchanges, AddsOne, Marks, GivesOne, GivesClean, GivesWritten, ReadsCell, StoresCell, RaisesCell}
use Rattle.lwkt_bank.specs.Seats.{IsOf, IsCleanIn, IsLawfulIn, Decides}
use Rattle.lwkt_bank.proofs.AllowMoves.{allow_word, allow_take, allow_give, allow_read_record, allow_bring, allow_write_record, allow_cell, allow_store}
use Rattle.lwkt_bank.proofs.DeedMoves.{look_deeds, take_deeds, share_deeds, again_deeds, mark_deeds, give_one_deeds, give_clean_deeds, give_written_deeds, read_deeds, store_deeds, raise_deeds, read_blob_deeds, write_blob_deeds}
use Rattle.lwkt_bank.proofs.SeatMoves.{slot_out}
use Rattle.lwkt_bank.proofs.HandMoves.{from_there}

one_record : (xs ys : List ℕ) → Some xs ≡ Some ys → xs ≡ ys
one_record xs ys same = cc

-- a seat with the same view of the same table
pub of_still : (bank : Bank) (seat seat' : Seat (List ℕ) View) → seat'.table_id ≡ seat.table_id → seat'.me.0 ≡ seat.me.0 → IsOf bank seat → IsOf bank seat'
of_still bank seat seat' table view of =
    let F : View → Type 0 = λ w. w.kind ≡ Of (who w) in
    record { table = table ∙ of.table; plans = ap (λ (w : View). w.plans) view ∙ of.plans; named = subst F (sym view) of.named }

module _ (bank : Bank) (seat : Seat (List ℕ) View) (tok : ℕ) (of : IsOf bank seat) (there : tok < length bank.key.plans.items) where
  abbrev key : Key
  key = bank.table.shared.key

  abbrev slots : ℕ
  slots = bank.table.shared.table_id.slots

  abbrev v : View
  v = seat.me.0

  -- what a step asks whose word becomes f of what it was
  abbrev pub Asks : ℕ → (ℕ → ℕ) → (ℕ → Me (List ℕ) View → Type 0) → Type 0
  Asks word f then = (seat.table_id ≡ bank.table.shared.table_id) × (word < bank.table.shared.table_id.words) × Allows (Ledger key.plans.items key.cpus) slots seat.id seat.me word f then

  abbrev plans_are : key.plans.items ≡ bank.key.plans.items
  plans_are = ap (λ (k : Key). k.plans.items) bank.key_is

  there' : tok < length key.plans.items
  there' = let e = ap length plans_are in omega arith

  word_there : token_word tok < bank.table.shared.table_id.words
  word_there = let w = bank.wide in omega arith

  cell_there : (cell : ℕ) → cell < 4 → cell_word tok cell < bank.table.shared.table_id.words
  cell_there cell few = let w = bank.wide in omega arith

  asks_word : (word : ℕ) → word ≡ token_word tok → (f : ℕ → ℕ) (deed : ℕ → Deed) (R : List Deed → ℕ → View → ℕ → View → Type 0) (first second : ℕ) → Deeds key.plans.items key.cpus seat.id v (token_word tok) f deed stays (λ _ n w. Amid v (λ between. R between tok v n w)) → Asks word f (at_word R (step slots word first second none) seat.me)
  asks_word word is f deed R first second deeds =
      let F : ℕ → Type 0 = λ w. Asks w f (at_word R (step slots w first second none) seat.me) in
      subst F (sym is) (of.table, word_there, allow_word key.plans.items key.cpus slots seat.id seat.me (step slots (token_word tok) first second none) tok f deed R refl deeds)

  asks_cell : (word cell : ℕ) → cell < 4 → word ≡ cell_word tok cell → (f : ℕ → ℕ) (deed : ℕ → Deed) (R : List Deed → ℕ → ℕ → View → ℕ → View → Type 0) (first second : ℕ) → Deeds key.plans.items key.cpus seat.id v (cell_word tok cell) f deed stays (λ _ n w. Amid v (λ between. R between tok cell v n w)) → Asks word f (at_cell R (step slots word first second none) seat.me)
  asks_cell word cell few is f deed R first second deeds =
      let F : ℕ → Type 0 = λ w. Asks w f (at_cell R (step slots w first second none) seat.me) in
      subst F (sym is) (of.table, cell_there cell few, allow_cell key.plans.items key.cpus slots seat.id seat.me (step slots (cell_word tok cell) first second none) tok cell f deed R few refl deeds)

  asks_store : (word cell : ℕ) → cell < 4 → word ≡ cell_word tok cell → (new : ℕ) (deed : Deed) (R : List Deed → ℕ → ℕ → View → ℕ → View → Type 0) → Deeds key.plans.items key.cpus seat.id v (cell_word tok cell) (λ _. new) (λ _. deed) stays (λ _ _ w. Amid v (λ between. R between tok cell v new w)) → Asks word (λ _. new) (λ _. at_cell R (step slots word new 0 none) seat.me new)
  asks_store word cell few is new deed R deeds =
      let F : ℕ → Type 0 = λ w. Asks w (λ _. new) (λ _. at_cell R (step slots w new 0 none) seat.me new) in
      subst F (sym is) (of.table, cell_there cell few, allow_store key.plans.items key.cpus slots seat.id seat.me (step slots (cell_word tok cell) new 0 none) tok cell new deed R few refl deeds)

  abbrev cpu : CpuId
  cpu = who v

  abbrev t : TokId
  t = named tok

  few_there : count_from 0 (length bank.key.plans.items) (held_of v.tokens) < 32 → count_from 0 (length key.plans.items) (held_of v.tokens) < 32
  few_there few = let F : ℕ → Type 0 = λ n. count_from 0 n (held_of v.tokens) < 32 in subst F (ap length (sym plans_are)) few

  plan_there : plan_at key.plans.items tok ≡ plan_at bank.key.plans.items tok
  plan_there = ap (λ (ps : List Plan). plan_at ps tok) plans_are

  -- nothing lies in the slots of the tokens whose records the seat has in hand
  hands_out : AreHands v seat.me.1 → (s : Bench) → Ledger key.plans.items key.cpus s → get_elem? s.views seat.id ≡ some v → (k : ℕ) (bytes : List ℕ) → Has seat.me.1 k bytes → get_elem? s.homes k ≡ some none
  hands_out hands s ledger here k bytes has =
      let h = hands.all k bytes has in
      let same : length v.plans ≡ length key.plans.items = ap length (of.plans ∙ sym plans_are) in
      let low = h.0 in
      slot_out key.plans.items key.cpus seat.id v k of.named (omega arith) s ledger.rule here h.1

  -- the record of a token that is held exclusively is in hand
  in_hand : AreHands v seat.me.1 → is_exclusive (at v.tokens tok).held ≡ true → (bytes : List ℕ) → (at v.tokens tok).blob ≡ Some bytes → Has seat.me.1 tok bytes
  in_hand hands held bytes blob_is =
      let has = from_there seat.me.1 tok (hands.each tok (held, ap is_some blob_is)) in
      let known = hands.all tok has.0 has.1 in
      let F : List ℕ → Type 0 = λ xs. Has seat.me.1 tok xs in
      let same : Some has.0 ≡ Some bytes = sym known.2 ∙ blob_is in
      subst F (one_record has.0 bytes same) has.1

  module _ (word : ℕ) (is : word ≡ token_word tok) where
    pub look_asks : Asks word (λ n. n) (at_word Looks (step slots word 0 0 none) seat.me)
    look_asks = asks_word word is (λ n. n) (λ n. loads cpu tok n) Looks 0 0 (look_deeds key.plans.items key.cpus seat.id v of.named tok there')

    pub take_asks : (old new : ℕ) → ((alone : Bool) × Decides old Exclusive alone (Takes new)) → count_from 0 (length bank.key.plans.items) (held_of v.tokens) < 32 → Asks word (λ n. either (eqb n old) new n) (takes_out (step slots word old new none) seat.me)
    take_asks old new decided few =
        let F : ℕ → Type 0 = λ w. Asks w (λ n. either (eqb n old) new n) (takes_out (step slots w old new none) seat.me) in
        subst F (sym is) (
          of.table,
          word_there,
          allow_take key.plans.items key.cpus slots seat.id seat.me (step slots (token_word tok) old new none) tok old new (plan_at key.plans.items tok).blob (λ n. either (eqb n old) new n) (λ n. deed_by cpu (cond (eqb n old) (Take cpu t) (Load cpu t)) (exchange tok old new n ∷ [])) refl refl refl
              (take_deeds key.plans.items key.cpus seat.id v of.named tok there' old new decided.0 (few_there few) decided.1),
        )

    pub share_asks : (old new : ℕ) → ((alone : Bool) × Decides old Shared alone (Takes new)) → (at v.tokens tok).held ≡ Nothing → count_from 0 (length bank.key.plans.items) (held_of v.tokens) < 32 → Asks word (λ n. either (eqb n old) new n) (at_word (Exchanges Shared old new) (step slots word old new none) seat.me)
    share_asks old new decided free few = asks_word word is (λ n. either (eqb n old) new n) (λ n. deed_by cpu (cond (eqb n old) (Share cpu t) (Load cpu t)) (exchange tok old new n ∷ [])) (Exchanges Shared old new) old new (share_deeds key.plans.items key.cpus seat.id v of.named tok there' old new decided.0 (few_there few) decided.1 free)

    pub add_asks : is_held (at v.tokens tok).held ≡ true → count_from 0 (length bank.key.plans.items) (held_of v.tokens) < 32 → Asks word (λ n. (n + 4) % 2 ^ 64) (at_word AddsOne (step slots word 4 0 none) seat.me)
    add_asks held few = asks_word word is (λ n. (n + 4) % 2 ^ 64) (λ n. adds_one cpu tok n) AddsOne 4 0 (again_deeds key.plans.items key.cpus seat.id v of.named tok there' held (few_there few))

    pub mark_asks : Asks word (λ n. bit_or n 2) (at_word Marks (step slots word 2 0 none) seat.me)
    mark_asks = asks_word word is (λ n. bit_or n 2) (λ n. marks cpu tok n) Marks 2 0 (mark_deeds key.plans.items key.cpus seat.id v of.named tok there')

    pub give_one_asks : is_held (at v.tokens tok).held ≡ true → IsNotLastExclusive (at v.tokens tok).held → Asks word (λ n. (n + (2 ^ 64 - 4)) % 2 ^ 64) (at_word GivesOne (step slots word 4 0 none) seat.me)
    give_one_asks held may = asks_word word is (λ n. (n + (2 ^ 64 - 4)) % 2 ^ 64) (λ n. gives_one cpu tok n) GivesOne 4 0 (give_one_deeds key.plans.items key.cpus seat.id v of.named tok there' may held)

    asks_give : (hands : AreHands v seat.me.1) → (at v.tokens tok).held ≡ Holds Exclusive 0 → (f : ℕ → ℕ) (deed : ℕ → Deed) (R : List Deed → ℕ → View → ℕ → View → Type 0) (first : ℕ) → Deeds key.plans.items key.cpus seat.id v (token_word tok) f deed (given_home (at v.tokens tok).blob tok) (λ _ n w. Amid v (λ between. R between tok v n w))
        → Asks word f (puts_back R (step slots word first 0 none) seat.me)
    asks_give hands last f deed R first deeds =
        let F : ℕ → Type 0 = λ w. Asks w f (puts_back R (step slots w first 0 none) seat.me) in
        subst F (sym is) (
          of.table,
          word_there,
          allow_give key.plans.items key.cpus slots seat.id seat.me (step slots (token_word tok) first 0 none) tok f deed R refl hands (hands_out hands) (at v.tokens tok).blob refl
              (λ bytes blob_is. in_hand hands (ap is_exclusive last) bytes blob_is)
              deeds,
        )

    pub give_clean_asks : AreHands v seat.me.1 → (at v.tokens tok).held ≡ Holds Exclusive 0 → IsCleanIn (at v.tokens tok) → Asks word (λ n. (n + (2 ^ 64 - 1)) % 2 ^ 64) (puts_back GivesClean (step slots word 1 0 none) seat.me)
    give_clean_asks hands last clean = asks_give hands last (λ n. (n + (2 ^ 64 - 1)) % 2 ^ 64) (λ n. gives_clean cpu tok n) GivesClean 1 (give_clean_deeds key.plans.items key.cpus seat.id v of.named tok there' last clean)

    pub give_written_asks : AreHands v seat.me.1 → (at v.tokens tok).held ≡ Holds Exclusive 0 → (¬ IsCleanIn (at v.tokens tok)) → IsLawfulIn (plan_at bank.key.plans.items tok) (at v.tokens tok) → Asks word (λ n. (n + one_section) % 2 ^ 64) (puts_back GivesWritten (step slots word one_section 0 none) seat.me)
    give_written_asks hands last written lawful =
        let F : Plan → Type 0 = λ p. IsLawfulIn p (at v.tokens tok) in
        asks_give hands last (λ n. (n + one_section) % 2 ^ 64) (λ n. gives_written (ended_section tok (at v.tokens tok)) cpu tok n) GivesWritten one_section (give_written_deeds key.plans.items key.cpus seat.id v of.named tok there' last written (subst F (sym plan_there) lawful))

  module _ (word cell : ℕ) (is : word ≡ cell_word tok cell) where
    few_cells' : cell < (plan_at bank.key.plans.items tok).cells → cell < 4
    few_cells' inside_row = let s = bank.short tok in omega arith

    cells_there : cell < (plan_at bank.key.plans.items tok).cells → cell < (plan_at key.plans.items tok).cells
    cells_there inside_row = let e = ap (λ (p : Plan). p.cells) plan_there in omega arith

    pub read_asks : is_held (at v.tokens tok).held ≡ true → cell < (plan_at bank.key.plans.items tok).cells → Asks word (λ n. n) (at_cell ReadsCell (step slots word 0 0 none) seat.me)
    read_asks held inside_row = asks_cell word cell (few_cells' inside_row) is (λ n. n) (λ n. reads cpu tok cell n) ReadsCell 0 0 (read_deeds key.plans.items key.cpus seat.id v of.named tok there' held cell (cells_there inside_row))

    pub store_asks : (value : ℕ) → is_exclusive (at v.tokens tok).held ≡ true → (plan_at bank.key.plans.items tok).law ≢ Tally → cell < (plan_at bank.key.plans.items tok).cells → Asks word (λ _. value) (λ _. at_cell StoresCell (step slots word value 0 none) seat.me value)
    store_asks value held untallied inside_row = asks_store word cell (few_cells' inside_row) is value (writes cpu tok cell value) StoresCell
        (store_deeds key.plans.items key.cpus seat.id v of.named tok there' held (λ tally. untallied (sym (ap (λ (p : Plan). p.law) plan_there) ∙ tally)) cell value (cells_there inside_row))

  pub raise_asks : (word value : ℕ) → word ≡ cell_word tok 0 → is_exclusive (at v.tokens tok).held ≡ true → (plan_at bank.key.plans.items tok).law ≡ Tally → slice_index (at v.tokens tok).row 0 ≤ value → Asks word (λ _. value) (λ _. at_cell RaisesCell (step slots word value 0 none) seat.me value)
  raise_asks word value is held tally raised_to =
      let k = value - slice_index (at v.tokens tok).row 0 in
      let sum_is : slice_index (at v.tokens tok).row 0 + k ≡ value = omega arith in
      let F : ℕ → Type 0 = λ x. Asks word (λ _. x) (λ _. at_cell RaisesCell (step slots word x 0 none) seat.me x) in
      subst F sum_is (asks_store word 0 (omega arith) is (slice_index (at v.tokens tok).row 0 + k) (writes cpu tok 0 (slice_index (at v.tokens tok).row 0 + k)) RaisesCell
      (raise_deeds key.plans.items key.cpus seat.id v of.named tok there' held (ap (λ (p : Plan). p.law) plan_there ∙ tally) k))

  -- an access to the record
  pub read_record_asks : (word : ℕ) → word ≡ cell_word tok 0 → AreHands v seat.me.1 → IsInHand v tok → Asks word (λ n. n) (reads_record (step slots word 0 0 none) seat.me)
  read_record_asks word is hands held =
      let F : ℕ → Type 0 = λ w. Asks w (λ n. n) (reads_record (step slots w 0 0 none) seat.me) in
      let has = from_there seat.me.1 tok (hands.each tok held) in
      let known = hands.all tok has.0 has.1 in
      subst F (sym is) (
        of.table,
        cell_there 0 (omega arith),
        allow_read_record key.plans.items key.cpus slots seat.id seat.me (step slots (cell_word tok 0) 0 0 none) tok (λ n. n) (λ _. reads_blob cpu tok has.0) refl hands (hands_out hands) has.0 has.1
            (read_blob_deeds key.plans.items key.cpus seat.id v of.named tok there' has.0 held.0 known.2),
      )

  pub bring_record_asks : (word : ℕ) → word ≡ cell_word tok 0 → AreHands v seat.me.1 → IsInHand v tok → Asks word (λ n. n) (brings_record (step slots word 0 0 none) seat.me)
  bring_record_asks word is hands held =
      let F : ℕ → Type 0 = λ w. Asks w (λ n. n) (brings_record (step slots w 0 0 none) seat.me) in
      let has = from_there seat.me.1 tok (hands.each tok held) in
      subst F (sym is) (
        of.table,
        cell_there 0 (omega arith),
        allow_bring key.plans.items key.cpus slots seat.id seat.me (step slots (cell_word tok 0) 0 0 none) tok refl hands (hands_out hands) has.0 has.1,
      )

  -- the record in front, which was written
  pub write_record_asks : (word : ℕ) (bytes : List ℕ) → word ≡ cell_word tok 0 → seat.me.1 ≡ (tok, bytes) ∷ rest seat.me.1 → IsInHand v tok → length bytes ≤ 64 → Asks word (λ n. n) (writes_record (step slots word 0 0 none) seat.me)
  write_record_asks word bytes is front held short =
      let F : ℕ → Type 0 = λ w. Asks w (λ n. n) (writes_record (step slots w 0 0 none) seat.me) in
      subst F (sym is) (
        of.table,
        cell_there 0 (omega arith),
        allow_write_record key.plans.items key.cpus slots seat.id seat.me (step slots (cell_word tok 0) 0 0 none) tok bytes (λ n. n) (λ _. writes_blob cpu tok bytes) refl front
            (write_blob_deeds key.plans.items key.cpus seat.id v of.named tok there' bytes held short),
      )
