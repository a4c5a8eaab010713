use Rattle.std.proofs.Common.{eqb, ◌≡◌, ◌≢◌, ℕ, ◌<◌, Bool, true, false, cond, List, ◌∷◌, set, None, Some, refl, ap, sym, ◌∙◌, subst, arith}
use Rattle.std.specs.Prelude.{slice_index}
use Rattle.std.proofs.lemmas.Bool.{eqb-true, eqb-false}
use Rattle.std.proofs.lemmas.List.{set-get_or}
use Rattle.lwkt_table.proofs.SeatingLemmas.{set_again}
use mathlib.Core.Option.{some, none}
use lib.ListN.{get_elem?}
use Rattle.atomic_table.specs.Table.{Act, Step, Me, keeps, takes, gives, chain, rest, put_back, carried_after, homes_after, Valid, stepped, Allows}
use Rattle.lwkt_table.specs.declared.seats.Deed.{Deed}
use Rattle.lwkt_bank.specs.declared.views.Plan.{Plan}
use Rattle.lwkt_bank.specs.declared.views.View.{View}
use Rattle.lwkt_bank.specs.Views.{RecordOf, at}
use Rattle.lwkt_bank.specs.Hands.{Has, AreSame, AreHands, TakesOut, PutsBack, Brings}
use Rattle.lwkt_bank.specs.Rule.{Bench, Homes, moved, without, token_word, cell_word}
use Rattle.lwkt_bank.specs.Plays.{Amid, at_word, at_cell, takes_out, puts_back, brings_record, reads_record, writes_record, Exchanges, ReadsBlob, WritesBlob}
use Rattle.lwkt_base.specs.declared.names.Mode.TheVariants.{Exclusive}
use Rattle.lwkt_bank.specs.Ledger.{Ledger, Deeds, stays, taken_home, given_home, FindsAt}
use Rattle.lwkt_bank.proofs.HandMoves.{Brought, bring}
use Rattle.lwkt_bank.proofs.GuardMoves.{front_same}

module _ (plans : List Plan) (cpus slots id : ℕ) (me : Me (List ℕ) View) (st : Step (List ℕ)) where
  -- a word's place gives its token
  only_token : (tok : ℕ) → st.word ≡ token_word tok → (other : ℕ) → st.word ≡ token_word other → tok ≡ other
  only_token tok at_tok other at_other = let h : token_word tok ≡ token_word other = sym at_tok ∙ at_other in omega arith

  -- what a seat's deeds allow
  pub allow_word : (tok : ℕ) (f : ℕ → ℕ) (deed : ℕ → Deed) (R : List Deed → ℕ → View → ℕ → View → Type 0) → st.word ≡ token_word tok → Deeds plans cpus id me.0 (token_word tok) f deed stays (λ _ n w. Amid me.0 (λ between. R between tok me.0 n w)) → Allows (Ledger plans cpus) slots id me (token_word tok) f (at_word R st me)
  allow_word tok f deed R at_tok deeds s ledger homes here fits =
      let x = deeds s ledger here fits in
      (x.0, keeps, tt, x.1.0, (refl, λ other at_other. subst (λ k. Amid me.0 (λ between. R between k me.0 (slice_index s.words (token_word tok)) x.0)) (only_token tok at_tok other at_other) x.1.1.1))

  -- an exchange that takes the token's record out, if it hits and there is one
  pub allow_take : (tok old new : ℕ) (guard : RecordOf) (f : ℕ → ℕ) (deed : ℕ → Deed) → st.word ≡ token_word tok → st.first ≡ old → st.second ≡ new
      → Deeds plans cpus id me.0 (token_word tok) f deed (taken_home guard tok old) (λ homes n w. Amid me.0 (λ between. Exchanges Exclusive old new between tok me.0 n w × (n ≡ old → FindsAt guard tok homes (at w.tokens tok).blob)))
      → Allows (Ledger plans cpus) slots id me (token_word tok) f (takes_out st me)
  allow_take tok old new guard f deed at_tok first second deeds s ledger homes here fits =
      let x = deeds s ledger here fits in
      go x.0 x.1.1.1 (eqb (slice_index s.words (token_word tok)) old) refl guard x.1.0 (λ hit. x.1.1.1.1.1.1 hit)
    where
      Result : Type 0
      Result = (w : View) × (a : Act (List ℕ)) × Valid s.homes me.1 a × Ledger plans cpus (stepped s (token_word tok) (f (slice_index s.words (token_word tok))) id me.1 w a) × takes_out st me (slice_index s.words (token_word tok)) (w, carried_after me.1 a)

      shows_it : (w : View) (hands : List (ℕ × List ℕ)) → Amid me.0 (λ between. Exchanges Exclusive old new between tok me.0 (slice_index s.words (token_word tok)) w × ((slice_index s.words (token_word tok)) ≡ old → FindsAt guard tok s.homes (at w.tokens tok).blob))
          → ((slice_index s.words (token_word tok)) ≡ old → TakesOut (at w.tokens tok).blob tok me.1 hands) → ((slice_index s.words (token_word tok)) ≢ old → hands ≡ me.1) → takes_out st me (slice_index s.words (token_word tok)) (w, hands)
      shows_it w hands amid hit miss other at_other =
          let F : ℕ → Type 0 = λ k. Amid me.0 (λ between. Exchanges Exclusive st.first st.second between k me.0 (slice_index s.words (token_word tok)) w) × ((slice_index s.words (token_word tok)) ≡ st.first → TakesOut (at w.tokens k).blob k me.1 hands) × ((slice_index s.words (token_word tok)) ≢ st.first → hands ≡ me.1) in
          let G : ℕ → Type 0 = λ k. Amid me.0 (λ between. Exchanges Exclusive k new between tok me.0 (slice_index s.words (token_word tok)) w) × ((slice_index s.words (token_word tok)) ≡ k → TakesOut (at w.tokens tok).blob tok me.1 hands) × ((slice_index s.words (token_word tok)) ≢ k → hands ≡ me.1) in
          let H : ℕ → Type 0 = λ k. Amid me.0 (λ between. Exchanges Exclusive st.first k between tok me.0 (slice_index s.words (token_word tok)) w) × ((slice_index s.words (token_word tok)) ≡ st.first → TakesOut (at w.tokens tok).blob tok me.1 hands) × ((slice_index s.words (token_word tok)) ≢ st.first → hands ≡ me.1) in
          subst F (only_token tok at_tok other at_other) (subst H (sym second) (subst G (sym first) ((amid.0, (amid.1.0, amid.1.1.0)), hit, miss)))

      go : (w : View) → Amid me.0 (λ between. Exchanges Exclusive old new between tok me.0 (slice_index s.words (token_word tok)) w × ((slice_index s.words (token_word tok)) ≡ old → FindsAt guard tok s.homes (at w.tokens tok).blob)) → (b : Bool) → eqb (slice_index s.words (token_word tok)) old ≡ b → (g : RecordOf)
          → Ledger plans cpus (moved s (token_word tok) (f (slice_index s.words (token_word tok))) id w (cond b (without g tok s.homes) s.homes)) → ((slice_index s.words (token_word tok)) ≡ old → FindsAt g tok s.homes (at w.tokens tok).blob) → Result
      go w amid false is g after finds =
          let apart = eqb-false (slice_index s.words (token_word tok)) old is in
          (w, keeps, tt, after, shows_it w me.1 amid (λ hit. absurd (apart hit)) (λ miss. refl))
      go w amid true is None after finds =
          let same : (slice_index s.words (token_word tok)) ≡ old = eqb-true (slice_index s.words (token_word tok)) old is in
          let F : RecordOf → Type 0 = λ o. TakesOut o tok me.1 me.1 in
          (w, keeps, tt, after, shows_it w me.1 amid (λ hit. subst F (sym (finds same)) refl) (λ miss. absurd (miss same)))
      go w amid true is (Some first_bytes) after finds =
          let same : (slice_index s.words (token_word tok)) ≡ old = eqb-true (slice_index s.words (token_word tok)) old is in
          let found = finds same in
          let F : RecordOf → Type 0 = λ o. TakesOut o tok me.1 ((tok, found.0) ∷ me.1) in
          (w, takes tok found.0, found.1.1, after, shows_it w ((tok, found.0) ∷ me.1) amid (λ hit. subst F (sym found.1.0) refl) (λ miss. absurd (miss same)))

  -- what is in hand
  module _ (hands : AreHands me.0 me.1) (s : Bench) (out : (k : ℕ) (bytes : List ℕ) → Has me.1 k bytes → get_elem? s.homes k ≡ some none) where
    brought : (tok : ℕ) (bytes : List ℕ) → Has me.1 tok bytes → Brought me.1 s.homes tok bytes
    brought tok bytes has = bring me.1 has.0 s.homes tok bytes hands.apart out has.1

  -- the end of a section puts the token's record back, if there is one
  pub allow_give : (tok : ℕ) (f : ℕ → ℕ) (deed : ℕ → Deed) (R : List Deed → ℕ → View → ℕ → View → Type 0) → st.word ≡ token_word tok → AreHands me.0 me.1
      → ((s : Bench) → Ledger plans cpus s → get_elem? s.views id ≡ some me.0 → (k : ℕ) (bytes : List ℕ) → Has me.1 k bytes → get_elem? s.homes k ≡ some none)
      → (blob : RecordOf) → (at me.0.tokens tok).blob ≡ blob → ((bytes : List ℕ) → blob ≡ Some bytes → Has me.1 tok bytes)
      → Deeds plans cpus id me.0 (token_word tok) f deed (given_home blob tok) (λ _ n w. Amid me.0 (λ between. R between tok me.0 n w)) → Allows (Ledger plans cpus) slots id me (token_word tok) f (puts_back R st me)
  allow_give tok f deed R at_tok hands out None blob_is has deeds s ledger homes here fits =
      let x = deeds s ledger here fits in
      let F : ℕ → Type 0 = λ k. Amid me.0 (λ between. R between k me.0 (slice_index s.words (token_word tok)) x.0) × PutsBack (at me.0.tokens k).blob k me.1 me.1 in
      let G : RecordOf → Type 0 = λ o. PutsBack o tok me.1 me.1 in
      (x.0, keeps, tt, x.1.0, λ other at_other. subst F (only_token tok at_tok other at_other) (x.1.1.1, subst G (sym blob_is) refl))
  allow_give tok f deed R at_tok hands out (Some bytes) blob_is has deeds s ledger homes here fits =
      let x = deeds s ledger here fits in
      let n = slice_index s.words (token_word tok) in
      let b = brought hands s (out s ledger here) tok bytes (has bytes refl) in
      let a : Act (List ℕ) = chain b.act gives in
      let homes_are : homes_after s.homes me.1 a ≡ set s.homes tok (some bytes)
      = ap (λ (h : Homes). put_back h (carried_after me.1 b.act)) b.homes_same ∙ ap (put_back s.homes) b.carried in
      let hands_are : carried_after me.1 a ≡ b.others = ap rest b.carried in
      let T : Homes → Type 0 = λ h. Ledger plans cpus (moved s (token_word tok) (f n) id x.0 h) in
      let F : ℕ → Type 0 = λ k. Amid me.0 (λ between. R between k me.0 n x.0) × PutsBack (at me.0.tokens k).blob k me.1 (carried_after me.1 a) in
      let G : RecordOf → Type 0 = λ o. PutsBack o tok me.1 (carried_after me.1 a) in
      let H : List (ℕ × List ℕ) → Type 0 = λ h. AreSame me.1 ((tok, bytes) ∷ h) in
      (x.0, a, (b.valid, tt), subst T (sym homes_are) x.1.0, λ other at_other. subst F (only_token tok at_tok other at_other) (x.1.1.1, subst G (sym blob_is) (subst H (sym hands_are) b.same)))

  -- an access to a record in hand brings it to the front
  one_first : (tok other : ℕ) → st.word ≡ cell_word tok 0 → st.word ≡ cell_word other 0 → tok ≡ other
  one_first tok other at_tok at_other = let h : cell_word tok 0 ≡ cell_word other 0 = sym at_tok ∙ at_other in omega arith

  brings : (tok : ℕ) (bytes : List ℕ) (s : Bench) (b : Brought me.1 s.homes tok bytes) → Brings tok me.1 (carried_after me.1 b.act)
  brings tok bytes s b = (bytes, (b.others, (b.carried, let F : List (ℕ × List ℕ) → Type 0 = λ h. AreSame me.1 h in subst F (sym b.carried) b.same)))

  pub allow_read_record : (tok : ℕ) (f : ℕ → ℕ) (deed : ℕ → Deed) → st.word ≡ cell_word tok 0 → AreHands me.0 me.1
      → ((s : Bench) → Ledger plans cpus s → get_elem? s.views id ≡ some me.0 → (k : ℕ) (bytes : List ℕ) → Has me.1 k bytes → get_elem? s.homes k ≡ some none)
      → (bytes : List ℕ) → Has me.1 tok bytes
      → Deeds plans cpus id me.0 (cell_word tok 0) f deed stays (λ _ _ w. Amid me.0 (λ between. ReadsBlob between tok me.0 w)) → Allows (Ledger plans cpus) slots id me (cell_word tok 0) f (reads_record st me)
  allow_read_record tok f deed at_tok hands out bytes has deeds s ledger homes here fits =
      let x = deeds s ledger here fits in
      let n = slice_index s.words (cell_word tok 0) in
      let b = brought hands s (out s ledger here) tok bytes has in
      let T : Homes → Type 0 = λ h. Ledger plans cpus (moved s (cell_word tok 0) (f n) id x.0 h) in
      let F : ℕ → Type 0 = λ k. Amid me.0 (λ between. ReadsBlob between k me.0 x.0) × Brings k me.1 (carried_after me.1 b.act) in
      (x.0, b.act, b.valid, subst T (sym b.homes_same) x.1.0, λ other at_other. subst F (one_first tok other at_tok at_other) (x.1.1.1, brings tok bytes s b))

  -- a load that is no deed leaves the table as it is
  pub allow_bring : (tok : ℕ) → st.word ≡ cell_word tok 0 → AreHands me.0 me.1
      → ((s : Bench) → Ledger plans cpus s → get_elem? s.views id ≡ some me.0 → (k : ℕ) (bytes : List ℕ) → Has me.1 k bytes → get_elem? s.homes k ≡ some none)
      → (bytes : List ℕ) → Has me.1 tok bytes → Allows (Ledger plans cpus) slots id me (cell_word tok 0) (λ n. n) (brings_record st me)
  allow_bring tok at_tok hands out bytes has s ledger homes here fits =
      let i = cell_word tok 0 in
      let b = brought hands s (out s ledger here) tok bytes has in
      let W : List ℕ → Type 0 = λ ws. Ledger plans cpus (record { words = ws; homes = s.homes; views = s.views }) in
      let H : Homes → Type 0 = λ hs. Ledger plans cpus (record { words = set s.words i (slice_index s.words i); homes = hs; views = s.views }) in
      let V : List View → Type 0 = λ vs. Ledger plans cpus (record { words = set s.words i (slice_index s.words i); homes = homes_after s.homes me.1 b.act; views = vs }) in
      let after = subst V (sym (set_again s.views id me.0 here)) (subst H (sym b.homes_same) (subst W (sym (set-get_or s.words i 0)) ledger)) in
      let F : ℕ → Type 0 = λ k. Brings k me.1 (carried_after me.1 b.act) in
      (me.0, b.act, b.valid, after, λ other at_other. (refl, subst F (one_first tok other at_tok at_other) (brings tok bytes s b)))

  -- a record in front that was written
  pub allow_write_record : (tok : ℕ) (new : List ℕ) (f : ℕ → ℕ) (deed : ℕ → Deed) → st.word ≡ cell_word tok 0 → me.1 ≡ (tok, new) ∷ rest me.1
      → Deeds plans cpus id me.0 (cell_word tok 0) f deed stays (λ _ _ w. Amid me.0 (λ between. WritesBlob new between tok me.0 w)) → Allows (Ledger plans cpus) slots id me (cell_word tok 0) f (writes_record st me)
  allow_write_record tok new f deed at_tok front deeds s ledger homes here fits =
      let x = deeds s ledger here fits in
      let R : ℕ → List ℕ → Type 0 = λ k o. Amid me.0 (λ between. WritesBlob o between k me.0 x.0) × (me.1 ≡ me.1) in
      let F : ℕ → Type 0 = λ k. (o : List ℕ) → me.1 ≡ (k, o) ∷ rest me.1 → R k o in
      let here_known : F tok = λ o in_front. subst (λ (bytes : List ℕ). R tok bytes) (front_same tok new o me.1 (rest me.1) (rest me.1) front in_front) (x.1.1.1, refl) in
      (x.0, keeps, tt, x.1.0, λ other o at_other in_front. subst F (one_first tok other at_tok at_other) here_known o in_front)

  -- a cell's place gives its token and its number
  at_one_cell : (tok cell : ℕ) (P : ℕ → ℕ → Type 0) → cell < 4 → st.word ≡ cell_word tok cell → P tok cell → (other c : ℕ) → c < 4 → st.word ≡ cell_word other c → P other c
  at_one_cell tok cell P few at_cell' p other c low at_other =
      let h : cell_word tok cell ≡ cell_word other c = sym at_cell' ∙ at_other in
      let same_tok : tok ≡ other = omega arith in
      let same_cell : cell ≡ c = omega arith in
      subst (λ k. P other k) same_cell (subst (λ k. P k cell) same_tok p)

  pub allow_cell : (tok cell : ℕ) (f : ℕ → ℕ) (deed : ℕ → Deed) (R : List Deed → ℕ → ℕ → View → ℕ → View → Type 0) → cell < 4 → st.word ≡ cell_word tok cell → Deeds plans cpus id me.0 (cell_word tok cell) f deed stays (λ _ n w. Amid me.0 (λ between. R between tok cell me.0 n w)) → Allows (Ledger plans cpus) slots id me (cell_word tok cell) f (at_cell R st me)
  allow_cell tok cell f deed R few at_cell' deeds s ledger homes here fits =
      let x = deeds s ledger here fits in
      (x.0, keeps, tt, x.1.0, (refl, at_one_cell tok cell (λ k c. Amid me.0 (λ between. R between k c me.0 (slice_index s.words (cell_word tok cell)) x.0)) few at_cell' x.1.1.1))

  pub allow_store : (tok cell new : ℕ) (deed : Deed) (R : List Deed → ℕ → ℕ → View → ℕ → View → Type 0) → cell < 4 → st.word ≡ cell_word tok cell → Deeds plans cpus id me.0 (cell_word tok cell) (λ _. new) (λ _. deed) stays (λ _ _ w. Amid me.0 (λ between. R between tok cell me.0 new w)) → Allows (Ledger plans cpus) slots id me (cell_word tok cell) (λ _. new) (λ _. at_cell R st me new)
  allow_store tok cell new deed R few at_cell' deeds s ledger homes here fits =
      let x = deeds s ledger here fits in
      (x.0, keeps, tt, x.1.0, (refl, at_one_cell tok cell (λ k c. Amid me.0 (λ between. R between k c me.0 new x.0)) few at_cell' x.1.1.1))
