use Rattle.std.proofs.Common.{eqb, eq-eqb, ne_eqb, ◌-◌, ◌≡◌, ◌≢◌, ⊎_elim, ℕ, zero, suc, ◌+◌, ◌<◌, ◌≤◌, Bool, true, false, cond, List, [], ◌∷◌, length, set, refl, ap, sym, ◌∙◌, subst, arith, length-set, get_or-set_same, get_or-set_other}
use Rattle.std.specs.Prelude.{slice_index, slice_index_or, slice_set, is_some, Some}
use Rattle.lwkt_core.specs.Tokens.{IsShort}
use Rattle.std.proofs.lemmas.Bool.{eqb-true, eqb-false, cases_eq, cases_Bool, false≢true}
use Rattle.std.proofs.lemmas.List.{get_or_default, ext_get_or}
use Rattle.std.proofs.lemmas.List.Folds.{Any-from_list_any, list_any_at, list_any_none, list_any-append}
use Rattle.std.proofs.lemmas.List.Elements.{All-nil, All-cons}
use Rattle.std.specs.Prelude.{◌||◌}
use Rattle.std.specs.List.{list_any}
use Rattle.std.proofs.lemmas.List.Sums.{sum_by-cons}
use Rattle.lwkt_bank.specs.declared.views.Added.{Added}
use Rattle.lwkt_base.specs.declared.names.CpuId.{CpuId}
use Rattle.lwkt_base.specs.declared.names.Mode.{Mode}
use Rattle.lwkt_base.specs.declared.names.Mode.TheVariants.{Exclusive, Shared}
use Rattle.lwkt_base.specs.declared.laws.Law.TheVariants.{Tally}
use Rattle.lwkt_base.specs.declared.holdings.Held.{Held}
use Rattle.lwkt_base.specs.declared.holdings.Held.TheVariants.{Nothing, Holds}
use Rattle.lwkt_base.specs.Holding.{references_in, is_held, is_exclusive, one_less, one_more}
use Rattle.lwkt_table.specs.declared.seats.SeatKind.{SeatKind}
use Rattle.lwkt_table.specs.declared.seats.SeatKind.TheVariants.{Clerk, Of, Spent}
use Rattle.lwkt_table.specs.declared.seats.Deed.{Deed}
use Rattle.lwkt_bank.specs.declared.views.Plan.{Plan}
use Rattle.lwkt_bank.specs.declared.views.TokenEntry.{TokenEntry}
use Rattle.lwkt_bank.specs.declared.views.View.{View}
use Rattle.lwkt_bank.specs.declared.notes.Change.{Change}
use Rattle.lwkt_bank.specs.declared.notes.Touch.{Touch}
use Rattle.lwkt_bank.specs.declared.notes.Touch.TheVariants.{Untouched, Same, Other}
use Rattle.lwkt_bank.specs.declared.notes.TokenNote.{TokenNote}
use Rattle.lwkt_bank.specs.Views.{RecordOf, wrote_record, at, amount, generation_in, is_touched, touching, seen, taken, less, more, stored, raised, noted}
use Rattle.lwkt_bank.specs.Rule.{plan_at}
use Rattle.lwkt_bank.specs.Notes.{seat_number, no_note, note_at, touch_at, touch_of, held_in, begun, note_changed, note_wrote, first_record, IsTouchOf, is_stored, is_other, IsTouched, IsRecordTouched, IsNoted, Keeps}
use Rattle.lwkt_bank.proofs.ViewMoves.{at-here, at-else}
use Rattle.lwkt_bank.proofs.TurnMoves.{seen-keeps, exclusive_held}

-- the number of a seat gives its processor
pub seat_by_number : (kind : SeatKind) (cpu : CpuId) → seat_number kind ≡ cpu.0 + 1 → kind ≡ Of cpu
seat_by_number (Of other) cpu e = let same : other.0 ≡ cpu.0 = omega arith in λ i. Of (record { 0 = same i })
seat_by_number (Clerk made back) cpu e = absurd (omega arith)
seat_by_number Spent cpu e = absurd (omega arith)

-- an entry that says the same of the holding, the rows and what was added is noted alike
pub IsNoted-same : (plan : Plan) (cpu : ℕ) (e e' : TokenEntry) (note : TokenNote) → e'.held ≡ e.held → e'.first ≡ e.first → e'.row ≡ e.row → e'.added ≡ e.added → e'.touched ≡ e.touched → e'.first_blob ≡ e.first_blob → e'.blob ≡ e.blob → IsNoted plan cpu e note → IsNoted plan cpu e' note
IsNoted-same plan cpu e e' note held first row added touched first_blob blob noted' = record {
  record_touched = λ is.
      let F : RecordOf → RecordOf → Type 0 = λ f b. IsRecordTouched note.record_ note.first_blob f b in
      subst (λ (b : RecordOf). F e'.first_blob b) (sym blob) (subst (λ (f : RecordOf). F f e.blob) (sym first_blob) (noted'.record_touched (sym (ap is_exclusive held) ∙ is)));
  guarded = λ is. let g = noted'.guarded (sym (ap is_held held) ∙ is) in (ap is_some blob ∙ g.0, ap is_some first_blob ∙ g.1);
  short = λ is bytes its. noted'.short (sym (ap is_held held) ∙ is) bytes (sym first_blob ∙ its);
  four = noted'.four;
  firsts = noted'.firsts;
  tally = noted'.tally ∙ sym (ap (amount cpu) added);
  own = λ other away. ap (amount other) added ∙ noted'.own other away;
  long = λ is. let l = noted'.long (sym (ap is_held held) ∙ is) in (ap length first ∙ l.0, ap length row ∙ l.1);
  references = noted'.references ∙ sym (ap references_in held);
  few = noted'.few;
  mode = λ is. ap is_exclusive held ∙ noted'.mode (sym (ap is_held held) ∙ is);
  touched = λ cell is.
      let F : List ℕ → List ℕ → Type 0 = λ f r. IsTouched (touch_at note cell) (slice_index note.first cell) (slice_index f cell) (slice_index r cell) in
      subst (λ (r : List ℕ). F e'.first r) (sym row) (subst (λ (f : List ℕ). F f e.row) (sym first) (noted'.touched cell (sym (ap is_exclusive held) ∙ is)));
  stored_to = λ cell inside is. noted'.stored_to cell inside (sym (ap is_exclusive held) ∙ is) ∙ ap (λ (cells : List ℕ). list_any (λ c. eqb c cell) cells) (sym touched);
  lasts = noted'.lasts;
  latest = λ cell is stored_to. noted'.latest cell (sym (ap is_exclusive held) ∙ is) stored_to ∙ ap (λ (r : List ℕ). slice_index r cell) (sym row);
  covered = λ tally is stored_to.
      let F : List Added → List ℕ → Type 0 = λ xs r. amount cpu xs ≤ slice_index r 0 in
      subst (λ (r : List ℕ). F e'.added r) (sym row) (subst (λ (xs : List Added). F xs e.row) (sym added) (noted'.covered tally (sym (ap is_exclusive held) ∙ is) stored_to));
}

-- a look changes nothing of what is noted
pub IsNoted-seen : (plan : Plan) (cpu : ℕ) (e : TokenEntry) (g : ℕ) (note : TokenNote) → IsNoted plan cpu e note → IsNoted plan cpu (seen e g) note
IsNoted-seen plan cpu e g note noted' = let k = seen-keeps e g in IsNoted-same plan cpu e (seen e g) note k.1 k.2 k.3 k.5 k.7 k.8 k.9 noted'

-- a token that is held no longer
pub IsNoted-nothing : (plan : Plan) (cpu : ℕ) (e e' : TokenEntry) (note : TokenNote) → e'.held ≡ Nothing → e'.added ≡ e.added → IsNoted plan cpu e note → IsNoted plan cpu e' (record note { references = 0 })
IsNoted-nothing plan cpu e e' note held added noted' = record {
  record_touched = λ is. absurd (false≢true (sym (ap is_exclusive held) ∙ is));
  guarded = λ is. absurd (false≢true (sym (ap is_held held) ∙ is));
  short = λ is. absurd (false≢true (sym (ap is_held held) ∙ is));
  four = noted'.four;
  firsts = noted'.firsts;
  tally = noted'.tally ∙ sym (ap (amount cpu) added);
  own = λ other away. ap (amount other) added ∙ noted'.own other away;
  long = λ is. absurd (false≢true (sym (ap is_held held) ∙ is));
  references = sym (ap references_in held);
  few = omega arith;
  mode = λ is. absurd (false≢true (sym (ap is_held held) ∙ is));
  touched = λ cell is. absurd (false≢true (sym (ap is_exclusive held) ∙ is));
  stored_to = λ cell inside is. absurd (false≢true (sym (ap is_exclusive held) ∙ is));
  lasts = noted'.lasts;
  latest = λ cell is stored_to. absurd (false≢true (sym (ap is_exclusive held) ∙ is));
  covered = λ tally is stored_to. absurd (false≢true (sym (ap is_exclusive held) ∙ is));
}

-- another holding of a token that is held, in the same mode
pub IsNoted-held : (plan : Plan) (cpu : ℕ) (e : TokenEntry) (h : Held) (references : ℕ) (note : TokenNote) → is_held e.held ≡ true → (is_held h ≡ true → is_exclusive h ≡ is_exclusive e.held) → references ≡ references_in h → references ≤ 256 → IsNoted plan cpu e note → IsNoted plan cpu (record e { held = h }) (record note { references = references })
IsNoted-held plan cpu e h references note was same count few noted' = record {
  record_touched = λ is. noted'.record_touched (sym (same (exclusive_held h is)) ∙ is);
  guarded = λ is. noted'.guarded was;
  short = λ is. noted'.short was;
  four = noted'.four;
  firsts = noted'.firsts;
  tally = noted'.tally;
  own = noted'.own;
  long = λ is. noted'.long was;
  references = count;
  few = few;
  mode = λ is. same is ∙ noted'.mode was;
  touched = λ cell is. noted'.touched cell (sym (same (exclusive_held h is)) ∙ is);
  stored_to = λ cell inside is. noted'.stored_to cell inside (sym (same (exclusive_held h is)) ∙ is);
  lasts = noted'.lasts;
  latest = λ cell is stored_to. noted'.latest cell (sym (same (exclusive_held h is)) ∙ is) stored_to;
  covered = λ tally is stored_to. noted'.covered tally (sym (same (exclusive_held h is)) ∙ is) stored_to;
}

-- one reference less keeps the mode, and so does one more
less_keeps : (b : Bool) (m : Mode) (f k : ℕ) → is_held (cond b Nothing (Holds m k)) ≡ true → is_exclusive (cond b Nothing (Holds m k)) ≡ is_exclusive (Holds m f)
less_keeps true m f k is = absurd (false≢true is)
less_keeps false Exclusive f k is = refl
less_keeps false Shared f k is = refl

less_counts : (m : Mode) (f : ℕ) → f + 1 - 1 ≡ references_in (one_less (Holds m f))
less_counts m f = ⊎_elim
    (λ (none : f ≡ 0). let c : references_in (cond (eqb f 0) Nothing (Holds m (f - 1))) ≡ 0 = ap (λ (b : Bool). references_in (cond b Nothing (Holds m (f - 1)))) (eq-eqb f 0 none) in omega (arith, c))
    (λ (some : f ≢ 0). let c : references_in (cond (eqb f 0) Nothing (Holds m (f - 1))) ≡ f - 1 + 1 = ap (λ (b : Bool). references_in (cond b Nothing (Holds m (f - 1)))) (ne_eqb f 0 some) in omega (arith, c))
    (cases_eq f 0)

less_is : (h : Held) → is_held h ≡ true → (is_held (one_less h) ≡ true → is_exclusive (one_less h) ≡ is_exclusive h) × (references_in h - 1 ≡ references_in (one_less h))
less_is Nothing held = absurd (false≢true held)
less_is (Holds m f) held = (less_keeps (eqb f 0) m f (f - 1), less_counts m f)

more_is : (h : Held) → is_held h ≡ true → (is_exclusive (one_more h Shared) ≡ is_exclusive h) × (references_in h + 1 ≡ references_in (one_more h Shared))
more_is Nothing held = absurd (false≢true held)
more_is (Holds Exclusive f) held = (refl, refl)
more_is (Holds Shared f) held = (refl, refl)

pub IsNoted-less : (plan : Plan) (cpu : ℕ) (e : TokenEntry) (note : TokenNote) → is_held e.held ≡ true → IsNoted plan cpu e note → IsNoted plan cpu (less e) (record note { references = note.references - 1 })
IsNoted-less plan cpu e note held noted' =
    let l = less_is e.held held in
    let few = noted'.few in
    IsNoted-held plan cpu e (one_less e.held) (note.references - 1) note held l.0 (ap (λ (k : ℕ). k - 1) noted'.references ∙ l.1) (omega (arith, few)) noted'

pub IsNoted-more : (plan : Plan) (cpu : ℕ) (e : TokenEntry) (note : TokenNote) → is_held e.held ≡ true → note.references < 256 → IsNoted plan cpu e note → IsNoted plan cpu (more e) (record note { references = note.references + 1 })
IsNoted-more plan cpu e note held few noted' =
    let m = more_is e.held held in
    IsNoted-held plan cpu e (one_more e.held Shared) (note.references + 1) note held (λ is. m.0) (ap (λ (k : ℕ). k + 1) noted'.references ∙ m.1) (omega (arith, few)) noted'

-- what is noted of a holding gives it
mode_by_note : (m mode : Mode) (f : ℕ) → is_exclusive (Holds m f) ≡ is_exclusive (Holds mode 0) → mode ≡ m
mode_by_note Exclusive Exclusive f same = refl
mode_by_note Exclusive Shared f same = absurd (false≢true (sym same))
mode_by_note Shared Exclusive f same = absurd (false≢true same)
mode_by_note Shared Shared f same = refl

by_number : (h : Held) (mode : Mode) (references : ℕ) → references ≡ references_in h → (is_held h ≡ true → is_exclusive h ≡ is_exclusive (Holds mode 0)) → cond (eqb references 0) Nothing (Holds mode (references - 1)) ≡ h
by_number Nothing mode references count same = ap (λ (b : Bool). cond b Nothing (Holds mode (references - 1))) (eq-eqb references 0 count)
by_number (Holds m f) mode references count same =
    let further : references - 1 ≡ f = omega arith in
    ap (λ (b : Bool). cond b Nothing (Holds mode (references - 1))) (ne_eqb references 0 (λ none. absurd (omega arith)))
    ∙ ap (λ (x : Mode). Holds x (references - 1)) (mode_by_note m mode f (same refl))
    ∙ ap (Holds m) further

pub held_by_note : (plan : Plan) (cpu : ℕ) (e : TokenEntry) (note : TokenNote) → IsNoted plan cpu e note → held_in note ≡ e.held
held_by_note plan cpu e note noted' = by_number e.held note.mode note.references noted'.references noted'.mode

-- a token that is held has a reference
pub counted : (h : Held) → is_held h ≡ true → 0 < references_in h
counted Nothing held = absurd (false≢true held)
counted (Holds m f) held = omega arith

-- no cell of a fresh note was stored to
untouched_at : (cell : ℕ) → slice_index_or (Untouched ∷ Untouched ∷ Untouched ∷ Untouched ∷ []) cell Untouched ≡ Untouched
untouched_at zero = refl
untouched_at (suc zero) = refl
untouched_at (suc (suc zero)) = refl
untouched_at (suc (suc (suc zero))) = refl
untouched_at (suc (suc (suc (suc cell)))) = refl

-- a token that was taken with this row
pub IsNoted-taken : (plan : Plan) (cpu : ℕ) (e : TokenEntry) (word : ℕ) (mode : Mode) (row : List ℕ) (blob : RecordOf) (note : TokenNote) → length row ≡ plan.cells → is_some blob ≡ is_some plan.blob → IsShort blob → IsNoted plan cpu e note → IsNoted plan cpu (taken e word mode row blob) (begun note mode)
IsNoted-taken plan cpu e word mode row blob note long guard short noted' =
    let k = seen-keeps e (generation_in word) in
    record {
      record_touched = λ is. record { first_kept = λ s. absurd (false≢true s); same = λ s. refl; other = λ o. absurd (false≢true o) };
      guarded = λ is. (guard, guard);
      short = λ is bytes its. let F : RecordOf → Type 0 = λ o. IsShort o in subst F its short;
      four = refl;
      firsts = noted'.firsts;
      tally = noted'.tally ∙ sym (ap (amount cpu) k.5);
      own = λ other away. ap (amount other) k.5 ∙ noted'.own other away;
      long = λ is. (long, long);
      references = refl;
      few = omega arith;
      mode = λ is. refl;
      touched = λ cell is.
          let F : Touch → Type 0 = λ t. IsTouched t (slice_index note.first cell) (slice_index row cell) (slice_index row cell) in
          subst F (sym (untouched_at cell)) (record { first_kept = λ s. absurd (false≢true s); same = λ s. refl; other = λ o. absurd (false≢true o) });
      stored_to = λ cell inside is. ap is_stored (untouched_at cell);
      lasts = noted'.lasts;
      latest = λ cell is stored_to. absurd (false≢true (sym (ap is_stored (untouched_at cell)) ∙ stored_to));
      covered = λ tally is stored_to. absurd (false≢true stored_to);
    }

-- after an entry of a token that exists has changed, no other token is held
within-changed : (v : View) (e : TokenEntry) (tok : ℕ) → ((k : ℕ) → is_held (at v.tokens k).held ≡ true → k < length v.plans) → tok < length v.plans → e.tok ≡ tok → (k : ℕ) → is_held (at (e ∷ v.tokens) k).held ≡ true → k < length v.plans
within-changed v e tok within there is_tok k held = ⊎_elim
    (λ (same : k ≡ tok). let h = same in omega arith)
    (λ away. within k (subst (λ (d : TokenEntry). is_held d.held ≡ true) (at-else e v.tokens tok k is_tok away) held))
    (cases_eq k tok)

-- what is kept after an entry of a token has changed
pub Keeps-set : (notes : List TokenNote) (cpu : CpuId) (v w : View) (e : TokenEntry) (between : List Deed) (d : Deed) (tok : ℕ) (note : TokenNote) → Keeps notes cpu v → w ≡ noted between v e d → tok < length v.plans → e.tok ≡ tok → tok < length notes → IsNoted (plan_at v.plans tok) cpu.0 e note → Keeps (set notes tok note) cpu w
Keeps-set notes cpu v w e between deed tok note keeps is there is_tok room here =
    let F : View → Type 0 = λ x. Keeps (set notes tok note) cpu x in
    subst F (sym is) (record { seat = keeps.seat; each = each; within = within-changed v e tok keeps.within there is_tok })
  where
    each : (k : ℕ) → k < length v.plans → IsNoted (plan_at v.plans k) cpu.0 (at (e ∷ v.tokens) k) (note_at (set notes tok note) k)
    each k h =
        let G : ℕ → TokenEntry → TokenNote → Type 0 = λ j d m. IsNoted (plan_at v.plans j) cpu.0 d m in
        ⊎_elim
        (λ (same : k ≡ tok). subst (λ (j : ℕ). G j (at (e ∷ v.tokens) j) (note_at (set notes tok note) j)) (sym same)
        (subst (λ (d : TokenEntry). G tok d (note_at (set notes tok note) tok)) (sym (at-here e v.tokens tok is_tok)) (subst (λ (m : TokenNote). G tok e m) (sym (get_or-set_same notes tok note no_note room)) here)))
        (λ away. subst (λ (d : TokenEntry). G k d (note_at (set notes tok note) k)) (sym (at-else e v.tokens tok k is_tok away)) (subst (λ (m : TokenNote). G k (at v.tokens k) m) (sym (get_or-set_other notes tok k note no_note away)) (keeps.each k h)))
        (cases_eq k tok)

-- and where its note stays
pub Keeps-kept : (notes : List TokenNote) (cpu : CpuId) (v w : View) (e : TokenEntry) (between : List Deed) (d : Deed) (tok : ℕ) → Keeps notes cpu v → w ≡ noted between v e d → tok < length v.plans → e.tok ≡ tok → IsNoted (plan_at v.plans tok) cpu.0 e (note_at notes tok) → Keeps notes cpu w
Keeps-kept notes cpu v w e between deed tok keeps is there is_tok here =
    let F : View → Type 0 = λ x. Keeps notes cpu x in
    subst F (sym is) (record { seat = keeps.seat; each = each; within = within-changed v e tok keeps.within there is_tok })
  where
    each : (k : ℕ) → k < length v.plans → IsNoted (plan_at v.plans k) cpu.0 (at (e ∷ v.tokens) k) (note_at notes k)
    each k h =
        let G : ℕ → TokenEntry → Type 0 = λ j d. IsNoted (plan_at v.plans j) cpu.0 d (note_at notes j) in
        ⊎_elim
        (λ (same : k ≡ tok). subst (λ (j : ℕ). G j (at (e ∷ v.tokens) j)) (sym same) (subst (λ (d : TokenEntry). G tok d) (sym (at-here e v.tokens tok is_tok)) here))
        (λ away. subst (λ (d : TokenEntry). G k d) (sym (at-else e v.tokens tok k is_tok away)) (keeps.each k h))
        (cases_eq k tok)

-- where a cell has another value, and where none has
module _ (plan : Plan) (cpu : ℕ) (e : TokenEntry) (note : TokenNote) (noted' : IsNoted plan cpu e note) (held : is_exclusive e.held ≡ true) (within : plan.cells ≤ 4) where
  pub row_written : list_any is_other note.cells ≡ true → e.row ≢ e.first
  row_written some same =
      let found = Any-from_list_any is_other note.cells some in
      let cell = found.0 in
      let is : touch_at note cell ≡ found.1 = get_or_default note.cells cell Untouched found.1 found.2 ∙ found.3 in
      (noted'.touched cell held).other (ap is_other is ∙ found.4) (ap (λ r. slice_index r cell) same)

  pub row_clean : list_any is_other note.cells ≡ false → e.row ≡ e.first
  row_clean none =
      let long = noted'.long (exclusive_held e.held held) in
      ext_get_or 0 e.row e.first (long.1 ∙ sym long.0) (λ cell inside_row. let l = long.1 in (noted'.touched cell held).same (unchanged cell (omega arith)))
    where
      unchanged : (cell : ℕ) → cell < plan.cells → is_other (touch_at note cell) ≡ false
      unchanged cell inside = ⊎_elim
          (λ yes'. absurd (
          let f = noted'.four in
          let w = within in
          let short : cell < length note.cells = omega arith in
          false≢true (sym none ∙ list_any_at is_other note.cells cell Untouched short yes')))
          (λ no'. no')
          (cases_Bool (is_other (touch_at note cell)))

-- which cells were stored to, after one more was
stored_by : (b : Bool) → is_stored (cond b Same Other) ≡ true
stored_by true = refl
stored_by false = refl

pub touched_self : (e : TokenEntry) (cell : ℕ) → list_any (λ c. eqb c cell) (touching e cell) ≡ true
touched_self e cell = go (is_touched e cell) refl
  where
    go : (b : Bool) → is_touched e cell ≡ b → list_any (λ c. eqb c cell) (cond b e.touched (cell ∷ e.touched)) ≡ true
    go true is = is
    go false is = list_any_at (λ c. eqb c cell) (cell ∷ e.touched) 0 0 (omega arith) (eq-eqb cell cell refl)

pub touched_other : (e : TokenEntry) (cell k : ℕ) → k ≢ cell → list_any (λ c. eqb c k) (touching e cell) ≡ is_touched e k
touched_other e cell k away = go (is_touched e cell)
  where
    go : (b : Bool) → list_any (λ c. eqb c k) (cond b e.touched (cell ∷ e.touched)) ≡ is_touched e k
    go true = refl
    go false =
        let P : ℕ → Bool = λ c. eqb c k in
        let apart : P cell ≡ false = ne_eqb cell k (λ same. away (sym same)) in
        let none : list_any P (cell ∷ []) ≡ false = list_any_none P (cell ∷ []) (All-cons (λ c. P c ≡ false) cell [] apart (All-nil (λ c. P c ≡ false))) in
        list_any-append P (cell ∷ []) e.touched ∙ ap (λ (b : Bool). b || list_any P e.touched) none

-- a cell that was stored to, and the others
module _ (plan : Plan) (cpu : ℕ) (e : TokenEntry) (note : TokenNote) (noted' : IsNoted plan cpu e note) (is : is_exclusive e.held ≡ true) (within : plan.cells ≤ 4) (cell : ℕ) (change : Change) (inside : cell < plan.cells) (first_is : change.first ≡ slice_index e.first cell) where
  abbrev row : List ℕ
  row = slice_set e.row cell change.last

  touch_here : touch_at (note_changed note cell change) cell ≡ touch_of change
  touch_here = let f = noted'.four in get_or-set_same note.cells cell (touch_of change) Untouched (omega arith)

  first_here : slice_index (note_changed note cell change).first cell ≡ change.first
  first_here = let f = noted'.firsts in get_or-set_same note.first cell change.first 0 (omega arith)

  row_here : slice_index row cell ≡ change.last
  row_here = let l = (noted'.long (exclusive_held e.held is)).1 in get_or-set_same e.row cell change.last 0 (omega arith)

  made : (b : Bool) → eqb change.first change.last ≡ b → IsTouched (cond b Same Other) change.first (slice_index e.first cell) change.last
  made true test = record { first_kept = λ s. first_is; same = λ s. sym (eqb-true change.first change.last test) ∙ first_is; other = λ o. absurd (false≢true o) }
  made false test = record { first_kept = λ s. first_is; same = λ s. absurd (false≢true (sym s)); other = λ o same. eqb-false change.first change.last test (first_is ∙ sym same) }

  touched_here : IsTouched (touch_at (note_changed note cell change) cell) (slice_index (note_changed note cell change).first cell) (slice_index e.first cell) (slice_index row cell)
  touched_here =
      let F : Touch → ℕ → ℕ → Type 0 = λ t kept value. IsTouched t kept (slice_index e.first cell) value in
      subst (λ (t : Touch). F t (slice_index (note_changed note cell change).first cell) (slice_index row cell)) (sym touch_here)
      (subst (λ (kept : ℕ). F (touch_of change) kept (slice_index row cell)) (sym first_here)
      (subst (λ (value : ℕ). F (touch_of change) change.first value) (sym row_here) (made (eqb change.first change.last) refl)))

  touched_else : (k : ℕ) → k ≢ cell → IsTouched (touch_at (note_changed note cell change) k) (slice_index (note_changed note cell change).first k) (slice_index e.first k) (slice_index row k)
  touched_else k away =
      let F : Touch → ℕ → ℕ → Type 0 = λ t kept value. IsTouched t kept (slice_index e.first k) value in
      subst (λ (t : Touch). F t (slice_index (note_changed note cell change).first k) (slice_index row k)) (sym (get_or-set_other note.cells cell k (touch_of change) Untouched away))
      (subst (λ (kept : ℕ). F (touch_at note k) kept (slice_index row k)) (sym (get_or-set_other note.first cell k change.first 0 away))
      (subst (λ (value : ℕ). F (touch_at note k) (slice_index note.first k) value) (sym (get_or-set_other e.row cell k change.last 0 away)) (noted'.touched k is)))

  pub touched_there : (k : ℕ) → IsTouched (touch_at (note_changed note cell change) k) (slice_index (note_changed note cell change).first k) (slice_index e.first k) (slice_index row k)
  touched_there k = ⊎_elim
      (λ (same : k ≡ cell).
      let F : ℕ → Type 0 = λ j. IsTouched (touch_at (note_changed note cell change) j) (slice_index (note_changed note cell change).first j) (slice_index e.first j) (slice_index row j) in
      subst F (sym same) touched_here)
      (λ away. touched_else k away)
      (cases_eq k cell)

  -- a cell that was stored to is touched, and no other is from now on
  stored_there : (k : ℕ) → k < plan.cells → is_stored (touch_at (note_changed note cell change) k) ≡ is_touched (stored e cell change.last) k
  stored_there k there = ⊎_elim
      (λ (same : k ≡ cell).
      let F : ℕ → Type 0 = λ j. is_stored (touch_at (note_changed note cell change) j) ≡ is_touched (stored e cell change.last) j in
      subst F (sym same) (ap is_stored touch_here ∙ stored_by (eqb change.first change.last) ∙ sym (touched_self e cell)))
      (λ away.
      ap is_stored (get_or-set_other note.cells cell k (touch_of change) Untouched away) ∙ noted'.stored_to k there is ∙ sym (touched_other e cell k away))
      (cases_eq k cell)

  -- the value of each cell that was stored to
  pub last_there : (k : ℕ) → is_stored (touch_at (note_changed note cell change) k) ≡ true → slice_index (note_changed note cell change).last k ≡ slice_index row k
  last_there k stored_to = ⊎_elim
      (λ (same : k ≡ cell).
      let l = noted'.lasts in
      let F : ℕ → Type 0 = λ j. slice_index (note_changed note cell change).last j ≡ slice_index row j in
      subst F (sym same) (get_or-set_same note.last cell change.last 0 (omega arith) ∙ sym row_here))
      (λ away.
      get_or-set_other note.last cell k change.last 0 away
      ∙ noted'.latest k is (ap is_stored (sym (get_or-set_other note.cells cell k (touch_of change) Untouched away)) ∙ stored_to)
      ∙ sym (get_or-set_other e.row cell k change.last 0 away))
      (cases_eq k cell)

  pub IsNoted-stored : plan.law ≢ Tally → IsNoted plan cpu (stored e cell change.last) (note_changed note cell change)
  IsNoted-stored untallied = record {
    record_touched = noted'.record_touched;
    guarded = noted'.guarded;
    short = noted'.short;
    four = length-set note.cells cell (touch_of change) ∙ noted'.four;
    firsts = length-set note.first cell change.first ∙ noted'.firsts;
    tally = noted'.tally;
    own = noted'.own;
    long = λ h. let l = noted'.long h in (l.0, length-set e.row cell change.last ∙ l.1);
    references = noted'.references;
    few = noted'.few;
    mode = noted'.mode;
    touched = λ k h. touched_there k;
    stored_to = λ k there h. stored_there k there;
    lasts = length-set note.last cell change.last ∙ noted'.lasts;
    latest = λ k h stored_to. last_there k stored_to;
    covered = λ tally h stored_to. absurd (untallied tally);
  }

-- a Tally token's cell that was raised
pub IsNoted-raised : (plan : Plan) (cpu : CpuId) (e : TokenEntry) (note : TokenNote) (noted' : IsNoted plan cpu.0 e note) → is_exclusive e.held ≡ true → plan.cells ≤ 4 → (change : Change) (k : ℕ) → 0 < plan.cells → change.first ≡ slice_index e.first 0 → change.last ≡ slice_index e.row 0 + k → amount cpu.0 e.added ≤ slice_index e.row 0
    → IsNoted plan cpu.0 (raised e cpu k) (record (note_changed note 0 change) { tally = note.tally + k })
IsNoted-raised plan cpu e note noted' is within change k inside first_is last_is under =
    let own_sum = sum_by-cons (λ (x : Added). cond (eqb x.cpu.0 cpu.0) x.amount 0) (record { cpu = cpu; amount = k }) e.added in
    let test = ap (λ b. cond b k 0) (eq-eqb cpu.0 cpu.0 refl) in
    let before = noted'.tally in
    record {
      record_touched = noted'.record_touched;
      guarded = noted'.guarded;
      short = noted'.short;
      four = length-set note.cells 0 (touch_of change) ∙ noted'.four;
      firsts = length-set note.first 0 change.first ∙ noted'.firsts;
      tally = omega arith;
      own = λ other away.
          let sum = sum_by-cons (λ (x : Added). cond (eqb x.cpu.0 other) x.amount 0) (record { cpu = cpu; amount = k }) e.added in
          let none = ap (λ b. cond b k 0) (ne_eqb cpu.0 other (λ same. away (sym same))) in
          let rest = noted'.own other away in
          omega arith;
      long = λ h. let l = noted'.long h in (l.0, length-set e.row 0 (slice_index e.row 0 + k) ∙ l.1);
      references = noted'.references;
      few = noted'.few;
      mode = noted'.mode;
      stored_to = λ j there h. stored_there plan cpu.0 e note noted' is within 0 change inside first_is j there;
      lasts = length-set note.last 0 change.last ∙ noted'.lasts;
      latest = λ j h stored_to.
          let F : ℕ → Type 0 = λ last. slice_index (note_changed note 0 change).last j ≡ slice_index (slice_set e.row 0 last) j in
          subst F last_is (last_there plan cpu.0 e note noted' is within 0 change inside first_is j stored_to);
      covered = λ tally h stored_to.
          let l = (noted'.long (exclusive_held e.held is)).1 in
          let low : 0 < length e.row = omega arith in
          let grown = get_or-set_same e.row 0 (slice_index e.row 0 + k) 0 low in
          omega arith;
      touched = λ j h.
          let F : ℕ → Type 0 = λ last. IsTouched (touch_at (note_changed note 0 change) j) (slice_index (note_changed note 0 change).first j) (slice_index e.first j) (slice_index (slice_set e.row 0 last) j) in
          subst F last_is (touched_there plan cpu.0 e note noted' is within 0 change inside first_is j);
    }

-- a note that was written before an exchange that lost, and taken back
pub IsNoted-missed : (plan : Plan) (cpu : ℕ) (e : TokenEntry) (mode : Mode) (note : TokenNote) → e.held ≡ Nothing → IsNoted plan cpu e note → IsNoted plan cpu e (record (begun note mode) { references = 0 })
IsNoted-missed plan cpu e mode note held noted' = record {
  record_touched = λ is. absurd (false≢true (sym (ap is_exclusive held) ∙ is));
  guarded = λ is. absurd (false≢true (sym (ap is_held held) ∙ is));
  short = λ is. absurd (false≢true (sym (ap is_held held) ∙ is));
  four = refl;
  firsts = noted'.firsts;
  tally = noted'.tally;
  own = noted'.own;
  long = λ is. absurd (false≢true (sym (ap is_held held) ∙ is));
  references = sym (ap references_in held);
  few = omega arith;
  mode = λ is. absurd (false≢true (sym (ap is_held held) ∙ is));
  touched = λ cell is. absurd (false≢true (sym (ap is_exclusive held) ∙ is));
  stored_to = λ cell inside is. absurd (false≢true (sym (ap is_exclusive held) ∙ is));
  lasts = noted'.lasts;
  latest = λ cell is stored_to. absurd (false≢true (sym (ap is_exclusive held) ∙ is));
  covered = λ tally is stored_to. absurd (false≢true (sym (ap is_exclusive held) ∙ is));
}

-- the first record that is kept, at a write over this one
kept_first : (kept : List ℕ) (touch : Touch) (old : List ℕ) (first value : RecordOf) → IsRecordTouched touch kept first value → value ≡ Some old → first ≡ Some (cond (is_stored touch) kept old)
kept_first kept Untouched old first value known value_is = sym (known.same refl) ∙ value_is
kept_first kept Same old first value known value_is = known.first_kept refl
kept_first kept Other old first value known value_is = known.first_kept refl

-- a record that was written
pub IsNoted-wrote : (plan : Plan) (cpu : ℕ) (e : TokenEntry) (note : TokenNote) (old new : List ℕ) (touch : Touch) → IsNoted plan cpu e note → is_exclusive e.held ≡ true → e.blob ≡ Some old → IsTouchOf touch (first_record note old) new → IsNoted plan cpu (wrote_record e new) (note_wrote note (first_record note old) touch)
IsNoted-wrote plan cpu e note old new touch noted' held blob_is apart =
    let first : e.first_blob ≡ Some (first_record note old) = kept_first note.first_blob note.record_ old e.first_blob e.blob (noted'.record_touched held) blob_is in
    record {
      four = noted'.four;
      firsts = noted'.firsts;
      lasts = noted'.lasts;
      tally = noted'.tally;
      own = noted'.own;
      long = noted'.long;
      references = noted'.references;
      few = noted'.few;
      mode = noted'.mode;
      touched = noted'.touched;
      stored_to = noted'.stored_to;
      latest = noted'.latest;
      covered = noted'.covered;
      record_touched = λ is. record {
        first_kept = λ s. first;
        same = λ s. ap (λ (x : List ℕ). Some x) (apart.same s) ∙ sym first;
        other = λ o is_first. apart.other o (one_record new (first_record note old) (is_first ∙ first));
      };
      guarded = λ is. let g = noted'.guarded is in (sym (ap is_some blob_is) ∙ g.0, g.1);
      short = noted'.short;
    }
  where
    one_record : (xs ys : List ℕ) → Some xs ≡ Some ys → xs ≡ ys
    one_record xs ys is = cc

-- where the record is another, and where it isn't
pub record_written : (plan : Plan) (cpu : ℕ) (e : TokenEntry) (note : TokenNote) → IsNoted plan cpu e note → is_exclusive e.held ≡ true → is_other note.record_ ≡ true → e.blob ≢ e.first_blob
record_written plan cpu e note noted' held is = (noted'.record_touched held).other is

pub record_clean : (plan : Plan) (cpu : ℕ) (e : TokenEntry) (note : TokenNote) → IsNoted plan cpu e note → is_exclusive e.held ≡ true → is_other note.record_ ≡ false → e.blob ≡ e.first_blob
record_clean plan cpu e note noted' held is = (noted'.record_touched held).same is
