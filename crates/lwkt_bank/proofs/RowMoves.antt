use Rattle.std.proofs.Common.{Bool, true, false, cond, ◌++◌, ⊎_elim, ◌≡◌, ℕ, suc, ◌+◌, ◌<◌, ◌≤◌, true, List, [], ◌∷◌, length, set, get_or, Option, Some, None, refl, ap, sym, ◌∙◌, subst, arith, length-set, get_or-set_same, get_or-set_other}
use Rattle.std.specs.Prelude.{slice_index, slice_get, MatchOption, is_some}
use Rattle.lwkt_base.specs.declared.laws.Law.{Law}
use Rattle.lwkt_base.specs.declared.laws.Law.TheVariants.{Any, Sum, Order, Cap, Tally, Len}
use Rattle.lwkt_base.specs.Law.{Obeys}
use Rattle.lwkt_bank.specs.Views.{RecordOf}
use Rattle.std.proofs.lemmas.Bool.{cases_eq, cases_lt, false≢true}
use Rattle.std.proofs.lemmas.List.{set-get_or, ext_get_or}
use Rattle.std.proofs.lemmas.Option.{get_or_from_slice_get, slice_get-get_or}
use Rattle.lwkt_base.specs.Holding.{is_held}
use Rattle.lwkt_bank.specs.declared.views.TokenEntry.{TokenEntry}
use Rattle.lwkt_bank.specs.declared.seats.CpuSeat.{CpuSeat}
use Rattle.lwkt_base.specs.declared.names.CpuId.{CpuId}
use Rattle.lwkt_table.specs.declared.seats.Deed.{Deed}
use Rattle.lwkt_table.specs.History.{Grows}
use Rattle.lwkt_bank.specs.Views.{is_touched, touching, stored}
use Rattle.lwkt_bank.specs.Deeds.{writes, writes_all, writes_blob_if}
use Rattle.lwkt_bank.specs.Rule.{plan_at}
use Rattle.lwkt_bank.specs.Seats.{entry, past_of, holding, Changes, IsUnchanged, RowRestored, Restored, PutsFirst, asked_record, written_over}
use Rattle.lwkt_bank.proofs.ChangeMoves.{changed_twice, written_more}
use Rattle.lwkt_bank.proofs.CellMoves.{writes_more}

-- stores change no row's length
length-written_over : (made : List (Option ℕ)) (i : ℕ) (row : List ℕ) → length (written_over i made row) ≡ length row
length-written_over [] i row = refl
length-written_over (None ∷ made) i row = length-written_over made (suc i) row
length-written_over (Some x ∷ made) i row = length-written_over made (suc i) (set row i x) ∙ length-set row i x

-- a restore that has come to this cell
pub record Restoring (s l : CpuSeat) (tok : ℕ) (made : List (Option ℕ)) (cell : ℕ) : Type 0 where
  pub four : length made ≡ 4
  pub later : (k : ℕ) → cell ≤ k → get_or made k None ≡ None
  pub changes : Changes s l tok (record (entry s tok) { row = written_over 0 made (entry s tok).row }) (writes_all s.cpu tok 0 made)
  pub done : (k : ℕ) → k < cell → slice_index (written_over 0 made (entry s tok).row) k ≡ slice_index (entry s tok).first k
  pub shown : (k : ℕ) → k < cell → get_or made k None ≡ cond (is_touched (entry s tok) k) (Some (slice_index (entry s tok).first k)) None

-- what is said of one cell
abbrev pub Restores : CpuSeat → CpuSeat → ℕ → ℕ → Option ℕ → Type 0
Restores mid s' tok cell o = MatchOption o (IsUnchanged mid s' × (is_touched (entry mid tok) cell ≡ false) × (slice_index (entry mid tok).row cell ≡ slice_index (entry mid tok).first cell))
    (λ value. (is_touched (entry mid tok) cell ≡ true) × (value ≡ slice_index (entry mid tok).first cell) × Changes mid s' tok (stored (entry mid tok) cell value) (writes mid.cpu tok cell value ∷ []))

-- one cell more
pub restoring_more : (s mid s' : CpuSeat) (tok : ℕ) (made : List (Option ℕ)) (cell : ℕ) (o : Option ℕ) → Restoring s mid tok made cell → cell < 4 → cell < length (entry s tok).row → Restores mid s' tok cell o → Restoring s s' tok (set made cell o) (cell + 1)
restoring_more s mid s' tok made cell None so_far low inside made_so =
    let e = entry s tok in
    let same : set made cell None ≡ made = ap (set made cell) (sym (so_far.later cell (omega arith))) ∙ set-get_or made cell None in
    let F : List (Option ℕ) → Type 0 = λ m. Restoring s s' tok m (cell + 1) in
    let untouched : is_touched e cell ≡ false = sym (ap (λ (d : TokenEntry). is_touched d cell) so_far.changes.here) ∙ made_so.1 in
    let G : List Deed → Type 0 = λ past. Grows s.cpu.0 (past_of s) (writes_all s.cpu tok 0 made) past in
    subst F (sym same) (record {
      four = so_far.four;
      later = λ k h. so_far.later k (omega arith);
      changes = record {
        bank = made_so.0.bank ∙ so_far.changes.bank;
        cpu = made_so.0.cpu ∙ so_far.changes.cpu;
        here = made_so.0.entries tok ∙ so_far.changes.here;
        else_ = λ other away. made_so.0.entries other ∙ so_far.changes.else_ other away;
        grows = subst G (sym made_so.0.past) so_far.changes.grows;
        own = so_far.changes.own;
      };
      done = λ k h. ⊎_elim
          (λ (now : k ≡ cell).
          let R = written_over 0 made e.row in
          let P : ℕ → Type 0 = λ j. slice_index R j ≡ slice_index e.first j in
          subst P (sym now) (sym (ap (λ (d : TokenEntry). slice_index d.row cell) so_far.changes.here) ∙ made_so.2 ∙ ap (λ (d : TokenEntry). slice_index d.first cell) so_far.changes.here))
          (λ before. so_far.done k (omega arith))
          (cases_eq k cell);
      shown = λ k h. ⊎_elim
          (λ (now : k ≡ cell).
          let P : ℕ → Type 0 = λ j. get_or made j None ≡ cond (is_touched e j) (Some (slice_index e.first j)) None in
          subst P (sym now) (so_far.later cell (omega arith) ∙ sym (ap (λ (b : Bool). cond b (Some (slice_index e.first cell)) None) untouched)))
          (λ before. so_far.shown k (omega arith))
          (cases_eq k cell);
    })
restoring_more s mid s' tok made cell (Some value) so_far low inside made_so =
    let e = entry s tok in
    let R = written_over 0 made e.row in
    let f = so_far.four in
    let grown : written_over 0 (set made cell (Some value)) e.row ≡ set R cell value = written_more made 0 cell value e.row (omega arith) so_far.later ∙ ap (λ (j : ℕ). set R j value) (omega arith) in
    let first_is : value ≡ slice_index e.first cell = made_so.1 ∙ ap (λ (d : TokenEntry). slice_index d.first cell) so_far.changes.here in
    let touched : is_touched e cell ≡ true = sym (ap (λ (d : TokenEntry). is_touched d cell) so_far.changes.here) ∙ made_so.0 in
    let kept : touching e cell ≡ e.touched = ap (λ (b : Bool). cond b e.touched (cell ∷ e.touched)) touched in
    let room : cell < length R = (let l = length-written_over made 0 e.row in omega arith) in
    let K : CpuId → Type 0 = λ c. Changes mid s' tok (stored (entry mid tok) cell value) (writes c tok cell value ∷ []) in
    let both = changed_twice s mid s' tok (record e { row = R }) (stored (entry mid tok) cell value) (writes_all s.cpu tok 0 made) (writes s.cpu tok cell value ∷ []) so_far.changes (subst K so_far.changes.cpu made_so.2) in
    let deeds : writes_all s.cpu tok 0 made ++ writes s.cpu tok cell value ∷ [] ≡ writes_all s.cpu tok 0 (set made cell (Some value))
    = ap (λ (j : ℕ). writes_all s.cpu tok 0 made ++ writes s.cpu tok j value ∷ []) (omega arith) ∙ sym (writes_more made 0 cell value s.cpu tok (omega arith) so_far.later) in
    let G : TokenEntry → List Deed → Type 0 = λ d ds. Changes s s' tok d ds in
    let entry_is : stored (entry mid tok) cell value ≡ record e { row = written_over 0 (set made cell (Some value)) e.row }
    = ap (λ (d : TokenEntry). stored d cell value) so_far.changes.here ∙ ap (λ (ts : List ℕ). record e { row = set R cell value; touched = ts }) kept ∙ ap (λ (r : List ℕ). record e { row = r }) (sym grown) in
    record {
      four = length-set made cell (Some value) ∙ so_far.four;
      later = λ k h. get_or-set_other made cell k (Some value) None (λ same. absurd (omega arith)) ∙ so_far.later k (omega arith);
      changes = subst (λ (ds : List Deed). G (record e { row = written_over 0 (set made cell (Some value)) e.row }) ds) deeds (subst (λ (d : TokenEntry). G d (writes_all s.cpu tok 0 made ++ writes s.cpu tok cell value ∷ [])) entry_is both);
      done = λ k h. ap (λ (r : List ℕ). slice_index r k) grown ∙ ⊎_elim
          (λ (now : k ≡ cell).
          let P : ℕ → Type 0 = λ j. slice_index (set R cell value) j ≡ slice_index e.first j in
          subst P (sym now) (get_or-set_same R cell value 0 room ∙ first_is))
          (λ before. get_or-set_other R cell k value 0 before ∙ so_far.done k (omega arith))
          (cases_eq k cell);
      shown = λ k h. ⊎_elim
          (λ (now : k ≡ cell).
          let P : ℕ → Type 0 = λ j. get_or (set made cell (Some value)) j None ≡ cond (is_touched e j) (Some (slice_index e.first j)) None in
          subst P (sym now) (get_or-set_same made cell (Some value) None (omega arith) ∙ ap (λ (x : ℕ). Some x) first_is ∙ sym (ap (λ (b : Bool). cond b (Some (slice_index e.first cell)) None) touched)))
          (λ before. get_or-set_other made cell k (Some value) None before ∙ so_far.shown k (omega arith))
          (cases_eq k cell);
    }

-- what is shown of a cell that was stored, and of one that was stored to
shown_stored : (b : Bool) (first value : ℕ) → cond b (Some first) None ≡ Some value → (b ≡ true) × (value ≡ first)
shown_stored true first value is = (refl, let h : Some first ≡ Some value = is in let same : first ≡ value = cc in sym same)
shown_stored false first value is = absurd (let h : None ≡ Some value = is in cc)

-- the whole row is restored once each cell is
pub restored_all : (s l : CpuSeat) (tok : ℕ) (made : List (Option ℕ)) (cell : ℕ) → Restoring s l tok made cell → tok < length s.seat.me.0.plans → is_held (holding s tok) ≡ true → cell ≤ 4 → cell ≡ (plan_at s.seat.me.0.plans tok).cells → RowRestored s l tok made
restored_all s l tok made cell so_far there held short end =
    let e = entry s tok in
    let R = written_over 0 made e.row in
    let long = (s.kept.each tok there).long held in
    let first_long = long.0 in
    let row_long = long.1 in
    let r_long = length-written_over made 0 e.row in
    let whole : R ≡ e.first = ext_get_or 0 R e.first (omega arith) (λ k h. so_far.done k (omega arith)) in
    let G : List ℕ → Type 0 = λ r. Changes s l tok (record e { row = r }) (writes_all s.cpu tok 0 made) in
    record {
      changes = subst G whole so_far.changes;
      writes = whole;
      inside = λ k value at. let h = inside k value at in omega arith;
      touched = λ k value at. shown_stored (is_touched e k) (slice_index e.first k) value (sym (so_far.shown k (inside k value at)) ∙ get_or_from_slice_get made k (Some value) None at);
      each = λ k low touched.
          let four = so_far.four in
          slice_get-get_or made k None (omega arith) ∙ ap (λ (o : Option ℕ). Some o) (so_far.shown k (omega arith) ∙ ap (λ (b : Bool). cond b (Some (slice_index e.first k)) None) touched);
    }
  where
    inside : (k value : ℕ) → slice_get made k ≡ Some (Some value) → k < cell
    inside k value at = ⊎_elim
        (λ (low : k < cell). low)
        (λ (high : cell ≤ k). absurd (let h : Some value ≡ None = sym (get_or_from_slice_get made k (Some value) None at) ∙ so_far.later k high in cc))
        (cases_lt k cell)

-- the first record is put back by entries that say the same of it
puts_same : (d e : TokenEntry) (bytes : RecordOf) → d.blob ≡ e.blob → d.first_blob ≡ e.first_blob → PutsFirst d bytes → PutsFirst e bytes
puts_same d e None blob first puts = sym blob ∙ puts ∙ first
puts_same d e (Some bytes) blob first puts = ((λ same. puts.0 (blob ∙ same ∙ sym first)), sym first ∙ puts.1)

-- a restore: the row, and then the record
pub restored_both : (s mid s' : CpuSeat) (tok : ℕ) (made : List (Option ℕ)) (bytes : RecordOf) → RowRestored s mid tok made → PutsFirst (entry mid tok) bytes → Changes mid s' tok (record (entry mid tok) { blob = (entry mid tok).first_blob }) (writes_blob_if mid.cpu tok bytes) → Restored s s' tok made bytes
restored_both s mid s' tok made bytes row puts changes =
    let e = entry s tok in
    let m = entry mid tok in
    let F : TokenEntry → Type 0 = λ d. PutsFirst d bytes in
    let K : CpuId → Type 0 = λ c. Changes mid s' tok (record m { blob = m.first_blob }) (writes_blob_if c tok bytes) in
    let G : TokenEntry → Type 0 = λ d. Changes s s' tok (record d { blob = d.first_blob }) (writes_all s.cpu tok 0 made ++ writes_blob_if s.cpu tok bytes) in
    record {
      changes = subst G row.changes.here (changed_twice s mid s' tok (record e { row = e.first }) (record m { blob = m.first_blob }) (writes_all s.cpu tok 0 made) (writes_blob_if s.cpu tok bytes) row.changes (subst K row.changes.cpu changes));
      puts = puts_same (record e { row = e.first }) e bytes refl refl (subst F row.changes.here puts);
      writes = row.writes;
      inside = row.inside;
      touched = row.touched;
      each = row.each;
    }

-- only the law on lengths asks for one
pub obeys_len : (law : Law) (param : ℕ) (row : List ℕ) (one other : Option ℕ) → (law ≡ Len → one ≡ other) → Obeys law param row one → Obeys law param row other
obeys_len Any param row one other same is = is
obeys_len Sum param row one other same is = is
obeys_len Order param row one other same is = is
obeys_len Cap param row one other same is = is
obeys_len Tally param row one other same is = is
obeys_len Len param row one other same is = let F : Option ℕ → Type 0 = λ o. Obeys Len param row o in subst F (same refl) is

-- and the record isn't read for another law, nor where there is none
pub asked_none : (law : Law) (cpu : CpuId) (tok : ℕ) (blob : RecordOf) → (law ≡ Len → blob ≡ None) → asked_record law cpu tok blob ≡ []
asked_none Any cpu tok blob none = refl
asked_none Sum cpu tok blob none = refl
asked_none Order cpu tok blob none = refl
asked_none Cap cpu tok blob none = refl
asked_none Tally cpu tok blob none = refl
asked_none Len cpu tok None none = refl
asked_none Len cpu tok (Some bytes) none = absurd (let h : Some bytes ≡ None = none refl in cc)

pub none_of : (blob : RecordOf) → is_some blob ≡ false → blob ≡ None
none_of None is = refl
none_of (Some bytes) is = absurd (false≢true (sym is))
