use Rattle.std.proofs.Common.{Bool, true, false, cond, ◌≡◌, ℕ, zero, suc, ◌+◌, ◌<◌, ◌≤◌, List, [], ◌∷◌, ◌++◌, length, take, set, get_or, Option, Some, None, refl, ap, sym, ◌∙◌, subst, arith, length-take}
use Rattle.std.specs.Prelude.{slice_index}
use Rattle.lwkt_base.specs.declared.names.CpuId.{CpuId}
use Rattle.lwkt_base.specs.declared.sections.Section.{Section}
use Rattle.lwkt_table.specs.declared.seats.Deed.{Deed}
use Rattle.lwkt_bank.specs.declared.seats.CpuSeat.{CpuSeat}
use Rattle.lwkt_bank.specs.declared.views.TokenEntry.{TokenEntry}
use Rattle.lwkt_bank.specs.Views.{is_touched, read, stored, raised, ended, ended_section}
use Rattle.lwkt_bank.specs.Deeds.{reads, writes, reads_all, writes_all, gives_written}
use Rattle.lwkt_bank.specs.Seats.{bank_of, plan_of, entry, Changes, Knowing, Stepped, first_load, last_loads, SectionEnded}
use Rattle.lwkt_bank.proofs.ChangeMoves.{changed_twice, knowing_none, knowing_read, knowing_then, knowing_more, knowing_both}

-- the first value of a cell is kept, and nothing is loaded
pub first_known : (s : CpuSeat) (tok cell : ℕ) → is_touched (entry s tok) cell ≡ true → Knowing s s tok (entry s tok) (first_load s.cpu tok (entry s tok) cell)
first_known s tok cell touched =
    let F : List Deed → Type 0 = λ deeds. Knowing s s tok (entry s tok) deeds in
    subst F (sym (ap (λ (b : Bool). cond b [] (reads s.cpu tok cell (slice_index (entry s tok).first cell) ∷ [])) touched)) (knowing_none s tok)

-- or it is loaded
pub first_loaded : (s s' : CpuSeat) (tok cell value : ℕ) → is_touched (entry s tok) cell ≡ false → value ≡ slice_index (entry s tok).first cell → Changes s s' tok (read (entry s tok) cell) (reads s.cpu tok cell value ∷ []) → Knowing s s' tok (entry s tok) (first_load s.cpu tok (entry s tok) cell)
first_loaded s s' tok cell value untouched is changes =
    let F : List Deed → Type 0 = λ deeds. Knowing s s' tok (entry s tok) deeds in
    let deeds : reads s.cpu tok cell value ∷ [] ≡ first_load s.cpu tok (entry s tok) cell
    = ap (λ (x : ℕ). reads s.cpu tok cell x ∷ []) is ∙ sym (ap (λ (b : Bool). cond b [] (reads s.cpu tok cell (slice_index (entry s tok).first cell) ∷ [])) untouched) in
    subst F deeds (knowing_read s s' tok cell (reads s.cpu tok cell value ∷ []) changes)

-- a store after the load of the first value
pub stored_after : (s mid s' : CpuSeat) (tok cell value : ℕ) (deeds : List Deed) → Knowing s mid tok (entry s tok) deeds → Changes mid s' tok (stored (entry mid tok) cell value) (writes mid.cpu tok cell value ∷ []) → Knowing s s' tok (stored (entry s tok) cell value) (deeds ++ writes s.cpu tok cell value ∷ [])
stored_after s mid s' tok cell value deeds first second =
    let F : CpuId → Type 0 = λ c. Changes mid s' tok (stored (entry mid tok) cell value) (writes c tok cell value ∷ []) in
    knowing_then s mid s' tok (λ e. stored e cell value) deeds (writes s.cpu tok cell value ∷ []) (λ e known. refl) refl first (subst F first.changes.cpu second)

-- the cell of a Tally token raised after its value is known
pub raised_after : (s mid s' : CpuSeat) (tok k sum : ℕ) (deeds : List Deed) → sum ≡ slice_index (entry s tok).row 0 + k → Knowing s mid tok (entry s tok) deeds → Changes mid s' tok (raised (entry mid tok) mid.cpu k) (writes mid.cpu tok 0 sum ∷ [])
    → Knowing s s' tok (raised (entry s tok) s.cpu k) (deeds ++ writes s.cpu tok 0 (slice_index (entry s tok).row 0 + k) ∷ [])
raised_after s mid s' tok k sum deeds sum_is first second =
    let F : CpuId → Type 0 = λ c. Changes mid s' tok (raised (entry mid tok) c k) (writes c tok 0 sum ∷ []) in
    let H : ℕ → Type 0 = λ x. Knowing s s' tok (raised (entry s tok) s.cpu k) (deeds ++ writes s.cpu tok 0 x ∷ []) in
    subst H sum_is (knowing_then s mid s' tok (λ e. raised e s.cpu k) deeds (writes s.cpu tok 0 sum ∷ []) (λ e known. refl) refl first (subst F first.changes.cpu second))

-- one cell more of a row
take_more : (xs : List ℕ) (i : ℕ) → i < length xs → take (i + 1) xs ≡ take i xs ++ slice_index xs i ∷ []
take_more [] i low = absurd (omega arith)
take_more (x ∷ xs) zero low = refl
take_more (x ∷ xs) (suc i) low = ap (λ (n : ℕ). take n (x ∷ xs)) (let e : suc i + 1 ≡ suc (i + 1) = omega arith in e) ∙ ap (λ (ys : List ℕ). x ∷ ys) (take_more xs i (omega arith))

reads_snoc : (cpu : CpuId) (tok i j x : ℕ) (xs : List ℕ) → j ≡ i + length xs → reads_all cpu tok i (xs ++ x ∷ []) ≡ reads_all cpu tok i xs ++ reads cpu tok j x ∷ []
reads_snoc cpu tok i j x [] is = ap (λ (k : ℕ). reads cpu tok k x ∷ []) (omega arith)
reads_snoc cpu tok i j x (y ∷ xs) is = ap (λ (ds : List Deed). reads cpu tok i y ∷ ds) (reads_snoc cpu tok (suc i) j x xs (omega arith))

-- one cell more of a row that is loaded
pub row_more : (s mid s' : CpuSeat) (tok cell value : ℕ) → cell < length (entry s tok).row → value ≡ slice_index (entry s tok).row cell → Knowing s mid tok (entry s tok) (reads_all s.cpu tok 0 (take cell (entry s tok).row)) → Changes mid s' tok (read (entry mid tok) cell) (reads mid.cpu tok cell value ∷ [])
    → Knowing s s' tok (entry s tok) (reads_all s.cpu tok 0 (take (cell + 1) (entry s tok).row))
row_more s mid s' tok cell value low is first second =
    let row = (entry s tok).row in
    let F : CpuId → Type 0 = λ c. Changes mid s' tok (read (entry mid tok) cell) (reads c tok cell value ∷ []) in
    let G : List Deed → Type 0 = λ ds. Knowing s s' tok (entry s tok) ds in
    let n = length-take cell row in
    let deeds : reads_all s.cpu tok 0 (take cell row) ++ reads s.cpu tok cell value ∷ [] ≡ reads_all s.cpu tok 0 (take (cell + 1) row)
    = ap (λ (x : ℕ). reads_all s.cpu tok 0 (take cell row) ++ reads s.cpu tok cell x ∷ []) is
    ∙ sym (reads_snoc s.cpu tok 0 cell (slice_index row cell) (take cell row) (omega arith))
    ∙ ap (λ (xs : List ℕ). reads_all s.cpu tok 0 xs) (sym (take_more row cell low)) in
    subst G deeds (knowing_more s mid s' tok cell (reads_all s.cpu tok 0 (take cell row)) (reads s.cpu tok cell value ∷ []) first (subst F first.changes.cpu second))

-- one cell more at the end of a written section
pub loads_more : (s mid s' : CpuSeat) (tok cell : ℕ) → Knowing s mid tok (entry s tok) (last_loads s.cpu tok (entry s tok) cell) → Knowing mid s' tok (entry mid tok) (first_load mid.cpu tok (entry mid tok) cell) → Knowing s s' tok (entry s tok) (last_loads s.cpu tok (entry s tok) (cell + 1))
loads_more s mid s' tok cell first second =
    let F : CpuId → TokenEntry → Type 0 = λ c e. Knowing mid s' tok (entry mid tok) (first_load c tok e cell) in
    let loaded = subst (λ (e : TokenEntry). F s.cpu e) first.changes.here (subst (λ (c : CpuId). F c (entry mid tok)) first.changes.cpu second) in
    let G : ℕ → Type 0 = λ n. Knowing s s' tok (entry s tok) (last_loads s.cpu tok (entry s tok) n) in
    let one : suc cell ≡ cell + 1 = omega arith in
    subst G one (knowing_both s mid s' tok (last_loads s.cpu tok (entry s tok) cell) (first_load s.cpu tok (entry s tok) cell) first loaded)

-- a section by its parts
pub section_by_parts : (tok : ℕ) (e : TokenEntry) (section : Section) → section.before ≡ e.first → section.after ≡ e.row → section.generation ≡ e.generation → section.tok.0 ≡ tok → section ≡ ended_section tok e
section_by_parts tok e section before after generation is = λ i. record { before = before i; after = after i; generation = generation i; tok = record { 0 = is i } }

-- the end of a written section after its loads
pub section_ended : (s mid s' : CpuSeat) (tok : ℕ) (section : Section) → section ≡ ended_section tok (entry s tok) → Knowing s mid tok (entry s tok) (last_loads s.cpu tok (entry s tok) (plan_of (bank_of s) tok).cells) → Stepped mid s' tok (ended (entry mid tok)) (gives_written (ended_section tok (entry mid tok))) → SectionEnded s s' tok section
section_ended s mid s' tok section section_is first second =
    let F : CpuId → TokenEntry → Type 0 = λ c e. Changes mid s' tok (ended e) (gives_written (ended_section tok e) c tok second.found ∷ []) in
    let gave = subst (λ (e : TokenEntry). F s.cpu e) first.changes.here (subst (λ (c : CpuId). F c (entry mid tok)) first.changes.cpu second.changes) in
    let G : Section → Type 0 = λ x. Changes s s' tok (ended (entry s tok)) (last_loads s.cpu tok (entry s tok) (plan_of (bank_of s) tok).cells ++ gives_written x s.cpu tok second.found ∷ []) in
    record {
      section_is = section_is;
      found = second.found;
      changes = subst G (sym section_is) (changed_twice s mid s' tok (record (entry s tok) { known = first.known }) (ended (entry s tok)) (last_loads s.cpu tok (entry s tok) (plan_of (bank_of s) tok).cells) (gives_written (ended_section tok (entry s tok)) s.cpu tok second.found ∷ []) first.changes gave);
    }

-- an empty list of values is no store, and one value more is one store more
writes_none : (made : List (Option ℕ)) (i : ℕ) (cpu : CpuId) (tok : ℕ) → ((k : ℕ) → get_or made k None ≡ None) → writes_all cpu tok i made ≡ []
writes_none [] i cpu tok none = refl
writes_none (None ∷ made) i cpu tok none = writes_none made (suc i) cpu tok (λ k. none (suc k))
writes_none (Some x ∷ made) i cpu tok none = absurd (let h : Some x ≡ None = none 0 in cc)

pub writes_more : (made : List (Option ℕ)) (i c x : ℕ) (cpu : CpuId) (tok : ℕ) → c < length made → ((k : ℕ) → c ≤ k → get_or made k None ≡ None) → writes_all cpu tok i (set made c (Some x)) ≡ writes_all cpu tok i made ++ writes cpu tok (i + c) x ∷ []
writes_more [] i c x cpu tok room none = absurd (omega arith)
writes_more (None ∷ made) i zero x cpu tok room none =
    let rest = writes_none made (suc i) cpu tok (λ k. none (suc k) (omega arith)) in
    let at_i : i ≡ i + 0 = omega arith in
    ap (λ (ds : List Deed). writes cpu tok i x ∷ ds) rest ∙ ap (λ (j : ℕ). writes cpu tok j x ∷ []) at_i ∙ ap (λ (ds : List Deed). ds ++ writes cpu tok (i + 0) x ∷ []) (sym rest)
writes_more (Some y ∷ made) i zero x cpu tok room none = absurd (let h : Some y ≡ None = none 0 (omega arith) in cc)
writes_more (None ∷ made) i (suc c) x cpu tok room none =
    let at_c : suc i + c ≡ i + suc c = omega arith in
    writes_more made (suc i) c x cpu tok (omega arith) (λ k low. none (suc k) (omega arith)) ∙ ap (λ (j : ℕ). writes_all cpu tok (suc i) made ++ writes cpu tok j x ∷ []) at_c
writes_more (Some y ∷ made) i (suc c) x cpu tok room none =
    let at_c : suc i + c ≡ i + suc c = omega arith in
    ap (λ (ds : List Deed). writes cpu tok i y ∷ ds) (writes_more made (suc i) c x cpu tok (omega arith) (λ k low. none (suc k) (omega arith)) ∙ ap (λ (j : ℕ). writes_all cpu tok (suc i) made ++ writes cpu tok j x ∷ []) at_c)
