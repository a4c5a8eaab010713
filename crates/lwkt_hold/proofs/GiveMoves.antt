use Rattle.std.proofs.Common.{◌≡◌, ◌≢◌, ◌⊎◌, ℕ, zero, suc, ◌+◌, ◌-◌, ◌<◌, ◌≤◌, Bool, true, false, cond, eqb, List, [], ◌∷◌, ◌++◌, length, refl, ap, sym, ◌∙◌, subst, arith, inl, inr, eq-eqb, append_assoc}
use Rattle.std.specs.Prelude.{All, filter, Vec, vec_len, vec_capacity, Option, Some, None, slice_index}
use Rattle.std.specs.List.{AllZip, list_any}
use Rattle.std.specs.declared.alloc.Global.{Global}
use Rattle.std.proofs.lemmas.List.{append-nil}
use Rattle.std.proofs.lemmas.List.Elements.{All-append, filter-append, All-from_recursion, All-cons}
use Rattle.lwkt_base.specs.declared.names.CpuId.{CpuId}
use Rattle.lwkt_base.specs.declared.names.TokId.{TokId}
use Rattle.lwkt_base.specs.declared.names.Mode.{Mode}
use Rattle.lwkt_base.specs.declared.names.Mode.TheVariants.{Exclusive, Shared}
use Rattle.lwkt_base.specs.declared.holdings.Held.{Held}
use Rattle.lwkt_base.specs.declared.holdings.Held.TheVariants.{Nothing, Holds}
use Rattle.lwkt_base.specs.declared.laws.Law.{Law}
use Rattle.lwkt_base.specs.declared.laws.Law.TheVariants.{Any, Sum, Order, Cap, Tally, Len}
use Rattle.lwkt_base.specs.Law.{Obeys}
use Rattle.lwkt_core.specs.Tokens.{length_of}
use Rattle.std.proofs.lemmas.Bool.{eqb-true, eqb-false, cases_Bool, false≢true}
use Rattle.lwkt_base.specs.Holding.{Holding, is_held, is_exclusive, one_more, one_less, added, removed}
use Rattle.lwkt_core.specs.declared.events.Event.{Event}
use Rattle.lwkt_core.specs.declared.events.Event.TheVariants.{Write, WriteBlob}
use Rattle.lwkt_core.specs.Events.{cpu_of}
use Rattle.lwkt_bank.specs.declared.views.TokenEntry.{TokenEntry}
use Rattle.lwkt_bank.specs.declared.seats.CpuSeat.{CpuSeat}
use Rattle.lwkt_table.specs.declared.seats.WordStep.{WordStep}
use Rattle.lwkt_table.specs.declared.seats.Deed.{Deed}
use Rattle.lwkt_table.specs.History.{events_in, steps_in}
use Rattle.lwkt_table.proofs.HistoryLemmas.{events_in-append, steps_in-append}
use Rattle.lwkt_bank.specs.Views.{RecordOf, is_touched}
use Rattle.lwkt_bank.specs.Deeds.{reads, reads_all, writes_all, writes_blob_if}
use Rattle.lwkt_bank.specs.Seats.{BankId, bank_of, plan_of, entry, holding, Changes, Knowing, PutsFirst, Restored, first_load, last_loads, lawful_loads, asked_record, written_over}
use Rattle.lwkt_hold.specs.Steps.{is_counted, is_of_token, is_on_word, ShowsEvent, AreTraced}
use Rattle.lwkt_hold.specs.Runs.{Moves, Ran}
use Rattle.lwkt_hold.specs.Rows.{row, first_row, blob, first_blob, is_stored_to, IsUnwritten, MeetsItsLaw, IsBroken, SameRow, SameSection, section_now, write_events, record_write_events, GivesBack, Mends}
use Rattle.lwkt_hold.specs.Givings.{StoresFirst, RestoresBy}
use Rattle.lwkt_hold.proofs.RunMoves.{Moves-append, AreTraced-append, ran_quiet, ran_weaker, holding_kept}

-- stores are no steps on a token word, are by their processor, and keep every holding
writes_off : (cpu : CpuId) (tok : TokId) (cell : ℕ) (values : List (Option ℕ)) → filter is_on_word (write_events cpu tok cell values) ≡ []
writes_off cpu tok cell [] = refl
writes_off cpu tok cell (None ∷ values) = writes_off cpu tok (suc cell) values
writes_off cpu tok cell (Some value ∷ values) = writes_off cpu tok (suc cell) values

writes_own : (cpu : CpuId) (tok : TokId) (cell : ℕ) (values : List (Option ℕ)) → All (λ e. cpu_of e ≡ cpu.0) (write_events cpu tok cell values)
writes_own cpu tok cell [] = All-from_recursion (λ (e : Event). cpu_of e ≡ cpu.0) [] tt
writes_own cpu tok cell (None ∷ values) = writes_own cpu tok (suc cell) values
writes_own cpu tok cell (Some value ∷ values) = All-cons (λ (e : Event). cpu_of e ≡ cpu.0) (Write cpu tok cell value) (write_events cpu tok (suc cell) values) refl (writes_own cpu tok (suc cell) values)

writes_move : (P : Holding → Type 0) (h : Holding) (cpu : CpuId) (tok : TokId) (cell : ℕ) (values : List (Option ℕ)) → P h → Moves P h (write_events cpu tok cell values) h
writes_move P h cpu tok cell [] at_front = refl
writes_move P h cpu tok cell (None ∷ values) at_front = writes_move P h cpu tok (suc cell) values at_front
writes_move P h cpu tok cell (Some value ∷ values) at_front = (at_front, writes_move P h cpu tok (suc cell) values at_front)

-- the stores of a restore are traced, and are no steps on a token word
traced_writes : (cpu : CpuId) (tok : TokId) (cell : ℕ) (values : List (Option ℕ)) → AreTraced (events_in (writes_all cpu tok.0 cell values)) (write_events cpu tok cell values)
traced_writes cpu tok cell [] = refl
traced_writes cpu tok cell (None ∷ values) = traced_writes cpu tok (suc cell) values
traced_writes cpu tok cell (Some value ∷ values) = inr (refl, (write_events cpu tok (suc cell) values, (refl, traced_writes cpu tok (suc cell) values)))

writes_of_token : (cpu : CpuId) (tok : TokId) (cell : ℕ) (values : List (Option ℕ)) → filter is_of_token (write_events cpu tok cell values) ≡ write_events cpu tok cell values
writes_of_token cpu tok cell [] = refl
writes_of_token cpu tok cell (None ∷ values) = writes_of_token cpu tok (suc cell) values
writes_of_token cpu tok cell (Some value ∷ values) = ap (λ (es : List Event). Write cpu tok cell value ∷ es) (writes_of_token cpu tok (suc cell) values)

no_steps : (cpu : CpuId) (tok cell : ℕ) (values : List (Option ℕ)) → steps_in (writes_all cpu tok cell values) ≡ []
no_steps cpu tok cell [] = refl
no_steps cpu tok cell (None ∷ values) = no_steps cpu tok (suc cell) values
no_steps cpu tok cell (Some value ∷ values) = no_steps cpu tok (suc cell) values

-- the same of the store of a record, if one is stored
record_off : (cpu : CpuId) (tok : TokId) (bytes : RecordOf) → filter is_on_word (record_write_events cpu tok bytes) ≡ []
record_off cpu tok None = refl
record_off cpu tok (Some bytes) = refl

record_own : (cpu : CpuId) (tok : TokId) (bytes : RecordOf) → All (λ e. cpu_of e ≡ cpu.0) (record_write_events cpu tok bytes)
record_own cpu tok None = All-from_recursion (λ (e : Event). cpu_of e ≡ cpu.0) [] tt
record_own cpu tok (Some bytes) = All-from_recursion (λ (e : Event). cpu_of e ≡ cpu.0) (WriteBlob cpu tok bytes ∷ []) (refl, tt)

record_moves : (P : Holding → Type 0) (h : Holding) (cpu : CpuId) (tok : TokId) (bytes : RecordOf) → P h → Moves P h (record_write_events cpu tok bytes) h
record_moves P h cpu tok None at_front = refl
record_moves P h cpu tok (Some bytes) at_front = (at_front, refl)

traced_record : (cpu : CpuId) (tok : TokId) (bytes : RecordOf) → AreTraced (events_in (writes_blob_if cpu tok.0 bytes)) (record_write_events cpu tok bytes)
traced_record cpu tok None = refl
traced_record cpu tok (Some bytes) = inr (refl, ([], (refl, refl)))

record_of_token : (cpu : CpuId) (tok : TokId) (bytes : RecordOf) → filter is_of_token (record_write_events cpu tok bytes) ≡ record_write_events cpu tok bytes
record_of_token cpu tok None = refl
record_of_token cpu tok (Some bytes) = refl

no_record_steps : (cpu : CpuId) (tok : ℕ) (bytes : RecordOf) → steps_in (writes_blob_if cpu tok bytes) ≡ []
no_record_steps cpu tok None = refl
no_record_steps cpu tok (Some bytes) = refl

-- the events and the deeds of a restore
abbrev pub stores : CpuId → TokId → List (Option ℕ) → RecordOf → List Event
stores cpu tok values bytes = write_events cpu tok 0 values ++ record_write_events cpu tok bytes

abbrev pub store_deeds : CpuId → ℕ → List (Option ℕ) → RecordOf → List Deed
store_deeds cpu tok values bytes = writes_all cpu tok 0 values ++ writes_blob_if cpu tok bytes

stores_off : (cpu : CpuId) (tok : TokId) (values : List (Option ℕ)) (bytes : RecordOf) → filter is_on_word (stores cpu tok values bytes) ≡ []
stores_off cpu tok values bytes = filter-append is_on_word (write_events cpu tok 0 values) (record_write_events cpu tok bytes) ∙ ap (λ (es : List Event). es ++ filter is_on_word (record_write_events cpu tok bytes)) (writes_off cpu tok 0 values) ∙ record_off cpu tok bytes

stores_of_token : (cpu : CpuId) (tok : TokId) (values : List (Option ℕ)) (bytes : RecordOf) → filter is_of_token (stores cpu tok values bytes) ≡ stores cpu tok values bytes
stores_of_token cpu tok values bytes =
    filter-append is_of_token (write_events cpu tok 0 values) (record_write_events cpu tok bytes)
    ∙ ap (λ (es : List Event). es ++ filter is_of_token (record_write_events cpu tok bytes)) (writes_of_token cpu tok 0 values)
    ∙ ap (λ (es : List Event). write_events cpu tok 0 values ++ es) (record_of_token cpu tok bytes)

traced_stores : (cpu : CpuId) (tok : TokId) (values : List (Option ℕ)) (bytes : RecordOf) → AreTraced (events_in (store_deeds cpu tok.0 values bytes)) (stores cpu tok values bytes)
traced_stores cpu tok values bytes =
    let F : List Event → Type 0 = λ es. AreTraced es (stores cpu tok values bytes) in
    subst F (sym (events_in-append (writes_all cpu tok.0 0 values) (writes_blob_if cpu tok.0 bytes)))
    (AreTraced-append (events_in (writes_all cpu tok.0 0 values)) (events_in (writes_blob_if cpu tok.0 bytes)) (write_events cpu tok 0 values) (record_write_events cpu tok bytes) (traced_writes cpu tok 0 values) (traced_record cpu tok bytes))

no_store_steps : (cpu : CpuId) (tok : ℕ) (values : List (Option ℕ)) (bytes : RecordOf) → steps_in (store_deeds cpu tok values bytes) ≡ []
no_store_steps cpu tok values bytes =
    steps_in-append (writes_all cpu tok 0 values) (writes_blob_if cpu tok bytes)
    ∙ ap (λ (xs : List WordStep). xs ++ steps_in (writes_blob_if cpu tok bytes)) (no_steps cpu tok 0 values)
    ∙ no_record_steps cpu tok bytes

pub stored_kept : (s s' : CpuSeat) (tok : ℕ) (values : List (Option ℕ)) (bytes : RecordOf) → Restored s s' tok values bytes → holding s' ≡ holding s
stored_kept s s' tok values bytes r = holding_kept s s' tok (record (entry s tok) { row = (entry s tok).first; blob = (entry s tok).first_blob }) (store_deeds s.cpu tok values bytes) r.changes refl

-- a call that stored these values, and this record
pub stored_ran : (P : Holding → Type 0) (s s' : CpuSeat) (tok : TokId) (cpu : CpuId) (values : List (Option ℕ)) (bytes : RecordOf) (t u : Vec Event Global) → Restored s s' tok.0 values bytes → P (holding s) → cpu ≡ s.cpu → u.items ≡ t.items ++ stores cpu tok values bytes → vec_len u ≡ vec_len t + length (stores cpu tok values bytes) → length (stores cpu tok values bytes) ≤ 5 → vec_capacity t ≤ vec_capacity u → Ran P 5 s s' t u
stored_ran P s s' tok cpu values bytes t u r at_front mine pushed longer few room = record {
  bank = r.changes.bank;
  cpu = r.changes.cpu;
  deeds = store_deeds s.cpu tok.0 values bytes;
  grows = r.changes.grows;
  mine = r.changes.own;
  in_trace =
      let F : CpuId → Type 0 = λ c. AreTraced (events_in (store_deeds s.cpu tok.0 values bytes)) (stores c tok values bytes) in
      let G : List Event → Type 0 = λ es. AreTraced (events_in (store_deeds s.cpu tok.0 values bytes)) es in
      subst G (sym (stores_of_token cpu tok values bytes)) (subst F (sym mine) (traced_stores s.cpu tok values bytes));
  done = stores cpu tok values bytes;
  trace = pushed;
  own =
      let F : ℕ → Type 0 = λ k. All (λ (e : Event). cpu_of e ≡ k) (stores cpu tok values bytes) in
      subst F (ap (λ (x : CpuId). x.0) mine) (All-append (λ (e : Event). cpu_of e ≡ cpu.0) (write_events cpu tok 0 values) (record_write_events cpu tok bytes) (writes_own cpu tok 0 values) (record_own cpu tok bytes));
  traced =
      let F : List Event → Type 0 = λ ys. AllZip ShowsEvent [] ys in
      let G : List WordStep → Type 0 = λ xs. AllZip ShowsEvent (filter is_counted xs) (filter is_on_word (stores cpu tok values bytes)) in
      subst G (sym (no_store_steps s.cpu tok.0 values bytes)) (subst F (sym (stores_off cpu tok values bytes)) tt);
  moves =
      let h = holding s in
      let F : Holding → Type 0 = λ x. Moves P h (stores cpu tok values bytes) x in
      subst F (sym (stored_kept s s' tok.0 values bytes r)) (Moves-append P (write_events cpu tok 0 values) (record_write_events cpu tok bytes) h h h (writes_move P h cpu tok 0 values at_front) (record_moves P h cpu tok bytes at_front));
  few = few;
  grown = longer;
  room = room;
}

-- deeds that a trace has nothing of, and that are no steps on a token word
abbrev pub AreUntraced : List Deed → Type 0
AreUntraced deeds = AreTraced (events_in deeds) [] × (steps_in deeds ≡ [])

reads_untraced : (cpu : CpuId) (tok cell : ℕ) (row : List ℕ) → AreUntraced (reads_all cpu tok cell row)
reads_untraced cpu tok cell [] = (refl, refl)
reads_untraced cpu tok cell (x ∷ row) = let rest = reads_untraced cpu tok (suc cell) row in (inl (refl, rest.0), rest.1)

-- the load of a cell before the first store to it
first_untraced : (s : CpuSeat) (tok cell : ℕ) → AreUntraced (first_load s.cpu tok (entry s tok) cell)
first_untraced s tok cell = go (is_touched (entry s tok) cell)
  where
    go : (b : Bool) → AreUntraced (cond b [] (reads s.cpu tok cell (slice_index (entry s tok).first cell) ∷ []))
    go true = (refl, refl)
    go false = (inl (refl, refl), refl)

-- deeds that aren't traced, before others
pub traced_behind : (deeds more : List Deed) (traced : List Event) → AreUntraced deeds → AreTraced (events_in more) traced → AreTraced (events_in (deeds ++ more)) traced
traced_behind deeds more traced untraced in_trace =
    let F : List Event → Type 0 = λ es. AreTraced es traced in
    subst F (sym (events_in-append deeds more)) (AreTraced-append (events_in deeds) (events_in more) [] traced untraced.0 in_trace)

pub steps_behind : (deeds more : List Deed) → AreUntraced deeds → steps_in (deeds ++ more) ≡ steps_in more
steps_behind deeds more untraced = steps_in-append deeds more ∙ ap (λ (xs : List WordStep). xs ++ steps_in more) untraced.1

-- the loads at the end of a written section
pub last_untraced : (s : CpuSeat) (tok cells : ℕ) → AreUntraced (last_loads s.cpu tok (entry s tok) cells)
last_untraced s tok zero = (refl, refl)
last_untraced s tok (suc cells) =
    let before = last_loads s.cpu tok (entry s tok) cells in
    let one = first_load s.cpu tok (entry s tok) cells in
    let untraced = last_untraced s tok cells in
    (traced_behind before one [] untraced (first_untraced s tok cells).0, steps_behind before one untraced ∙ (first_untraced s tok cells).1)

-- the access to the record in a question for the law
asked_untraced : (law : Law) (cpu : CpuId) (tok : ℕ) (bytes : RecordOf) → AreUntraced (asked_record law cpu tok bytes)
asked_untraced Any cpu tok bytes = (refl, refl)
asked_untraced Sum cpu tok bytes = (refl, refl)
asked_untraced Order cpu tok bytes = (refl, refl)
asked_untraced Cap cpu tok bytes = (refl, refl)
asked_untraced Len cpu tok None = (refl, refl)
asked_untraced Len cpu tok (Some bytes) = (inl (refl, refl), refl)
asked_untraced Tally cpu tok bytes = (refl, refl)

all_untraced : (law : Law) (cpu : CpuId) (tok : ℕ) (row : List ℕ) (bytes : RecordOf) → AreUntraced (reads_all cpu tok 0 row ++ asked_record law cpu tok bytes)
all_untraced law cpu tok row bytes =
    let loads = reads_all cpu tok 0 row in
    let asked = asked_record law cpu tok bytes in
    let untraced = reads_untraced cpu tok 0 row in
    let last = asked_untraced law cpu tok bytes in
    (traced_behind loads asked [] untraced last.0, steps_behind loads asked untraced ∙ last.1)

-- the loads of a question for the law
pub lawful_untraced : (law : Law) (cpu : CpuId) (tok : ℕ) (row : List ℕ) (bytes : RecordOf) → AreUntraced (lawful_loads law (reads_all cpu tok 0 row ++ asked_record law cpu tok bytes))
lawful_untraced Any cpu tok row bytes = (refl, refl)
lawful_untraced Sum cpu tok row bytes = all_untraced Sum cpu tok row bytes
lawful_untraced Order cpu tok row bytes = all_untraced Order cpu tok row bytes
lawful_untraced Cap cpu tok row bytes = all_untraced Cap cpu tok row bytes
lawful_untraced Len cpu tok row bytes = all_untraced Len cpu tok row bytes
lawful_untraced Tally cpu tok row bytes = (refl, refl)

-- a call without a word step that learns of cells
pub knowing_ran : (P : Holding → Type 0) (most : ℕ) (s s' : CpuSeat) (tok : ℕ) (deeds : List Deed) (t : Vec Event Global) → AreUntraced deeds → Knowing s s' tok (entry s tok) deeds → Ran P most s s' t t
knowing_ran P most s s' tok deeds t untraced k =
    ran_weaker P P 0 most s s' t t (λ x p. p) (omega arith) (ran_quiet P s s' tok (record (entry s tok) { known = k.known }) deeds t k.changes refl untraced.0 (ap (λ (xs : List WordStep). filter is_counted xs) untraced.1))

pub first_load_ran : (P : Holding → Type 0) (most : ℕ) (s s' : CpuSeat) (tok cell : ℕ) (t : Vec Event Global) → Knowing s s' tok (entry s tok) (first_load s.cpu tok (entry s tok) cell) → Ran P most s s' t t
first_load_ran P most s s' tok cell t k = knowing_ran P most s s' tok (first_load s.cpu tok (entry s tok) cell) t (first_untraced s tok cell) k

pub knowing_kept : (s s' : CpuSeat) (tok : ℕ) (deeds : List Deed) → Knowing s s' tok (entry s tok) deeds → holding s' ≡ holding s
knowing_kept s s' tok deeds k = holding_kept s s' tok (record (entry s tok) { known = k.known }) deeds k.changes refl

-- a reference more, where it is to this token
one_more_here : (b : Bool) (held : Held) (mode : Mode) → b ≡ true → cond b (one_more held mode) held ≡ one_more held mode
one_more_here true held mode is = refl
one_more_here false held mode is = cc

-- what a holding with one reference more has of its token
pub more_here : (h : Holding) (tok : ℕ) (mode : Mode) → added h tok mode tok ≡ one_more (h tok) mode
more_here h tok mode = one_more_here (eqb tok tok) (h tok) mode (eq-eqb tok tok refl)

-- a row and a record that don't obey their law aren't those of a Tally token
pub not_tally : (s : CpuSeat) (tok : ℕ) → (MeetsItsLaw s tok → ⊥) → (plan_of (bank_of s) tok).law ≡ Tally → ⊥
not_tally s tok broken tally = let F : Law → Type 0 = λ l. Obeys l (plan_of (bank_of s) tok).param (row s tok) (length_of (blob s tok)) in broken (subst F (sym tally) tt)

one_less_here : (b : Bool) (held : Held) → b ≡ true → cond b (one_less held) held ≡ one_less held
one_less_here true held is = refl
one_less_here false held is = cc

pub removed_here : (h : Holding) (tok : ℕ) → removed h tok tok ≡ one_less (h tok)
removed_here h tok = one_less_here (eqb tok tok) (h tok) (eq-eqb tok tok refl)

ends_if : (b : Bool) (further : ℕ) → eqb further 0 ≡ b → is_held (cond b Nothing (Holds Exclusive (further - 1))) ≡ false → Holds Exclusive further ≡ Holds Exclusive 0
ends_if true further is none = ap (λ n. Holds Exclusive n) (eqb-true further 0 is)
ends_if false further is none = cc

last_exclusive : (held : Held) → is_exclusive held ≡ true → is_held (one_less held) ≡ false → held ≡ Holds Exclusive 0
last_exclusive Nothing exclusive none = cc
last_exclusive (Holds Shared further) exclusive none = cc
last_exclusive (Holds Exclusive further) exclusive none = ends_if (eqb further 0) further refl none

pub held_more : (held : Held) (mode : Mode) → is_held (one_more held mode) ≡ true
held_more Nothing mode = refl
held_more (Holds first further) mode = refl

pub exclusive_held : (held : Held) → held ≡ Holds Exclusive 0 → is_exclusive held ≡ true
exclusive_held held is = ap is_exclusive is

pub same_law : (s m : CpuSeat) (tok : ℕ) → bank_of m ≡ bank_of s → row m tok ≡ row s tok → blob m tok ≡ blob s tok → MeetsItsLaw s tok → MeetsItsLaw m tok
same_law s m tok bank same alike meets =
    let F : List ℕ → Type 0 = λ xs. Obeys (plan_of (bank_of s) tok).law (plan_of (bank_of s) tok).param xs (length_of (blob s tok)) in
    let B : RecordOf → Type 0 = λ o. Obeys (plan_of (bank_of s) tok).law (plan_of (bank_of s) tok).param (row m tok) (length_of o) in
    let G : BankId → Type 0 = λ b. Obeys (plan_of b tok).law (plan_of b tok).param (row m tok) (length_of (blob m tok)) in
    subst G (sym bank) (subst B (sym alike) (subst F (sym same) meets))

-- what an entry leaves of rows and records
pub section_from : (s m : CpuSeat) (tok : ℕ) (e : TokenEntry) → entry m tok ≡ e → e.row ≡ row s tok → e.first ≡ first_row s tok → e.blob ≡ blob s tok → e.first_blob ≡ first_blob s tok → e.generation ≡ (entry s tok).generation → e.touched ≡ (entry s tok).touched → SameSection s m tok
section_from s m tok e is same first alike first_alike generation touched = record {
  row_is = ap (λ (x : TokenEntry). x.row) is ∙ same;
  first_is = ap (λ (x : TokenEntry). x.first) is ∙ first;
  blob_is = ap (λ (x : TokenEntry). x.blob) is ∙ alike;
  first_blob_is = ap (λ (x : TokenEntry). x.first_blob) is ∙ first_alike;
  generation_is = ap (λ (x : TokenEntry). x.generation) is ∙ generation;
  touched_is = ap (λ (x : TokenEntry). x.touched) is ∙ touched;
}

pub row_from : (s m : CpuSeat) (tok : ℕ) (e : TokenEntry) → entry m tok ≡ e → e.row ≡ row s tok → e.first ≡ first_row s tok → e.blob ≡ blob s tok → e.first_blob ≡ first_blob s tok → SameRow s m tok
row_from s m tok e is same first alike first_alike = record {
  row_is = ap (λ (x : TokenEntry). x.row) is ∙ same;
  first_is = ap (λ (x : TokenEntry). x.first) is ∙ first;
  blob_is = ap (λ (x : TokenEntry). x.blob) is ∙ alike;
  first_blob_is = ap (λ (x : TokenEntry). x.first_blob) is ∙ first_alike;
}

-- a section that goes on, and goes on again
pub same_then : (a b c : CpuSeat) (tok : ℕ) → SameSection a b tok → SameSection b c tok → SameSection a c tok
same_then a b c tok first second = record {
  row_is = second.row_is ∙ first.row_is;
  first_is = second.first_is ∙ first.first_is;
  blob_is = second.blob_is ∙ first.blob_is;
  first_blob_is = second.first_blob_is ∙ first.first_blob_is;
  generation_is = second.generation_is ∙ first.generation_is;
  touched_is = second.touched_is ∙ first.touched_is;
}

-- a change of one token lets the sections of the others go on
pub same_else : (s m : CpuSeat) (tok : ℕ) (e : TokenEntry) (deeds : List Deed) → Changes s m tok e deeds → (other : ℕ) → other ≢ tok → SameSection s m other
same_else s m tok e deeds c other away =
    section_from s m other (entry s other) (c.else_ other away) refl refl refl refl refl refl

-- a section that goes on is the same one
pub section_same : (a b : CpuSeat) (tok : TokId) → SameSection a b tok.0 → section_now b tok ≡ section_now a tok
section_same a b tok same = λ i. record { before = same.first_is i; after = same.row_is i; generation = same.generation_is i; tok = tok }

-- a reference is given back after its section was mended
module _ (s m : CpuSeat) (tok : ℕ) (restored : Bool) (held : is_held (holding s tok) ≡ true) (kept : holding m ≡ holding s) (bank : bank_of m ≡ bank_of s) (mends : Mends s m tok restored) where
  pub held_now : is_held (holding m tok) ≡ true
  held_now = ap (λ x. is_held (x tok)) kept ∙ held

  pub ready_now : holding m tok ≡ Holds Exclusive 0 → IsUnwritten m tok ⊎ MeetsItsLaw m tok
  ready_now ends = elim (cases_Bool restored) [
    | inl is ↦ inl ((mends.yes is).2 ∙ sym mends.first_is, mends.yes_blob is ∙ sym mends.first_blob_is)
    | inr is ↦ inr (same_law s m tok bank (mends.no is).0 (mends.no_blob is) ((mends.no is).1 (ap (λ x. x tok) (sym kept) ∙ ends)))
  ]

  pub given_now : removed (holding m) tok ≡ removed (holding s) tok
  given_now = ap (λ x. removed x tok) kept

  module _ (s' : CpuSeat) (given : holding s' ≡ removed (holding m) tok) (others : (other : ℕ) → other ≢ tok → SameSection m s' other) (same : row s' tok ≡ row m tok) (alike : blob s' tok ≡ blob m tok) (still : is_held (holding s' tok) ≡ true → SameSection m s' tok) where
    less : holding s' tok ≡ one_less (holding s tok)
    less = ap (λ x. x tok) given ∙ removed_here (holding m) tok ∙ ap (λ x. one_less (x tok)) kept

    ended : restored ≡ true → is_held (holding s' tok) ≡ false
    ended is = ap is_held (less ∙ ap one_less (mends.yes is).1)

    pub gives_back : GivesBack s s' tok restored
    gives_back = record {
      others = λ other away. same_then s m s' other (mends.others other away) (others other away);
      still = λ left. elim (cases_Bool restored) [
        | inl is ↦ absurd (false≢true (sym (ended is) ∙ left))
        | inr is ↦ record {
          row_is = (still left).row_is ∙ (mends.no is).0;
          first_is = (still left).first_is ∙ mends.first_is;
          blob_is = (still left).blob_is ∙ mends.no_blob is;
          first_blob_is = (still left).first_blob_is ∙ mends.first_blob_is;
          generation_is = (still left).generation_is ∙ mends.generation_is is;
          touched_is = (still left).touched_is ∙ mends.touched_is is;
        }
      ];
      yes = λ is. ((mends.yes is).0, same ∙ (mends.yes is).2, ended is);
      no = λ is. (
        same ∙ (mends.no is).0,
        λ none broken. broken.broken ((mends.no is).1 (last_exclusive (holding s tok) broken.exclusive (ap is_held (sym less) ∙ none))),
      );
      yes_blob = λ is. alike ∙ mends.yes_blob is;
      no_blob = λ is. alike ∙ mends.no_blob is;
    }

-- what learning of cells leaves of the rows
pub same_rows : (s m : CpuSeat) (tok other : ℕ) (deeds : List Deed) → Knowing s m tok (entry s tok) deeds → SameSection s m other
same_rows s m tok other deeds k = elim (cases_Bool (eqb other tok)) [
  | inl is ↦
      let same = eqb-true other tok is in
      let F : ℕ → Type 0 = λ t. SameSection s m t in
      subst F (sym same) (section_from s m tok (record (entry s tok) { known = k.known }) k.changes.here refl refl refl refl refl refl)
  | inr is ↦ section_from s m other (entry s other) (k.changes.else_ other (eqb-false other tok is)) refl refl refl refl refl refl
]

-- nothing is restored
pub mends_none : (s : CpuSeat) (tok : ℕ) → (holding s tok ≡ Holds Exclusive 0 → ⊥) → Mends s s tok false
mends_none s tok no_end = record {
  first_is = refl;
  first_blob_is = refl;
  generation_is = λ is. refl;
  touched_is = λ is. refl;
  others = λ other away. section_from s s other (entry s other) refl refl refl refl refl refl refl;
  yes = λ is. cc;
  no = λ is. (refl, λ ends. absurd (no_end ends));
  yes_blob = λ is. cc;
  no_blob = λ is. refl;
}

pub mends_lawful : (s m : CpuSeat) (tok : ℕ) (deeds : List Deed) → Knowing s m tok (entry s tok) deeds → MeetsItsLaw s tok → Mends s m tok false
mends_lawful s m tok deeds k meets = record {
  first_is = (same_rows s m tok tok deeds k).first_is;
  first_blob_is = (same_rows s m tok tok deeds k).first_blob_is;
  generation_is = λ is. (same_rows s m tok tok deeds k).generation_is;
  touched_is = λ is. (same_rows s m tok tok deeds k).touched_is;
  others = λ other away. same_rows s m tok other deeds k;
  yes = λ is. cc;
  no = λ is. ((same_rows s m tok tok deeds k).row_is, λ ends. meets);
  yes_blob = λ is. cc;
  no_blob = λ is. (same_rows s m tok tok deeds k).blob_is;
}

pub still_broken : (s m : CpuSeat) (tok : ℕ) (deeds : List Deed) → Knowing s m tok (entry s tok) deeds → holding s tok ≡ Holds Exclusive 0 → (MeetsItsLaw s tok → ⊥) → IsBroken m tok
still_broken s m tok deeds k ends broken = record {
  exclusive = exclusive_held (holding m tok) (ap (λ h. h tok) (knowing_kept s m tok deeds k) ∙ ends);
  broken = λ meets. broken (same_law m s tok (sym k.changes.bank) (sym (same_rows s m tok tok deeds k).row_is) (sym (same_rows s m tok tok deeds k).blob_is) meets);
}

pub mends_broken : (s l m : CpuSeat) (tok : ℕ) (deeds : List Deed) → Knowing s l tok (entry s tok) deeds → holding s tok ≡ Holds Exclusive 0 → (MeetsItsLaw s tok → ⊥) → row m tok ≡ first_row l tok → first_row m tok ≡ first_row l tok → blob m tok ≡ first_blob l tok → first_blob m tok ≡ first_blob l tok → ((other : ℕ) → other ≢ tok → SameSection l m other) → Mends s m tok true
mends_broken s l m tok deeds k ends broken restored first brought first_brought others = record {
  first_is = first ∙ (same_rows s l tok tok deeds k).first_is;
  first_blob_is = first_brought ∙ (same_rows s l tok tok deeds k).first_blob_is;
  generation_is = λ is. cc;
  touched_is = λ is. cc;
  others = λ other away. same_then s l m other (same_rows s l tok other deeds k) (others other away);
  yes = λ is. (record { exclusive = exclusive_held (holding s tok) ends; broken = broken }, ends, restored ∙ (same_rows s l tok tok deeds k).first_is);
  no = λ is. cc;
  yes_blob = λ is. brought ∙ (same_rows s l tok tok deeds k).first_blob_is;
  no_blob = λ is. cc;
}

-- the values of a restore are the first values of the cells that were stored to
pub stores_first : (s s' : CpuSeat) (tok : ℕ) (values : List (Option ℕ)) (bytes : RecordOf) → Restored s s' tok values bytes → StoresFirst s tok values
stores_first s s' tok values bytes r = record { makes_first = r.writes; inside = r.inside; only = r.touched; each = r.each }

-- a record that is put back as the first one, for a seat with the same records
pub puts_same : (a s : CpuSeat) (tok : ℕ) (bytes : RecordOf) → SameSection a s tok → PutsFirst (entry s tok) bytes → PutsFirst (entry a tok) bytes
puts_same a s tok None same puts = sym same.blob_is ∙ puts ∙ same.first_blob_is
puts_same a s tok (Some bytes) same puts = (λ is. puts.0 (same.blob_is ∙ is ∙ sym same.first_blob_is), sym same.first_blob_is ∙ puts.1)

-- a cell was stored to in a section that goes on exactly if it was before
stored_same : (a s : CpuSeat) (tok cell : ℕ) → SameSection a s tok → is_stored_to s tok cell ≡ is_stored_to a tok cell
stored_same a s tok cell same = ap (λ (cells : List ℕ). list_any (λ c. eqb c cell) cells) same.touched_is

-- the values of a restore are the same for a seat whose section of the token is the same
first_same : (a s : CpuSeat) (tok : ℕ) (values : List (Option ℕ)) → bank_of s ≡ bank_of a → SameSection a s tok → StoresFirst s tok values → StoresFirst a tok values
first_same a s tok values bank same stores = record {
  makes_first = ap (λ xs. written_over 0 values xs) (sym same.row_is) ∙ stores.makes_first ∙ same.first_is;
  inside = λ cell value at. below cell (stores.inside cell value at);
  only = λ cell value at. let o = stores.only cell value at in (sym (stored_same a s tok cell same) ∙ o.0, o.1 ∙ first cell);
  each = λ cell within touched. stores.each cell (above cell within) (stored_same a s tok cell same ∙ touched) ∙ ap (λ (value : ℕ). Some (Some value)) (first cell);
}
  where
    cells : bank_of s ≡ bank_of a → (plan_of (bank_of s) tok).cells ≡ (plan_of (bank_of a) tok).cells
    cells is = ap (λ (b : BankId). (plan_of b tok).cells) is

    below : (cell : ℕ) → cell < (plan_of (bank_of s) tok).cells → cell < (plan_of (bank_of a) tok).cells
    below cell within = subst (λ (n : ℕ). cell < n) (cells bank) within

    above : (cell : ℕ) → cell < (plan_of (bank_of a) tok).cells → cell < (plan_of (bank_of s) tok).cells
    above cell within = subst (λ (n : ℕ). cell < n) (sym (cells bank)) within

    first : (cell : ℕ) → slice_index (first_row s tok) cell ≡ slice_index (first_row a tok) cell
    first cell = ap (λ (xs : List ℕ). slice_index xs cell) same.first_is

-- the events of a restore are the same for a seat whose row and record of the token are the same
pub restores_same : (a s : CpuSeat) (tok : TokId) (behind done : List Event) → bank_of s ≡ bank_of a → s.cpu ≡ a.cpu → SameSection a s tok.0 → RestoresBy s tok behind done → RestoresBy a tok behind done
restores_same a s tok behind done bank mine same r = (
  r.0,
  (
    r.1.0,
    (
      first_same a s tok.0 r.0 bank same r.1.1.0,
      puts_same a s tok.0 r.1.0 same r.1.1.1,
      r.1.1.2 ∙ ap (λ (c : CpuId). write_events c tok 0 r.0 ++ (record_write_events c tok r.1.0 ++ behind)) mine,
    ),
  ),
)

-- the same with more events behind them
pub restores_before : (s : CpuSeat) (tok : TokId) (more done : List Event) → RestoresBy s tok [] done → RestoresBy s tok more (done ++ more)
restores_before s tok more done r =
    let first = write_events s.cpu tok 0 r.0 in
    let last = record_write_events s.cpu tok r.1.0 in (
      r.0,
      (
        r.1.0,
        (
          r.1.1.0,
          r.1.1.1,
          ap (λ (xs : List Event). xs ++ more) (r.1.1.2 ∙ ap (λ (xs : List Event). first ++ xs) (append-nil last)) ∙ append_assoc first last more,
        ),
      ),
    )
