use Rattle.std.proofs.Common.{◌≡◌, ℕ, ◌+◌, ◌≤◌, Bool, true, false, cond, eqb, List, [], ◌∷◌, ◌++◌, length, take, refl, ap, sym, ◌∙◌, subst, arith, eq-eqb, ne_eqb, Option, Some, None, inl, inr}
use Rattle.std.specs.Prelude.{fold, slice_index, filter, Vec, vec_len, vec_capacity}
use Rattle.std.specs.Option.{option_or}
use Rattle.std.specs.List.{AllZip}
use Rattle.std.specs.declared.alloc.Global.{Global}
use Rattle.std.proofs.lemmas.Bool.{eqb-true, eqb-false, cases_lt}
use Rattle.std.proofs.lemmas.List.{take_all, append-nil}
use Rattle.std.proofs.lemmas.Grind.{common_steps}
use Rattle.std.proofs.lemmas.List.Elements.{All-from_recursion}
use Rattle.lwkt_core.specs.Events.{cpu_of}
use Rattle.std.proofs.Math.Path.{fun_ext}
use Rattle.lwkt_base.specs.declared.names.CpuId.{CpuId}
use Rattle.lwkt_base.specs.declared.names.TokId.{TokId}
use Rattle.lwkt_base.specs.declared.names.Mode.{Mode}
use Rattle.lwkt_base.specs.declared.names.Mode.TheVariants.{Exclusive, Shared}
use Rattle.lwkt_base.specs.declared.names.Ref.{Ref}
use Rattle.lwkt_base.specs.declared.holdings.Held.{Held}
use Rattle.lwkt_base.specs.declared.holdings.Held.TheVariants.{Nothing, Holds}
use Rattle.lwkt_base.specs.Refs.{first_mode}
use Rattle.lwkt_base.specs.Holding.{Holding, is_held, is_exclusive, one_more, added, holding_of, holds_nothing}
use Rattle.lwkt_core.specs.declared.events.Event.{Event}
use Rattle.lwkt_core.specs.declared.events.Event.TheVariants.{Read, Write, ReadBlob, WriteBlob}
use Rattle.lwkt_table.specs.declared.seats.WordStep.{WordStep}
use Rattle.lwkt_table.specs.declared.seats.Deed.{Deed}
use Rattle.lwkt_table.specs.History.{events_in, steps_in}
use Rattle.lwkt_table.proofs.HistoryLemmas.{own-nil}
use Rattle.lwkt_bank.specs.declared.views.TokenEntry.{TokenEntry}
use Rattle.lwkt_bank.specs.declared.seats.CpuSeat.{CpuSeat}
use Rattle.lwkt_bank.specs.Views.{is_touched}
use Rattle.lwkt_bank.specs.Deeds.{reads, writes, reads_blob, writes_blob}
use Rattle.lwkt_bank.specs.Seats.{entry, holding, Changes, Knowing, IsUnchanged, first_load}
use Rattle.lwkt_hold.specs.Fronts.{IsFront}
use Rattle.lwkt_hold.specs.Steps.{is_counted, ShowsEvent, AreTraced}
use Rattle.lwkt_hold.specs.Runs.{Ran}
use Rattle.lwkt_hold.proofs.RunMoves.{traced_one, ran_none, ran_weaker, ran_step, holding_kept}

-- nothing was done
pub ran_still : (P : Holding → Type 0) (most : ℕ) (s : CpuSeat) (t : Vec Event Global) → Ran P most s s t t
ran_still P most s t = ran_weaker P P 0 most s s t t (λ h p. p) (omega arith) (ran_none P s t)

-- what a list holds is a front of it
pub whole_front : (refs : List Ref) (h : Holding) → h ≡ holding_of refs → IsFront refs h
whole_front refs h is = (length refs, is ∙ ap holding_of (sym (take_all (length refs) refs (omega arith))))

-- the first few of the first few
pub take_within : (n k : ℕ) (refs : List Ref) → n ≤ k → take n (take k refs) ≡ take n refs
take_within n k refs below = grind (arith, common_steps)

-- a front within another is a front of it
pub front_within : (refs : List Ref) (n k : ℕ) (h : Holding) → n ≤ k → h ≡ holding_of (take n refs) → IsFront (take k refs) h
front_within refs n k h below is = (n, is ∙ ap holding_of (sym (take_within n k refs below)))

-- a front of the first few is one of the whole list
pub front_of_few : (refs : List Ref) (k : ℕ) (h : Holding) → IsFront (take k refs) h → IsFront refs h
front_of_few refs k h front = elim (cases_lt front.0 k) [
  | inl below ↦ (front.0, front.1 ∙ ap holding_of (take_within front.0 k refs (omega arith)))
  | inr above ↦ (k, front.1 ∙ ap holding_of (take_above front.0 above))
]
  where
    take_above : (n : ℕ) → k ≤ n → take n (take k refs) ≡ take k refs
    take_above n more = grind (arith, common_steps)

-- the empty list's front is a front of any list
pub front_none : (refs : List Ref) (h : Holding) → IsFront [] h → IsFront refs h
front_none refs h front = (0, front.1 ∙ ap holding_of (take_none front.0))
  where
    take_none : (n : ℕ) → take n [] ≡ take 0 refs
    take_none n = grind (arith, common_steps)

-- the mode of what is held
abbrev pub mode_of : Held → Option Mode
mode_of Nothing = None
mode_of (Holds mode further) = Some mode

or_none : (o : Option Mode) → o ≡ option_or o None
or_none None = refl
or_none (Some mode) = refl

mode_more : (held : Held) (mode : Mode) (rest : Option Mode) → option_or (mode_of (one_more held mode)) rest ≡ option_or (mode_of held) (Some mode)
mode_more Nothing mode rest = refl
mode_more (Holds first further) mode rest = refl

mode_step : (b : Bool) (h : Holding) (refs : List Ref) (r : Ref) (tok : ℕ) → eqb tok r.tok.0 ≡ b → eqb r.tok.0 tok ≡ b → option_or (mode_of (added h r.tok.0 r.mode tok)) (first_mode refs tok) ≡ option_or (mode_of (h tok)) (first_mode (r ∷ refs) tok)
mode_step true h refs r tok one two = rw (one, two) (mode_more (h tok) r.mode (first_mode refs tok))
mode_step false h refs r tok one two = rw (one, two) refl

eqb_turn : (a b : ℕ) (x : Bool) → eqb a b ≡ x → eqb b a ≡ x
eqb_turn a b true is = eq-eqb b a (sym (eqb-true a b is))
eqb_turn a b false is = ne_eqb b a (λ same. eqb-false a b is (sym same))

modes_fold : (refs : List Ref) (h : Holding) (tok : ℕ) → mode_of (fold (λ held r. added held r.tok.0 r.mode) h refs tok) ≡ option_or (mode_of (h tok)) (first_mode refs tok)
modes_fold [] h tok = or_none (mode_of (h tok))
modes_fold (r ∷ refs) h tok = modes_fold refs (added h r.tok.0 r.mode) tok ∙ mode_step (eqb tok r.tok.0) h refs r tok refl (eqb_turn tok r.tok.0 (eqb tok r.tok.0) refl)

-- a list holds a token in the mode of its first reference
pub modes : (refs : List Ref) (tok : ℕ) → mode_of (holding_of refs tok) ≡ first_mode refs tok
modes refs tok = modes_fold refs holds_nothing tok

held_if_mode : (held : Held) → (mode_of held ≡ None → ⊥) → is_held held ≡ true
held_if_mode Nothing some = absurd (some refl)
held_if_mode (Holds mode further) some = refl

exclusive_if_mode : (held : Held) → mode_of held ≡ Some Exclusive → is_exclusive held ≡ true
exclusive_if_mode Nothing is = cc
exclusive_if_mode (Holds Exclusive further) is = refl
exclusive_if_mode (Holds Shared further) is = cc

pub held_listed : (s : CpuSeat) (refs : List Ref) (tok : ℕ) → holding s ≡ holding_of refs → (first_mode refs tok ≡ None → ⊥) → is_held (holding s tok) ≡ true
held_listed s refs tok front some = ap (λ h. is_held (h tok)) front ∙ held_if_mode (holding_of refs tok) (λ none. some (sym (modes refs tok) ∙ none))

pub exclusive_listed : (s : CpuSeat) (refs : List Ref) (tok : ℕ) → holding s ≡ holding_of refs → first_mode refs tok ≡ Some Exclusive → is_exclusive (holding s tok) ≡ true
exclusive_listed s refs tok front is = ap (λ h. is_exclusive (h tok)) front ∙ exclusive_if_mode (holding_of refs tok) (modes refs tok ∙ is)

-- a cell was read, and a cell was stored to
pub read_ran : (refs : List Ref) (s s' : CpuSeat) (tok : TokId) (e : TokenEntry) (cpu : CpuId) (cell value : ℕ) (t u : Vec Event Global) → Changes s s' tok.0 e (reads s.cpu tok.0 cell value ∷ []) → e.held ≡ holding s tok.0 → holding s ≡ holding_of refs → cpu ≡ s.cpu → u.items ≡ t.items ++ Read cpu tok cell value ∷ [] → vec_len u ≡ vec_len t + 1 → vec_capacity t ≤ vec_capacity u → Ran (IsFront refs) 1 s s' t u
read_ran refs s s' tok e cpu cell value t u c held front mine pushed longer room =
    let deeds = reads s.cpu tok.0 cell value ∷ [] in
    let kept = holding_kept s s' tok.0 e deeds c held in
    ran_step (IsFront refs) s s' tok.0 e deeds (Read cpu tok cell value) t u c pushed longer room (ap (λ (x : CpuId). x.0) mine) (traced_one (Read s.cpu tok cell value) (Read cpu tok cell value) refl (ap (λ (x : CpuId). Read x tok cell value) mine)) tt kept (whole_front refs (holding s') (kept ∙ front))

-- loads of cells that weren't asked for are in no trace
pub traced_write : (s : CpuSeat) (tok : TokId) (cpu : CpuId) (cell value : ℕ) → cpu ≡ s.cpu → AreTraced (Write s.cpu tok cell value ∷ []) (Write cpu tok cell value ∷ [])
traced_write s tok cpu cell value mine = traced_one (Write s.cpu tok cell value) (Write cpu tok cell value) refl (ap (λ (x : CpuId). Write x tok cell value) mine)

pub traced_store : (s : CpuSeat) (tok : TokId) (cpu : CpuId) (cell value : ℕ) → cpu ≡ s.cpu
    → AreTraced (events_in (first_load s.cpu tok.0 (entry s tok.0) cell ++ writes s.cpu tok.0 cell value ∷ [])) (Write cpu tok cell value ∷ []) × (steps_in (first_load s.cpu tok.0 (entry s tok.0) cell ++ writes s.cpu tok.0 cell value ∷ []) ≡ [])
traced_store s tok cpu cell value mine = go (is_touched (entry s tok.0) cell)
  where
    go : (b : Bool) → AreTraced (events_in (cond b [] (reads s.cpu tok.0 cell (slice_index (entry s tok.0).first cell) ∷ []) ++ writes s.cpu tok.0 cell value ∷ [])) (Write cpu tok cell value ∷ []) × (steps_in (cond b [] (reads s.cpu tok.0 cell (slice_index (entry s tok.0).first cell) ∷ []) ++ writes s.cpu tok.0 cell value ∷ []) ≡ [])
    go true = (traced_write s tok cpu cell value mine, refl)
    go false = (inl (refl, traced_write s tok cpu cell value mine), refl)

pub write_ran : (refs : List Ref) (s s' : CpuSeat) (tok : TokId) (e : TokenEntry) (deeds : List Deed) (cpu : CpuId) (cell value : ℕ) (t u : Vec Event Global) → Knowing s s' tok.0 e deeds → AreTraced (events_in deeds) (Write cpu tok cell value ∷ []) → steps_in deeds ≡ [] → e.held ≡ holding s tok.0 → holding s ≡ holding_of refs → cpu ≡ s.cpu → u.items ≡ t.items ++ Write cpu tok cell value ∷ [] → vec_len u ≡ vec_len t + 1 → vec_capacity t ≤ vec_capacity u → Ran (IsFront refs) 1 s s' t u
write_ran refs s s' tok e deeds cpu cell value t u k in_trace off held front mine pushed longer room =
    let kept = holding_kept s s' tok.0 (record e { known = k.known }) deeds k.changes held in
    let F : List WordStep → Type 0 = λ xs. AllZip ShowsEvent (filter is_counted xs) [] in
    ran_step (IsFront refs) s s' tok.0 (record e { known = k.known }) deeds (Write cpu tok cell value) t u k.changes pushed longer room (ap (λ (x : CpuId). x.0) mine) in_trace (subst F (sym off) tt) kept (whole_front refs (holding s') (kept ∙ front))

-- the record was read, and the record was written
pub read_record_ran : (refs : List Ref) (s s' : CpuSeat) (tok : TokId) (e : TokenEntry) (cpu : CpuId) (bytes : List ℕ) (t u : Vec Event Global) → Changes s s' tok.0 e (reads_blob s.cpu tok.0 bytes ∷ []) → e.held ≡ holding s tok.0 → holding s ≡ holding_of refs → cpu ≡ s.cpu → u.items ≡ t.items ++ ReadBlob cpu tok bytes ∷ [] → vec_len u ≡ vec_len t + 1 → vec_capacity t ≤ vec_capacity u → Ran (IsFront refs) 1 s s' t u
read_record_ran refs s s' tok e cpu bytes t u c held front mine pushed longer room =
    let deeds = reads_blob s.cpu tok.0 bytes ∷ [] in
    let kept = holding_kept s s' tok.0 e deeds c held in
    ran_step (IsFront refs) s s' tok.0 e deeds (ReadBlob cpu tok bytes) t u c pushed longer room (ap (λ (x : CpuId). x.0) mine) (traced_one (ReadBlob s.cpu tok bytes) (ReadBlob cpu tok bytes) refl (ap (λ (x : CpuId). ReadBlob x tok bytes) mine)) tt kept (whole_front refs (holding s') (kept ∙ front))

pub write_record_ran : (refs : List Ref) (s s' : CpuSeat) (tok : TokId) (e : TokenEntry) (cpu : CpuId) (bytes : List ℕ) (t u : Vec Event Global) → Changes s s' tok.0 e (writes_blob s.cpu tok.0 bytes ∷ []) → e.held ≡ holding s tok.0 → holding s ≡ holding_of refs → cpu ≡ s.cpu → u.items ≡ t.items ++ WriteBlob cpu tok bytes ∷ [] → vec_len u ≡ vec_len t + 1 → vec_capacity t ≤ vec_capacity u → Ran (IsFront refs) 1 s s' t u
write_record_ran refs s s' tok e cpu bytes t u c held front mine pushed longer room =
    let deeds = writes_blob s.cpu tok.0 bytes ∷ [] in
    let kept = holding_kept s s' tok.0 e deeds c held in
    ran_step (IsFront refs) s s' tok.0 e deeds (WriteBlob cpu tok bytes) t u c pushed longer room (ap (λ (x : CpuId). x.0) mine) (traced_one (WriteBlob s.cpu tok bytes) (WriteBlob cpu tok bytes) refl (ap (λ (x : CpuId). WriteBlob x tok bytes) mine)) tt kept (whole_front refs (holding s') (kept ∙ front))

-- a call that leaves the seat as it was
pub unchanged_kept : (s s' : CpuSeat) → IsUnchanged s s' → holding s' ≡ holding s
unchanged_kept s s' same = fun_ext (λ tok. ap (λ (e : TokenEntry). e.held) (same.entries tok))

pub unchanged_ran : (P : Holding → Type 0) (most : ℕ) (s s' : CpuSeat) (t : Vec Event Global) → IsUnchanged s s' → Ran P most s s' t t
unchanged_ran P most s s' t same = record {
  bank = same.bank;
  cpu = same.cpu;
  deeds = [];
  grows = same.past;
  mine = own-nil s.cpu.0;
  in_trace = refl;
  done = [];
  trace = sym (append-nil t.items);
  own = All-from_recursion (λ (e : Event). cpu_of e ≡ s.cpu.0) [] tt;
  traced = tt;
  moves = unchanged_kept s s' same;
  few = omega arith;
  grown = omega arith;
  room = omega arith;
}
