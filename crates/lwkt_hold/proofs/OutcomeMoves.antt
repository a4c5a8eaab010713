-- What a call on a list that is held comes to, from what its steps at the bank tell.
use Rattle.std.proofs.Common.{◌≡◌, ℕ, ◌<◌, refl, subst, ◌∙◌, inl, inr}
use Rattle.std.specs.Prelude.{List, Vec, Option, Some, Result, Ok, Err, OnErr}
use Rattle.std.proofs.lemmas.Bool.{cases_lt, le-leb}
use Rattle.std.specs.declared.alloc.Global.{Global}
use Rattle.lwkt_core.specs.declared.events.Event.{Event}
use Rattle.lwkt_bank.specs.declared.seats.CpuSeat.{CpuSeat}
use Rattle.lwkt_base.specs.declared.faults.Fault.{Fault}
use Rattle.lwkt_base.specs.declared.faults.Fault.TheVariants.{NoToken}
use Rattle.lwkt_bank.specs.Seats.{BankId, tokens_of, entry, holding, Knowing, IsUnchanged, first_load}
use Rattle.lwkt_hold.specs.Fronts.{IsFront}
use Rattle.lwkt_hold.specs.Rows.{SameRow}
use Rattle.lwkt_hold.specs.Refusals.{get_refusal, RefusedBy}
use Rattle.lwkt_hold.specs.Outcomes.{Keeps, ChangesNothing}
use Rattle.lwkt_base.specs.declared.names.Ref.{Ref}
use Rattle.lwkt_base.specs.Holding.{holding_of}
use Rattle.lwkt_hold.proofs.GiveMoves.{knowing_kept, same_rows}
use Rattle.lwkt_hold.proofs.ListMoves.{same_from}
use Rattle.lwkt_hold.proofs.ReadMoves.{ran_still, unchanged_kept}

-- rows and records that stay, and stay again
pub same_rows_then : (a b c : CpuSeat) (tok : ℕ) → SameRow a b tok → SameRow b c tok → SameRow a c tok
same_rows_then a b c tok first second = record {
  row_is = second.row_is ∙ first.row_is;
  first_is = second.first_is ∙ first.first_is;
  blob_is = second.blob_is ∙ first.blob_is;
  first_blob_is = second.first_blob_is ∙ first.first_blob_is;
}

-- a refusal before any step
pub kept_still : (refs : List Ref) (s : CpuSeat) (t : Vec Event Global) → holding s ≡ holding_of refs → Keeps refs s s t t
kept_still refs s t held = record { ran = ran_still (IsFront refs) 1 s t; held = held }

-- a refusal by the bank: of a seat that is as it was, and of one that knows one cell more
pub nothing_changed : (s s' : CpuSeat) (t : Vec Event Global) → IsUnchanged s s' → ChangesNothing s s' t t
nothing_changed s s' t same = record {
  silent = refl;
  held = unchanged_kept s s' same;
  rows = λ tok. same_from s s' tok (same.entries tok);
}

pub nothing_but_known : (s s' : CpuSeat) (tok cell : ℕ) (t : Vec Event Global) → Knowing s s' tok (entry s tok) (first_load s.cpu tok (entry s tok) cell) → ChangesNothing s s' t t
nothing_but_known s s' tok cell t k = record {
  silent = refl;
  held = knowing_kept s s' tok _ k;
  rows = λ other. let same = same_rows s s' tok other _ k in record { row_is = same.row_is; first_is = same.first_is; blob_is = same.blob_is; first_blob_is = same.first_blob_is };
}

-- what holds after a refusal, whatever it is
pub on_err : {A E : Type 0} (r : Result A E) (P : Type 0) → P → OnErr r P
on_err (Ok x) P p = tt
on_err (Err e) P p = p

-- the token of a reference that wasn't refused exists
pub get_there : {A : Type 0} (bank : BankId) (refs : List Ref) (new : Ref) (Late : Fault → Type 0) (x : A) → RefusedBy {A = A} (get_refusal bank refs new) Late (Ok x) → new.tok.0 < tokens_of bank
get_there {A} bank refs new Late x traced = elim (cases_lt new.tok.0 (tokens_of bank)) [
  | inl below ↦ below
  | inr over ↦ absurd (
      let F : Option Fault → Type 0 = λ o. RefusedBy {A = A} o Late (Ok x) in
      let first : get_refusal bank refs new ≡ Some NoToken = rw (le-leb (tokens_of bank) new.tok.0 over) refl in
      let wrong : ◌≡◌ {A = Result A Fault} (Ok x) (Err NoToken) = subst F first traced in
      cc)
]
