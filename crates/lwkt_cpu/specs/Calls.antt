-- What the calls that asks make tell, each as the call's contract says it.
use Rattle.std.specs.Prelude.{◌≡◌, ◌≢◌, ◌⊎◌, ◌↔◌, ◌<◌, ◌+◌, ℕ, false, true, List, length, Result, Err, OnOk, OnErr, IfOk, IfErr, None, Vec, slice_index}
use Rattle.std.specs.Result.{result_err}
use Rattle.std.specs.declared.alloc.Global.{Global}
use Rattle.lwkt_base.specs.declared.names.TokId.{TokId}
use Rattle.lwkt_base.specs.declared.names.Ref.{Ref}
use Rattle.lwkt_base.specs.declared.faults.Fault.{Fault}
use Rattle.lwkt_base.specs.declared.faults.Fault.TheVariants.{Broken, NotHeld, NotLast, SwapShort, SwapSame}
use Rattle.lwkt_base.specs.Refs.{first_mode, IsLastTo, EndsInOneToken, AreExchanged}
use Rattle.lwkt_core.specs.declared.events.Event.{Event}
use Rattle.lwkt_bank.specs.declared.seats.CpuSeat.{CpuSeat}
use Rattle.lwkt_bank.specs.Seats.{BankId}
use Rattle.lwkt_hold.specs.declared.answers.Acquired.{Acquired}
use Rattle.lwkt_hold.specs.Misses.{exclusive}
use Rattle.lwkt_hold.specs.Rows.{row}
use Rattle.lwkt_hold.specs.Givings.{ReleasesLast}
use Rattle.lwkt_hold.specs.Refusals.{read_refusal, write_refusal, add_refusal, record_read_refusal, record_write_refusal, get_refusal, RefusedBy}
use Rattle.lwkt_hold.specs.Outcomes.{Reads as ReadsCell, Writes, ReadsRecord as ReadsBytes, WritesRecord, Takes, Acquires as ComesTo, ChangesNothing, IsMissed, IsWorn}

-- what asking for a reference says, from one seat, list and trace to the next: `Hold::get`
pub record Acquires (bank : BankId) (a b : CpuSeat) (refs now : List Ref) (new : Ref) (t u : Vec Event Global) (result : Result Acquired Fault) : Type 0 where
  pub refused : RefusedBy (get_refusal bank refs new) (IsWorn refs new a b) result
  pub ok : IfOk result (λ acquired. ComesTo refs now new a b t u acquired)
  pub err : OnErr result ((now ≡ refs) × ChangesNothing a b t u)

-- what asking for an exclusive reference without blocking says: `Hold::try_get`
pub record Tries (bank : BankId) (a b : CpuSeat) (refs now : List Ref) (tok : TokId) (t u : Vec Event Global) (result : Result (Unit {0}) Fault) : Type 0 where
  pub refused : RefusedBy (get_refusal bank refs (exclusive tok)) (IsMissed refs (exclusive tok) a b) result
  pub ok : OnOk result (Takes refs now (exclusive tok) a b t u)
  pub err : OnErr result ((now ≡ refs) × ChangesNothing a b t u)

-- what the release of a list's last reference says: `Hold::rel`
pub record Rels (a b : CpuSeat) (refs now : List Ref) (tok : TokId) (t u : Vec Event Global) (result : Result (Unit {0}) Fault) : Type 0 where
  pub ok : OnOk result (ReleasesLast a b refs now tok false t.items u.items)
  pub err : IfErr result (λ fault. ((fault ≡ Broken) × ReleasesLast a b refs now tok true t.items u.items)
      ⊎ (((fault ≡ NotHeld) ⊎ (fault ≡ NotLast)) × (b ≡ a) × (now ≡ refs) × (u ≡ t)))
  pub not_held : (result ≡ Err NotHeld) ↔ (first_mode refs tok.0 ≡ None)
  pub not_last : (result ≡ Err NotLast) ↔ ((first_mode refs tok.0 ≢ None) × ¬ IsLastTo refs tok.0)

-- what the exchange of a list's two last references says: `TokList::swap`, on the list alone
pub record Swaps (refs now : List Ref) (result : Result (Unit {0}) Fault) : Type 0 where
  pub ok : OnOk result (AreExchanged refs now)
  pub err : OnErr result (now ≡ refs)
  pub short : (result ≡ Err SwapShort) ↔ (length refs < 2)
  pub same : (result ≡ Err SwapSame) ↔ EndsInOneToken refs
  pub only : OnErr result ((result ≡ Err SwapShort) ⊎ (result ≡ Err SwapSame))

-- what reading a cell says: `Hold::read`
pub record Reads (bank : BankId) (a b : CpuSeat) (refs : List Ref) (tok : TokId) (cell : ℕ) (t u : Vec Event Global) (result : Result ℕ Fault) : Type 0 where
  pub refused : result_err result ≡ read_refusal bank refs tok.0 cell
  pub ok : IfOk result (λ value. ReadsCell a b tok cell value t u)
  pub err : OnErr result ((u ≡ t) × (b ≡ a))

-- what storing a value in a cell says: `Hold::write`
pub record Stores (bank : BankId) (a b : CpuSeat) (refs : List Ref) (tok : TokId) (cell value : ℕ) (t u : Vec Event Global) (result : Result (Unit {0}) Fault) : Type 0 where
  pub refused : result_err result ≡ write_refusal bank refs tok.0 cell
  pub ok : OnOk result (Writes a b tok cell value t u)
  pub err : OnErr result (ChangesNothing a b t u)

-- what adding to a Tally token's cell says: `Hold::add`
pub record Adds (bank : BankId) (a b : CpuSeat) (refs : List Ref) (tok : TokId) (k : ℕ) (t u : Vec Event Global) (result : Result (Unit {0}) Fault) : Type 0 where
  pub refused : result_err result ≡ add_refusal bank refs tok.0 (slice_index (row a tok.0) 0 + k)
  pub ok : OnOk result (Writes a b tok 0 (slice_index (row a tok.0) 0 + k) t u)
  pub err : OnErr result (ChangesNothing a b t u)

-- what reading a record says: `Hold::read_blob`
pub record ReadsRecord (bank : BankId) (a b : CpuSeat) (refs : List Ref) (tok : TokId) (t u : Vec Event Global) (result : Result (List ℕ) Fault) : Type 0 where
  pub refused : result_err result ≡ record_read_refusal bank refs tok.0
  pub ok : IfOk result (λ bytes. ReadsBytes a b tok bytes t u)
  pub err : OnErr result ((u ≡ t) × (b ≡ a))

-- what storing a record says: `Hold::write_blob`
pub record StoresRecord (bank : BankId) (a b : CpuSeat) (refs : List Ref) (tok : TokId) (bytes : List ℕ) (t u : Vec Event Global) (result : Result (Unit {0}) Fault) : Type 0 where
  pub refused : result_err result ≡ record_write_refusal bank refs tok.0 bytes
  pub ok : OnOk result (WritesRecord a b tok bytes t u)
  pub err : OnErr result ((u ≡ t) × (b ≡ a))
