-- Why a call is refused, if it is: the first fault in the order of its checks.
use Rattle.std.specs.Prelude.{◌≡◌, ℕ, ◌==◌, ◌^◌, nat_lt, nat_le, if◌then◌else◌, Bool, true, false, List, length, is_some, not, Option, Some, None, Result, Err, IfErr}
use Rattle.lwkt_base.specs.declared.faults.Fault.{Fault}
use Rattle.lwkt_base.specs.declared.faults.Fault.TheVariants.{NoToken, NoCell, NotHeld, SharedWrite, SharedRecord, RecordLong, TallyOnly, Overflow, ListFull, Upgrade}
use Rattle.lwkt_base.specs.declared.laws.Law.{Law}
use Rattle.lwkt_base.specs.declared.laws.Law.TheVariants.{Any, Sum, Order, Cap, Tally, Len}
use Rattle.lwkt_base.specs.declared.names.Mode.{Mode}
use Rattle.lwkt_base.specs.declared.names.Mode.TheVariants.{Exclusive, Shared}
use Rattle.lwkt_base.specs.declared.names.Ref.{Ref}
use Rattle.lwkt_base.specs.declared.limits.TheConstants.{LIST_LIMIT, RECORD_LIMIT}
use Rattle.lwkt_base.specs.Refs.{first_mode}
use Rattle.lwkt_bank.specs.Seats.{BankId, tokens_of, plan_of}

-- whether a law is Tally
abbrev pub is_tally : Law → Bool
is_tally Any = false
is_tally Sum = false
is_tally Order = false
is_tally Cap = false
is_tally Tally = true
is_tally Len = false

-- the fault of a token that isn't on the list, or of one that is there shared first; for an exclusive one what comes next (own)
abbrev pub unless_exclusive : Option Mode → Fault → Option Fault → Option Fault
unless_exclusive None shared next = Some NotHeld
unless_exclusive (Some Shared) shared next = Some shared
unless_exclusive (Some Exclusive) shared next = next

-- why a cell isn't read: no such token, no such cell, not on the list (own)
abbrev pub read_refusal : BankId → List Ref → ℕ → ℕ → Option Fault
read_refusal bank refs tok cell =
    if nat_le (tokens_of bank) tok then Some NoToken
    else (if nat_le (plan_of bank tok).cells cell then Some NoCell
    else (if is_some (first_mode refs tok) then None else Some NotHeld))

-- why a cell isn't stored to: no such token, no such cell, not on the list, shared, a Tally token (own)
abbrev pub write_refusal : BankId → List Ref → ℕ → ℕ → Option Fault
write_refusal bank refs tok cell =
    if nat_le (tokens_of bank) tok then Some NoToken
    else (if nat_le (plan_of bank tok).cells cell then Some NoCell
    else unless_exclusive (first_mode refs tok) SharedWrite
    (if is_tally (plan_of bank tok).law then Some TallyOnly else None))

-- why a cell isn't added to, where this is the sum: no such token, not on the list, shared, no Tally token, past 64 bits (own)
abbrev pub add_refusal : BankId → List Ref → ℕ → ℕ → Option Fault
add_refusal bank refs tok sum =
    if nat_le (tokens_of bank) tok then Some NoToken
    else unless_exclusive (first_mode refs tok) SharedWrite
    (if not (is_tally (plan_of bank tok).law) then Some TallyOnly
    else (if nat_le (2 ^ 64) sum then Some Overflow else None))

-- why a record isn't used, with what comes next for one that is held exclusively: no such token, no record, not on the list,
-- shared (own)
abbrev pub record_refusal : BankId → List Ref → ℕ → Option Fault → Option Fault
record_refusal bank refs tok next =
    if nat_le (tokens_of bank) tok then Some NoToken
    else (if not (is_some (plan_of bank tok).blob) then Some NoCell
    else unless_exclusive (first_mode refs tok) SharedRecord next)

-- why a record isn't read; and why it isn't written, which may be that it is longer than 64 bytes (own)
abbrev pub record_read_refusal : BankId → List Ref → ℕ → Option Fault
record_read_refusal bank refs tok = record_refusal bank refs tok None

abbrev pub record_write_refusal : BankId → List Ref → ℕ → List ℕ → Option Fault
record_write_refusal bank refs tok bytes = record_refusal bank refs tok (if nat_lt RECORD_LIMIT (length bytes) then Some RecordLong else None)

-- whether an exclusive reference would stand behind a shared one to its token (own)
abbrev pub is_upgrade : Mode → Option Mode → Bool
is_upgrade Exclusive None = false
is_upgrade Exclusive (Some Exclusive) = false
is_upgrade Exclusive (Some Shared) = true
is_upgrade Shared first = false

-- why a reference isn't asked for: no such token, a full list, an exclusive one behind a shared one (own)
abbrev pub get_refusal : BankId → List Ref → Ref → Option Fault
get_refusal bank refs new =
    if nat_le (tokens_of bank) new.tok.0 then Some NoToken
    else (if length refs == LIST_LIMIT then Some ListFull
    else (if is_upgrade new.mode (first_mode refs new.tok.0) then Some Upgrade else None))

-- a call is refused for this reason; where there is none beforehand, only for one that its step at the token finds
abbrev pub RefusedBy : {A : Type 0} → Option Fault → (Fault → Type 0) → Result A Fault → Type 0
RefusedBy (Some fault) Late result = result ≡ Err fault
RefusedBy None Late result = IfErr result Late
