-- The asks of a running thread about tokens: the tokens and its list after each, and what comes next for it.
use Rattle.std.specs.Prelude.{◌≡◌, ◌<◌, ◌≤◌, ℕ, ◌+◌, ◌-◌, ◌==◌, ◌^◌, nat_lt, nat_le, not, Bool, true, false, if◌then◌else◌, List, [], ◌∷◌, ◌++◌, length, take, drop, reverse, Option, Some, None, option_map, option_and_then, unwrap_or, is_some, slice_get}
use Rattle.std.specs.Option.{option_map_or, option_eq}
use Rattle.lwkt_base.specs.declared.names.CpuId.{CpuId}
use Rattle.lwkt_base.specs.declared.names.TokId.{TokId}
use Rattle.lwkt_base.specs.declared.names.Mode.{Mode}
use Rattle.lwkt_base.specs.declared.names.Mode.TheVariants.{Exclusive, Shared}
use Rattle.lwkt_base.specs.declared.names.Ref.{Ref}
use Rattle.lwkt_base.specs.declared.laws.Law.{Law}
use Rattle.lwkt_base.specs.declared.laws.Law.TheVariants.{Tally}
use Rattle.lwkt_base.specs.declared.faults.Fault.{Fault}
use Rattle.lwkt_base.specs.declared.faults.Fault.TheVariants.{ListFull, Upgrade, NotLast, NotHeld, SwapSame, SwapShort, NoToken, NoCell, SharedWrite, Broken, Worn as WornOut, Overflow, TallyOnly, Busy as TokenBusy, SharedRecord, RecordLong}
use Rattle.lwkt_base.specs.declared.asks.Answer.{Answer}
use Rattle.lwkt_base.specs.declared.asks.Answer.TheVariants.{Done, Value, Bytes, Refused}
use Rattle.lwkt_base.specs.declared.limits.TheConstants.{LIST_LIMIT, RECORD_LIMIT}
use Rattle.lwkt_base.specs.Refs.{names, first_mode}
use Rattle.lwkt_core.specs.declared.tokens.Token.{Token}
use Rattle.lwkt_core.specs.declared.events.Event.TheVariants.{Mark, Write, WriteBlob}
use Rattle.lwkt_core.specs.Machine.{machine}
use Rattle.lwkt_core.specs.Takings.{taking_event}
use Rattle.lwkt_core.specs.Values.{cell_at}
use Rattle.lwkt_plain.specs.declared.nexts.Miss.{Miss}
use Rattle.lwkt_plain.specs.declared.nexts.Miss.TheVariants.{Busy, Worn}
use Rattle.lwkt_plain.specs.declared.nexts.Next.{Next}
use Rattle.lwkt_plain.specs.declared.nexts.Next.TheVariants.{Runs, Leaves}
use Rattle.lwkt_plain.specs.declared.states.Phase.TheVariants.{Live}
use Rattle.lwkt_plain.specs.Tokens.{stepped, miss_of, gave, give}

-- tokens and list after an ask, and what comes next
pub record Asked : Type 0 where
  pub tokens : List Token
  pub refs : List Ref
  pub next : Next

abbrev pub asked : List Token → List Ref → Next → Asked
asked tokens refs next = record { tokens = tokens; refs = refs; next = next }

-- an ask that is refused changes nothing
abbrev pub refused : List Token → List Ref → Fault → Asked
refused tokens refs fault = asked tokens refs (Runs (Refused fault))

abbrev pub unless : List Token → List Ref → Option Fault → Asked → Asked
unless tokens refs None done = done
unless tokens refs (Some fault) done = refused tokens refs fault

-- whether an exclusive reference would stand behind a shared first one (own)
abbrev pub is_upgrade : Mode → Option Mode → Bool
is_upgrade Exclusive (Some Shared) = true
is_upgrade _ _ = false

-- why a reference isn't asked for: no such token, a full list, an exclusive one behind a shared one (own)
abbrev pub get_refusal : List Token → List Ref → Ref → Option Fault
get_refusal tokens refs r =
    if nat_le (length tokens) r.tok.0 then Some NoToken
    else (if length refs == LIST_LIMIT then Some ListFull
    else (if is_upgrade r.mode (first_mode refs r.tok.0) then Some Upgrade else None))

-- the reference is last on the list, and held
abbrev pub had : CpuId → List Token → List Ref → Ref → Asked
had cpu tokens refs r = asked (stepped tokens (taking_event cpu refs r)) (refs ++ r ∷ []) (Runs Done)

-- an exclusive request that is refused marks its token (lwkt_token.c)
abbrev pub marked_for : Mode → CpuId → TokId → List Token → List Token
marked_for Exclusive cpu tok tokens = stepped tokens (Mark cpu tok)
marked_for Shared cpu tok tokens = tokens

-- a request that a word refuses stays on the list; its thread gives up what it holds, and goes on when it has the whole list (token(9));
-- at the last generation it is refused (own)
abbrev pub must_switch : CpuId → List Token → List Ref → Ref → Miss → Asked
must_switch cpu tokens refs r (Busy word) = asked (marked_for r.mode cpu r.tok tokens) (refs ++ r ∷ []) (Leaves (length refs) Live)
must_switch cpu tokens refs r Worn = refused tokens refs WornOut

-- lwkt_gettoken, lwkt_gettoken_shared (token(9))
abbrev pub get : CpuId → List Token → List Ref → Ref → Asked
get cpu tokens refs r = unless tokens refs (get_refusal tokens refs r) (option_map_or (must_switch cpu tokens refs r) (miss_of tokens (refs ++ r ∷ []) refs r) (had cpu tokens refs r))

-- a try that is missed changes nothing
abbrev pub try_missed : List Token → List Ref → Miss → Asked
try_missed tokens refs (Busy word) = refused tokens refs TokenBusy
try_missed tokens refs Worn = refused tokens refs WornOut

-- lwkt_trytoken (token(9))
abbrev pub try_get : CpuId → List Token → List Ref → Ref → Asked
try_get cpu tokens refs r = unless tokens refs (get_refusal tokens refs r) (option_map_or (try_missed tokens refs) (miss_of tokens (refs ++ r ∷ []) refs r) (had cpu tokens refs r))

-- the token of a list's reference, and the number of the last reference
abbrev pub tok_at : List Ref → ℕ → Option ℕ
tok_at refs i = option_map (λ r. r.tok.0) (slice_get refs i)

abbrev pub are_same : Option ℕ → Option ℕ → Bool
are_same one other = option_eq (λ (a b : ℕ). a == b) one other

-- the last reference of a list, and those in front of it
abbrev pub last_of : List Ref → Option Ref
last_of refs = slice_get refs (length refs - 1)

abbrev pub front_of : List Ref → List Ref
front_of refs = take (length refs - 1) refs

-- the last reference is given back; if it ended a section that had broken its law, that is told (token(9); own)
abbrev pub released : CpuId → List Token → List Ref → Ref → Asked
released cpu tokens front r =
    let g = give cpu (gave tokens false) r in
    asked g.tokens front (Runs (if g.broken then Refused Broken else Done))

-- lwkt_reltoken (token(9))
abbrev pub rel : CpuId → List Token → List Ref → TokId → Asked
rel cpu tokens refs tok =
    if not (names refs tok.0) then refused tokens refs NotHeld
    else option_map_or (λ r. if r.tok.0 == tok.0 then released cpu tokens (front_of refs) r else refused tokens refs NotLast) (last_of refs) (refused tokens refs NotLast)

-- the two last references change places (token(9); refusals own)
abbrev pub exchanged : List Ref → List Ref
exchanged refs = take (length refs - 2) refs ++ reverse (drop (length refs - 2) refs)

abbrev pub swapped : List Token → List Ref → Asked
swapped tokens refs =
    if nat_lt (length refs) 2 then refused tokens refs SwapShort
    else (if are_same (tok_at refs (length refs - 1)) (tok_at refs (length refs - 2)) then refused tokens refs SwapSame
    else asked tokens (exchanged refs) (Runs Done))

-- the fault of a token that isn't on the list, or of one that is there shared first; for an exclusive one what comes next (own)
abbrev pub unless_exclusive : Option Mode → Fault → Option Fault → Option Fault
unless_exclusive None shared next = Some NotHeld
unless_exclusive (Some Shared) shared next = Some shared
unless_exclusive (Some Exclusive) shared next = next

-- whether a token's law is Tally
abbrev pub is_tally : Law → Bool
is_tally Tally = true
is_tally _ = false

abbrev pub has_tally : List Token → TokId → Bool
has_tally tokens tok = option_map_or (λ t. is_tally t.law) (slice_get tokens tok.0) false

-- the value of a cell
abbrev pub value_of : List Token → TokId → ℕ → Option ℕ
value_of tokens tok cell = cell_at (machine 0 tokens []) tok.0 cell

-- the first refusal of use of a cell that there isn't: no such token, no such cell (own)
abbrev pub unless_cell : List Token → TokId → ℕ → Option Fault → Option Fault
unless_cell tokens tok cell next =
    if nat_le (length tokens) tok.0 then Some NoToken
    else (if is_some (value_of tokens tok cell) then next else Some NoCell)

-- a cell is read (own)
abbrev pub read : List Token → List Ref → TokId → ℕ → Asked
read tokens refs tok cell =
    unless tokens refs (unless_cell tokens tok cell (if names refs tok.0 then None else Some NotHeld))
    (asked tokens refs (Runs (Value (unwrap_or (value_of tokens tok cell) 0))))

-- a cell is written (own)
abbrev pub write : CpuId → List Token → List Ref → TokId → ℕ → ℕ → Asked
write cpu tokens refs tok cell value =
    unless tokens refs (unless_cell tokens tok cell (unless_exclusive (first_mode refs tok.0) SharedWrite (if has_tally tokens tok then Some TallyOnly else None)))
    (asked (stepped tokens (Write cpu tok cell value)) refs (Runs Done))

-- a sum within 64 bits is this one; and none is one past them
abbrev pub IsSumOf : Option ℕ → ℕ → Type 0
IsSumOf (Some sum) n = (sum ≡ n) × (n < 2 ^ 64)
IsSumOf None n = 2 ^ 64 ≤ n

-- why nothing is added, where this is the sum: no such token, not held, held shared, no Tally token, past 64 bits (own)
abbrev pub add_refusal : List Token → List Ref → TokId → ℕ → Option Fault
add_refusal tokens refs tok sum =
    if nat_le (length tokens) tok.0 then Some NoToken
    else unless_exclusive (first_mode refs tok.0) SharedWrite
    (if not (has_tally tokens tok) then Some TallyOnly
    else (if nat_le (2 ^ 64) sum then Some Overflow else None))

-- the one cell of a Tally token is added to (own)
abbrev pub add : CpuId → List Token → List Ref → TokId → ℕ → Asked
add cpu tokens refs tok more =
    let sum = unwrap_or (value_of tokens tok 0) 0 + more in
    unless tokens refs (add_refusal tokens refs tok sum) (asked (stepped tokens (Write cpu tok 0 sum)) refs (Runs Done))

-- the record of a token, if it has one
abbrev pub record_of : List Token → TokId → Option (List ℕ)
record_of tokens tok = option_and_then (λ t. t.blob) (slice_get tokens tok.0)

-- why a record isn't used: no such token, no record, not held, held shared; for an exclusive holder what comes next (own)
abbrev pub record_refusal : List Token → List Ref → TokId → Option Fault → Option Fault
record_refusal tokens refs tok next =
    if nat_le (length tokens) tok.0 then Some NoToken
    else (if not (is_some (record_of tokens tok)) then Some NoCell
    else unless_exclusive (first_mode refs tok.0) SharedRecord next)

-- a record is read (own)
abbrev pub read_blob : List Token → List Ref → TokId → Asked
read_blob tokens refs tok = unless tokens refs (record_refusal tokens refs tok None) (asked tokens refs (Runs (Bytes (unwrap_or (record_of tokens tok) []))))

-- a record is written (own)
abbrev pub write_blob : CpuId → List Token → List Ref → TokId → List ℕ → Asked
write_blob cpu tokens refs tok bytes =
    unless tokens refs (record_refusal tokens refs tok (if nat_lt RECORD_LIMIT (length bytes) then Some RecordLong else None))
    (asked (stepped tokens (WriteBlob cpu tok bytes)) refs (Runs Done))
